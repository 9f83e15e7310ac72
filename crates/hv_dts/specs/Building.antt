-- A tree that is built entry by entry.
use Rattle.std.specs.Prelude.{◌≡◌, ℕ, List, [], ◌∷◌, ◌++◌, Option, None}
use Rattle.hv_dtree.specs.declared.node.Node.{Node}
use Rattle.hv_dtree.specs.declared.node.Node.TheViews.{roll-Node}
use Rattle.hv_dts.specs.Bytes.{Links, values_bytes}
use Rattle.hv_dts.specs.Resolved.{number_prop, given_first, given_next}
use Rattle.hv_dtgram.specs.declared.contents.Entry.{Entry}
use Rattle.hv_dtgram.specs.declared.contents.Entry.TheVariants as entry
use Rattle.hv_dts.specs.declared.build.Frame.{Frame}
use Rattle.hv_dts.specs.declared.build.Building.{Building}

-- the node in hand, those around it, the innermost first, and what the nodes that are left were given
pub record Built : Type 0 where
  pub hand : Frame
  pub around : List Frame
  pub given : List (Option ℕ)

-- the tree of a node that is ended
abbrev pub frame_tree : Frame → Node
frame_tree frame = roll-Node (record { name = frame.name; props = frame.props ++ number_prop frame.given; children = frame.children })

-- a root with nothing in it
abbrev pub nothing_built : List (Option ℕ) → Built
nothing_built given = record { hand = record { name = []; props = []; children = []; given = None }; around = []; given = given }

-- the node in hand is ended, and stands last in the one around it
abbrev pub ended : Built → List Frame → Built
ended it [] = it
ended it (outer ∷ around) = record { hand = record outer { children = outer.children ++ frame_tree it.hand ∷ [] }; around = around; given = it.given }

-- behind an entry
abbrev pub next_built : Links → Built → Entry → Built
next_built links it (entry.Property labels name values) =
    let hand = it.hand in
    record it { hand = record hand { props = hand.props ++ record { name = name.name; value = values_bytes links values } ∷ [] } }
next_built links it (entry.Open labels name) = record {
  hand = record { name = name.name; props = []; children = []; given = given_first it.given };
  around = it.hand ∷ it.around;
  given = given_next it.given;
}
next_built links it entry.Close = ended it it.around

-- frames, the innermost last, are these
abbrev pub Stacked : List Frame → List Frame → Type 0
Stacked frames [] = frames ≡ []
Stacked frames (frame ∷ around) = (below : List Frame) × (frames ≡ below ++ frame ∷ []) × Stacked below around

pub record Builds (building : Building) (it : Built) : Type 0 where
  pub hand : building.hand ≡ it.hand
  pub around : Stacked building.around it.around
  pub given : building.given.now ≡ it.given
