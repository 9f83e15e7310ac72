-- The names of properties and children that stand before an entry in its node.
use Rattle.std.specs.Prelude.{◌≡◌, ℕ, List, [], ◌∷◌, ◌++◌, Option, None}
use Rattle.hv_dts.specs.Rules.{has_name, lesser, least, place_if}
use Rattle.hv_dts.specs.Sets.{HasNames}
use Rattle.hv_dtgram.specs.declared.contents.Entry.{Entry}
use Rattle.hv_dtgram.specs.declared.contents.Entry.TheVariants as entry
use Rattle.hv_dts.specs.declared.members.Members.{Members}
use Rattle.hv_dts.specs.declared.sibling_names.SiblingNames.{SiblingNames}

-- the least place of a name that stood twice, and the names of properties, of children, and of the children of the nodes around, the innermost first
pub record Siblings : Type 0 where
  pub best : Option ℕ
  pub props : List (List ℕ)
  pub children : List (List ℕ)
  pub around : List (List (List ℕ))

abbrev pub no_siblings : Siblings
no_siblings = record { best = None; props = []; children = []; around = [] }

-- a node ends
abbrev pub outside : Siblings → List (List (List ℕ)) → Siblings
outside it [] = it
outside it (outer ∷ around) = record it { children = outer; around = around }

-- behind an entry
abbrev pub next_siblings : Siblings → Entry → Siblings
next_siblings it (entry.Property labels name values) =
    record it { best = lesser it.best (least (place_if (has_name it.props name.name) name.place)); props = name.name ∷ it.props }
next_siblings it (entry.Open labels name) = record {
  best = lesser it.best (least (place_if (has_name it.children name.name) name.place));
  props = [];
  children = [];
  around = (name.name ∷ it.children) ∷ it.around;
}
next_siblings it entry.Close = outside it it.around

-- these, the innermost last, have these names
abbrev pub AllHold : List SiblingNames → List (List (List ℕ)) → Type 0
AllHold sets [] = sets ≡ []
AllHold sets (names ∷ around) =
    (below : List SiblingNames) × (top : SiblingNames) × (sets ≡ below ++ top ∷ []) × HasNames top names × AllHold below around

-- the members have these names
pub record Follows (members : Members) (names : Siblings) : Type 0 where
  pub best : members.best ≡ names.best
  pub props : HasNames members.props names.props
  pub children : HasNames members.children names.children
  pub around : AllHold members.around.items names.around
