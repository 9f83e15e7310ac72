-- The tree that is built from the entries of a source.
use Rattle.std.proofs.Common.{◌≡◌, ℕ, List, [], ◌∷◌, ◌++◌, refl, sym, ap, subst, ◌∙◌, append_assoc, Ok, Err}
use Rattle.std.specs.Prelude.{Option, map, reverse, Result, IfOk}
use Rattle.std.proofs.lemmas.List.{append-nil, reverse-append, reverse-reverse}
use Rattle.hv_dtree.specs.declared.node.Prop.{Prop}
use Rattle.hv_dtree.specs.declared.node.Node.{Node}
use Rattle.hv_dtree.specs.declared.node.Node.TheViews.{roll-Node}
use Rattle.hv_dtgram.specs.Contents.{PropSyntax, NodesSyntax, none, node, SourceSyntax, entries_of, props_entries, nodes_entries}
use Rattle.hv_dts.specs.Bytes.{Links}
use Rattle.hv_dts.specs.Resolved.{prop_tree, number_prop, given_first, given_next, given_behind, nodes_trees, root_tree}
use Rattle.hv_dts.specs.Building.{Built, frame_tree, nothing_built, ended, next_built, Stacked, Builds}
use Rattle.hv_dtgram.specs.declared.contents.Entry.{Entry}
use Rattle.hv_dtgram.specs.declared.contents.Entry.TheVariants as entry
use Rattle.hv_dts.specs.declared.build.Frame.{Frame}
use Rattle.hv_dts.specs.declared.build.Building.{Building}
use Rattle.hv_dts.proofs.Nesting.{same_ends, not_empty}

abbrev pub built_all : Links → Built → List Entry → Built
built_all links it [] = it
built_all links it (one ∷ entries) = built_all links (next_built links it one) entries

-- the node in hand, with more properties or children
abbrev with_props : Built → List Prop → Built
with_props it props = let hand = it.hand in record it { hand = record hand { props = props } }

abbrev with_children : Built → List Node → List (Option ℕ) → Built
with_children it children given = let hand = it.hand in record { hand = record hand { children = children }; around = it.around; given = given }

props_on : (links : Links) (props : List PropSyntax) (tail : List Entry) (it : Built) (before : List Prop)
    → built_all links (with_props it before) (props_entries props tail) ≡ built_all links (with_props it (before ++ map (prop_tree links) props)) tail
props_on links [] tail it before = ap (λ (ps : List Prop). built_all links (with_props it ps) tail) (sym (append-nil before))
props_on links (prop ∷ props) tail it before =
    props_on links props tail it (before ++ prop_tree links prop ∷ [])
    ∙ ap (λ (ps : List Prop). built_all links (with_props it ps) tail) (append_assoc before (prop_tree links prop ∷ []) (map (prop_tree links) props))

nodes_on : (links : Links) (nodes : NodesSyntax) (tail : List Entry) (it : Built) (before : List Node) (given : List (Option ℕ))
    → built_all links (with_children it before given) (nodes_entries nodes tail) ≡ built_all links (with_children it (before ++ nodes_trees links nodes given) (given_behind nodes given)) tail
nodes_on links none tail it before given = ap (λ (ns : List Node). built_all links (with_children it ns given) tail) (sym (append-nil before))
nodes_on links (node labels name props children rest) tail it before given =
    let after = entry.Close ∷ nodes_entries rest tail in
    let outer = with_children it before given in
    let inner : Built = record { hand = record { name = name.name; props = []; children = []; given = given_first given }; around = outer.hand ∷ it.around; given = given_next given } in
    let full = with_props inner (map (prop_tree links) props) in
    let below = given_behind children (given_next given) in
    let tree : Node = roll-Node (record { name = name.name; props = map (prop_tree links) props ++ number_prop (given_first given); children = nodes_trees links children (given_next given) }) in
    props_on links props (nodes_entries children after) inner []
    ∙ nodes_on links children after full [] (given_next given)
    ∙ nodes_on links rest tail it (before ++ tree ∷ []) below
    ∙ ap (λ (ns : List Node). built_all links (with_children it ns (given_behind rest below)) tail) (append_assoc before (tree ∷ []) (nodes_trees links rest below))

pub source_on : (links : Links) (source : SourceSyntax) (given : List (Option ℕ)) → frame_tree (built_all links (nothing_built given) (entries_of source)).hand ≡ root_tree links source given
source_on links source given =
    let start = nothing_built given in
    let full = with_props start (map (prop_tree links) source.props) in
    ap (λ (it : Built). frame_tree it.hand) (props_on links source.props (nodes_entries source.nodes []) start [] ∙ nodes_on links source.nodes [] full [] given)
    ∙ ap (λ (ps : List Prop). roll-Node (record { name = []; props = ps; children = nodes_trees links source.nodes given })) (append-nil (map (prop_tree links) source.props))

-- the entries that are left build the same
pub record Continues (links : Links) (building : Building) (left entries : List Entry) (given : List (Option ℕ)) : Type 0 where
  pub built : Built
  pub builds : Builds building built
  pub same : built_all links built left ≡ built_all links (nothing_built given) entries

pub continues_start : (links : Links) (building : Building) (left entries : List Entry) (given : List (Option ℕ)) → left ≡ reverse entries → Builds building (nothing_built given) → Continues links building (reverse left) entries given
continues_start links building left entries given turned builds =
    record { built = nothing_built given; builds = builds; same = ap (built_all links (nothing_built given)) (ap reverse turned ∙ reverse-reverse entries) }

pub continues_more : (links : Links) (old new : Building) (left rest entries : List Entry) (given : List (Option ℕ)) (one : Entry) → left ≡ rest ++ one ∷ []
    → ((it : Built) → Builds old it → Builds new (next_built links it one)) → Continues links old (reverse left) entries given → Continues links new (reverse rest) entries given
continues_more links old new left rest entries given one is step it =
    let here : reverse left ≡ one ∷ reverse rest = ap reverse is ∙ reverse-append rest (one ∷ []) in
    record { built = next_built links it.built one; builds = step it.built it.builds; same = ap (built_all links it.built) (sym here) ∙ it.same }

pub continues_all : (links : Links) (building : Building) (left entries : List Entry) (given : List (Option ℕ)) (source : SourceSyntax) → left ≡ [] → Continues links building (reverse left) entries given → entries ≡ entries_of source
    → frame_tree building.hand ≡ root_tree links source given
continues_all links building left entries given source over it are =
    ap frame_tree it.builds.hand
    ∙ ap (λ (b : Built). frame_tree b.hand) (ap (built_all links it.built) (sym (ap reverse over)) ∙ it.same ∙ ap (built_all links (nothing_built given)) are)
    ∙ source_on links source given

pub if_ok : {T E : Type 0} (result : Result T E) (P Q : T → Type 0) → ((t : T) → P t → Q t) → IfOk result P → IfOk result Q
if_ok (Ok t) P Q f p = f t p
if_ok (Err e) P Q f p = tt

closed : (old new : Building) (it : Built) (around : List Frame) (outer : Frame) (tree : Node) → it.around ≡ around → Builds old it → old.around ≡ new.around ++ outer ∷ [] → tree ≡ frame_tree old.hand
    → new.hand ≡ record outer { children = outer.children ++ tree ∷ [] } → new.given.now ≡ old.given.now → Builds new (ended it around)
closed old new it [] outer tree is builds taken ended_as hand given =
    absurd (not_empty new.around outer (sym taken ∙ subst (Stacked old.around) is builds.around))
closed old new it (frame ∷ around) outer tree is builds taken ended_as hand given =
    let stack = subst (Stacked old.around) is builds.around in
    let both = same_ends stack.0 new.around frame outer (sym stack.1 ∙ taken) in
    record {
      hand = hand ∙ ap (λ (t : Node). record outer { children = outer.children ++ t ∷ [] }) (ended_as ∙ ap frame_tree builds.hand)
          ∙ ap (λ (f : Frame). record f { children = f.children ++ frame_tree it.hand ∷ [] }) (sym both.1);
      around = subst (λ (fs : List Frame). Stacked fs around) both.0 stack.2;
      given = given ∙ builds.given;
    }

-- the node in hand is ended
pub closes : (links : Links) (old new : Building) (it : Built) (one : Entry) (outer : Frame) (tree : Node) → one ≡ entry.Close → Builds old it → old.around ≡ new.around ++ outer ∷ [] → tree ≡ frame_tree old.hand
    → new.hand ≡ record outer { children = outer.children ++ tree ∷ [] } → new.given.now ≡ old.given.now → Builds new (next_built links it one)
closes links old new it one outer tree is builds taken ended_as hand given =
    subst (λ (e : Entry). Builds new (next_built links it e)) (sym is) (closed old new it it.around outer tree refl builds taken ended_as hand given)
