-- The names of members over the entries of a source.
use Rattle.std.proofs.Common.{◌≡◌, ℕ, ◌+◌, ◌<◌, ◌≤◌, List, [], ◌∷◌, ◌++◌, length, drop, get_or, refl, sym, ap, ◌∙◌}
use Rattle.std.specs.Prelude.{Option, Some, None}
use Rattle.std.proofs.lemmas.List.{drop_more, drop_all}
use Rattle.hv_dtgram.specs.Contents.{PropSyntax, NodesSyntax, none, node, SourceSyntax, entries_of, props_entries, nodes_entries}
use Rattle.hv_dts.specs.Rules.{has_name, lesser, least, place_if, props_repeated, nodes_repeated}
use Rattle.hv_dts.specs.Siblings.{Siblings, no_siblings, next_siblings, Follows}
use Rattle.hv_dtgram.specs.declared.contents.Entry.{Entry}
use Rattle.hv_dtgram.specs.declared.contents.Entry.TheVariants as entry
use Rattle.hv_dts.specs.declared.members.Members.{Members}
use Rattle.hv_dts.proofs.Twice.{lesser_none, least_more}

-- behind entries
abbrev pub after_all : Siblings → List Entry → Siblings
after_all it [] = it
after_all it (one ∷ entries) = after_all (next_siblings it one) entries

abbrev of : Option ℕ → List (List ℕ) → List (List ℕ) → List (List (List ℕ)) → Siblings
of best props children around = record { best = best; props = props; children = children; around = around }

abbrev pub props_after : List (List ℕ) → List PropSyntax → List (List ℕ)
props_after earlier [] = earlier
props_after earlier (prop ∷ props) = props_after (prop.name.name ∷ earlier) props

abbrev pub nodes_after : List (List ℕ) → NodesSyntax → List (List ℕ)
nodes_after earlier none = earlier
nodes_after earlier (node labels name props children rest) = nodes_after (name.name ∷ earlier) rest

props_on : (props : List PropSyntax) (tail : List Entry) (best : Option ℕ) (earlier children : List (List ℕ)) (around : List (List (List ℕ)))
    → after_all (of best earlier children around) (props_entries props tail) ≡ after_all (of (lesser best (least (props_repeated earlier props))) (props_after earlier props) children around) tail
props_on [] tail best earlier children around = ap (λ (b : Option ℕ). after_all (of b earlier children around) tail) (sym (lesser_none best))
props_on (prop ∷ props) tail best earlier children around =
    props_on props tail (lesser best (least (place_if (has_name earlier prop.name.name) prop.name.place))) (prop.name.name ∷ earlier) children around
    ∙ ap (λ (b : Option ℕ). after_all (of b (props_after (prop.name.name ∷ earlier) props) children around) tail)
    (least_more best (place_if (has_name earlier prop.name.name) prop.name.place) (props_repeated (prop.name.name ∷ earlier) props))

four : (best : Option ℕ) (a b c d : List ℕ) → lesser (lesser (lesser (lesser best (least a)) (least b)) (least c)) (least d) ≡ lesser best (least (a ++ (b ++ (c ++ d))))
four best a b c d =
    least_more (lesser (lesser best (least a)) (least b)) c d ∙ least_more (lesser best (least a)) b (c ++ d) ∙ least_more best a (b ++ (c ++ d))

-- properties of a node that ended are forgotten
pub record Passes (nodes : NodesSyntax) (tail : List Entry) (best : Option ℕ) (props earlier : List (List ℕ)) (around : List (List (List ℕ))) : Type 0 where
  pub left : List (List ℕ)
  pub same : after_all (of best props earlier around) (nodes_entries nodes tail) ≡ after_all (of (lesser best (least (nodes_repeated earlier nodes))) left (nodes_after earlier nodes) around) tail

nodes_on : (nodes : NodesSyntax) (tail : List Entry) (best : Option ℕ) (props earlier : List (List ℕ)) (around : List (List (List ℕ))) → Passes nodes tail best props earlier around
nodes_on none tail best props earlier around =
    record { left = props; same = ap (λ (b : Option ℕ). after_all (of b props earlier around) tail) (sym (lesser_none best)) }
nodes_on (node labels name ps children rest) tail best props earlier around =
    let here = place_if (has_name earlier name.name) name.place in
    let within = props_repeated [] ps in
    let below = nodes_repeated [] children in
    let behind = nodes_repeated (name.name ∷ earlier) rest in
    let one = lesser best (least here) in
    let two = lesser one (least within) in
    let three = lesser two (least below) in
    let outer = (name.name ∷ earlier) ∷ around in
    let after = entry.Close ∷ nodes_entries rest tail in
    let inner = nodes_on children after two (props_after [] ps) [] outer in
    let others = nodes_on rest tail three inner.left (name.name ∷ earlier) around in
    record {
      left = others.left;
      same = props_on ps (nodes_entries children after) one [] [] outer ∙ inner.same ∙ others.same
          ∙ ap (λ (b : Option ℕ). after_all (of b others.left (nodes_after (name.name ∷ earlier) rest) around) tail) (four best here within below behind);
    }

pub members_of : (source : SourceSyntax) → (after_all no_siblings (entries_of source)).best ≡ least (props_repeated [] source.props ++ nodes_repeated [] source.nodes)
members_of source =
    let within = props_repeated [] source.props in
    let first = props_on source.props (nodes_entries source.nodes []) None [] [] [] in
    let second = nodes_on source.nodes [] (least within) (props_after [] source.props) [] [] in
    ap (λ (it : Siblings). it.best) (first ∙ second.same) ∙ least_more None within (nodes_repeated [] source.nodes)

abbrev ends : {X : Type 0} → List X → Option X
ends [] = None
ends (x ∷ []) = Some x
ends (x ∷ y ∷ xs) = ends (y ∷ xs)

abbrev front : {X : Type 0} → List X → List X
front [] = []
front (x ∷ []) = []
front (x ∷ y ∷ xs) = x ∷ front (y ∷ xs)

front_of : {X : Type 0} (xs : List X) (last : X) → front (xs ++ last ∷ []) ≡ xs
front_of [] last = refl
front_of (x ∷ []) last = refl
front_of (x ∷ y ∷ xs) last = λ i. x ∷ front_of (y ∷ xs) last i

end_of : {X : Type 0} (xs : List X) (last : X) → ends (xs ++ last ∷ []) ≡ Some last
end_of [] last = refl
end_of (x ∷ []) last = refl
end_of (x ∷ y ∷ xs) last = end_of (y ∷ xs) last

some_same : {X : Type 0} (x y : X) → Some x ≡ Some y → x ≡ y
some_same x y e = cc e

-- two lists that are one have one end
pub same_ends : {X : Type 0} (xs ys : List X) (x y : X) → xs ++ x ∷ [] ≡ ys ++ y ∷ [] → (xs ≡ ys) × (x ≡ y)
same_ends xs ys x y e =
    (sym (front_of xs x) ∙ ap front e ∙ front_of ys y, some_same x y (sym (end_of xs x) ∙ ap ends e ∙ end_of ys y))

pub not_empty : {X : Type 0} (xs : List X) (x : X) → xs ++ x ∷ [] ≡ [] → ⊥
not_empty [] x e = cc e
not_empty (y ∷ xs) x e = cc e

-- the entries that are left lead to the same
pub record Following (members : Members) (left entries : List Entry) : Type 0 where
  pub names : Siblings
  pub follows : Follows members names
  pub same : after_all names left ≡ after_all no_siblings entries

pub following_more : (old new : Members) (entries : List Entry) (i : ℕ) (one : Entry) → i < length entries → one ≡ get_or entries i one → ((names : Siblings) → Follows old names → Follows new (next_siblings names one))
    → Following old (drop i entries) entries → Following new (drop (i + 1) entries) entries
following_more old new entries i one lt is step it =
    let rest = drop (i + 1) entries in
    let here : drop i entries ≡ one ∷ rest = drop_more entries i one lt ∙ ap (λ (e : Entry). e ∷ rest) (sym is) in
    record { names = next_siblings it.names one; follows = step it.names it.follows; same = ap (after_all it.names) (sym here) ∙ it.same }

pub following_all : (members : Members) (entries : List Entry) (i : ℕ) (source : SourceSyntax) → length entries ≤ i → Following members (drop i entries) entries → entries ≡ entries_of source
    → members.best ≡ least (props_repeated [] source.props ++ nodes_repeated [] source.nodes)
following_all members entries i source over it are =
    it.follows.best ∙ ap (λ (s : Siblings). s.best) (ap (after_all it.names) (sym (drop_all i entries over)) ∙ it.same ∙ ap (after_all no_siblings) are) ∙ members_of source
