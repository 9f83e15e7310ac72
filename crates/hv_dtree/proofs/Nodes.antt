-- The nodes of a tree.
use Rattle.std.proofs.Common.{◌≡◌, ℕ, List, [], ◌∷◌, ◌++◌, refl, sym, ap, subst, length, get_or, ◌<◌, suc, zero, ◌≢◌, arith, ◌∙◌}
use Rattle.std.specs.Prelude.{map, All, Option, codes}
use Rattle.std.specs.List.{flat_map, AllPairs, cons_option}
use Rattle.hv_dtree.specs.Nodes.{nodes_of, node_and_all, name_of, props_of, children_of, value_among, phandles_of, IsPhandle, HasGoodNames, IsRoot}
use Rattle.hv_dtree.specs.Names.{IsPropName, IsNodeName}
use Rattle.hv_dtree.specs.declared.node.Node.{Node}
use Rattle.hv_dtree.specs.declared.node.Node.TheOpen.{Node-F}
use Rattle.hv_dtree.specs.declared.node.Node.TheViews.{roll-Node, out-roll-Node}
use Rattle.hv_dtree.specs.declared.node.Node.TheFolds.{fold-Node, fold-roll-Node, fold_out-Node, ind-Node}

abbrev both : Node → Node × List Node
both = fold-Node (Node × List Node) node_and_all

abbrev IsSelf : Node → Type 0
IsSelf node = (both node).0 ≡ node

abbrev with_children : Node-F Node → List Node → Node
with_children x nodes = roll-Node (record { name = x.name; props = x.props; children = nodes })

firsts : (nodes : List ((n : Node) × IsSelf n)) → map (λ below. below.0) (map both (map (λ e. e.0) nodes)) ≡ map (λ e. e.0) nodes
firsts [] = refl
firsts (e ∷ nodes) = λ i. e.1 i ∷ firsts nodes i

pub self_is : (node : Node) → (both node).0 ≡ node
self_is = ind-Node IsSelf (λ x y is.
    let below = subst (λ z. map (λ below. below.0) (map both z.children) ≡ z.children) is (firsts y.children) in
    ap (λ b. b.0) (fold-roll-Node (Node × List Node) node_and_all x) ∙ ap (with_children x) below)

lists : (nodes : List Node) → flat_map (λ below. below.1) (map both nodes) ≡ flat_map nodes_of nodes
unfolding nodes_of
lists [] = refl
lists (n ∷ nodes) = ap (λ (t : List Node). (both n).1 ++ t) (lists nodes)

-- a node stands before those below it
pub nodes_out : (node : Node) → nodes_of node ≡ node ∷ flat_map nodes_of (children_of node)
unfolding nodes_of
nodes_out node =
    let here = fold_out-Node (Node × List Node) node_and_all node in
    ap (λ b. b.1) here ∙ (λ i. (sym (ap (λ b. b.0) here) ∙ self_is node) i ∷ lists (children_of node) i)

nothing_in : {X : Type 0} (P : X → Type 0) (xs : List X) → xs ≡ [] → All P xs
nothing_in P xs none = λ k d lt. let empty : length xs ≡ 0 = ap length none in absurd (omega (arith, lt, empty))

no_pairs_in : {X : Type 0} (R : X → X → Type 0) (xs : List X) → xs ≡ [] → AllPairs R xs
no_pairs_in R xs none = λ i j d lt within. let empty : length xs ≡ 0 = ap length none in absurd (omega (arith, within, empty))

one_in : {X : Type 0} (P : X → Type 0) (x : X) → P x → (k : ℕ) (d : X) → k < 1 → P (get_or (x ∷ []) k d)
one_in P x holds zero d lt = holds
one_in P x holds (suc k) d lt = absurd (omega arith)

-- a root with nothing in it keeps the rules
pub bare_root : (x : Node-F Node) → x.name ≡ [] → x.props ≡ [] → x.children ≡ [] → IsRoot (roll-Node x)
bare_root x unnamed no_props no_children =
    let root = roll-Node x in
    let below : children_of root ≡ [] = ap (λ y. y.children) (out-roll-Node x) ∙ no_children in
    let props : props_of root ≡ [] = ap (λ y. y.props) (out-roll-Node x) ∙ no_props in
    let alone : nodes_of root ≡ root ∷ [] = nodes_out root ∙ ap (λ (ns : List Node). root ∷ flat_map nodes_of ns) below in
    let good : HasGoodNames root = record {
      props = nothing_in (λ prop. IsPropName prop.name) (props_of root) props;
      props_apart = no_pairs_in (λ one other. one.name ≢ other.name) (props_of root) props;
      children = nothing_in (λ child. IsNodeName (name_of child)) (children_of root) below;
      children_apart = no_pairs_in (λ one other. name_of one ≢ name_of other) (children_of root) below;
    } in
    let none : phandles_of (nodes_of root) ≡ [] = ap phandles_of alone ∙ ap (λ (o : Option (List ℕ)). cons_option o []) (ap (value_among (codes "phandle")) props) in
    record {
      unnamed = ap (λ y. y.name) (out-roll-Node x) ∙ unnamed;
      names = subst (All HasGoodNames) (sym alone) (one_in HasGoodNames root good);
      phandles = nothing_in IsPhandle (phandles_of (nodes_of root)) none;
      phandles_apart = no_pairs_in (λ one other. one ≢ other) (phandles_of (nodes_of root)) none;
    }
