-- What was printed had bytes for values.
use Rattle.std.proofs.Common.{◌≡◌, List, [], ◌∷◌, ◌++◌, sym, ap, subst, ◌∙◌, Bor}
use Rattle.std.specs.List.{AllByRecursion, flat_map}
use Rattle.hv_dtree.specs.Nodes.{children_of, nodes_of}
use Rattle.hv_dtree.specs.declared.node.Node.{Node}
use Rattle.hv_dtree.proofs.Nodes.{nodes_out}
use Rattle.hv_dtprint.specs.Values.{HasBytes}

-- each of two lists that are joined
pub each_join : {X : Type 0} (P : X → Type 0) (xs ys : List X) → AllByRecursion P xs → AllByRecursion P ys → AllByRecursion P (xs ++ ys)
each_join P [] ys one two = two
each_join P (x ∷ xs) ys one two = (one.0, each_join P xs ys one.1 two)

pub each_parts : {X : Type 0} (P : X → Type 0) (xs ys : List X) → AllByRecursion P (xs ++ ys) → AllByRecursion P xs × AllByRecursion P ys
each_parts P [] ys all = (tt, all)
each_parts P (x ∷ xs) ys all = let below = each_parts P xs ys all.1 in ((all.0, below.0), below.1)

-- the values of nodes with all below them are bytes
abbrev pub HaveBytes : Bor (List Node) → Type 0
HaveBytes nodes = AllByRecursion HasBytes (flat_map nodes_of nodes.now)

-- where this holds of what is still to be printed, it holds of the tree
abbrev pub IsKept : List (Bor (List Node)) → Node → Type 0
IsKept stack root = AllByRecursion HaveBytes stack → AllByRecursion HasBytes (nodes_of root)

node_kept : (node : Node) (nodes : List Node) → nodes ≡ children_of node → HasBytes node → AllByRecursion HasBytes (flat_map nodes_of nodes) → AllByRecursion HasBytes (nodes_of node)
node_kept node nodes is here below = subst (AllByRecursion HasBytes) (ap (λ (ns : List Node). node ∷ flat_map nodes_of ns) is ∙ sym (nodes_out node)) (here, below)

pub kept_root : (root : Node) (stack : List (Bor (List Node))) (children : Bor (List Node)) → stack ≡ children ∷ [] → children.now ≡ children_of root → HasBytes root → IsKept stack root
kept_root root stack children one is here all =
    node_kept root children.now is here (subst (AllByRecursion HaveBytes) one all).0

pub kept_foot : (root : Node) (before stack : List (Bor (List Node))) (nodes : Bor (List Node)) → IsKept before root → before ≡ stack ++ nodes ∷ [] → nodes.now ≡ [] → IsKept stack root
kept_foot root before stack nodes so was none all =
    let empty : HaveBytes nodes = subst (λ (ns : List Node). AllByRecursion HasBytes (flat_map nodes_of ns)) (sym none) tt in
    so (subst (AllByRecursion HaveBytes) (sym was) (each_join HaveBytes stack (nodes ∷ []) all (empty, tt)))

pub kept_head : (root : Node) (before stack after : List (Bor (List Node))) (nodes rest below : Bor (List Node)) (node : Node) → IsKept before root → before ≡ stack ++ nodes ∷ [] → nodes.now ≡ node ∷ rest.now
    → below.now ≡ children_of node → after ≡ (stack ++ rest ∷ []) ++ below ∷ [] → HasBytes node → IsKept after root
kept_head root before stack after nodes rest below node so was first inner then here all =
    let parts = each_parts HaveBytes (stack ++ rest ∷ []) (below ∷ []) (subst (AllByRecursion HaveBytes) then all) in
    let older = each_parts HaveBytes stack (rest ∷ []) parts.0 in
    let hand : HaveBytes nodes = subst (λ (ns : List Node). AllByRecursion HasBytes (flat_map nodes_of ns)) (sym first)
    (each_join HasBytes (nodes_of node) (flat_map nodes_of rest.now) (node_kept node below.now inner here parts.1.0) older.1.0) in
    so (subst (AllByRecursion HaveBytes) (sym was) (each_join HaveBytes stack (nodes ∷ []) older.0 (hand, tt)))
