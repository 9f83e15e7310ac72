-- How many nodes a tree has.
use Rattle.std.proofs.Common.{◌≡◌, ℕ, ◌+◌, ◌*◌, ◌<◌, ◌≤◌, List, [], ◌∷◌, ◌++◌, sym, ap, ◌∙◌, arith}
use Rattle.hv_dtree.specs.Nodes.{children_of}
use Rattle.hv_dtree.specs.declared.node.Node.{Node}
use Rattle.hv_dtree.specs.declared.node.Node.TheOpen.{Node-F}
use Rattle.hv_dtree.specs.declared.node.Node.TheViews.{roll-Node}
use Rattle.hv_dtree.specs.declared.node.Node.TheFolds.{fold-Node, fold-roll-Node, fold_out-Node}
use Rattle.std.specs.Prelude.{map}
use Rattle.std.proofs.Math.Nat.{mul-le-mul_left}

abbrev pub sum_of : List ℕ → ℕ
sum_of [] = 0
sum_of (n ∷ ns) = n + sum_of ns

abbrev pub count_step : Node-F ℕ → ℕ
count_step layer = 1 + sum_of layer.children

-- the nodes in and below a node
pub node_count : Node → ℕ
node_count = fold-Node ℕ count_step

-- the same of several nodes
abbrev pub count_all : List Node → ℕ
count_all nodes = sum_of (map node_count nodes)

pub count_roll : (x : Node-F Node) → node_count (roll-Node x) ≡ 1 + count_all x.children
unfolding node_count
count_roll = fold-roll-Node ℕ count_step

pub count_out : (node : Node) → node_count node ≡ 1 + count_all (children_of node)
unfolding node_count
count_out = fold_out-Node ℕ count_step

pub count_push : (nodes : List Node) (node : Node) → count_all (nodes ++ node ∷ []) ≡ count_all nodes + node_count node
count_push [] node = omega arith
count_push (n ∷ nodes) node = omega (arith, count_push nodes node)

-- fewer nodes are less, whichever is in hand
pub fewer : (all hand some one : ℕ) → some < all → one ≤ some → some * some + one < all * all + hand
fewer all hand some one less small =
    let front : (some + 1) * (some + 1) ≤ (some + 1) * all = mul-le-mul_left (some + 1) (omega arith) in
    let back : all * (some + 1) ≤ all * all = mul-le-mul_left all (omega arith) in
    omega (arith, front, back)

-- what falls while a node is in hand and others are still to be let go
abbrev pub left : List Node → Node → ℕ
left todo hand = (node_count hand + count_all todo) * (node_count hand + count_all todo) + node_count hand

-- the node in hand is let go, and another is taken
pub left_leaf : (hand next : Node) (todo rest : List Node) → todo ≡ rest ++ next ∷ [] → left rest next < left todo hand
left_leaf hand next todo rest is =
    let all : count_all todo ≡ count_all rest + node_count next = ap count_all is ∙ count_push rest next in
    fewer (node_count hand + count_all todo) (node_count hand) (node_count next + count_all rest) (node_count next) (omega (arith, all, count_out hand)) (omega arith)

-- the node in hand is let go, and one of its children is taken
pub left_below : (hand next : Node) (todo inner rest : List Node) → inner ≡ children_of hand → inner ≡ rest ++ next ∷ [] → left rest next < left todo hand
left_below hand next todo inner rest below is =
    let all : count_all inner ≡ count_all rest + node_count next = ap count_all is ∙ count_push rest next in
    fewer (node_count hand + count_all todo) (node_count hand) (node_count next + count_all rest) (node_count next) (omega (arith, all, count_out hand, ap count_all below)) (omega arith)

-- what is still to be let go takes the place of the first child, which is taken
pub left_swap : (hand first shell : Node) (todo inner rest new : List Node) → inner ≡ children_of hand → node_count shell ≡ 1 + count_all todo → inner ≡ first ∷ rest → new ≡ shell ∷ rest → left new first < left todo hand
left_swap hand first shell todo inner rest new below holds was is =
    let all : count_all inner ≡ node_count first + count_all rest = ap count_all was in
    let then : count_all new ≡ node_count shell + count_all rest = ap count_all is in
    let hand_is : node_count hand ≡ 1 + count_all inner = count_out hand ∙ ap (λ (nodes : List Node). 1 + count_all nodes) (sym below) in
    let same : node_count first + count_all new ≡ node_count hand + count_all todo = omega (arith, all, then, hand_is, holds) in
    let squares : (node_count first + count_all new) * (node_count first + count_all new) ≡ (node_count hand + count_all todo) * (node_count hand + count_all todo) = ap (λ (n : ℕ). n * n) same in
    omega (arith, squares, all, hand_is)
