-- What is still to be printed of a tree.
use Rattle.std.proofs.Common.{◌≡◌, ℕ, ◌+◌, ◌*◌, ◌<◌, List, [], ◌∷◌, ◌++◌, length, refl, sym, ap, ◌∙◌, arith, append_assoc, length-append, Bor}
use Rattle.std.specs.Prelude.{map}
use Rattle.std.proofs.lemmas.List.{append-nil, map-append, length-map}
use Rattle.std.specs.List.{flat_map}
use Rattle.hv_dtree.specs.Nodes.{name_of, props_of, children_of}
use Rattle.hv_dtree.specs.declared.node.Node.{Node}
use Rattle.hv_dtree.specs.declared.node.Node.TheFolds.{fold-Node, fold_out-Node}
use Rattle.hv_dtree.proofs.Counts.{node_count, count_all, count_out}
use Rattle.hv_dtprint.specs.Printed.{head_text, foot_text, node_layer, node_text, tree_text}

-- nodes at a depth
abbrev pub nodes_text : ℕ → List Node → List ℕ
nodes_text depth nodes = flat_map (λ node. node_text node depth) nodes

at_depth : (depth : ℕ) (nodes : List Node) → flat_map (λ child. child depth) (map (fold-Node (ℕ → List ℕ) node_layer) nodes) ≡ nodes_text depth nodes
unfolding node_text
at_depth depth [] = refl
at_depth depth (n ∷ nodes) = ap (λ (t : List ℕ). fold-Node (ℕ → List ℕ) node_layer n depth ++ t) (at_depth depth nodes)

-- a node is its first lines, its children and its last line
pub node_text_is : (node : Node) (depth : ℕ) → node_text node depth ≡ head_text depth (name_of node) (props_of node) ++ (nodes_text (depth + 1) (children_of node) ++ foot_text depth)
unfolding node_text
node_text_is node depth =
    ap (λ f. f depth) (fold_out-Node (ℕ → List ℕ) node_layer node)
    ∙ ap (λ (t : List ℕ). head_text depth (name_of node) (props_of node) ++ (t ++ foot_text depth)) (at_depth (depth + 1) (children_of node))

-- what is still to be printed of open nodes, of which the outermost has a depth
abbrev pub pending : ℕ → List (List Node) → List ℕ
pending depth [] = []
pending depth (nodes ∷ inner) = pending (depth + 1) inner ++ (nodes_text (depth + 1) nodes ++ foot_text depth)

-- the innermost comes first
pub pending_push : (depth last : ℕ) (stack : List (List Node)) (nodes : List Node) → last ≡ depth + length stack → pending depth (stack ++ nodes ∷ []) ≡ (nodes_text (last + 1) nodes ++ foot_text last) ++ pending depth stack
pending_push depth last [] nodes e =
    let same : depth ≡ last = omega arith in
    ap (λ (d : ℕ). nodes_text (d + 1) nodes ++ foot_text d) same ∙ sym (append-nil (nodes_text (last + 1) nodes ++ foot_text last))
pending_push depth last (o ∷ stack) nodes e =
    ap (λ (t : List ℕ). t ++ (nodes_text (depth + 1) o ++ foot_text depth)) (pending_push (depth + 1) last stack nodes (omega arith))
    ∙ append_assoc (nodes_text (last + 1) nodes ++ foot_text last) (pending (depth + 1) stack) (nodes_text (depth + 1) o ++ foot_text depth)

-- the lists behind references
abbrev pub lists_of : List (Bor (List Node)) → List (List Node)
lists_of stack = map (λ nodes. nodes.now) stack

-- what was printed and what is pending are the tree
abbrev pub IsPrinting : List ℕ → List (Bor (List Node)) → Node → Type 0
IsPrinting out stack root = out ++ pending 0 (lists_of stack) ≡ tree_text root

lists_push : (stack : List (Bor (List Node))) (nodes : Bor (List Node)) → lists_of (stack ++ nodes ∷ []) ≡ lists_of stack ++ nodes.now ∷ []
lists_push stack nodes = map-append (λ (x : Bor (List Node)). x.now) stack (nodes ∷ [])

pushed : (last : ℕ) (stack : List (Bor (List Node))) (nodes : Bor (List Node)) → last ≡ length stack → pending 0 (lists_of (stack ++ nodes ∷ [])) ≡ (nodes_text (last + 1) nodes.now ++ foot_text last) ++ pending 0 (lists_of stack)
pushed last stack nodes e =
    ap (pending 0) (lists_push stack nodes) ∙ pending_push 0 last (lists_of stack) nodes.now (omega (arith, length-map stack (λ (x : Bor (List Node)). x.now)))

-- at first
pub printing_root : (root : Node) (out : List ℕ) (start : List ℕ) (stack : List (Bor (List Node))) (children : Bor (List Node)) → start ++ node_text root 0 ≡ tree_text root → out ≡ start ++ head_text 0 (name_of root) (props_of root) → stack ≡ children ∷ [] → children.now ≡ children_of root → IsPrinting out stack root
printing_root root out start stack children whole is one below =
    let rest : pending 0 (lists_of stack) ≡ nodes_text 1 (children_of root) ++ foot_text 0 =
    ap (λ o. pending 0 (lists_of o)) one ∙ ap (λ (ns : List Node). nodes_text 1 ns ++ foot_text 0) below in
    ap (λ (t : List ℕ). t ++ pending 0 (lists_of stack)) is ∙ append_assoc start (head_text 0 (name_of root) (props_of root)) (pending 0 (lists_of stack))
    ∙ ap (λ (t : List ℕ). start ++ (head_text 0 (name_of root) (props_of root) ++ t)) rest ∙ ap (λ (t : List ℕ). start ++ t) (sym (node_text_is root 0)) ∙ whole

-- a node has no further children
pub printing_foot : (root : Node) (out new : List ℕ) (before stack : List (Bor (List Node))) (nodes : Bor (List Node)) (last : ℕ) → IsPrinting out before root → before ≡ stack ++ nodes ∷ [] → nodes.now ≡ [] → last ≡ length stack → new ≡ out ++ foot_text last → IsPrinting new stack root
printing_foot root out new before stack nodes last so was none e is =
    let here : pending 0 (lists_of before) ≡ foot_text last ++ pending 0 (lists_of stack) =
    ap (λ o. pending 0 (lists_of o)) was ∙ pushed last stack nodes e ∙ ap (λ (ns : List Node). (nodes_text (last + 1) ns ++ foot_text last) ++ pending 0 (lists_of stack)) none in
    ap (λ (t : List ℕ). t ++ pending 0 (lists_of stack)) is ∙ append_assoc out (foot_text last) (pending 0 (lists_of stack)) ∙ ap (λ (t : List ℕ). out ++ t) (sym here) ∙ so

regroup : (out h n2 f1 n1 f0 p : List ℕ) → (out ++ h) ++ ((n2 ++ f1) ++ ((n1 ++ f0) ++ p)) ≡ out ++ ((((h ++ (n2 ++ f1)) ++ n1) ++ f0) ++ p)
regroup out h n2 f1 n1 f0 p = simp append_assoc

-- a further child is opened
pub printing_head : (root : Node) (out new : List ℕ) (before stack after : List (Bor (List Node))) (nodes rest below : Bor (List Node)) (node : Node) (last : ℕ) → IsPrinting out before root → before ≡ stack ++ nodes ∷ [] → nodes.now ≡ node ∷ rest.now → last ≡ length stack
    → below.now ≡ children_of node → after ≡ (stack ++ rest ∷ []) ++ below ∷ [] → new ≡ out ++ head_text (last + 1) (name_of node) (props_of node) → IsPrinting new after root
printing_head root out new before stack after nodes rest below node last so was first e inner then is =
    let p = pending 0 (lists_of stack) in
    let h = head_text (last + 1) (name_of node) (props_of node) in
    let n2 = nodes_text (last + 1 + 1) (children_of node) in
    let n1 = nodes_text (last + 1) rest.now in
    let here : pending 0 (lists_of before) ≡ (((h ++ (n2 ++ foot_text (last + 1))) ++ n1) ++ foot_text last) ++ p =
    ap (λ o. pending 0 (lists_of o)) was ∙ pushed last stack nodes e ∙ ap (λ (ns : List Node). (nodes_text (last + 1) ns ++ foot_text last) ++ p) first
    ∙ ap (λ (t : List ℕ). ((t ++ n1) ++ foot_text last) ++ p) (node_text_is node (last + 1)) in
    let there : pending 0 (lists_of after) ≡ (n2 ++ foot_text (last + 1)) ++ ((n1 ++ foot_text last) ++ p) =
    ap (λ o. pending 0 (lists_of o)) then ∙ pushed (last + 1) (stack ++ rest ∷ []) below (omega (arith, length-append stack (rest ∷ [])))
    ∙ ap (λ (ns : List Node). (nodes_text (last + 1 + 1) ns ++ foot_text (last + 1)) ++ pending 0 (lists_of (stack ++ rest ∷ []))) inner
    ∙ ap (λ (t : List ℕ). (n2 ++ foot_text (last + 1)) ++ t) (pushed last stack rest e) in
    ap (λ (t : List ℕ). t ++ pending 0 (lists_of after)) is ∙ ap (λ (t : List ℕ). (out ++ h) ++ t) there ∙ regroup out h n2 (foot_text (last + 1)) n1 (foot_text last) p ∙ ap (λ (t : List ℕ). out ++ t) (sym here) ∙ so

-- what falls: nodes count twice, and each list once
abbrev pub heavy : List (Bor (List Node)) → ℕ
heavy [] = 0
heavy (nodes ∷ stack) = 2 * count_all nodes.now + 1 + heavy stack

heavy_push : (stack : List (Bor (List Node))) (nodes : Bor (List Node)) → heavy (stack ++ nodes ∷ []) ≡ heavy stack + (2 * count_all nodes.now + 1)
heavy_push [] nodes = omega arith
heavy_push (o ∷ stack) nodes = omega (arith, heavy_push stack nodes)

pub lighter_foot : (before stack : List (Bor (List Node))) (nodes : Bor (List Node)) → before ≡ stack ++ nodes ∷ [] → heavy stack < heavy before
lighter_foot before stack nodes was = omega (arith, ap heavy was ∙ heavy_push stack nodes)

pub lighter_head : (before stack after : List (Bor (List Node))) (nodes rest below : Bor (List Node)) (node : Node) → before ≡ stack ++ nodes ∷ [] → nodes.now ≡ node ∷ rest.now → below.now ≡ children_of node → after ≡ (stack ++ rest ∷ []) ++ below ∷ [] → heavy after < heavy before
lighter_head before stack after nodes rest below node was first inner then =
    let all : heavy before ≡ heavy stack + (2 * count_all nodes.now + 1) = ap heavy was ∙ heavy_push stack nodes in
    let here : count_all nodes.now ≡ node_count node + count_all rest.now = ap count_all first in
    let there : heavy after ≡ heavy stack + (2 * count_all rest.now + 1) + (2 * count_all below.now + 1) =
    ap heavy then ∙ heavy_push (stack ++ rest ∷ []) below ∙ ap (λ (n : ℕ). n + (2 * count_all below.now + 1)) (heavy_push stack rest) in
    omega (arith, all, here, there, count_out node, ap count_all inner)
