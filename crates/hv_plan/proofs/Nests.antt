-- How many nodes lie in one another, level by level.
use Rattle.std.proofs.Common.{◌≡◌, ℕ, suc, ◌+◌, ◌<◌, List, [], ◌∷◌, ◌++◌, length, map, max, refl, sym, ap, ◌∙◌, arith}
use Rattle.hv_dtree.specs.Nodes.{children_of}
use Rattle.hv_dtree.specs.declared.node.Node.{Node}
use Rattle.hv_dtree.specs.declared.node.Node.TheFolds.{fold_out-Node}
use denote.Ref.{Bor}
use Rattle.hv_plan.specs.Settings.{nest_of, greatest}
use Rattle.hv_plan.specs.Reading.{all_children, nodes_at}

-- how deep the deepest of some nodes is
abbrev pub deepest : List Node → ℕ
deepest nodes = greatest (map nest_of nodes)

pub nest_out : (node : Node) → nest_of node ≡ 1 + deepest (children_of node)
unfolding nest_of
nest_out = fold_out-Node ℕ (λ layer. 1 + greatest layer.children)

deepest_both : (some others : List Node) → deepest (some ++ others) ≡ max (deepest some) (deepest others)
deepest_both [] others = omega arith
deepest_both (node ∷ some) others = omega (arith, deepest_both some others)

-- the next level is one less deep
pub deepest_below : (nodes : List Node) → 0 < length nodes → deepest nodes ≡ 1 + deepest (all_children nodes)
deepest_below [] some = absurd (omega arith)
deepest_below (node ∷ []) some = omega (arith, nest_out node, deepest_both (children_of node) [])
deepest_below (node ∷ next ∷ more) some = omega (arith, nest_out node, deepest_both (children_of node) (all_children (next ∷ more)), deepest_below (next ∷ more) (omega arith))

length_at : (lent : List (Bor Node)) → length (nodes_at lent) ≡ length lent
length_at [] = refl
length_at (node ∷ lent) = ap suc (length_at lent)

-- the same of nodes that are lent
pub level_step : (level slice below : List (Bor Node)) → slice ≡ level → 0 < length slice → nodes_at below ≡ all_children (nodes_at slice) → deepest (nodes_at level) ≡ 1 + deepest (nodes_at below)
level_step level slice below is some next =
    let here : deepest (nodes_at slice) ≡ 1 + deepest (all_children (nodes_at slice)) = deepest_below (nodes_at slice) (omega (arith, length_at slice)) in
    ap (λ (ns : List (Bor Node)). deepest (nodes_at ns)) (sym is) ∙ (here ∙ ap (λ (ns : List Node). 1 + deepest ns) (sym next))
