use Rattle.hv_dtree.proofs.Counts.{left_leaf, left_below, left_swap, count_roll}
use Rattle.hv_dtree.proofs.node.Node.+drop.Goals as goal

pub letting_go-smaller-then-is_empty : goal.letting_go-smaller-then-is_empty
letting_go-smaller-then-is_empty t c =
    left_leaf c.letting_go.hand c.in-Some-pop.next c.letting_go.todo c.pop-then-is_empty.new.self c.in-Some-pop.ensures

pub letting_go-smaller-then-is_empty-2 : goal.letting_go-smaller-then-is_empty-2
letting_go-smaller-then-is_empty-2 t c =
    left_below c.letting_go.hand c.in-Some-pop-2.next c.letting_go.todo c.into_parts-name.result.2 c.pop-then-is_empty-2.new.self c.into_parts-name.ensures.children c.in-Some-pop-2.ensures

pub letting_go-smaller : goal.letting_go-smaller
letting_go-smaller t c =
    left_swap c.letting_go.hand c.swap_first-hand.result _ c.letting_go.todo c.into_parts-name.result.2 c.swap_first-hand.ensures.rest c.swap_first-hand.new.self c.into_parts-name.ensures.children (count_roll _) c.swap_first-hand.ensures.was c.swap_first-hand.ensures.is
