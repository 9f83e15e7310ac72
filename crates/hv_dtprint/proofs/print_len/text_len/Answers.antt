use Rattle.std.proofs.Common.{◌∷◌, ◌++◌, [], ap, ◌∙◌}
use Rattle.hv_dtprint.proofs.Printing.{lighter_foot, lighter_head}
use Rattle.hv_dtprint.proofs.print_len.text_len.Goals as goal

pub measuring-smaller-in-Continue-branch-3 : goal.measuring-smaller-in-Continue-branch-3
measuring-smaller-in-Continue-branch-3 c =
    lighter_head c.measuring.stack.items c.pop.new.self.items c.push-in-Some-split_first-2.new.self.items c.in-Some.nodes c.in-Some-split_first.rest c.as_slice-in-Some-split_first.result c.in-Some-split_first.node.now
    c.in-Some.ensures.items c.in-Some-split_first.ensures.cases.0 c.as_slice-in-Some-split_first.ensures (c.in_ok-push-3.ensures.items ∙ ap (λ t. t ++ c.as_slice-in-Some-split_first.result ∷ []) c.in_ok-push-2.ensures.items)

pub measuring-smaller : goal.measuring-smaller
measuring-smaller c = lighter_foot c.measuring.stack.items c.pop.new.self.items c.in-Some.nodes c.in-Some.ensures.items
