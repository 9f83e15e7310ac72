use Rattle.std.proofs.Common.{◌<◌, length, arith, false-eqb}
use Rattle.hv_refusal.proofs.Nodes.{unit_of}
use Rattle.hv_refusal.proofs.node.is_unit.Goals as goal

pub returns-else-is_empty : goal.returns-else-is_empty
returns-else-is_empty c =
    let some : 0 < length c.in-Some.unit.now = omega (arith, false-eqb (length c.in-Some.unit.now) 0 c.if-is_empty.ensures) in
    let both = unit_of c.args.text.now c.in-Some.unit.now (cc (c.in-Some.ensures.cases.0, c.if-mark-ne64.false)) some in
    ((λ t. both.0 (c.are_node_bytes.ensures.0 t)), (λ u. c.are_node_bytes.ensures.1 (both.1 u)))
