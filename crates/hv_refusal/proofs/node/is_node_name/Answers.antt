use Rattle.std.proofs.Common.{◌<◌, length, arith, refl, false-eqb}
use Rattle.std.proofs.lemmas.Bool.{false≢true}
use Rattle.hv_refusal.proofs.Nodes.{taken_apart}
use Rattle.hv_refusal.proofs.node.is_node_name.Goals as goal

pub returns-then-base-gt31 : goal.returns-then-base-gt31
returns-then-base-gt31 c =
    let both = taken_apart c.args.name.now c.split_at.result.0.now c.split_at.result.1.now c.front_len.result c.split_at.ensures.front c.split_at.ensures.back c.front_len.ensures.free c.front_len.ensures.stops in
    ((λ t. absurd (false≢true t)), (λ named. absurd (omega (arith, (both.0 named).short, c.if-base-gt31.true))))

pub returns-then-not-are_node_bytes : goal.returns-then-not-are_node_bytes
returns-then-not-are_node_bytes c =
    let both = taken_apart c.args.name.now c.split_at.result.0.now c.split_at.result.1.now c.front_len.result c.split_at.ensures.front c.split_at.ensures.back c.front_len.ensures.free c.front_len.ensures.stops in
    ((λ t. absurd (false≢true t)), (λ named. c.if-not-are_node_bytes.ensures.1 (both.0 named).each))

pub returns : goal.returns
returns c =
    let both = taken_apart c.args.name.now c.split_at.result.0.now c.split_at.result.1.now c.front_len.result c.split_at.ensures.front c.split_at.ensures.back c.front_len.ensures.free c.front_len.ensures.stops in
    let some : 0 < length c.split_at.result.0.now = omega (arith, false-eqb (length c.split_at.result.0.now) 0 c.if-is_empty.ensures) in (
      (λ t. both.1 (record { some = some; short = omega (arith, c.if-base-gt31.false); each = c.if-not-are_node_bytes.ensures.0 refl; unit_is = c.is_unit.ensures.0 t })),
      (λ named. c.is_unit.ensures.1 (both.0 named).unit_is),
    )
