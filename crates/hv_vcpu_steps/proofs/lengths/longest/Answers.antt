use Rattle.std.proofs.Common.{◌-◌, nat_le, arith}
use Rattle.std.proofs.lemmas.Bool.{le-leb, lt-leb}
use Rattle.hv_vcpu_steps.proofs.PlaceLemmas.{moves, stays, last, is_longest}
use Rattle.hv_vcpu_steps.proofs.lengths.longest.Goals as goal

pub loop-number-init : goal.loop-number-init
loop-number-init c = let some = c.requires in (omega arith, omega arith, last (λ n k. nat_le k n) c.args.lengths.now some)

pub loop-number-preserved-then-lengths-number : goal.loop-number-preserved-then-lengths-number
loop-number-preserved-then-lengths-number c =
    let inv = c.loop-number.invariant in
    (omega arith, omega arith, moves (λ n k. nat_le k n) is_longest _ _ _ c.loop-number-test.true inv.1 inv.2 (le-leb _ _ c.if-lengths-number.true))

pub loop-number-preserved : goal.loop-number-preserved
loop-number-preserved c =
    let inv = c.loop-number.invariant in
    (inv.0, omega arith, stays (λ n k. nat_le k n) is_longest _ _ _ c.loop-number-test.true inv.1 inv.2 (lt-leb _ _ c.if-lengths-number.false))
