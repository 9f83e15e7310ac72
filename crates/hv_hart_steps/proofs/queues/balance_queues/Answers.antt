use Rattle.std.proofs.Common.{◌<◌, length, ◌∙◌, arith, length-set}
use Rattle.hv_hart_steps.specs.Balanced.{Balances}
use Rattle.hv_parts.specs.Value.{valued}
use Rattle.hv_hart_steps.proofs.Moving.{each-more, rest-more}
use Rattle.hv_hart_steps.proofs.queues.balance_queues.Goals as goal

pub loop-number-preserved : goal.loop-number-preserved
loop-number-preserved g c =
    let l = c.loop-number in
    let f = valued g.E.Emulator.state in
    let low : l.number < length l.queues = omega (arith, c.loop-number-test.true, l.invariant.long) in
    record {
      long = length-set l.queues l.number c.balance_one.new.place ∙ l.invariant.long;
      each =
          each-more (λ k old new. Balances c.args.lengths.now c.args.moved k (f old) (f new)) c.args.queues.now l.queues l.number c.index-queues-number.result c.balance_one.new.place low l.invariant.rest l.invariant.each
          c.balance_one.ensures;
      rest = rest-more (λ k old new. Balances c.args.lengths.now c.args.moved k (f old) (f new)) c.args.queues.now l.queues l.number c.index-queues-number.result c.balance_one.new.place low l.invariant.rest;
    }

pub returns-clause-each : goal.returns-clause-each
returns-clause-each g c k d b = c.loop-number.invariant.each k d (omega (arith, b, c.loop-number-test.false))
