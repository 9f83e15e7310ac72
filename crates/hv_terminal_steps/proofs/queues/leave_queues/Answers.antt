use Rattle.std.proofs.Common.{◌<◌, length, ◌∙◌, arith, length-set}
use Rattle.hv_parts.specs.Value.{valued}
use Rattle.hv_terminal_steps.proofs.Leaving.{each-more, rest-more}
use Rattle.hv_terminal_steps.proofs.queues.leave_queues.Goals as goal

pub loop-number-preserved : goal.loop-number-preserved
loop-number-preserved g c =
    let l = c.loop-number in
    let f = valued g.E.Emulator.state in
    let low : l.number < length l.queues = omega (arith, c.loop-number-test.true, l.invariant.long) in
    record {
      long = length-set l.queues l.number c.leave_at.new.place ∙ l.invariant.long;
      each = each-more f c.args.vcpu c.args.reply.now c.args.queues.now l.queues l.number c.index-queues-number.result c.leave_at.new.place low l.invariant.rest l.invariant.each c.leave_at.ensures;
      rest = rest-more f c.args.vcpu c.args.reply.now c.args.queues.now l.queues l.number c.index-queues-number.result c.leave_at.new.place low l.invariant.rest;
    }

pub returns-clause-each : goal.returns-clause-each
returns-clause-each g c k d b = c.loop-number.invariant.each k d (omega (arith, b, c.loop-number-test.false))
