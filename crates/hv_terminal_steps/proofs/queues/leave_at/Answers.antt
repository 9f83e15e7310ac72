use Rattle.std.proofs.Common.{sym, subst}
use Rattle.hv_parts.specs.Value.{valued}
use Rattle.hv_terminal_steps.specs.Taken.{Departs}
use Rattle.hv_parts.specs.Value as value
use Rattle.hv_terminal_steps.proofs.Departing.{departs}
use Rattle.hv_terminal_steps.proofs.queues.leave_at.Goals as goal

pub returns : goal.returns
returns g c =
    subst (λ place. Departs c.args.vcpu c.args.reply.now (valued g.E.Emulator.state place) (value.Queue c.leave_queue.new.queue)) (sym c.queue_mut.ensures.value)
    (departs c.args.vcpu c.args.reply.now _ _ c.leave_queue.ensures.pause c.leave_queue.ensures.halt c.leave_queue.ensures.reset c.leave_queue.ensures.vdrop)
