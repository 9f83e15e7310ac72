use Rattle.std.proofs.Common.{sym, subst}
use Rattle.hv_hart_steps.specs.Balanced.{Balances}
use Rattle.hv_parts.specs.Value.{valued}
use Rattle.hv_parts.specs.Value as value
use Rattle.hv_hart_steps.proofs.queues.balance_one.Goals as goal

pub returns : goal.returns
returns g c =
    subst (λ place. Balances c.args.lengths.now c.args.moved c.args.number (valued g.E.Emulator.state place) (value.Queue c.balance_queue.new.queue)) (sym c.queue_mut.ensures.value)
    (λ by s carry is from. c.balance_queue.ensures s carry is from)
