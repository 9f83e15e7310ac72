use Rattle.hv_uart.proofs.Bits.{trigger-14, trigger-8}
use Rattle.hv_uart.proofs.fcr.Fcr.trigger.Goals as goal

pub returns-in-true-true : goal.returns-in-true-true
returns-in-true-true c = trigger-14 c.args.self.0 (c.in-true-true.ensures tt) (c.in-true-true.ensures' tt)

pub returns-in-true-false : goal.returns-in-true-false
returns-in-true-false c = trigger-8 c.args.self.0 (c.in-true-false.ensures tt) (c.in-true-false.ensures' tt)
