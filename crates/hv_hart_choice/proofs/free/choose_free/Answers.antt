use Rattle.std.proofs.Common.{sym}
use Rattle.hv_hart_choice.proofs.Heads.{head-known}
use Rattle.hv_hart_choice.proofs.free.choose_free.Goals as goal

pub returns-in-Some-clause-known : goal.returns-in-Some-clause-known
returns-in-Some-clause-known c = head-known c.args.queue.now c.in-Some.vcpu c.len-many.ensures.rules.each (sym c.in-Some.ensures)
