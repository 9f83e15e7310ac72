use Rattle.std.proofs.Common.{Some, None, sym}
use Rattle.hv_rules.specs.Body.{accessed}
use Rattle.hv_memory_steps.proofs.accesses.end_access.Goals as goal

pub returns-in-Some-clause-vcpu : goal.returns-in-Some-clause-vcpu
returns-in-Some-clause-vcpu c = λ d is. c.access.ensures (Some (accessed c.in-Some.value c.args.changed)) d (sym c.in-Some.is) is

pub returns-in-None-clause-vcpu : goal.returns-in-None-clause-vcpu
returns-in-None-clause-vcpu c = λ d is. c.access.ensures None d (sym c.in-None.is) is
