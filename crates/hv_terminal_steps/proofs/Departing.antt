-- Queues that a VCPU leaves.
use Rattle.std.proofs.Common.{◌≡◌, ℕ, List}
use Rattle.std.specs.Prelude.{Result}
use Rattle.hv_answer.specs.declared.reply.Reply.{Reply}
use Rattle.hv_answer.specs.declared.reply.Reply.TheVariants as replies
use Rattle.hv_handed.specs.Takes.{QueueTakes}
use Rattle.hv_parts.specs.Value as value
use Rattle.hv_queue.specs.declared.entry.QueueEntry.{QueueEntry}
use Rattle.hv_refusal.specs.declared.refusal.Refusal.{Refusal}
use Rattle.hv_rules.specs.Carry.{Carry}
use Rattle.hv_step.specs.declared.step.Halt.{Halt}
use Rattle.hv_step.specs.declared.step.Pause.{Pause}
use Rattle.hv_step.specs.declared.step.Reset.{Reset}
use Rattle.hv_step.specs.declared.step.Vdrop.{Vdrop}
use Rattle.hv_step.specs.declared.step.Step.TheVariants as steps
use Rattle.hv_terminal_steps.specs.Taken.{Departs}

-- A queue takes each step by which a VCPU departs.
pub departs :
    (vcpu : ℕ) (r : Reply) (q q' : List QueueEntry)
    → ((hart : ℕ) (s : Pause) (a : Result (Unit {0}) Refusal) (c : Carry) → s.vcpu ≡ vcpu → r ≡ replies.Pause a → QueueTakes hart (steps.Pause s) r c q q')
    → ((hart : ℕ) (s : Halt) (a : Result (Unit {0}) Refusal) (c : Carry) → s.vcpu ≡ vcpu → r ≡ replies.Halt a → QueueTakes hart (steps.Halt s) r c q q')
    → ((hart : ℕ) (s : Reset) (a : Result (Unit {0}) Refusal) (c : Carry) → s.vcpu ≡ vcpu → r ≡ replies.Reset a → QueueTakes hart (steps.Reset s) r c q q')
    → ((hart : ℕ) (s : Vdrop) (a : Result (Unit {0}) Refusal) (c : Carry) → s.vcpu ≡ vcpu → r ≡ replies.Vdrop a → QueueTakes hart (steps.Vdrop s) r c q q')
    → Departs vcpu r (value.Queue q) (value.Queue q')
departs vcpu r q q' pause halt reset vdrop by hart (steps.Pause s) c is = pause hart s is.1 c is.0 is.2
departs vcpu r q q' pause halt reset vdrop by hart (steps.Halt s) c is = halt hart s is.1 c is.0 is.2
departs vcpu r q q' pause halt reset vdrop by hart (steps.Reset s) c is = reset hart s is.1 c is.0 is.2
departs vcpu r q q' pause halt reset vdrop by hart (steps.Vdrop s) c is = vdrop hart s is.1 c is.0 is.2
departs vcpu r q q' pause halt reset vdrop by hart s c is = absurd is
