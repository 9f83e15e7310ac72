-- VCPUs that leave all queues by a command.
use Rattle.std.specs.Prelude.{Bool, true, false, Ok}
use Rattle.hv_answer.specs.declared.reply.Reply.{Reply}
use Rattle.hv_answer.specs.declared.reply.Reply.TheVariants as reply

-- Whether a VCPU was paused, halted, reset or dropped.
abbrev pub leaves : Reply → Bool
leaves (reply.Pause (Ok done)) = true
leaves (reply.Halt (Ok done)) = true
leaves (reply.Reset (Ok done)) = true
leaves (reply.Vdrop (Ok done)) = true
leaves _ = false
