-- Steps that touch nothing but their actor.
use Rattle.std.specs.Prelude.{◌≡◌}
use Rattle.hv_answer.specs.declared.reply.Reply.{Reply}
use Rattle.hv_rules.specs.Carry.{Carry}
use Rattle.hv_step.specs.declared.step.Step.{Step}
use Rattle.hv_step.specs.declared.step.Step.TheVariants as step

-- A step tells that a line is no command, or rests.
abbrev pub IsPlain : Step → Type 0
IsPlain (step.Bad s) = Unit {0}
IsPlain (step.Rest s) = Unit {0}
IsPlain _ = ⊥

-- The reply is this one.
abbrev pub OfReply : Reply → Reply → Carry → Type 0
OfReply given r c = r ≡ given
