-- The events whose data have the written forms.
use Rattle.hv_data.specs.Written.{IsNumber, IsNumber8}
use Rattle.hv_step.specs.Words.{name_of, IsStep}
use Rattle.hv_answer.specs.Reply.{IsReplyOf}
use Rattle.hv_event.specs.declared.event.ActorId.{ActorId}
use Rattle.hv_event.specs.declared.event.ActorId.TheVariants.{Hart, Terminal}
use Rattle.hv_event.specs.declared.event.Event.{Event}

-- An actor's number has at most 8 bits.
abbrev pub IsActor : ActorId → Type 0
IsActor (Hart n) = IsNumber8 n
IsActor (Terminal n) = IsNumber8 n

-- An event's data have the written forms, and its reply is one of its step's.
pub record IsWritten (e : Event) : Type 0 where
  pub stamp : IsNumber e.stamp
  pub actor : IsActor e.actor
  pub index : IsNumber e.index
  pub step : IsStep e.step
  pub reply : IsReplyOf (name_of e.step) e.reply
