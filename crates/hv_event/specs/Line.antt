-- The line of an event: its stamp, its actor, its index and its step, and behind an arrow its reply.
use Rattle.std.specs.Prelude.{ℕ, List, ◌++◌, codes}
use Rattle.std.specs.Fmt.{decimal}
use Rattle.hv_step.specs.Words.{step_text}
use Rattle.hv_answer.specs.Reply.{reply_text}
use Rattle.hv_event.specs.declared.event.ActorId.{ActorId}
use Rattle.hv_event.specs.declared.event.ActorId.TheVariants.{Hart, Terminal}
use Rattle.hv_event.specs.declared.event.Event.{Event}

-- An actor is written as `h` or `t` and its number.
abbrev pub actor_text : ActorId → List ℕ
actor_text (Hart n) = codes "h" ++ decimal n
actor_text (Terminal n) = codes "t" ++ decimal n

-- The parts of an event's line stand one space apart.
unfoldable pub event_text : Event → List ℕ
event_text e =
    decimal e.stamp ++ codes " " ++ actor_text e.actor ++ codes " " ++ decimal e.index ++ codes " " ++ step_text e.step
    ++ codes " -> " ++ reply_text e.reply
