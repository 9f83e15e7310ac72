-- The words of an event's line, of which two stand one space apart.
use Rattle.std.specs.Prelude.{ℕ, List, ◌∷◌, ◌++◌, codes}
use Rattle.std.specs.Fmt.{decimal}
use Rattle.hv_step.specs.Words.{step_words}
use Rattle.hv_answer.specs.Reply.{reply_words}
use Rattle.hv_event.specs.declared.event.Event.{Event}
use Rattle.hv_event.specs.Line.{actor_text}

-- The arrow between a step and its reply.
abbrev pub arrow : List ℕ
arrow = codes "->"

-- The words of an event.
abbrev pub event_words : Event → List (List ℕ)
event_words e = decimal e.stamp ∷ actor_text e.actor ∷ decimal e.index ∷ (step_words e.step ++ arrow ∷ reply_words e.reply)
