-- The next event of an actor.
use Rattle.std.specs.Prelude.{◌≡◌, ℕ, ◌+◌}
use Rattle.hv_answer.specs.declared.reply.Reply.{Reply}
use Rattle.hv_event.specs.declared.event.Event.{Event}
use Rattle.hv_step.specs.declared.step.Step.{Step}
use Rattle.hv_board.specs.declared.log.Log.{Log}

-- The next event of an actor has one more than its count as its index.
abbrev pub event_of : Log → (stamp : ℕ) → Step → Reply → Event
event_of log stamp step reply =
    record { actor = log.actor; index = log.count + 1; stamp = stamp; step = step; reply = reply }

-- Two logs are those of one actor, and have the same events.
pub record IsSameLog (old new : Log) : Type 0 where
  pub actor : new.actor ≡ old.actor
  pub count : new.count ≡ old.count
  pub stamp : new.stamp ≡ old.stamp
  pub events : new.events.items ≡ old.events.items
