-- What the steps touch that actors owe.
use Rattle.std.specs.Prelude.{ℕ, List}
use Rattle.hv_answer.specs.declared.reply.Reply.TheVariants as reply
use Rattle.hv_event.specs.declared.event.ActorId.TheVariants.{Terminal}
use Rattle.hv_event.specs.declared.event.CellId.{CellId}
use Rattle.hv_rules.specs.Carry.{nothing}
use Rattle.hv_rules.specs.Footprint.{components}
use Rattle.hv_step.specs.declared.step.Step.{Step}

-- It is the same whoever makes the step and whatever comes of it.
abbrev pub owed_parts : (harts : ℕ) → Step → List CellId
owed_parts harts s = components harts (Terminal 0) s reply.Rest nothing
