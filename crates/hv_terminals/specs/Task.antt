-- What is due of a task: its step, what is handed over for it, and what is begun with it.
use Rattle.std.specs.Prelude.{◌≡◌, ◌≢◌, ◌<◌, ℕ, Option, None, Some, List, []}
use Rattle.std.specs.Option.{option_and_then}
use Rattle.hv_answer.specs.declared.reply.Reply.{Reply}
use Rattle.hv_answer.specs.declared.reply.Reply.TheVariants as reply
use Rattle.hv_kinds.specs.declared.generation.Generation.{Generation}
use Rattle.hv_step.specs.declared.step.Step.{Step}
use Rattle.hv_step.specs.declared.step.Step.TheVariants as step
use Rattle.hv_text.specs.declared.limits.TheConstants.{GUEST_VCPUS}
use Rattle.hv_rules.specs.Line as line
use Rattle.hv_rules.specs.Line.{Ask, LineState, first, guest_name, left, next_step}
use Rattle.hv_model.specs.Plans.{Planned}
use Rattle.hv_model.specs.Session.{Task, makes, goes, tells}
use Rattle.hv_model.specs.Shown.{showing}
use Rattle.hv_model.specs.Terminal.{refusal_of}
use Rattle.hv_terminals.specs.Due.{Handing, handing, handing_for, no_handing, own_reply, shown_at}
use Rattle.hv_terminals.specs.declared.due.Begins.{Begins}
use Rattle.hv_terminals.specs.declared.due.Begins.TheVariants as begins
use Rattle.hv_terminals.specs.declared.due.Due.{Due}

-- A line has steps left.
abbrev pub HasSteps : LineState → Type 0
HasSteps l = first (left l.place) ≢ None

-- A task has a step: a line that it goes on with has steps left.
abbrev pub IsTask : Task → Type 0
IsTask (goes l) = HasSteps l
IsTask _ = Unit {0}

-- The index in its guest of a VCPU whose change is asked by guest.
abbrev pub index_in : Ask → ℕ
index_in (line.change what index) = index
index_in _ = 0

-- The step of a task, where the directory gives this generation.
abbrev pub step_of : (given : Option Generation) → Task → Option Step
step_of given (makes asked) = Some (showing given asked)
step_of given (goes l) = next_step l given
step_of given (tells text why) = Some (step.Bad (record { line = text }))

-- The reply that the terminal gives itself: a rest is done, and a line that is no command is refused.
abbrev pub reply_of : Task → Option Reply
reply_of (makes asked) = own_reply asked
reply_of (goes l) = option_and_then own_reply (next_step l None)
reply_of (tells text why) = Some (reply.Bad (refusal_of why))

-- What is handed over for the next step of a line.
abbrev pub handing_in : List Planned → LineState → Option Step → Handing
handing_in plans l None = no_handing
handing_in plans l (Some s) = handing_for plans (guest_name l.asked) None s

-- What is handed over for a task, where a script may have so many lines.
abbrev pub handing_of : List Planned → (room : Option ℕ) → Task → Handing
handing_of plans room (makes asked) = handing_for plans [] room asked
handing_of plans room (goes l) = handing_in plans l (next_step l None)
handing_of plans room (tells text why) = no_handing

-- What is begun with the step of a command.
abbrev pub begins_of : Task → Begins
begins_of (makes asked) = begins.Command
begins_of (goes l) = begins.Line l
begins_of (tells text why) = begins.NoCommand

-- What is due of a task: once it shows the generation that the directory gives it is the task's step, and the terminal
-- hands over and replies itself what it has to.
pub record IsDueOf (plans : List Planned) (room : Option ℕ) (task : Task) (due : Due) : Type 0 where
  pub shown : (given : Option Generation) → step_of given task ≡ Some (shown_at due.index given due.step)
  pub index : due.index < GUEST_VCPUS
  pub own : due.reply ≡ reply_of task
  pub hands : handing due.hands ≡ handing_of plans room task
