-- A session in code: its state, and room for scripts that it opens.
use Rattle.std.specs.Prelude.{ℕ, ◌+◌, ◌≤◌, Option, None, Some, List, [], ◌∷◌, length}
use Rattle.hv_answer.specs.declared.reply.Reply.{Reply}
use Rattle.hv_text.specs.Lines.{script_lines}
use Rattle.hv_text.specs.declared.limits.TheConstants.{MOST_LINES}
use Rattle.hv_words.specs.Words.{commands_of}
use Rattle.hv_rules.specs.Carry.{Carry}
use Rattle.hv_rules.specs.Line.{LineState}
use Rattle.hv_model.specs.Plans.{Planned}
use Rattle.hv_model.specs.Session.{Begun, Present, Scripts, Session, Task, goes, made_at, present, scripts_of}
use Rattle.hv_terminals.specs.Due.{room_for}
use Rattle.hv_terminals.specs.Task.{HasSteps, IsDueOf, begins_of}
use Rattle.hv_terminals.specs.declared.due.Begins.{Begins}
use Rattle.hv_terminals.specs.declared.due.Begins.TheVariants as begins
use Rattle.hv_terminals.specs.declared.due.Due.{Due}

-- A session, and for how many scripts more there is room, behind the boot script and behind the own one.
pub record SessionKept : Type 0 where
  pub session : Session
  pub boot_room : ℕ
  pub own_room : ℕ

-- There is room for one script more in both.
pub record HasSessionRoom (s : SessionKept) : Type 0 where
  pub boot : 1 ≤ s.boot_room
  pub own : 1 ≤ s.own_room

-- The scripts that are open behind a script that may be there, and how many lines it has.
abbrev pub opened_at_start : Option (List ℕ) → Scripts
opened_at_start None = []
opened_at_start (Some script) = commands_of script ∷ []

abbrev pub lines_opened : Option (List ℕ) → ℕ
lines_opened None = 0
lines_opened (Some script) = length (script_lines script)

-- A session at the start, with a boot script or none, and with its own script.
abbrev pub session_at_start : (boot : Option (List ℕ)) → (own : List ℕ) → Session
session_at_start boot own = record {
  line = None;
  boot = opened_at_start boot;
  own = commands_of own ∷ [];
  lines = lines_opened boot + length (script_lines own);
}

-- A line that is begun has steps left.
abbrev pub LineHasSteps : Option LineState → Type 0
LineHasSteps None = Unit {0}
LineHasSteps (Some l) = HasSteps l

-- What holds of a session as it is kept: its line has steps left, and it has no more lines than its scripts may have.
pub record IsSession (line : Option LineState) (lines : ℕ) : Type 0 where
  pub steps : LineHasSteps line
  pub few : lines ≤ MOST_LINES

-- What is begun with the step that a session is at: nothing where it is of the line that is begun.
abbrev pub begins_present : Option LineState → Option Present → Begins
begins_present (Some l) p = begins.Nothing
begins_present None None = begins.Nothing
begins_present None (Some p) = begins_of p.task

abbrev pub begins_at : List Planned → Session → Begins
begins_at plans s = begins_present s.line (present plans s)

-- How many lines a script may have that is run now.
abbrev pub room_at : Present → (lines : ℕ) → Option ℕ
room_at p lines = room_for (length (scripts_of p)) lines

-- What is due of a session: of the task that it is at, or nothing at its end.
abbrev pub IsDuePresent : List Planned → (lines : ℕ) → Option Present → Option Due → Type 0
IsDuePresent plans lines None None = Unit {0}
IsDuePresent plans lines (Some p) (Some due) = IsDueOf plans (room_at p lines) p.task due
IsDuePresent plans lines p due = ⊥

-- A task of a command that is begun.
abbrev pub with_task : Task → Begun → Present
with_task task b = record { task = task; boot = b.boot; own = b.own }

-- A session that made a step of the line that is begun.
abbrev pub gone_on : Option LineState → Session → Reply → Carry → Session
gone_on None s r c = s
gone_on (Some l) s r c = made_at (Some (record { task = goes l; boot = s.boot; own = s.own })) s r c
