-- What a terminal's scripts have come to: the line that it is at, and the scripts that are open.
use Rattle.std.specs.Prelude.{◌≡◌, ℕ, ◌+◌, ◌&&◌, Bool, Option, None, Some, is_none, Result, Ok, Err, List, [], ◌∷◌, length}
use Rattle.hv_text.specs.Lines.{script_lines}
use Rattle.hv_words.specs.declared.command.Command.{Command}
use Rattle.hv_words.specs.declared.refusal.WordsRefusal.{WordsRefusal}
use Rattle.hv_words.specs.Said.{said}
use Rattle.hv_words.specs.Words.{commands_of}
use Rattle.hv_answer.specs.declared.reply.Reply.{Reply}
use Rattle.hv_answer.specs.declared.reply.Reply.TheVariants as reply
use Rattle.hv_rules.specs.Carry.{Carry}
use Rattle.hv_rules.specs.Line.{Ask, LineState, left, line_after}
use Rattle.hv_step.specs.declared.step.Step.{Step}
use Rattle.hv_model.specs.Work.{Work, once, several, work_of, line_of}
use Rattle.hv_model.specs.Plans.{Planned}

-- Open scripts, the innermost first; each is the list of its commands that are not begun.
abbrev pub Scripts : Type 0
Scripts = List (List (List ℕ))

pub record Session : Type 0 where
  -- the line that is begun and has steps left, if there is one
  pub line : Option LineState
  -- the open scripts of the boot script, and those of the terminal's own script
  pub boot : Scripts
  pub own : Scripts
  -- how many lines all scripts have that were opened, the boot script and the own one among them
  pub lines : ℕ

-- The next command of open scripts, with the scripts as they are when it is begun; a script with none left is closed.
abbrev pub next_in : Scripts → Option (List ℕ × Scripts)
next_in [] = None
next_in ([] ∷ scripts) = next_in scripts
next_in ((l ∷ ls) ∷ scripts) = Some (l, ls ∷ scripts)

-- A command that is begun: its line, and the open scripts behind it.
pub record Begun : Type 0 where
  pub line : List ℕ
  pub boot : Scripts
  pub own : Scripts

-- A command of the terminal's own script is begun when its boot script has ended.
abbrev pub begun_own : Option (List ℕ × Scripts) → Option Begun
begun_own None = None
begun_own (Some n) = Some (record { line = n.0; boot = []; own = n.1 })

-- A command of the boot script comes first.
abbrev pub begun_boot : Option (List ℕ × Scripts) → Scripts → Option Begun
begun_boot None own = begun_own (next_in own)
begun_boot (Some n) own = Some (record { line = n.0; boot = n.1; own = own })

-- The next command of a session.
abbrev pub begun : Session → Option Begun
begun s = begun_boot (next_in s.boot) s.own

-- What is to be done next: the one step of a command, a step of a line of several, or to say that a line is no command.
pub data Task : Type 0 where
  makes : Step → Task
  goes : LineState → Task
  tells : (line : List ℕ) → WordsRefusal → Task

-- What a session is at, and the open scripts behind it.
pub record Present : Type 0 where
  pub task : Task
  pub boot : Scripts
  pub own : Scripts

-- What a command comes to.
abbrev pub task_for : List Planned → Work → Task
task_for plans (once step) = makes step
task_for plans (several asked) = goes (line_of plans asked)

-- What a line of a script comes to, by what it is read as.
abbrev pub task_of : List Planned → (line : List ℕ) → Result Command WordsRefusal → Task
task_of plans line (Ok command) = task_for plans (work_of command)
task_of plans line (Err why) = tells line why

abbrev pub first_of : List Planned → Option Begun → Option Present
first_of plans None = None
first_of plans (Some b) = Some (record { task = task_of plans b.line (said b.line); boot = b.boot; own = b.own })

-- A session is at the line that is begun, or else at the next command; at the end it is at nothing.
abbrev pub present_with : List Planned → Option LineState → Session → Option Present
present_with plans None s = first_of plans (begun s)
present_with plans (Some line) s = Some (record { task = goes line; boot = s.boot; own = s.own })

abbrev pub present : List Planned → Session → Option Present
present plans s = present_with plans s.line s

-- The open scripts that a command came from.
abbrev pub scripts_of : Present → Scripts
scripts_of p = elim p.boot [ [] ↦ p.own | s ∷ ss ↦ s ∷ ss ]

-- The open scripts with a further one.
abbrev pub opened : Present → List (List ℕ) → Present
opened p script =
    elim p.boot [
      | [] ↦ record p { own = script ∷ p.own }
      | s ∷ ss ↦ record p { boot = script ∷ s ∷ ss }
    ]

-- A script that a command runs is open from then on.
abbrev pub with_script : Task → Present → Reply → Present
with_script (makes asked) p (reply.Run (Ok script)) = opened p (commands_of script)
with_script task p r = p

-- How many lines a script has that is run.
abbrev pub lines_run : Reply → ℕ
lines_run (reply.Run (Ok script)) = length (script_lines script)
lines_run r = 0

-- A line is kept while it has steps left.
abbrev pub kept_for : LineState → List Ask → Option LineState
kept_for line [] = None
kept_for line (ask ∷ more) = Some line

abbrev pub kept : LineState → Option LineState
kept line = kept_for line (left line.place)

-- The line that is left once a step is made.
abbrev pub left_of : Task → Reply → Carry → Option LineState
left_of (makes s) r c = None
left_of (goes line) r c = kept (line_after line r c)
left_of (tells line why) r c = None

-- The session with the step made that it was at.
abbrev pub made_at : Option Present → Session → Reply → Carry → Session
made_at None s r c = s
made_at (Some p) s r c = record {
  line = left_of p.task r c;
  boot = (with_script p.task p r).boot;
  own = (with_script p.task p r).own;
  lines = s.lines + lines_run r;
}

abbrev pub session_after : List Planned → Session → Reply → Carry → Session
session_after plans s r c = made_at (present plans s) s r c

-- A session has booted where its line is done and no command of the boot script is left.
pub record HasBooted (s : Session) : Type 0 where
  pub line : s.line ≡ None
  pub boot : next_in s.boot ≡ None

-- A session has ended where, besides, no command of its own script is left.
pub record HasEnded (s : Session) : Type 0 where
  pub line : s.line ≡ None
  pub boot : next_in s.boot ≡ None
  pub own : next_in s.own ≡ None

-- Whether it has.
abbrev pub has_ended : Session → Bool
has_ended s = is_none s.line && (is_none (next_in s.boot) && is_none (next_in s.own))
