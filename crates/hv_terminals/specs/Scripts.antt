-- Open scripts, as code keeps them.
use Rattle.std.specs.Prelude.{◌≡◌, ℕ, ◌≤◌, Option, None, Some, Ok, List, [], ◌∷◌, ◌++◌, length}
use Rattle.hv_answer.specs.declared.reply.Reply.{Reply}
use Rattle.hv_answer.specs.declared.reply.Reply.TheVariants as reply
use Rattle.hv_words.specs.Words.{commands_of}
use Rattle.hv_model.specs.Session.{Begun, Present, Scripts, Task, begun_boot, next_in}

-- The elements of a list, the last one first.
abbrev pub reversed : {A : Type 0} → List A → List A
reversed [] = []
reversed (x ∷ xs) = reversed xs ++ x ∷ []

-- Open scripts, and for how many more there is room.
pub record StackKept : Type 0 where
  pub scripts : Scripts
  pub room : ℕ

-- The next command of a script.
abbrev pub first_line : List (List ℕ) → Option (List ℕ)
first_line [] = None
first_line (line ∷ more) = Some line

-- The next command, without the scripts behind it.
abbrev pub line_of : Option (List ℕ × Scripts) → Option (List ℕ)
line_of None = None
line_of (Some next) = Some next.0

-- How many scripts are open where the next command stands.
abbrev pub depth_of : Option (List ℕ × Scripts) → ℕ
depth_of None = 0
depth_of (Some next) = length next.1

-- The script that a reply opens, if it is that of a run.
abbrev pub script_run : Reply → Option (List (List ℕ))
script_run (reply.Run (Ok script)) = Some (commands_of script)
script_run _ = None

-- The open scripts of a terminal: those of its boot script, and those of its own.
pub record ScriptsKept : Type 0 where
  pub boot : StackKept
  pub own : StackKept

-- There is room for one script more in both.
pub record HasScriptRoom (scripts : ScriptsKept) : Type 0 where
  pub boot : 1 ≤ scripts.boot.room
  pub own : 1 ≤ scripts.own.room

-- No room is lost.
pub record KeepsScriptRoom (old new : ScriptsKept) : Type 0 where
  pub boot : old.boot.room ≤ new.boot.room
  pub own : old.own.room ≤ new.own.room

-- The scripts themselves stay as they are.
pub record AreSameScripts (old new : ScriptsKept) : Type 0 where
  pub boot : new.boot.scripts ≡ old.boot.scripts
  pub own : new.own.scripts ≡ old.own.scripts

-- The next command of open scripts.
abbrev pub begun_in : ScriptsKept → Option Begun
begun_in scripts = begun_boot (next_in scripts.boot.scripts) scripts.own.scripts

-- Its line.
abbrev pub begun_line : Option Begun → Option (List ℕ)
begun_line None = None
begun_line (Some b) = Some b.line

-- How many scripts are open, among those that it came from, once it is begun.
abbrev pub begun_depth : Option Begun → ℕ
begun_depth None = 0
begun_depth (Some b) = length {A = List (List ℕ)} (elim b.boot [ [] ↦ b.own | s ∷ ss ↦ s ∷ ss ])

-- A task whose command is begun, with these scripts open.
abbrev pub present_at : Task → ScriptsKept → Present
present_at task scripts = record { task = task; boot = scripts.boot.scripts; own = scripts.own.scripts }
