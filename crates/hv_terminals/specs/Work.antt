-- What commands ask for, as code has it.
use Rattle.std.specs.Prelude.{◌≡◌, ◌≤◌, None}
use Rattle.hv_words.specs.declared.command.Command.{Command}
use Rattle.hv_words.specs.declared.command.Command.TheVariants as command
use Rattle.hv_step.specs.declared.step.Step.{Step}
use Rattle.hv_step.specs.declared.step.Step.TheVariants as step
use Rattle.hv_rules.specs.Line.{Asked, rests}
use Rattle.hv_programs.specs.Ask.{asked_of}
use Rattle.hv_model.specs.Work as model
use Rattle.hv_model.specs.Work.{once, several}
use Rattle.hv_terminals.specs.declared.work.Work.{Work}
use Rattle.hv_terminals.specs.declared.work.Work.TheVariants.{Once, Several}

-- What a command asks for.
abbrev pub work_in : Work → model.Work
work_in (Once step) = once step
work_in (Several asked) = several (asked_of asked)

-- A command that was read rests once at least, and 10,000 times at most.
abbrev pub IsRead : Command → Type 0
IsRead (command.TermRest count) = (1 ≤ count) × (count ≤ 10000)
IsRead _ = Unit {0}

-- A step of a command on a VCPU names no guest.
abbrev pub IsOnce : Step → Type 0
IsOnce (step.Kick s) = s.guest ≡ None
IsOnce (step.Resume s) = s.guest ≡ None
IsOnce (step.Pause s) = s.guest ≡ None
IsOnce (step.Halt s) = s.guest ≡ None
IsOnce (step.Reset s) = s.guest ≡ None
IsOnce _ = Unit {0}

-- A line that rests does so once at least.
abbrev pub IsSeveral : Asked → Type 0
IsSeveral (rests count) = 1 ≤ count
IsSeveral _ = Unit {0}

-- What a command asks for that was read.
abbrev pub IsWork : model.Work → Type 0
IsWork (once step) = IsOnce step
IsWork (several asked) = IsSeveral asked
