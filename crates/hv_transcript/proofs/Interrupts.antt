-- No step that a session asks for is an interrupt.
use Rattle.std.proofs.Common.{◌≡◌, ℕ, Bool, false, Some, None, refl, ap, ◌∙◌}
use Rattle.std.specs.Prelude.{Option}
use Rattle.hv_kinds.specs.declared.generation.Generation.{Generation}
use Rattle.hv_step.specs.declared.step.Step.{Step}
use Rattle.hv_step.specs.declared.step.Step.TheVariants as step
use Rattle.hv_rules.specs.Line as line
use Rattle.hv_rules.specs.Line.{Ask, Change, LineState, first, left, next_step, step_for, step_of}
use Rattle.hv_words.specs.declared.command.Command.{Command}
use Rattle.hv_words.specs.declared.command.Command.TheVariants as command
use Rattle.hv_model.specs.Shown.{showing}
use Rattle.hv_model.specs.Terminal.{is_interrupt}
use Rattle.hv_model.specs.Work.{Work, once, several, work_of}

-- a step of a command shows a generation, and is the same else
pub showing-same : (given : Option Generation) (s : Step) → is_interrupt (showing given s) ≡ is_interrupt s
showing-same given (step.Add s) = refl
showing-same given _ = refl

-- a command that has one step asks for no interrupt
pub interrupts : Work → Bool
interrupts (once s) = is_interrupt s
interrupts (several asked) = false

pub command-asked : (c : Command) → interrupts (work_of c) ≡ false
unfolding interrupts
command-asked (command.VfsLs path) = refl
command-asked _ = refl

pub once-asked : (s : Step) → interrupts (once s) ≡ is_interrupt s
unfolding interrupts
once-asked s = refl

-- nor does a line
change-asked : (l : LineState) (given : Option Generation) (what : Change) (index : ℕ) → is_interrupt (step_of l given (line.change what index)) ≡ false
change-asked l given line.kick index = refl
change-asked l given line.resume index = refl
change-asked l given line.pause index = refl
change-asked l given line.halt index = refl
change-asked l given line.reset index = refl

ask-asked : (l : LineState) (given : Option Generation) (a : Ask) → is_interrupt (step_of l given a) ≡ false
ask-asked l given (line.change what index) = change-asked l given what index
ask-asked l given _ = refl

for-asked : (l : LineState) (given : Option Generation) (a : Option Ask) (s : Step) → step_for l given a ≡ Some s → is_interrupt s ≡ false
for-asked l given None s is = absurd (cc is)
for-asked l given (Some a) s is = let same : s ≡ step_of l given a = cc is in ap is_interrupt same ∙ ask-asked l given a

pub line-asked : (l : LineState) (given : Option Generation) (s : Step) → next_step l given ≡ Some s → is_interrupt s ≡ false
line-asked l given s is = for-asked l given (first (left l.place)) s is
