-- What the commands of a script ask of a terminal.
use Rattle.std.specs.Prelude.{Option, None, List}
use Rattle.hv_region.specs.declared.plan.GuestPlan.{GuestPlan}
use Rattle.hv_rules.specs.Line.{Asked, rests, create, destroy, each_vcpu, LineState, begun_for}
use Rattle.hv_step.specs.declared.step.Step.{Step}
use Rattle.hv_step.specs.declared.step.Step.TheVariants as step
use Rattle.hv_words.specs.declared.command.Command.{Command}
use Rattle.hv_words.specs.declared.command.Command.TheVariants as command
use Rattle.hv_model.specs.Plans.{Planned, plan_of}

-- A command has one step, or it is a line of several.
pub data Work : Type 0 where
  once : Step → Work
  several : Asked → Work

-- What each command asks for.
abbrev pub work_of : Command → Work
work_of (command.VfsLs path) = once (step.Ls (record { path = path }))
work_of (command.VfsCat path) = once (step.Cat (record { path = path }))
work_of (command.VfsDts path) = once (step.Dts (record { path = path }))
work_of (command.VfsMkdir path) = once (step.Mkdir (record { path = path }))
work_of (command.VfsRm path) = once (step.Rm (record { path = path }))
work_of (command.VfsWrite path text) = once (step.Write (record { path = path; bytes = text }))
work_of (command.VfsAsm source target) = once (step.Asm (record { source = source; target = target }))
work_of (command.VfsRun path) = once (step.Run (record { path = path }))
work_of (command.TermRest count) = several (rests count)

-- The plan of the guest that a line is about.
abbrev pub plan_for : List Planned → Asked → Option GuestPlan
plan_for plans (create name) = plan_of plans name
plan_for plans (destroy name) = plan_of plans name
plan_for plans (each_vcpu change name) = plan_of plans name
plan_for plans asked = None

-- A line as it is begun.
abbrev pub line_of : List Planned → Asked → LineState
line_of plans asked = begun_for asked (plan_for plans asked)
