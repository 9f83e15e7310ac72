-- The generation that a step by guest shows, which the directory gives.
use Rattle.std.specs.Prelude.{Option, None, Some}
use Rattle.hv_kinds.specs.declared.generation.Generation.{Generation}
use Rattle.hv_step.specs.declared.step.ByGuest.{ByGuest}
use Rattle.hv_step.specs.declared.step.Step.{Step}
use Rattle.hv_step.specs.declared.step.Step.TheVariants as step

abbrev pub shown_by : Option ByGuest → Option Generation
shown_by None = None
shown_by (Some guest) = guest.generation

-- The generation that a step of a terminal shows, where it names a guest.
abbrev pub shown_in : Step → Option Generation
shown_in (step.Add s) = s.generation
shown_in (step.Drop s) = s.generation
shown_in (step.Regions s) = s.generation
shown_in (step.Load s) = s.generation
shown_in (step.Mem s) = s.generation
shown_in (step.Devreset s) = s.generation
shown_in (step.Feed s) = s.generation
shown_in (step.Output s) = s.generation
shown_in (step.Kick s) = shown_by s.guest
shown_in (step.Resume s) = shown_by s.guest
shown_in (step.Pause s) = shown_by s.guest
shown_in (step.Halt s) = shown_by s.guest
shown_in (step.Reset s) = shown_by s.guest
shown_in s = None

-- The step of a command where the directory gives this generation; a command on a VCPU names no guest.
abbrev pub showing : Option Generation → Step → Step
showing given (step.Add s) = step.Add (record s { generation = given })
showing given (step.Drop s) = step.Drop (record s { generation = given })
showing given (step.Regions s) = step.Regions (record s { generation = given })
showing given (step.Load s) = step.Load (record s { generation = given })
showing given (step.Mem s) = step.Mem (record s { generation = given })
showing given (step.Devreset s) = step.Devreset (record s { generation = given })
showing given (step.Feed s) = step.Feed (record s { generation = given })
showing given (step.Output s) = step.Output (record s { generation = given })
showing given s = s
