-- What a call appends to a transcript.
use Rattle.std.specs.Prelude.{◌≡◌, ◌+◌, ◌≤◌, ◌^◌, IfOk, Ok, Err, List, ℕ, ◌++◌, length}
use Rattle.hv_answer.specs.declared.reply.Reply.{Reply}
use Rattle.hv_answer.specs.declared.reply.Reply.TheVariants as reply
use Rattle.hv_dtree.specs.declared.node.Node.{Node}
use Rattle.hv_dts.specs.Reading.{IsSourceOf}
use Rattle.hv_region.specs.declared.plan.RegionPlan.{RegionPlan}
use Rattle.hv_step.specs.declared.step.Step.{Step}
use Rattle.hv_step.specs.declared.step.Step.TheVariants as step
use Rattle.hv_model.specs.Plans.{Planned, regions_of}
use Rattle.hv_model.specs.Transcript.{ShowsReply, ShowsStep}

-- Behind what a terminal has shown stands what a reply shows.
pub record AppendsReply (r : Reply) (old new : List ℕ) : Type 0 where
  pub text : List ℕ
  pub shows : ShowsReply r text
  pub appended : new ≡ old ++ text

-- And what the reply to a command shows, by the host tree's guests.
pub record AppendsStep (plans : List Planned) (s : Step) (r : Reply) (old new : List ℕ) : Type 0 where
  pub text : List ℕ
  pub shows : ShowsStep plans s r text
  pub appended : new ≡ old ++ text

-- A reply is one to a command of one step that says all that is shown, and what it shows is there: a source that is
-- shown stands for a tree.
abbrev pub IsShown : Reply → Type 0
IsShown (reply.Dts (Ok source)) = (tree : Node) × IsSourceOf source tree
IsShown (reply.Dts (Err why)) = Unit {0}
IsShown (reply.Bad why) = Unit {0}
IsShown (reply.Ls r) = Unit {0}
IsShown (reply.Cat r) = Unit {0}
IsShown (reply.Run r) = Unit {0}
IsShown (reply.Mkdir r) = Unit {0}
IsShown (reply.Rm r) = Unit {0}
IsShown (reply.Write r) = Unit {0}
IsShown (reply.Asm r) = Unit {0}
IsShown (reply.Guests guests) = Unit {0}
IsShown (reply.Add r) = Unit {0}
IsShown (reply.Drop r) = Unit {0}
IsShown (reply.Load r) = Unit {0}
IsShown (reply.Feed r) = Unit {0}
IsShown (reply.Output r) = Unit {0}
IsShown (reply.Kick r) = Unit {0}
IsShown (reply.Resume r) = Unit {0}
IsShown (reply.Pause r) = Unit {0}
IsShown (reply.Halt r) = Unit {0}
IsShown (reply.Reset r) = Unit {0}
IsShown r = ⊥

-- The same of a step and its reply: the bytes of memory that are shown end within the addresses.
abbrev pub IsStepShown : Step → Reply → Type 0
IsStepShown (step.Regions s) (reply.Regions r) = Unit {0}
IsStepShown (step.Mem s) (reply.Mem r) = IfOk r (λ bytes. s.address + length bytes ≤ 2 ^ 64)
IsStepShown (step.Look s) (reply.Look look) = Unit {0}
IsStepShown s r = IsShown r

-- The regions that a step's guest has in the host tree; other steps show none.
abbrev pub AreRegionsOf : List Planned → Step → List RegionPlan → Type 0
AreRegionsOf plans (step.Regions s) regions = regions_of plans s.name ≡ regions
AreRegionsOf plans s regions = Unit {0}
