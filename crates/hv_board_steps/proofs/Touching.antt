-- What steps touch and hand over, whatever comes of them.
use Rattle.std.proofs.Common.{◌≡◌, ℕ, [], ◌∷◌, refl}
use Rattle.hv_answer.specs.declared.reply.Reply.{Reply}
use Rattle.hv_answer.specs.declared.reply.Reply.TheVariants as reply
use Rattle.hv_event.specs.declared.event.ActorId.{ActorId}
use Rattle.hv_event.specs.declared.event.CellId.TheVariants as component
use Rattle.hv_fpart.specs.Part.{IsFilesStep}
use Rattle.hv_rules.specs.Carry.{Carry, nothing}
use Rattle.hv_rules.specs.Footprint.{components}
use Rattle.hv_rules.specs.Handed.{handed_over}
use Rattle.hv_step.specs.declared.step.Step.{Step}
use Rattle.hv_step.specs.declared.step.Step.TheVariants as step
use Rattle.hv_board_steps.specs.Plain.{IsPlain}
use Rattle.hv_board_steps.specs.Vcpus.{IsVcpusStep, touched_by}

-- The steps on files touch the files, and hand nothing over.
pub files-touch : (harts : ℕ) (by : ActorId) (s : Step) → IsFilesStep s → components harts by s reply.Rest nothing ≡ component.Files ∷ []
files-touch harts by (step.Ls s) is = refl
files-touch harts by (step.Cat s) is = refl
files-touch harts by (step.Dts s) is = refl
files-touch harts by (step.Mkdir s) is = refl
files-touch harts by (step.Rm s) is = refl
files-touch harts by (step.Write s) is = refl
files-touch harts by (step.Asm s) is = refl
files-touch harts by _ is = absurd is

pub files-alone : (s : Step) → IsFilesStep s → handed_over s nothing ≡ nothing
files-alone (step.Ls s) is = refl
files-alone (step.Cat s) is = refl
files-alone (step.Dts s) is = refl
files-alone (step.Mkdir s) is = refl
files-alone (step.Rm s) is = refl
files-alone (step.Write s) is = refl
files-alone (step.Asm s) is = refl
files-alone _ is = absurd is

-- Those on VCPUs touch the same whoever makes them.
pub vcpus-touch : (harts : ℕ) (by : ActorId) (s : Step) → IsVcpusStep s → components harts by s reply.Rest nothing ≡ touched_by harts s
vcpus-touch harts by (step.Kick s) is = refl
vcpus-touch harts by (step.Resume s) is = refl
vcpus-touch harts by (step.Pause s) is = refl
vcpus-touch harts by (step.Halt s) is = refl
vcpus-touch harts by (step.Reset s) is = refl
vcpus-touch harts by (step.Vdrop s) is = refl
vcpus-touch harts by (step.Look s) is = refl
vcpus-touch harts by _ is = absurd is

pub vcpus-alone : (s : Step) → IsVcpusStep s → handed_over s nothing ≡ nothing
vcpus-alone (step.Kick s) is = refl
vcpus-alone (step.Resume s) is = refl
vcpus-alone (step.Pause s) is = refl
vcpus-alone (step.Halt s) is = refl
vcpus-alone (step.Reset s) is = refl
vcpus-alone (step.Vdrop s) is = refl
vcpus-alone (step.Look s) is = refl
vcpus-alone _ is = absurd is

-- Those that touch nothing hand nothing over.
pub plain-touch : (harts : ℕ) (by : ActorId) (s : Step) (r : Reply) (c : Carry) → IsPlain s → components harts by s r c ≡ []
plain-touch harts by (step.Bad s) r c is = refl
plain-touch harts by (step.Rest s) r c is = refl
plain-touch harts by _ r c is = absurd is

pub plain-alone : (s : Step) (c : Carry) → IsPlain s → handed_over s c ≡ nothing
plain-alone (step.Bad s) c is = refl
plain-alone (step.Rest s) c is = refl
plain-alone _ c is = absurd is
