-- Steps whose reply the files alone decide.
use Rattle.std.proofs.Common.{◌≡◌, ℕ, [], ◌∷◌, refl, sym, subst}
use Rattle.hv_answer.specs.declared.reply.Reply.{Reply}
use Rattle.hv_event.specs.declared.event.ActorId.{ActorId}
use Rattle.hv_event.specs.declared.event.CellId.TheVariants.{Files}
use Rattle.hv_fpart.specs.Part.{IsFilesStep}
use Rattle.hv_model.specs.Files.{FileMap, FilesAgree, files_after}
use Rattle.hv_parts.specs.Takes.{FilesTake}
use Rattle.hv_rules.specs.Carry.{Carry, nothing}
use Rattle.hv_rules.specs.Footprint.{components}
use Rattle.hv_rules.specs.Handed.{handed_over}
use Rattle.hv_step.specs.declared.step.Step.{Step}
use Rattle.hv_step.specs.declared.step.Step.TheVariants as step

-- They touch the files.
pub files-touched : (harts : ℕ) (by : ActorId) (s : Step) (r : Reply) (c : Carry) → IsFilesStep s → components harts by s r c ≡ Files ∷ []
files-touched harts by (step.Ls s) r c is = refl
files-touched harts by (step.Cat s) r c is = refl
files-touched harts by (step.Dts s) r c is = refl
files-touched harts by (step.Mkdir s) r c is = refl
files-touched harts by (step.Rm s) r c is = refl
files-touched harts by (step.Write s) r c is = refl
files-touched harts by (step.Asm s) r c is = refl
files-touched harts by s r c is = absurd is

-- They hand nothing over.
pub files-alone : (s : Step) → IsFilesStep s → handed_over s nothing ≡ nothing
files-alone (step.Ls s) is = refl
files-alone (step.Cat s) is = refl
files-alone (step.Dts s) is = refl
files-alone (step.Mkdir s) is = refl
files-alone (step.Rm s) is = refl
files-alone (step.Write s) is = refl
files-alone (step.Asm s) is = refl
files-alone s is = absurd is

-- The files take a step that hands nothing over.
pub files-take : (s : Step) (r : Reply) (c : Carry) (old new : FileMap) → c ≡ nothing → FilesAgree old s r nothing → new ≡ files_after old s r → FilesTake s r c old new
files-take s r c old new none agrees after =
    record { agrees = subst (λ (k : Carry). FilesAgree old s r k) (sym none) agrees; after = after }
