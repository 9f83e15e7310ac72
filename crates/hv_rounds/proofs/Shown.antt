-- What a step's reply shows is there to be shown.
use Rattle.std.proofs.Common.{◌≡◌, ℕ, Result, Ok, Err, List, refl, sym, subst}
use Rattle.hv_files.specs.declared.refusal.FileRefusal.{FileRefusal}
use Rattle.hv_fpart.specs.Part.{IsFilesStep}
use Rattle.hv_step.specs.declared.step.Step.{Step}
use Rattle.hv_step.specs.declared.step.Step.TheVariants as step
use Rattle.hv_answer.specs.declared.reply.Reply.{Reply}
use Rattle.hv_answer.specs.declared.reply.Reply.TheVariants as reply
use Rattle.hv_refusal.specs.declared.refusal.Refusal.{Refusal}
use Rattle.hv_rules.specs.Carry.{Carry}
use Rattle.hv_model.specs.Files.{FileMap, FilesAgree, AnswersSource, read_file}
use Rattle.hv_model.specs.Transcript.{changed_by}
use Rattle.hv_rounds.specs.Step.{IsShowable}

shown-as : (r s : Reply) → r ≡ s → IsShowable s → IsShowable r
shown-as r s is h = subst IsShowable (sym is) h

source-showable : (found : Result (List ℕ) FileRefusal) (answer : Result (List ℕ) Refusal) → AnswersSource found answer → IsShowable (reply.Dts answer)
source-showable (Ok bytes) (Ok given) h = shown-as (reply.Dts (Ok given)) (reply.Dts (Ok bytes)) (cc h.0) (h.1, h.2)
source-showable (Ok bytes) (Err why) h = tt
source-showable (Err why) (Ok given) h = absurd (cc h)
source-showable (Err why) (Err other) h = tt

-- the steps that the files decide
pub files-showable : (m : FileMap) (s : Step) (r : Reply) (c : Carry) → IsFilesStep s → FilesAgree m s r c → IsShowable r
files-showable m (step.Ls s) r c kind h = shown-as r _ h tt
files-showable m (step.Cat s) r c kind h = shown-as r _ h tt
files-showable m (step.Dts s) r c kind h = shown-as r (reply.Dts h.0) h.1 (source-showable (read_file m s.path) h.0 h.2)
files-showable m (step.Mkdir s) r c kind h = shown-as r _ h tt
files-showable m (step.Rm s) r c kind h = shown-as r _ h tt
files-showable m (step.Write s) r c kind h = shown-as r _ h tt
files-showable m (step.Asm s) r c kind h = shown-as r (reply.Asm h.0) h.1 tt
files-showable m s r c kind h = absurd kind

-- a reply that is shown changed no VCPU
pub none-changed : (r : Reply) → IsShowable r → changed_by r ≡ 0
none-changed (reply.Dts r) h = refl
none-changed (reply.Bad why) h = refl
none-changed reply.Rest h = refl
none-changed (reply.Ls r) h = refl
none-changed (reply.Cat r) h = refl
none-changed (reply.Run r) h = refl
none-changed (reply.Mkdir r) h = refl
none-changed (reply.Rm r) h = refl
none-changed (reply.Write r) h = refl
none-changed (reply.Asm r) h = refl
none-changed r h = absurd h
