-- What stands behind the directory that admits a step.
use Rattle.std.proofs.Common.{◌≡◌, ℕ, List, [], ◌∷◌, ◌++◌, map, length, ap, sym, subst, ◌∙◌, arith, Option, Some}
use Rattle.std.specs.Result.{result_ok}
use Rattle.hv_answer.specs.declared.reply.Reply.{Reply}
use Rattle.hv_dir.specs.Directory.{DirState}
use Rattle.hv_event.specs.declared.event.ActorId.{ActorId}
use Rattle.hv_event.specs.declared.event.CellId.{CellId}
use Rattle.hv_event.specs.declared.event.CellId.TheVariants as component
use Rattle.hv_handed.specs.Takes.{DirTakes}
use Rattle.hv_kinds.specs.declared.generation.Generation.{Generation}
use Rattle.hv_kinds.specs.declared.stage.Stage.{Stage}
use Rattle.hv_parts.specs.Admission.{IsAdmitted}
use Rattle.hv_parts.specs.Kinds.{AreOf}
use Rattle.hv_parts.specs.Takes.{AllTake}
use Rattle.hv_parts.specs.Value.{PartValue}
use Rattle.hv_parts.proofs.Directories.{past-take}
use Rattle.hv_rules.specs.Carry.{Carry}
use Rattle.hv_rules.specs.Dir.{guest_in}
use Rattle.hv_rules.specs.Footprint.{past_dir}
use Rattle.hv_step.specs.declared.step.Step.{Step}
use Rattle.hv_access_steps.specs.First.{behind}

-- The generation that a step shows tells what stands behind the directory.
past-is : (shown : Option Generation) (xs : Generation → List CellId) (g : Generation) → shown ≡ Some g → past_dir shown xs ≡ component.Dir ∷ xs g
past-is shown xs g is = ap (λ k. past_dir k xs) is

module _ {P : Type 0} (f : P → PartValue) where
  -- Their values are those behind its own.
  pub behind-is : (ps front back : List P) → ps ≡ front ++ back → length front ≡ 1 → behind (map f ps) ≡ map f back
  behind-is ps [] back split long = absurd (omega (arith, long))
  behind-is ps (p ∷ q ∷ front) back split long = absurd (omega (arith, long))
  behind-is ps (p ∷ []) back split long = ap (λ l. behind (map f l)) split

  -- A step that is admitted is taken by all where those behind the directory take it.
  pub admitted-take :
      (by : ActorId) (s : Step) (r : Reply) (c : Carry) (name : List ℕ) (stage : Stage) (shown : Option Generation) (xs : Generation → List CellId) (g : Generation)
      (ps front back back' : List P) → ((d : DirState) → shown ≡ result_ok (guest_in d name stage) → DirTakes s r c d d) → shown ≡ Some g
      → IsAdmitted (map f ps) name stage shown → AreOf (past_dir shown xs) (map f ps) → ps ≡ front ++ back → length front ≡ 1
      → AllTake by (xs g) s r c (map f back) (map f back') → AllTake by (past_dir shown xs) s r c (map f ps) (map f (front ++ back'))
  admitted-take by s r c name stage shown xs g ps [] back back' takes is admitted are split long others = absurd (omega (arith, long))
  admitted-take by s r c name stage shown xs g ps (p ∷ q ∷ front) back back' takes is admitted are split long others = absurd (omega (arith, long))
  admitted-take by s r c name stage shown xs g ps (p ∷ []) back back' takes is admitted are split long others =
      let same : past_dir shown xs ≡ past_dir shown (λ h. xs g) = past-is shown xs g is ∙ sym (past-is shown (λ h. xs g) g is) in
      subst (λ l. AllTake by (past_dir shown xs) s r c (map f l) (f p ∷ map f back')) (sym split)
      (subst (λ l. AllTake by l s r c (f p ∷ map f back) (f p ∷ map f back')) (sym same)
      (past-take by s r c name stage shown (λ h. xs g) (f p) (map f back) (map f back') (λ d there granted. takes d granted)
      (subst (λ l. IsAdmitted (map f l) name stage shown) split admitted)
      (subst (λ l. AreOf l (f p ∷ map f back)) same (subst (λ l. AreOf (past_dir shown xs) (map f l)) split are)) (λ h here. others)))
