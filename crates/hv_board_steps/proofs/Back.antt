-- Parts at which a step was made, as they go back.
use Rattle.std.proofs.Common.{◌≡◌, ℕ, suc, List, [], ◌∷◌, ◌++◌, length, map, take, drop, refl, sym, ap, subst, ◌∙◌}
use Rattle.std.proofs.lemmas.List.{length-map, take_at}
use Rattle.std.specs.Prelude.{Result, Ok, Err, IfOk}
use Rattle.hv_board.proofs.LiftLemmas.{take-long}
use Rattle.hv_emu.specs.Device.{DevState}
use Rattle.hv_event.specs.declared.event.ActorId.{ActorId}
use Rattle.hv_event.specs.declared.event.CellId.{CellId}
use Rattle.hv_handed.specs.Given.{given}
use Rattle.hv_handed.specs.declared.told.Made.{Made}
use Rattle.hv_parts.specs.Kinds.{AreOf}
use Rattle.hv_parts.specs.Takes.{IsMadeAt}
use Rattle.hv_parts.specs.Value.{PartValue, valued}
use Rattle.hv_parts.specs.declared.part.Part.{Part}
use Rattle.hv_step.specs.declared.step.Step.{Step}

pub are-long : (xs : List CellId) (vs : List PartValue) → AreOf xs vs → length vs ≡ length xs
are-long [] [] are = refl
are-long [] (v ∷ vs) are = absurd are
are-long (x ∷ xs) [] are = absurd are
are-long (x ∷ xs) (v ∷ vs) are = ap suc (are-long xs vs are.1)

-- What is said of a value that a call gives holds of it in other words.
pub if-ok : {A B : Type 0} (r : Result A B) (P Q : A → Type 0) → ((a : A) → P a → Q a) → IfOk r P → IfOk r Q
if-ok (Ok a) P Q other is = other a is
if-ok (Err e) P Q other is = tt

module _ {E : Type 0} (state : E → DevState) (harts : ℕ) (by : ActorId) (xs : List CellId) (s : Step) (made : Made E) where
  -- A step that was made at a slice of the parts that are out was made at them.
  pub made-back : (olds news were items : List (Part E)) (len : ℕ) → len ≡ length items → olds ≡ items → items ≡ were → AreOf xs (map (valued state) items)
      → IsMadeAt state harts by xs s made olds news → IsMadeAt state harts by xs s made were (take len (news ++ drop (length news) items))
  made-back olds news were items len long is same kinds at =
      let c = given state made.handed.value in
      let old_long : length items ≡ length xs = sym (length-map items (valued state)) ∙ are-long xs (map (valued state) items) kinds in
      let new_long : length news ≡ length xs =
      sym (length-map news (valued state)) ∙ take-long by xs s made.reply c (map (valued state) olds) (map (valued state) news) at.taken in
      let back : take len (news ++ drop (length news) items) ≡ news = take_at news (drop (length news) items) len (new_long ∙ (sym old_long ∙ sym long)) in
      let from : IsMadeAt state harts by xs s made were news = subst (λ ps. IsMadeAt state harts by xs s made ps news) (is ∙ same) at in
      subst (λ ps. IsMadeAt state harts by xs s made were ps) (sym back) from

  -- Parts that kept their values in a slice kept them.
  pub kept-back : (olds news were items : List (Part E)) (len : ℕ) → len ≡ length items → olds ≡ items → items ≡ were
      → map (valued state) news ≡ map (valued state) olds → map (valued state) (take len (news ++ drop (length news) items)) ≡ map (valued state) were
  kept-back olds news were items len long is same kept =
      let both : map (valued state) news ≡ map (valued state) items = kept ∙ ap (map (valued state)) is in
      let new_long : length news ≡ length items = sym (length-map news (valued state)) ∙ (ap length both ∙ length-map items (valued state)) in
      ap (map (valued state)) (take_at news (drop (length news) items) len (new_long ∙ sym long)) ∙ (both ∙ ap (map (valued state)) same)
