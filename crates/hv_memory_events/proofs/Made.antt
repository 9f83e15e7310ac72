-- Steps that reach memory and were made, told in other words.
use Rattle.std.proofs.Common.{◌≡◌, ℕ, List, ◌∷◌, Option, Some, sym, subst}
use Rattle.std.specs.Prelude.{IfOk, Ok, Result}
use Rattle.std.specs.declared.alloc.AllocError.{AllocError}
use Rattle.hv_board_steps.proofs.Back.{if-ok}
use Rattle.hv_dir.specs.Directory.{DirState}
use Rattle.hv_emu.specs.Device.{DevState}
use Rattle.hv_event.specs.declared.event.ActorId.{ActorId}
use Rattle.hv_event.specs.declared.event.CellId.{CellId}
use Rattle.hv_event.specs.declared.event.CellId.TheVariants as component
use Rattle.hv_handed.specs.declared.told.Made.{Made}
use Rattle.hv_kinds.specs.declared.generation.Generation.{Generation}
use Rattle.hv_kinds.specs.declared.stage.Stage.TheVariants as stages
use Rattle.hv_parts.specs.Takes.{IsMadeAt}
use Rattle.hv_parts.specs.declared.part.Part.{Part}
use Rattle.hv_refusal.specs.declared.refusal.Refusal.{Refusal}
use Rattle.hv_rules.specs.Dir.{guest_in}
use Rattle.hv_rules.specs.Footprint.{past_dir}
use Rattle.hv_step.specs.declared.step.Step.{Step}

module _ {E : Type 0} (state : E → DevState) where
  -- A step of any actor was made on a board of any number of harts.
  abbrev pub AnyMade : List CellId → Step → Made E → (old new : List (Part E)) → Type 0
  AnyMade xs s made old new = (harts : ℕ) (by : ActorId) → IsMadeAt state harts by xs s made old new

  -- The step is named otherwise, and touches what it does by the guest that it shows.
  pub made-as :
      (s t : Step) (shown : Option Generation) (guest : Generation) (later : Generation → List CellId) (made : Made E) (old new : List (Part E)) → s ≡ t → shown ≡ Some guest
      → AnyMade (past_dir shown later) t made old new → AnyMade (component.Dir ∷ later guest) s made old new
  made-as s t shown guest later made old new is same at =
      subst (λ u. AnyMade (component.Dir ∷ later guest) u made old new) (sym is)
      (subst (λ g. AnyMade (past_dir g later) t made old new) same at)

  -- The same where memory did not run out.
  pub ok-as :
      (r : Result (Made E) AllocError) (s t : Step) (shown : Option Generation) (guest : Generation) (later : Generation → List CellId) (old new : List (Part E)) → s ≡ t
      → shown ≡ Some guest → IfOk r (λ made. AnyMade (past_dir shown later) t made old new) → IfOk r (λ made. AnyMade (component.Dir ∷ later guest) s made old new)
  ok-as r s t shown guest later old new is same at =
      if-ok r (λ made. AnyMade (past_dir shown later) t made old new) (λ made. AnyMade (component.Dir ∷ later guest) s made old new)
      (λ made here. made-as s t shown guest later made old new is same here) at

  -- A step was made at the parts that are out, and left them as they are.
  pub made-in-place :
      (harts : ℕ) (by : ActorId) (xs : List CellId) (s : Step) (made : Made E) (ps were items : List (Part E)) → ps ≡ items → items ≡ were
      → IsMadeAt state harts by xs s made ps ps → IsMadeAt state harts by xs s made were items
  made-in-place harts by xs s made ps were items is same at =
      subst (λ ws. IsMadeAt state harts by xs s made ws items) same (subst (λ qs. IsMadeAt state harts by xs s made qs qs) is at)

-- What the directory gives a step is the guest that it shows.
pub given-guest :
    (d : DirState) (name : List ℕ) (guest : Generation)
    → ◌≡◌ {A = Option (Result Generation Refusal)} (Some (guest_in d name stages.Made)) (Some (Ok guest)) → guest_in d name stages.Made ≡ Ok guest
given-guest d name guest granted = cc granted
