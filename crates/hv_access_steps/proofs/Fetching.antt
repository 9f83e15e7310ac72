-- Fetches, at a VCPU and a region that stand in one list.
use Rattle.std.proofs.Common.{◌≡◌, ◌+◌, ◌≤◌, ℕ, List, [], ◌∷◌, map, length, refl, ap, sym, subst, ◌∙◌, Option, Some}
use Rattle.std.specs.Prelude.{IsSomeAnd}
use Rattle.hv_body.specs.Body.{seen}
use Rattle.hv_body.specs.declared.live.Live.{Live}
use Rattle.hv_emu.specs.Device.{DevState}
use Rattle.hv_event.specs.declared.event.ActorId.TheVariants.{Hart}
use Rattle.hv_event.specs.declared.event.CellId.TheVariants as component
use Rattle.hv_handed.specs.Given.{given}
use Rattle.hv_handed.specs.Told.{IsTold}
use Rattle.hv_handed.specs.declared.told.Made.{Made}
use Rattle.hv_handed.proofs.Learnt.{alone-as}
use Rattle.hv_memory_steps.specs.Accesses.{access_for}
use Rattle.hv_memory_steps.specs.Fetches.{fetch_for}
use Rattle.hv_memory_steps.specs.Hands.{access_carry, fetch_carry}
use Rattle.hv_parts.specs.Takes.{AllTake, IsMadeAt}
use Rattle.hv_parts.specs.Value.{PartValue, valued, Area}
use Rattle.hv_parts.specs.declared.part.Part.{Part}
use Rattle.hv_parts.specs.declared.part.Part.TheVariants as part
use Rattle.hv_rules.specs.Carry.{Carry, Pending}
use Rattle.hv_rules.specs.Footprint.{reached}
use Rattle.hv_step.specs.declared.step.Access.{Access}
use Rattle.hv_step.specs.declared.step.Fetch.{Fetch}
use Rattle.hv_step.specs.declared.step.Step.TheVariants as steps
use Rattle.hv_vcpu.specs.Vcpu.{VcpuValue}
use Rattle.hv_access_steps.specs.First.{LastHas, access_first, fetch_first}

module _ {E : Type 0} (state : E → DevState) where
  -- A fetch is made at the components that it touches, where each takes it.
  pub fetch-made : (harts hart : ℕ) (s : Fetch) (made : Made E) (pc : Option ℕ) (pending : Option Pending) (asked place : Option (ℕ × ℕ)) (ps qs : List (Part E))
      → given state made.handed.value ≡ fetch_carry pc pending asked → asked ≡ place → IsTold (given state made.handed.value) made.told
      → AllTake (Hart hart) (component.Vcpu s.vcpu ∷ reached s.generation s.row place) (steps.Fetch s) made.reply (given state made.handed.value) (map (valued state) ps) (map (valued state) qs)
      → IsMadeAt state harts (Hart hart) (component.Vcpu s.vcpu ∷ reached s.generation s.row place) (steps.Fetch s) made ps qs
  fetch-made harts hart s made pc pending asked place ps qs handed is told taken = record {
    touched =
        ap (λ (c : Carry). component.Vcpu s.vcpu ∷ reached s.generation s.row c.area) handed
        ∙ ap (λ o. component.Vcpu s.vcpu ∷ reached s.generation s.row o) is;
    taken = taken;
    alone = alone-as (steps.Fetch s) (given state made.handed.value) (fetch_carry pc pending asked) handed refl;
    told = told;
  }

  -- And an access.
  pub access-made : (harts hart : ℕ) (s : Access) (made : Made E) (pending : Pending) (asked place parent : Option (ℕ × ℕ)) (ps qs : List (Part E))
      → given state made.handed.value ≡ access_carry pending asked parent → asked ≡ place → IsTold (given state made.handed.value) made.told
      → AllTake (Hart hart) (component.Vcpu s.vcpu ∷ reached s.generation s.row place) (steps.Access s) made.reply (given state made.handed.value) (map (valued state) ps) (map (valued state) qs)
      → IsMadeAt state harts (Hart hart) (component.Vcpu s.vcpu ∷ reached s.generation s.row place) (steps.Access s) made ps qs
  access-made harts hart s made pending asked place parent ps qs handed is told taken = record {
    touched =
        ap (λ (c : Carry). component.Vcpu s.vcpu ∷ reached s.generation s.row c.area) handed
        ∙ ap (λ o. component.Vcpu s.vcpu ∷ reached s.generation s.row o) is;
    taken = taken;
    alone = alone-as (steps.Access s) (given state made.handed.value) (access_carry pending asked parent) handed refl;
    told = told;
  }

  -- What a region answers is that which it answers in the list.
  pub fetch-first-is : (hart : ℕ) (s : Fetch) (ps rest : List (Part E)) (v : VcpuValue) (body : Option (Live E)) → ps ≡ part.Vcpu v ∷ part.Body body ∷ rest
      → fetch_first hart s (map (valued state) ps) ≡ fetch_for hart s v (seen state body)
  fetch-first-is hart s ps rest v body is = ap (λ (l : List (Part E)). fetch_first hart s (map (valued state) l)) is

  pub access-first-is : (hart : ℕ) (s : Access) (ps rest : List (Part E)) (v : VcpuValue) (body : Option (Live E)) → ps ≡ part.Vcpu v ∷ part.Body body ∷ rest
      → access_first hart s (map (valued state) ps) ≡ access_for hart s v (seen state body)
  access-first-is hart s ps rest v body is = ap (λ (l : List (Part E)). access_first hart s (map (valued state) l)) is

-- An area that stands behind two others has its bytes.
pub area-long : (o : Option (ℕ × ℕ)) (place : ℕ × ℕ) (size : ℕ) (x y : PartValue) (bytes : List ℕ) (values : List PartValue) → o ≡ Some place → values ≡ x ∷ y ∷ Area bytes ∷ []
    → LastHas (place.1 + size) values → IsSomeAnd o (λ at. at.1 + size ≤ length bytes)
area-long o place size x y bytes values is are has =
    subst (λ k. IsSomeAnd k (λ at. at.1 + size ≤ length bytes)) (sym is) (subst (LastHas (place.1 + size)) are has)
