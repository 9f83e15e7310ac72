-- What an actor learns where its step hands nothing to it.
use Rattle.std.proofs.Common.{◌≡◌, ℕ, ap, sym, subst, ◌∙◌, Option, None, Some}
use Rattle.hv_handed.specs.Told.{IsTold}
use Rattle.hv_handed.specs.declared.told.Told.{Told}
use Rattle.hv_rules.specs.Carry.{Carry, nothing}
use Rattle.hv_rules.specs.Handed.{handed_over}
use Rattle.hv_step.specs.declared.step.Step.{Step}

-- Nothing of what is handed over is for the actor.
abbrev pub IsSilent : Carry → Type 0
IsSilent c =
    (c.lines ≡ None) × (c.guest ≡ None) × (c.pending ≡ None) × (c.clock ≡ None) × (c.parent ≡ None)

-- The actor learns nothing of what equals something that is not for it.
pub untold : (c d : Carry) (told : Told) → d ≡ c → IsSilent d → IsTold nothing told → IsTold c told
untold c d told same silent is = record {
  lines = is.lines ∙ sym (ap (λ k. k.lines) (sym same) ∙ silent.0);
  guest = is.guest ∙ sym (ap (λ k. k.guest) (sym same) ∙ silent.1);
  pending = is.pending ∙ sym (ap (λ k. k.pending) (sym same) ∙ silent.2);
  clock = is.clock ∙ sym (ap (λ k. k.clock) (sym same) ∙ silent.3);
  parent = is.parent ∙ sym (ap (λ k. k.parent) (sym same) ∙ silent.4);
}

-- What is handed over is what its row names where it equals such a thing.
pub alone-as : (s : Step) (c d : Carry) → c ≡ d → handed_over s d ≡ d → handed_over s c ≡ c
alone-as s c d same is = subst (λ (k : Carry). handed_over s k ≡ k) (sym same) is

-- The actor learns of equal things the same.
pub told-as : (c d : Carry) (told : Told) → c ≡ d → IsTold d told → IsTold c told
told-as c d told same is = subst (λ (k : Carry). IsTold k told) (sym same) is

-- The actor learns which guest it is.
pub told-guest : (told : Told) (guest there : Option (ℕ × ℕ)) → IsTold nothing told → there ≡ guest → IsTold (record nothing { guest = guest }) (record told { guest = there })
told-guest told guest there is same =
    record { lines = is.lines; guest = same; pending = is.pending; clock = is.clock; parent = is.parent }

-- The actor learns where a region's interrupts go.
pub told-parent :
    (told : Told) (row : ℕ) (parent there : Option (ℕ × ℕ)) → IsTold nothing told → there ≡ parent
    → IsTold (record nothing { row = Some row; parent = parent }) (record told { parent = there })
told-parent told row parent there is same =
    record { lines = is.lines; guest = is.guest; pending = is.pending; clock = is.clock; parent = same }
