-- Components take the resets of devices and the ticks of clocks.
use Rattle.std.proofs.Common.{◌≡◌, ℕ, true, false, refl, sym, ap, subst, ◌∙◌, Option, Some, None}
use Rattle.std.specs.Prelude.{Ok, IsSome}
use Rattle.hv_answer.specs.declared.reply.Reply.{Reply}
use Rattle.hv_answer.specs.declared.reply.Reply.TheVariants as reply
use Rattle.hv_body.specs.Body.{on_device}
use Rattle.hv_emu.specs.Device.{after_reset, after_tick}
use Rattle.hv_handed.specs.Takes.{BodyTakes, SpaceTakes}
use Rattle.hv_kinds.specs.declared.changes.SignalChanges.{SignalChanges}
use Rattle.hv_rules.specs.Body.{BodyValue, changes, parent_of}
use Rattle.hv_rules.specs.Carry.{Carry, nothing}
use Rattle.hv_rules.specs.Space.{Ticks}
use Rattle.hv_space.specs.Space.{SpaceState}
use Rattle.hv_step.specs.declared.step.Devreset.{Devreset}
use Rattle.hv_step.specs.declared.step.Tick.{Tick}
use Rattle.hv_step.specs.declared.step.Step.TheVariants as step

true_false : true ≡ false → ⊥
true_false e = cc

-- What is handed over of a region.
abbrev pub of_region : (row : ℕ) → (parent : Option (ℕ × ℕ)) → Carry
of_region row parent = record nothing { row = Some row; parent = parent }

pub devreset_taken : (row : ℕ) (s : Devreset) (c : Carry) (parent : Option (ℕ × ℕ)) (moved : SignalChanges) (old new : BodyValue)
    → c ≡ of_region row parent → parent ≡ parent_of old → new ≡ on_device after_reset old → moved ≡ changes old new
    → BodyTakes row (step.Devreset s) (reply.Devreset (Ok moved)) c old new
devreset_taken row s c parent moved old new handed link left is = record {
  agrees = (
    ap (λ (n : SignalChanges). reply.Devreset (Ok n)) (is ∙ ap (λ (b : BodyValue). changes old b) left),
    ap (λ (k : Carry). k.parent) handed ∙ link,
  );
  after = left;
}

-- What is handed over of a clock.
abbrev pub of_clock : (clock : Option (ℕ × ℕ)) → (parent : Option (ℕ × ℕ)) → Carry
of_clock clock parent = record nothing { clock = clock; parent = parent }

pub tick_taken : (row : ℕ) (s : Tick) (c : Carry) (clock parent : Option (ℕ × ℕ)) (moved : SignalChanges) (old new : BodyValue)
    → c ≡ of_clock clock parent → parent ≡ parent_of old → new ≡ on_device after_tick old → moved ≡ changes old new
    → BodyTakes row (step.Tick s) (reply.Tick (Some moved)) c old new
tick_taken row s c clock parent moved old new handed link left is = record {
  agrees = (
    ap (λ (n : SignalChanges). reply.Tick (Some n)) (is ∙ ap (λ (b : BodyValue). changes old b) left),
    ap (λ (k : Carry). k.parent) handed ∙ link,
  );
  after = left;
}

ticks_one : (clock : Option (ℕ × ℕ)) (r : Reply) (c : Carry) → IsSome clock → c.clock ≡ clock → Ticks clock r c
ticks_one None r c some is = absurd (true_false (sym some))
ticks_one (Some clock) r c some is = is

pub space_ticks : (s : Tick) (c : Carry) (r : Reply) (clock parent : Option (ℕ × ℕ)) (space : SpaceState) → IsSome space.clock
    → clock ≡ space.clock → c ≡ of_clock clock parent → SpaceTakes (step.Tick s) r c space space
space_ticks s c r clock parent space some is handed = record {
  agrees = ticks_one space.clock r c some (ap (λ (k : Carry). k.clock) handed ∙ is);
  after = refl;
}

ticks_none : (clock : Option (ℕ × ℕ)) (c : Carry) → clock ≡ None → c ≡ nothing → Ticks clock (reply.Tick None) c
ticks_none clock c none handed =
    subst (λ (k : Option (ℕ × ℕ)). Ticks k (reply.Tick None) c) (sym none)
    (refl, ap (λ (k : Carry). k.clock) handed, ap (λ (k : Carry). k.parent) handed)

pub space_rests : (s : Tick) (c : Carry) (space : SpaceState) → space.clock ≡ None → c ≡ nothing
    → SpaceTakes (step.Tick s) (reply.Tick None) c space space
space_rests s c space none handed = record { agrees = ticks_none space.clock c none handed; after = refl }
