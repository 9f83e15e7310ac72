-- Lines that are begun, and lines that make no guest and end none.
use Rattle.std.proofs.Common.{◌≡◌, ℕ, ◌≤◌, ◌⊎◌, inl, inr, Bool, true, false, refl, sym, ap, subst, ◌∙◌, List, [], ◌∷◌, length, Option, None, Some, is_some, arith}
use Rattle.std.proofs.lemmas.Option.{same_Some}
use Rattle.hv_answer.specs.declared.reply.Reply.{Reply}
use Rattle.hv_dir.specs.Directory.{entry_at, slot_of}
use Rattle.hv_dir.specs.declared.entry.Entry.{Entry}
use Rattle.hv_kinds.specs.declared.generation.Generation.{Generation}
use Rattle.hv_kinds.specs.declared.stage.Stage.TheVariants.{Made, Ending}
use Rattle.hv_model.specs.Plans.{Planned, plan_of, regions_in, regions_of, vcpus_in, vcpus_of}
use Rattle.hv_model.specs.Session.{kept}
use Rattle.hv_model.specs.Shown.{shown_in}
use Rattle.hv_model.specs.Work.{line_of}
use Rattle.hv_refusal.specs.declared.refusal.Refusal.{Refusal}
use Rattle.hv_region.specs.declared.plan.GuestPlan.{GuestPlan}
use Rattle.hv_region.specs.declared.plan.RegionPlan.{RegionPlan}
use Rattle.hv_rules.specs.Carry.{Carry}
use Rattle.hv_rules.specs.Line.{Ask, Asked, Change, LineState, Place, begun_for, change, claim, create, destroy, each_vcpu, ends_for, halt, kick, left, line_after, look, looks, moved, next_step, on, pause, place_after, reset, reset_device, rest, rests, resume, step_of, turn, verdict}
use Rattle.hv_rules.specs.Line as line
use Rattle.hv_rules.specs.Refused.{directory_refusal_of, refusal_of}
use Rattle.hv_step.specs.declared.step.Step.{Step}
use Rattle.hv_step.specs.declared.step.Step.TheVariants as step
use Rattle.hv_text.specs.declared.limits.TheConstants.{GUEST_VCPUS}
use Rattle.hv_order_laws.specs.Lines.{ArePlain}
use Rattle.hv_order_laws.specs.Owners.{FitsAs, IsDirectory, IsPlainAt, Scene, SlotFits, owned_by, owned_name}
use Rattle.hv_order_laws.proofs.Asks.{makes-first, plain-each, plain-looks, plain-rests, to_end, to_make}
use Rattle.hv_order_laws.proofs.Directory.{Stands, named-stands, unused-name}
use Rattle.hv_order_laws.proofs.Ending.{AreLed, fits-turned}
use Rattle.hv_order_laws.proofs.Lines.{IsFree, Steps, ending-step, kept-owned, making-step, no-next, step-is}
use Rattle.hv_order_laws.proofs.Making.{fits-claimed, kept-fits}
use Rattle.hv_order_laws.proofs.Steps.{IsProper, SceneStep, Spares, same-entry}

-- a step that no slot minds
abbrev pub is_calm : Step → Bool
is_calm (step.Name s) = false
is_calm (step.Stage s) = false
is_calm (step.Add s) = false
is_calm (step.Drop s) = false
is_calm (step.Vadd s) = false
is_calm s = true

pub calm-proper : (plans : List Planned) (before : Scene) (s : Step) (c : Carry) → is_calm s ≡ true → IsProper plans before s c
calm-proper plans before (step.Stage s) c calm = absurd (cc calm)
calm-proper plans before (step.Add s) c calm = absurd (cc calm)
calm-proper plans before (step.Vadd s) c calm = absurd (cc calm)
calm-proper plans before s c calm = tt

pub calm-spares : (name : List ℕ) (slot : ℕ) (s : Step) → is_calm s ≡ true → Spares name slot s
calm-spares name slot (step.Stage s) calm = absurd (cc calm)
calm-spares name slot (step.Add s) calm = absurd (cc calm)
calm-spares name slot (step.Drop s) calm = absurd (cc calm)
calm-spares name slot (step.Vadd s) calm = absurd (cc calm)
calm-spares name slot s calm = tt

-- plain steps are such

plain-change : (it : LineState) (g : Option Generation) (asked : Change) (index : ℕ) → is_calm (step_of it g (change asked index)) ≡ true
plain-change it g kick index = refl
plain-change it g resume index = refl
plain-change it g pause index = refl
plain-change it g halt index = refl
plain-change it g reset index = refl

plain-calm : (it : LineState) (g : Option Generation) (ask : Ask) (todo : List Ask) → ArePlain (ask ∷ todo) → is_calm (step_of it g ask) ≡ true
plain-calm it g rest todo are = refl
plain-calm it g (look vcpu) todo are = refl
plain-calm it g (change asked index) todo are = plain-change it g asked index
plain-calm it g (reset_device row) todo are = refl
plain-calm it g _ todo are = absurd are

plain-rest : (ask : Ask) (todo : List Ask) → ArePlain (ask ∷ todo) → ArePlain todo
plain-rest rest todo are = are
plain-rest (look vcpu) todo are = are
plain-rest (change asked index) todo are = are
plain-rest (reset_device row) todo are = are
plain-rest _ todo are = absurd are

ends-plain : (made : List Ask) (ask : Ask) (todo : List Ask) (o : Option Refusal) → ArePlain todo → IsPlainAt (moved made ask todo (ends_for o))
ends-plain made ask todo None are = are
ends-plain made ask todo (Some why) are = tt

plain-after : (made : List Ask) (ask : Ask) (todo : List Ask) (r : Reply) → ArePlain (ask ∷ todo) → IsPlainAt (place_after (on made (ask ∷ todo)) r)
plain-after [] ask todo r are = ends-plain [] ask todo (refusal_of r) (plain-rest ask todo are)
plain-after (a ∷ made) rest todo r are = are
plain-after (a ∷ made) (look vcpu) todo r are = are
plain-after (a ∷ made) (change asked index) todo r are = ends-plain (a ∷ made) (change asked index) todo (directory_refusal_of r) are
plain-after (a ∷ made) (reset_device row) todo r are = ends-plain (a ∷ made) (reset_device row) todo (directory_refusal_of r) are
plain-after (a ∷ made) _ todo r are = absurd are

-- what a line is that asks neither for a guest's life nor for its end
abbrev is_plain : Asked → Bool
is_plain (create name) = false
is_plain (destroy name) = false
is_plain asked = true

plain-fits : (scene : Scene) (plans : List Planned) (asked : Asked) (regions : List RegionPlan) (guest : Option (ℕ × ℕ)) (place : Place) → is_plain asked ≡ true → IsPlainAt place
    → FitsAs scene plans asked regions guest place
plain-fits scene plans (create name) regions guest place plain at = absurd (cc plain)
plain-fits scene plans (destroy name) regions guest place plain at = absurd (cc plain)
plain-fits scene plans asked regions guest place plain at = at

fits-plain : (scene : Scene) (plans : List Planned) (asked : Asked) (regions : List RegionPlan) (guest : Option (ℕ × ℕ)) (place : Place) → is_plain asked ≡ true
    → FitsAs scene plans asked regions guest place → IsPlainAt place
fits-plain scene plans (create name) regions guest place plain at = absurd (cc plain)
fits-plain scene plans (destroy name) regions guest place plain at = absurd (cc plain)
fits-plain scene plans asked regions guest place plain at = at

plain-owns : (asked : Asked) (name : List ℕ) → is_plain asked ≡ true → owned_name asked ≡ Some name → ⊥
plain-owns (create name) other plain is = cc
plain-owns (destroy name) other plain is = cc
plain-owns asked other plain is = cc

module _ (plans : List Planned) (before after : Scene) (ok : IsDirectory before.dir) (slots : (slot : ℕ) → SlotFits plans before slot) (led : (slot : ℕ) → AreLed (before.windows slot)) (r : Reply) (c : Carry) where
  abbrev Does : Option (List ℕ) → LineState → Step → Type 0
  Does owned it s = Steps plans before after ok r c owned it s

  plain-line : (owned : Option (List ℕ)) (asked : Asked) (regions : List RegionPlan) (guest : Option (ℕ × ℕ)) (place : Place) (s : Step) → is_plain asked ≡ true → IsPlainAt place
      → next_step (record { asked = asked; regions = regions; guest = guest; place = place }) (shown_in s) ≡ Some s
      → Does owned (record { asked = asked; regions = regions; guest = guest; place = place }) s
  plain-line owned asked regions guest (on made []) s plain at next = absurd (no-next s next)
  plain-line owned asked regions guest (on made (ask ∷ todo)) s plain at next =
      let it : LineState = record { asked = asked; regions = regions; guest = guest; place = on made (ask ∷ todo) } in
      step-is plans before after ok r c owned it (step_of it (shown_in s) ask) s next
      (λ happened goes. record {
        proper = calm-proper plans before (step_of it (shown_in s) ask) c (plain-calm it (shown_in s) ask todo at);
        fits = kept-fits after plans (line_after it r c) (plain-fits after plans asked regions _ (place_after (on made (ask ∷ todo)) r) plain (plain-after made ask todo r at));
        spares = λ slot e there else. calm-spares e.name slot (step_of it (shown_in s) ask) (plain-calm it (shown_in s) ask todo at);
        own = λ name is. absurd (plain-owns asked name plain (kept-owned (line_after it r c) name is));
      })
  plain-line owned asked regions guest (line.back why made) s plain at next = absurd at
  plain-line owned asked regions guest (line.over why) s plain at next = absurd (no-next s next)

  -- a line that a terminal is at
  pub held-step : (asked : Asked) (regions : List RegionPlan) (guest : Option (ℕ × ℕ)) (place : Place) (s : Step) → FitsAs before plans asked regions guest place
      → next_step (record { asked = asked; regions = regions; guest = guest; place = place }) (shown_in s) ≡ Some s
      → Does (owned_name asked) (record { asked = asked; regions = regions; guest = guest; place = place }) s
  held-step (create name) regions guest place s fits next = making-step plans before after ok r c name regions guest place s fits next
  held-step (destroy name) regions guest place s fits next = ending-step plans before after ok r c name regions guest place s led fits next
  held-step (rests count) regions guest place s fits next = plain-line None (rests count) regions guest place s refl fits next
  held-step looks regions guest place s fits next = plain-line None looks regions guest place s refl fits next
  held-step (each_vcpu asked name) regions guest place s fits next = plain-line None (each_vcpu asked name) regions guest place s refl fits next

  -- a line that makes a guest is begun

  free-name : (name : List ℕ) → is_some (slot_of before.dir name) ≡ false → IsFree before.dir name
  free-name name unused slot birth stage unmade is = unused-name before.dir name slot is.entry unused is.at is.called

  claim-own : (name : List ℕ) (regions : List RegionPlan) (todo : List Ask) → SceneStep before after (step.Name (record { name = name })) r c → (n : List ℕ)
      → owned_by (kept (line_after (record { asked = create name; regions = regions; guest = None; place = on [] (claim ∷ todo) }) r c)) ≡ Some n → (None ≡ Some n) ⊎ IsFree before.dir n
  claim-own name regions todo happened n is =
      let it : LineState = record { asked = create name; regions = regions; guest = None; place = on [] (claim ∷ todo) } in
      elim happened.dir [
        | inl claims ↦
            let same : Some name ≡ Some n = kept-owned (line_after it r c) n is in
            inr (subst (IsFree before.dir) (same_Some name n same) (free-name name claims.unused))
        | inr refused ↦ absurd (let never : None ≡ Some n = subst (λ (x : Reply). owned_by (kept (line_after it x c)) ≡ Some n) refused.1 is in cc)
      ]

  claim-step : (name : List ℕ) (regions : List RegionPlan) (count : ℕ) (s : Step) → count ≤ GUEST_VCPUS
      → next_step (record { asked = create name; regions = regions; guest = None; place = on [] (claim ∷ to_make count regions) }) (shown_in s) ≡ Some s
      → Does None (record { asked = create name; regions = regions; guest = None; place = on [] (claim ∷ to_make count regions) }) s
  claim-step name regions count s few next =
      let it : LineState = record { asked = create name; regions = regions; guest = None; place = on [] (claim ∷ to_make count regions) } in
      step-is plans before after ok r c None it (step_of it (shown_in s) claim) s next
      (λ happened goes. record {
        proper = tt;
        fits = fits-claimed plans before after name regions (to_make count regions) (makes-first count regions few) r c slots happened;
        spares = λ slot e there else. tt;
        own = claim-own name regions (to_make count regions) happened;
      })

  -- a line that ends a guest is begun

  unmade-name : (name : List ℕ) (e : Entry) → Stands before.dir name e → e.stage ≡ Made → IsFree before.dir name
  unmade-name name e at made slot birth stage unmade is =
      let here : slot ≡ e.slot = ok.distinct slot e.slot is.entry e is.at at.at (is.called ∙ sym at.called) in
      let same : is.entry ≡ e = same-entry before.dir e.slot is.entry e (subst (λ (n : ℕ). entry_at before.dir n ≡ Some is.entry) here is.at) at.at in
      unmade (sym is.at_stage ∙ ap (λ (x : Entry). x.stage) same ∙ made)

  turn-own : (name : List ℕ) (regions : List RegionPlan) (todo : List Ask) → SceneStep before after (step.Stage (record { name = name; from = Made; to = Some Ending })) r c → (n : List ℕ)
      → owned_by (kept (line_after (record { asked = destroy name; regions = regions; guest = None; place = on [] (turn Made (Some Ending) ∷ todo) }) r c)) ≡ Some n
      → (None ≡ Some n) ⊎ IsFree before.dir n
  turn-own name regions todo happened n is =
      let it : LineState = record { asked = destroy name; regions = regions; guest = None; place = on [] (turn Made (Some Ending) ∷ todo) } in
      elim happened.dir [
        | inl turns ↦
            let same : Some name ≡ Some n = kept-owned (line_after it r c) n is in
            inr (subst (IsFree before.dir) (same_Some name n same) (unmade-name name turns.entry (named-stands before.dir name turns.entry ok turns.of) turns.stage))
        | inr refused ↦ absurd (let never : None ≡ Some n = subst (λ (x : Reply). owned_by (kept (line_after it x c)) ≡ Some n) refused.reply is in cc)
      ]

  turn-step : (name : List ℕ) (regions : List RegionPlan) (count : ℕ) (s : Step) → count ≤ GUEST_VCPUS → regions ≡ regions_of plans name → length (vcpus_of plans name) ≤ count
      → next_step (record { asked = destroy name; regions = regions; guest = None; place = on [] (turn Made (Some Ending) ∷ to_end count regions) }) (shown_in s) ≡ Some s
      → Does None (record { asked = destroy name; regions = regions; guest = None; place = on [] (turn Made (Some Ending) ∷ to_end count regions) }) s
  turn-step name regions count s few by-plan enough next =
      let it : LineState = record { asked = destroy name; regions = regions; guest = None; place = on [] (turn Made (Some Ending) ∷ to_end count regions) } in
      step-is plans before after ok r c None it (step_of it (shown_in s) (turn Made (Some Ending))) s next
      (λ happened goes.
      let both = fits-turned plans before after ok name count regions few by-plan enough r c slots happened in
      record {
        proper = both.0;
        fits = both.1;
        spares = λ slot e there else. inl refl;
        own = turn-own name regions (to_end count regions) happened;
      })

  -- a line as it is begun

  module _ (few : (name : List ℕ) (plan : GuestPlan) → plan_of plans name ≡ Some plan → length plan.vcpus.items ≤ GUEST_VCPUS) where
    create-begun : (name : List ℕ) (s : Step) (o : Option GuestPlan) → plan_of plans name ≡ o → next_step (begun_for (create name) o) (shown_in s) ≡ Some s → Does None (begun_for (create name) o) s
    create-begun name s None is next = claim-step name [] 1 s (omega arith) next
    create-begun name s (Some plan) is next = claim-step name plan.regions.items (length plan.vcpus.items) s (few name plan is) next

    destroy-begun : (name : List ℕ) (s : Step) (o : Option GuestPlan) → plan_of plans name ≡ o → next_step (begun_for (destroy name) o) (shown_in s) ≡ Some s → Does None (begun_for (destroy name) o) s
    destroy-begun name s None is next =
        let none : length (vcpus_of plans name) ≡ 0 = ap (λ (o : Option GuestPlan). length (vcpus_in o)) is in
        turn-step name [] 1 s (omega arith) (sym (ap regions_in is)) (omega (arith, none)) next
    destroy-begun name s (Some plan) is next =
        let same : length (vcpus_of plans name) ≡ length plan.vcpus.items = ap (λ (o : Option GuestPlan). length (vcpus_in o)) is in
        turn-step name plan.regions.items (length plan.vcpus.items) s (few name plan is) (sym (ap regions_in is)) (omega (arith, same)) next

    each-begun : (asked : Change) (name : List ℕ) (s : Step) (o : Option GuestPlan) → next_step (begun_for (each_vcpu asked name) o) (shown_in s) ≡ Some s
        → Does None (begun_for (each_vcpu asked name) o) s
    each-begun asked name s None next = plain-line None (each_vcpu asked name) [] None (on [] (line.steps_of (each_vcpu asked name) 1 [])) s refl (plain-each asked name 1 []) next
    each-begun asked name s (Some plan) next =
        plain-line None (each_vcpu asked name) plan.regions.items None (on [] (line.steps_of (each_vcpu asked name) (length plan.vcpus.items) plan.regions.items)) s refl
        (plain-each asked name (length plan.vcpus.items) plan.regions.items) next

    pub begun-step : (asked : Asked) (s : Step) → next_step (line_of plans asked) (shown_in s) ≡ Some s → Does None (line_of plans asked) s
    begun-step (create name) s next = create-begun name s (plan_of plans name) refl next
    begun-step (destroy name) s next = destroy-begun name s (plan_of plans name) refl next
    begun-step (rests count) s next = plain-line None (rests count) [] None (on [] (line.steps_of (rests count) 1 [])) s refl (plain-rests count 1 []) next
    begun-step looks s next = plain-line None looks [] None (on [] (line.steps_of looks 1 [])) s refl (plain-looks 1 []) next
    begun-step (each_vcpu asked name) s next = each-begun asked name s (plan_of plans name) next
