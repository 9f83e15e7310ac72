-- A step of a line: it is proper, spares the guests of other lines, and leaves its line where it fits.
use Rattle.std.proofs.Common.{◌≡◌, ℕ, ◌<◌, ◌⊎◌, inl, inr, sym, ap, subst, ◌∙◌, List, [], ◌∷◌, Option, None, Some}
use Rattle.std.proofs.lemmas.Option.{same_Some}
use Rattle.hv_answer.specs.declared.reply.Reply.{Reply}
use Rattle.hv_dir.specs.Directory.{DirState, entry_at}
use Rattle.hv_dir.specs.declared.entry.Entry.{Entry}
use Rattle.hv_kinds.specs.declared.generation.Generation.{Generation}
use Rattle.hv_kinds.specs.declared.stage.Stage.{Stage}
use Rattle.hv_kinds.specs.declared.stage.Stage.TheVariants.{Making, Made, Ending}
use Rattle.hv_model.specs.Plans.{Planned}
use Rattle.hv_model.specs.Session.{kept, kept_for}
use Rattle.hv_model.specs.Shown.{shown_in}
use Rattle.hv_model.specs.Terminal.{Goes}
use Rattle.hv_refusal.specs.declared.refusal.Refusal.{Refusal}
use Rattle.hv_region.specs.declared.plan.RegionPlan.{RegionPlan}
use Rattle.hv_rules.specs.Carry.{Carry}
use Rattle.hv_rules.specs.Hart.{slot_of}
use Rattle.hv_rules.specs.Line.{Ask, LineState, Place, add, add_vcpu, back, claim, create, destroy, drop, drop_vcpu, left, line_after, next_step, on, over, own_vcpu, step_of, turn, undoing}
use Rattle.hv_step.specs.declared.step.Step.{Step}
use Rattle.hv_text.specs.declared.limits.TheConstants.{GUEST_VCPUS}
use Rattle.hv_order_laws.specs.Lines.{AddsRegions, AddsVcpus, AreAdditions, Drops, HasMade}
use Rattle.hv_order_laws.specs.Owners.{CanTurnBack, FitsAs, HasToDrop, IsDirectory, IsGuest, LineFits, Owns, Scene, owned_by, owned_name, rows_of}
use Rattle.hv_order_laws.proofs.Ending as ending
use Rattle.hv_order_laws.proofs.Ending.{AreLed}
use Rattle.hv_order_laws.proofs.Making as making
use Rattle.hv_order_laws.proofs.Making.{kept-fits, slot-of-vcpu}
use Rattle.hv_order_laws.proofs.Steps.{IsProper, SceneStep, Spares, same-entry}

-- a step spares each guest but the one that its line owns
abbrev pub SparesOthers : DirState → (owned : Option (List ℕ)) → Step → Type 0
SparesOthers d owned s = (slot : ℕ) (e : Entry) → entry_at d slot ≡ Some e → (owned ≡ Some e.name → ⊥) → Spares e.name slot s

-- no guest of a name is being made or ended
abbrev pub IsFree : DirState → (name : List ℕ) → Type 0
IsFree d name = (slot birth : ℕ) (stage : Stage) → (stage ≡ Made → ⊥) → IsGuest d name slot birth stage → ⊥

pub record LineStep (plans : List Planned) (before after : Scene) (owned : Option (List ℕ)) (line : Option LineState) (s : Step) (c : Carry) : Type 0 where
  pub proper : IsProper plans before s c
  pub fits : LineFits after plans line
  pub spares : SparesOthers before.dir owned s
  -- what the line owns it owned before, or nobody owned
  pub own : (name : List ℕ) → owned_by line ≡ Some name → (owned ≡ Some name) ⊎ IsFree before.dir name

-- a line that is kept owns what it owned
pub kept-owned : (line : LineState) (name : List ℕ) → owned_by (kept line) ≡ Some name → owned_name line.asked ≡ Some name
kept-owned line name is =
    let Goal : List Ask → Type 0 = λ asks. owned_by (kept_for line asks) ≡ Some name → owned_name line.asked ≡ Some name in
    (elim (left line.place) as Goal [ [] ↦ (λ none. absurd (cc none)) | ask ∷ more ↦ (λ same. same) ]) is

-- a line that is at its end makes no step
pub no-next : (s : Step) → None ≡ Some s → ⊥
no-next s is = cc

module _ (plans : List Planned) (before after : Scene) (ok : IsDirectory before.dir) (r : Reply) (c : Carry) where
  abbrev pub Steps : Option (List ℕ) → LineState → Step → Type 0
  Steps owned line s = SceneStep before after s r c → Goes plans line s r c → LineStep plans before after owned (kept (line_after line r c)) s c

  stays-owned : (line : LineState) (name : List ℕ) → owned_by (kept (line_after line r c)) ≡ Some name → (owned_name line.asked ≡ Some name) ⊎ IsFree before.dir name
  stays-owned line name is = inl (kept-owned (line_after line r c) name is)

  pub step-is : (owned : Option (List ℕ)) (line : LineState) (next s : Step) → Some next ≡ Some s → Steps owned line next → Steps owned line s
  step-is owned line next s is steps = subst (Steps owned line) (same_Some next s is) steps

  -- a line that makes a guest

  module _ (name : List ℕ) (regions : List RegionPlan) (guest : Option (ℕ × ℕ)) where
    abbrev makes : Place → LineState
    makes place = record { asked = create name; regions = regions; guest = guest; place = place }

    abbrev own_name : Option (List ℕ)
    own_name = Some name

    other-name : (e : Entry) → (own_name ≡ Some e.name → ⊥) → name ≡ e.name → ⊥
    other-name e other same = other (ap (λ (n : List ℕ). Some n) same)

    additions-made : (made : List Ask) → AreAdditions made → HasMade made
    additions-made [] are = absurd are
    additions-made (a ∷ made) are = tt

    vcpu-spares : (slot birth : ℕ) (stage : Stage) (index : ℕ) → guest ≡ Some (slot, birth) → index < GUEST_VCPUS → IsGuest before.dir name slot birth stage
        → SparesOthers before.dir own_name (step_of (makes (on [] [])) None (add_vcpu index))
    vcpu-spares slot birth stage index learnt below is other e at else here =
        let in-slot : slot_of (own_vcpu guest index) ≡ slot = ap (λ (g : Option (ℕ × ℕ)). slot_of (own_vcpu g index)) learnt ∙ slot-of-vcpu slot index below in
        let same : is.entry ≡ e = same-entry before.dir other is.entry e (subst (λ (n : ℕ). entry_at before.dir n ≡ Some is.entry) (sym in-slot ∙ here) is.at) at in
        else (ap (λ (n : List ℕ). Some n) (sym is.called ∙ ap (λ (x : Entry). x.name) same))

    add-step : (g : Option Generation) (made todo : List Ask) (row : ℕ) (o : Owns before.dir name guest Making (λ slot. CanTurnBack before (rows_of plans name regions) slot made)) → AddsRegions todo
        → Steps own_name (makes (on made (add row ∷ todo))) (step_of (makes (on made (add row ∷ todo))) g (add row))
    add-step g made todo row o more happened goes =
        let both = making.fits-added plans before after ok name regions o.slot o.birth guest o.learnt r c o.is made todo row g happened goes o.at more in
        record {
          proper = both.0;
          fits = both.1;
          spares = λ slot e at else. inr (other-name e else);
          own = stays-owned (makes (on made (add row ∷ todo)));
        }

    vcpu-step : (g : Option Generation) (made todo : List Ask) (index : ℕ) (slot birth : ℕ) → guest ≡ Some (slot, birth) → IsGuest before.dir name slot birth Making
        → HasMade made → index < GUEST_VCPUS → AddsVcpus todo
        → Steps own_name (makes (on made (add_vcpu index ∷ todo))) (step_of (makes (on made (add_vcpu index ∷ todo))) g (add_vcpu index))
    vcpu-step g made todo index slot birth learnt is has below more happened goes =
        let both = making.fits-vcpu plans before after ok name regions slot birth guest learnt r c is made todo index happened goes has below more in
        record {
          proper = both.0;
          fits = both.1;
          spares = vcpu-spares slot birth Making index learnt below is;
          own = stays-owned (makes (on made (add_vcpu index ∷ todo)));
        }

    made-step : (g : Option Generation) (made todo : List Ask) (from : Stage) (to : Option Stage) (slot birth : ℕ) → guest ≡ Some (slot, birth) → IsGuest before.dir name slot birth Making
        → HasMade made → to ≡ Some Made → todo ≡ []
        → Steps own_name (makes (on made (turn from to ∷ todo))) (step_of (makes (on made (turn from to ∷ todo))) g (turn from to))
    made-step g made todo from to slot birth learnt is has made-is last happened goes =
        let both = making.fits-made plans before after ok name regions slot birth guest learnt r c is made todo from to has made-is last in
        record {
          proper = both.0;
          fits = both.1;
          spares = λ other e at else. inr (other-name e else);
          own = stays-owned (makes (on made (turn from to ∷ todo)));
        }

    vcpus-step : (g : Option Generation) (made todo : List Ask) (ask : Ask) (slot birth : ℕ) → guest ≡ Some (slot, birth) → IsGuest before.dir name slot birth Making
        → HasMade made → AddsVcpus (ask ∷ todo) → Steps own_name (makes (on made (ask ∷ todo))) (step_of (makes (on made (ask ∷ todo))) g ask)
    vcpus-step g made todo (add_vcpu index) slot birth learnt is has adds = vcpu-step g made todo index slot birth learnt is has adds.0 adds.1
    vcpus-step g made todo (turn from to) slot birth learnt is has adds = made-step g made todo from to slot birth learnt is has adds.1 adds.2
    vcpus-step g made todo _ slot birth learnt is has adds = absurd adds

    regions-step : (g : Option Generation) (made todo : List Ask) (ask : Ask) (slot birth : ℕ) → guest ≡ Some (slot, birth) → IsGuest before.dir name slot birth Making
        → CanTurnBack before (rows_of plans name regions) slot made → AddsRegions (ask ∷ todo) → Steps own_name (makes (on made (ask ∷ todo))) (step_of (makes (on made (ask ∷ todo))) g ask)
    regions-step g made todo (add row) slot birth learnt is can adds = add-step g made todo row (record { slot = slot; birth = birth; learnt = learnt; is = is; at = can }) adds
    regions-step g made todo (add_vcpu index) slot birth learnt is can adds = vcpus-step g made todo (add_vcpu index) slot birth learnt is (additions-made made can.asks) adds
    regions-step g made todo (turn from to) slot birth learnt is can adds = vcpus-step g made todo (turn from to) slot birth learnt is (additions-made made can.asks) adds
    regions-step g made todo _ slot birth learnt is can adds = absurd adds

    back-step : (g : Option Generation) (why : Refusal) (made : List Ask) (ask : Ask) (slot birth : ℕ) → guest ≡ Some (slot, birth) → IsGuest before.dir name slot birth Making
        → CanTurnBack before (rows_of plans name regions) slot (ask ∷ made) → AreAdditions (ask ∷ made)
        → Steps own_name (makes (back why (ask ∷ made))) (step_of (makes (back why (ask ∷ made))) g (undoing ask))
    back-step g why made (add row) slot birth learnt is can are happened goes =
        let both = making.fits-dropped plans before after ok name regions slot birth guest learnt r c is why made row g happened goes can in
        record {
          proper = both.0;
          fits = both.1;
          spares = λ other e at else. inr (other-name e else);
          own = stays-owned (makes (back why (add row ∷ made)));
        }
    back-step g why made claim slot birth learnt is can are happened goes =
        let both = making.fits-given-up plans before after ok name regions slot birth guest learnt r c is why made can in
        record {
          proper = both.0;
          fits = both.1;
          spares = λ other e at else. inr (other-name e else);
          own = stays-owned (makes (back why (claim ∷ made)));
        }
    back-step g why made _ slot birth learnt is can are happened goes = absurd are

    pub making-step : (place : Place) (s : Step) → FitsAs before plans (create name) regions guest place → next_step (makes place) (shown_in s) ≡ Some s
        → Steps own_name (makes place) s
    making-step (on made []) s fits next = absurd (no-next s next)
    making-step (on made (ask ∷ todo)) s fits next =
        elim fits.at [
          | inl both ↦ step-is own_name (makes (on made (ask ∷ todo))) (step_of (makes (on made (ask ∷ todo))) (shown_in s) ask) s next
              (regions-step (shown_in s) made todo ask fits.slot fits.birth fits.learnt fits.is both.0 both.1)
          | inr both ↦ step-is own_name (makes (on made (ask ∷ todo))) (step_of (makes (on made (ask ∷ todo))) (shown_in s) ask) s next
              (vcpus-step (shown_in s) made todo ask fits.slot fits.birth fits.learnt fits.is both.0 both.1)
        ]
    making-step (back why []) s fits next = absurd (no-next s next)
    making-step (back why (ask ∷ made)) s fits next =
        step-is own_name (makes (back why (ask ∷ made))) (step_of (makes (back why (ask ∷ made))) (shown_in s) (undoing ask)) s next
        (back-step (shown_in s) why made ask fits.slot fits.birth fits.learnt fits.is fits.at fits.at.asks)
    making-step (over why) s fits next = absurd fits.at

    -- a line that ends a guest

    abbrev ends : Place → LineState
    ends place = record { asked = destroy name; regions = regions; guest = guest; place = place }

    end-step : (g : Option Generation) (made todo : List Ask) (ask : Ask) (slot birth : ℕ) → guest ≡ Some (slot, birth) → IsGuest before.dir name slot birth Ending
        → HasMade made → AreLed (before.windows slot) → HasToDrop before (rows_of plans name regions) slot (ask ∷ todo) → Drops (ask ∷ todo)
        → Steps own_name (ends (on made (ask ∷ todo))) (step_of (ends (on made (ask ∷ todo))) g ask)
    end-step g made todo (drop_vcpu index) slot birth learnt is has led drops are happened goes =
        let both = ending.fits-vcpu plans before after ok name regions slot birth guest learnt r c is made todo index happened has drops in
        record {
          proper = both.0;
          fits = both.1;
          spares = λ other e at else. tt;
          own = stays-owned (ends (on made (drop_vcpu index ∷ todo)));
        }
    end-step g made todo (drop stage row) slot birth learnt is has led drops are happened goes =
        let both = ending.fits-dropped plans before after ok name regions slot birth guest learnt r c is made todo stage row g happened goes has led drops in
        record {
          proper = both.0;
          fits = both.1;
          spares = λ other e at else. inr (other-name e else);
          own = stays-owned (ends (on made (drop stage row ∷ todo)));
        }
    end-step g made todo (turn from to) slot birth learnt is has led drops are happened goes =
        let both = ending.fits-ended plans before after ok name regions slot birth guest learnt r c is made todo from to has drops in
        record {
          proper = both.0;
          fits = both.1;
          spares = λ other e at else. inr (other-name e else);
          own = stays-owned (ends (on made (turn from to ∷ todo)));
        }
    end-step g made todo _ slot birth learnt is has led drops are happened goes = absurd are

    pub ending-step : (place : Place) (s : Step) → ((slot : ℕ) → AreLed (before.windows slot)) → FitsAs before plans (destroy name) regions guest place → next_step (ends place) (shown_in s) ≡ Some s
        → Steps own_name (ends place) s
    ending-step (on made []) s led fits next = absurd (no-next s next)
    ending-step (on made (ask ∷ todo)) s led fits next =
        step-is own_name (ends (on made (ask ∷ todo))) (step_of (ends (on made (ask ∷ todo))) (shown_in s) ask) s next
        (end-step (shown_in s) made todo ask fits.slot fits.birth fits.learnt fits.is fits.at.0 (led fits.slot) fits.at.1 fits.at.1.asks)
    ending-step (back why made) s led fits next = absurd fits.at
    ending-step (over why) s led fits next = absurd fits.at
