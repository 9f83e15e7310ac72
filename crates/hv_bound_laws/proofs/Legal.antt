-- Each state that a run from a good opening leads to is within bounds.
use Rattle.std.proofs.Common.{◌≡◌, ℕ, zero, suc, ◌+◌, ◌-◌, ◌*◌, ◌/◌, ◌<◌, ◌≤◌, inl, inr, Bool, true, false, refl, sym, ap, subst, List, [], ◌∷◌, length, arith, is_some, Option, None, Some, option_map}
use Rattle.std.specs.List.{AllByRecursion}
use Rattle.std.specs.Option.{option_flatten}
use Rattle.std.proofs.lemmas.List.Elements.{All-from_recursion}
use Rattle.std.proofs.lemmas.Option.{slice_get_within}
use Rattle.std.proofs.Math.Nat.{lt-mul-div-succ}
use Rattle.hv_body.specs.declared.live.Live.{Live}
use Rattle.hv_dir.specs.Directory.{DirState, entry_at}
use Rattle.hv_dir.specs.declared.entry.Entry.{Entry as Guest}
use Rattle.hv_emu.specs.Device.{DevState}
use Rattle.hv_event.specs.declared.event.CellId.TheVariants as component
use Rattle.hv_kinds.specs.declared.state.State.{State as VcpuState}
use Rattle.hv_kinds.specs.declared.state.State.TheVariants.{Unknown, Reset, Ready, Running, Paused, Halted}
use Rattle.hv_laws.proofs.Legal.{ended-or}
use Rattle.hv_machine.specs.Machine.{IsRun, MayHappen, State, next_state, state_after}
use Rattle.hv_model.specs.Cell.{Component}
use Rattle.hv_model.specs.declared.entry.Entry.{Entry}
use Rattle.hv_model.specs.Legal.{begun, booted, first, reached, start}
use Rattle.hv_model.specs.Origin.{Origin}
use Rattle.hv_model.specs.Plans.{Planned}
use Rattle.hv_model.specs.Rules.{machine}
use Rattle.hv_plan.specs.Rules.{LiesInArea}
use Rattle.hv_region.specs.declared.plan.Form.{Form}
use Rattle.hv_region.specs.declared.plan.Form.TheVariants.{Ram, Rom, Device, Real, Alias}
use Rattle.hv_region.specs.declared.window.Window.{Window}
use Rattle.hv_rules.specs.Body.{index_of}
use Rattle.hv_rules.specs.Hart.{slot_of}
use Rattle.hv_text.specs.declared.limits.TheConstants.{GUEST_REGIONS, SLOTS, VCPUS}
use Rattle.hv_vcpu.specs.Vcpu.{birth_of, unless_unknown}
use Rattle.hv_window_laws.proofs.Runs.{are-windows}
use Rattle.hv_order_laws.specs.Orders.{scene_of}
use Rattle.hv_order_laws.specs.Owners.{IsRowOf, name_at, vcpus_by}
use Rattle.hv_order_laws.proofs.Directory.{stands}
use Rattle.hv_order_laws.proofs.Legal.{IsKnown, begun-known, known-next, starts-known}
use Rattle.hv_order_laws.proofs.Windows.{all-map}
use Rattle.hv_bound_laws.specs.Bounds.{HasArea, IsBounded, LegalHistoriesAreBounded, RunsAreBounded}
use Rattle.hv_bound_laws.specs.Openings.{IsOpeningGood}
use Rattle.hv_bound_laws.proofs.Bodies.{BodyFits}
use Rattle.hv_bound_laws.proofs.Harts.{HartsFit, fit-next, queue-below, starts-fit}
use Rattle.hv_bound_laws.proofs.Plans.{IsRegionGood, lies-within, plans-good, region-good, start-long}
use Rattle.hv_bound_laws.proofs.Steps.{IsKept, kept-next, starts-kept}

-- a VCPU that is there is of a guest in a slot

unknown-by : (state : VcpuState) (birth : ℕ) → is_some (unless_unknown state birth) ≡ false → state ≡ Unknown
unknown-by Unknown birth is = refl
unknown-by Reset birth is = absurd (cc is)
unknown-by Ready birth is = absurd (cc is)
unknown-by (Running hart) birth is = absurd (cc is)
unknown-by (Paused waits) birth is = absurd (cc is)
unknown-by Halted birth is = absurd (cc is)

slot-within : (d : DirState) (slot n : ℕ) (plans : List Planned) → length d.entries ≡ SLOTS → n < vcpus_by plans (name_at d slot) → slot < SLOTS
slot-within d slot n plans long below = by (entry_at d slot) refl
  where
    by : (found : Option Guest) → entry_at d slot ≡ found → slot < SLOTS
    by None at = absurd (let none : vcpus_by plans (name_at d slot) ≡ 0 = ap (λ (o : Option Guest). vcpus_by plans (option_map (λ (guest : Guest). guest.name) o)) at in omega (arith, below, none))
    by (Some guest) at = let within = slice_get_within d.entries slot (Some guest) (stands d slot guest at) in omega (arith, within, long)

few-vcpus : (v : ℕ) → slot_of (suc v) < SLOTS → suc v < VCPUS
few-vcpus v below =
    let less : v < 4 * (v / 4 + 1) = lt-mul-div-succ v {b = 4} (omega arith) in
    let at : (suc v - 1) / 4 ≡ v / 4 = ap (λ (n : ℕ). n / 4) (omega arith) in
    omega (arith, less, at, below)

module _ (O : Origin) (good : IsOpeningGood O) (s : State (machine O)) (k : IsKnown O s) (kept : IsKept O good s) where
  abbrev plans : List Planned
  plans = O.opening.plans

  abbrev windows : (slot : ℕ) → List Window
  windows slot = (s (Component (component.Space slot))).value.windows

  row-below : (name : Option (List ℕ)) (row : ℕ) → IsRowOf plans name row → row < GUEST_REGIONS
  row-below None row is = absurd is
  row-below (Some name) row is = (region-good O.opening.harts O.opening.areas plans good row is.region (record { guest = name; at = is.at })).row_is

  rows-below : (slot : ℕ) → AllByRecursion (λ (w : Window). w.target < GUEST_REGIONS) (windows slot)
  rows-below slot =
      let name = name_at (scene_of O s).dir slot in
      all-map (λ (w : Window). IsRowOf plans name w.target) (λ (w : Window). w.target < GUEST_REGIONS) (windows slot) (λ w is. row-below name w.target is) (k.ordered.slots slot).windows

  body-at : (slot row : ℕ) (live : Live DevState) → (s (Component (component.Body slot row))).value ≡ Some live → BodyFits plans row (Some live)
  body-at slot row live is = subst (BodyFits plans row) is (kept.bodies slot row)

  region-at : (slot row : ℕ) (live : Live DevState) → (s (Component (component.Body slot row))).value ≡ Some live → IsRegionGood O.opening.harts O.opening.areas plans good row live.plan
  region-at slot row live is = region-good O.opening.harts O.opening.areas plans good row live.plan (body-at slot row live is).planned

  has-area : (size : ℕ) (form : Form) → LiesInArea O.opening.areas size form → HasArea O s size form
  has-area size Ram lies = tt
  has-area size Rom lies = tt
  has-area size (Device names) lies = tt
  has-area size (Alias address) lies = tt
  has-area size (Real area offset) lies =
      let long = start-long O area (offset + size) lies in
      let same = kept.lengths area in
      (lies-within O.opening.areas size area offset lies, omega (arith, long, same))

  vcpu-by : (v : ℕ) (b : Bool) → is_some (birth_of (s (Component (component.Vcpu (suc v)))).value) ≡ b → VCPUS ≤ suc v → (s (Component (component.Vcpu (suc v)))).value.state ≡ Unknown
  vcpu-by v false is beyond = unknown-by (s (Component (component.Vcpu (suc v)))).value.state (s (Component (component.Vcpu (suc v)))).value.birth is
  vcpu-by v true is beyond =
      let slot = slot_of (suc v) in
      let below = (k.ordered.slots slot).vcpus v refl is in
      let few = few-vcpus v (slot-within (s (Component component.Dir)).value slot (index_of (suc v)) plans kept.places below) in
      absurd (omega (arith, few, beyond))

  vcpu-at : (vcpu : ℕ) → VCPUS ≤ vcpu → (s (Component (component.Vcpu vcpu))).value.state ≡ Unknown
  vcpu-at zero beyond = absurd (omega (arith, beyond))
  vcpu-at (suc v) beyond = vcpu-by v (is_some (birth_of (s (Component (component.Vcpu (suc v)))).value)) refl beyond

  pub bounded : HartsFit O s → IsBounded O s
  bounded fit = record {
    spaces = λ slot. (kept.spaces slot).within;
    rows = λ slot. All-from_recursion (λ w. w.target < GUEST_REGIONS) (windows slot) (rows-below slot);
    ends = λ slot i d within. ((are-windows (windows slot) (k.guests.slots slot).order).each i d within).range;
    clocks = λ slot. (kept.spaces slot).clock;
    plans = λ slot row live is. (body-at slot row live is).planned;
    areas = λ slot row live is. has-area live.plan.size live.plan.form (region-at slot row live is).lies;
    parents = λ slot row live is. (region-at slot row live is).parent;
    lengths = kept.lengths;
    directory = record {
      long = kept.places;
      placed = λ slot guest at. k.ordered.directory.placed slot guest (ap option_flatten at);
    };
    vcpus = vcpu-at;
    queues = queue-below O good.some_harts s vcpu-at fit;
    currents = fit.currents;
  }

module _ (O : Origin) (good : IsOpeningGood O) where
  -- what is known of a state, what is kept, and what fits the harts
  record IsFit (s : State (machine O)) : Type 0 where
    is : IsKnown O s
    keeps : IsKept O good s
    fits : HartsFit O s

  all-next : (s : State (machine O)) (e : Entry) → MayHappen (machine O) s e → IsFit s → IsFit (next_state (machine O) s e)
  all-next s e may b = record {
    is = known-next O (plans-good O good) s e may b.is;
    keeps = kept-next O good s e may b.is b.keeps;
    fits = fit-next O good.some_harts s (vcpu-at O good s b.is b.keeps) b.fits e may;
  }

  fit-run : (s : State (machine O)) (es : List Entry) → IsRun (machine O) s es → IsFit s → IsFit (state_after (machine O) s es)
  fit-run s [] run b = b
  fit-run s (e ∷ es) run b = fit-run (next_state (machine O) s e) es run.1 (all-next s e run.0 b)

  fit-booted : (boot : List Entry) → IsRun (machine O) (start O) boot → IsFit (booted O boot)
  fit-booted boot run = fit-run (start O) boot run (record { is = starts-known O; keeps = starts-kept O good; fits = starts-fit O })

  fit-begun : (boot : List Entry) → IsFit (booted O boot) → IsFit (begun O boot)
  fit-begun boot b = record {
    is = begun-known O boot b.is;
    keeps = record { spaces = b.keeps.spaces; bodies = b.keeps.bodies; lengths = b.keeps.lengths; places = b.keeps.places };
    fits = record { led = b.fits.led; currents = b.fits.currents };
  }

  fit-bounded : (s : State (machine O)) → IsFit s → IsBounded O s
  fit-bounded s b = bounded O good s b.is b.keeps b.fits

pub runs-bounded : RunsAreBounded
runs-bounded O good boot later one two =
    let b = fit-booted O good boot one in
    (fit-bounded O good (booted O boot) b, fit-bounded O good (reached O boot later) (fit-run O good (begun O boot) later two (fit-begun O good boot b)))

pub legal-bounded : LegalHistoriesAreBounded
legal-bounded O good H s leads =
    let parts = leads.runs.parts in
    let both = runs-bounded O good leads.boot leads.later parts.boot_runs parts.later_runs in
    elim (ended-or (booted O leads.boot first).value) [
      | inl end ↦ subst (IsBounded O) (sym (leads.state.ended end)) both.1
      | inr open' ↦ subst (IsBounded O) (sym (leads.state.unended open').1) both.0
    ]
