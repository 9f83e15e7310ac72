-- A VCPU that is there has the birth of the guest that has its slot: it holds at the start, and each event keeps it that
-- adds VCPUs to the guest of their slot, and lets a slot go only once no VCPU of it is there.
use Rattle.std.proofs.Common.{◌≡◌, ℕ, suc, ◌==◌, ◌⊎◌, inl, inr, Bool, true, false, if◌then◌else◌, eq-eqb, eqb-true, refl, sym, ap, subst, ◌∙◌, List, [], ◌∷◌, map}
use Rattle.std.specs.Prelude.{Option, None, Some, Result, Ok, Err}
use Rattle.std.specs.List.{AllByRecursion, list_any}
use Rattle.hv_answer.specs.declared.reply.Reply.{Reply}
use Rattle.hv_dir.specs.Directory.{DirState, guest_at}
use Rattle.hv_dir.specs.declared.refusal.DirRefusal.{DirRefusal}
use Rattle.hv_event.specs.declared.event.ActorId.{ActorId}
use Rattle.hv_event.specs.declared.event.CellId.TheVariants as component
use Rattle.hv_kinds.specs.declared.address.AddressType.TheVariants.{Memory}
use Rattle.hv_kinds.specs.declared.stage.Stage.{Stage}
use Rattle.hv_kinds.specs.declared.state.State.{State as VcpuState}
use Rattle.hv_kinds.specs.declared.state.State.TheVariants.{Running}
use Rattle.hv_laws.proofs.Frame.{after-step, or-false}
use Rattle.hv_laws.proofs.Legal.{cell-becomes, ended-or}
use Rattle.hv_machine.specs.Machine.{MayHappen, State, next_state, state_after, touches}
use Rattle.hv_machine.specs.Machine.{IsRun as IsMachineRun}
use Rattle.hv_model.specs.Cell.{Actor, Component, same_cell}
use Rattle.hv_model.specs.declared.entry.Entry.{Entry}
use Rattle.hv_model.specs.Legal.{begun, booted, first, start}
use Rattle.hv_model.specs.Origin.{Origin}
use Rattle.hv_model.specs.Rules.{machine}
use Rattle.hv_region.specs.declared.window.Window.{Window}
use Rattle.hv_rules.specs.Carry.{Carry}
use Rattle.hv_rules.specs.Dir.{DirAgrees, dir_after}
use Rattle.hv_rules.specs.Footprint.{components}
use Rattle.hv_rules.specs.Hart.{slot_of}
use Rattle.hv_rules.specs.Vcpu.{vcpu_after}
use Rattle.hv_step.specs.declared.step.Step.{Step}
use Rattle.hv_step.specs.declared.step.Step.TheVariants as step
use Rattle.hv_vcpu.specs.Vcpu.{VcpuValue, birth_of, unless_unknown}
use Rattle.hv_window_laws.specs.Guests.{Guests, LeavesNoWindow}
use Rattle.hv_window_laws.specs.Windows.{birth_in}
use Rattle.hv_window_laws.proofs.Births.{Placed, dir-kept, placed-at-start}
use Rattle.hv_order_laws.specs.Orders.{AreVcpusInOrder, IsVcpuInOrder, LeavesNoVcpu}
use Rattle.hv_order_laws.proofs.Births.{Adds, vcpu-birth}
use Rattle.hv_order_laws.proofs.Legal.{legal-in-order}
use Rattle.hv_hart_next.specs.Next.{IsReached}

-- the birth of a VCPU, as a window would have it

abbrev mark : ℕ → Window
mark birth = record { owner = 0; target = 0; birth = birth; kind = Memory; base = 0; size = 0; offset = 0 }

abbrev marks : Option ℕ → List Window
marks None = []
marks (Some birth) = mark birth ∷ []

abbrev IsBorn : DirState → ℕ → Option ℕ → Type 0
IsBorn d slot birth = AllByRecursion (λ (w : Window). birth_in d slot ≡ Some w.birth) (marks birth)

abbrev marked : (slot : ℕ) → Option ℕ → (k : ℕ) → Bool → List Window
marked slot birth k here = if here then marks birth else []

-- guests whose windows are such
abbrev guests_with : DirState → (slot : ℕ) → Option ℕ → Guests
guests_with d slot birth = record {
  dir = d;
  shelf = [];
  spaces = λ k. record { windows = marked slot birth k (k == slot); clock = None };
  bodies = λ k j. None;
}

module _ (d : DirState) (vcpus : ℕ → VcpuValue) (v : ℕ) where
  abbrev own_slot : ℕ
  own_slot = slot_of (suc v)

  abbrev own_birth : Option ℕ
  own_birth = birth_of (vcpus (suc v))

  abbrev fake : Guests
  fake = guests_with d own_slot own_birth

  leaves : (guest : Result (ℕ × ℕ) DirRefusal) (to : Option Stage) → LeavesNoVcpu vcpus guest to → LeavesNoWindow fake guest to
  leaves (Ok guest) None none =
      let Goal : Bool → Type 0 = λ b. (guest.0 == own_slot) ≡ b → marked own_slot own_birth guest.0 b ≡ [] in
      elim (guest.0 == own_slot) as Goal [
        | true ↦ λ is. ap marks (ap (λ (z : VcpuState). unless_unknown z (vcpus (suc v)).birth) (none v (sym (eqb-true guest.0 own_slot is))))
        | false ↦ λ is. refl
      ] refl
  leaves (Ok guest) (Some stage) none = tt
  leaves (Err why) None none = tt
  leaves (Err why) (Some stage) none = tt

  abbrev IsThere : DirState → Bool → Type 0
  IsThere it b = AllByRecursion (λ (w : Window). birth_in it own_slot ≡ Some w.birth) (marked own_slot own_birth own_slot b)

  itself : (own_slot == own_slot) ≡ true
  itself = eq-eqb own_slot own_slot refl

  by-windows : (new : DirState) → (IsThere d (own_slot == own_slot) → IsThere new (own_slot == own_slot)) → IsBorn d own_slot own_birth → IsBorn new own_slot own_birth
  by-windows new kept born = subst (IsThere new) itself (kept (subst (IsThere d) (sym itself) born))

  dir-born : (s : Step) (r : Reply) (c : Carry) → Placed d → IsVcpuInOrder d vcpus s → DirAgrees d s r c → Placed (dir_after d s r c) × (IsBorn d own_slot own_birth → IsBorn (dir_after d s r c) own_slot own_birth)
  dir-born (step.Name s) r c placed order agreed =
      let kept = dir-kept fake (step.Name s) r c placed tt agreed in
      (kept.placed, by-windows (dir_after d (step.Name s) r c) (kept.births own_slot))
  dir-born (step.Stage s) r c placed order agreed =
      let kept = dir-kept fake (step.Stage s) r c placed (leaves (guest_at d s.name s.from) s.to order) agreed in
      (kept.placed, by-windows (dir_after d (step.Stage s) r c) (kept.births own_slot))
  dir-born _ r c placed order agreed = (placed, λ born. born)

-- a VCPU that is added is of the guest in its slot

added-in : (count : ℕ) (d new : DirState) (vcpus : ℕ → VcpuValue) (v : ℕ) (by : ActorId) (s : Step) (r : Reply) (c : Carry) (birth : Option ℕ)
    → list_any (same_cell (Component (component.Vcpu (suc v)))) (Actor by ∷ map Component (components count by s r c)) ≡ true
    → IsVcpuInOrder d vcpus s → (new ≡ d) ⊎ DirAgrees d s r c → Adds s birth → IsBorn new (slot_of (suc v)) birth
added-in count d new vcpus v by (step.Vadd s) r c birth t order (inl same) adds =
    let is : suc v ≡ s.vcpu = eqb-true (suc v) s.vcpu (sym (or-false (suc v == s.vcpu)) ∙ t) in
    let born : birth_in d (slot_of (suc v)) ≡ Some s.birth = subst (λ (z : ℕ). birth_in d (slot_of z) ≡ Some s.birth) (sym is) order in
    subst (λ (b : Option ℕ). IsBorn new (slot_of (suc v)) b) (sym adds) (subst (λ (z : DirState). birth_in z (slot_of (suc v)) ≡ Some s.birth) (sym same) born, tt)
added-in count d new vcpus v by (step.Vadd s) r c birth t order (inr agreed) adds = absurd agreed
added-in count d new vcpus v by _ r c birth t order dir adds = absurd adds

module _ (O : Origin) where
  abbrev dir_of : State (machine O) → DirState
  dir_of s = (s (Component component.Dir)).value

  abbrev vcpus_of : State (machine O) → ℕ → VcpuValue
  vcpus_of s v = (s (Component (component.Vcpu v))).value

  pub record AreBorn (s : State (machine O)) : Type 0 where
    pub placed : Placed (dir_of s)
    pub born : (v : ℕ) → IsBorn (dir_of s) (slot_of (suc v)) (birth_of (vcpus_of s (suc v)))

  module _ (s : State (machine O)) (e : Entry) (may : MayHappen (machine O) s e) (order : IsVcpuInOrder (dir_of s) (vcpus_of s) e.event.step) (J : AreBorn s) where
    abbrev next : State (machine O)
    next = next_state (machine O) s e

    dir-step : (P : DirState → Type 0) → (DirAgrees (dir_of s) e.event.step e.event.reply e.carry → P (dir_after (dir_of s) e.event.step e.event.reply e.carry)) → P (dir_of s) → P (dir_of next)
    dir-step P new old =
        let m = machine O in
        let x = Component component.Dir in
        after-step P (touches m x e) (m.IsAllowedAt x (s x).value e) (m.apply_at x (s x).value e) (s x).value (next x).value (cell-becomes m s e may x) (λ t ok. new ok) (λ t. old)

    turned : (v : ℕ) → IsBorn (dir_of next) (slot_of (suc v)) (birth_of (vcpus_of s (suc v)))
    turned v =
        dir-step (λ (d : DirState). IsBorn d (slot_of (suc v)) (birth_of (vcpus_of s (suc v))))
        (λ ok. (dir-born (dir_of s) (vcpus_of s) v e.event.step e.event.reply e.carry J.placed order ok).1 (J.born v)) (J.born v)

    same-or : (dir_of next ≡ dir_of s) ⊎ DirAgrees (dir_of s) e.event.step e.event.reply e.carry
    same-or = dir-step (λ (d : DirState). (d ≡ dir_of s) ⊎ DirAgrees (dir_of s) e.event.step e.event.reply e.carry) (λ ok. inr ok) (inl refl)

    born-next : (v : ℕ) → IsBorn (dir_of next) (slot_of (suc v)) (birth_of (vcpus_of next (suc v)))
    born-next v =
        let m = machine O in
        let x = Component (component.Vcpu (suc v)) in
        let before = vcpus_of s (suc v) in
        after-step (λ (y : VcpuValue). IsBorn (dir_of next) (slot_of (suc v)) (birth_of y)) (touches m x e) (m.IsAllowedAt x (s x).value e) (m.apply_at x (s x).value e) (s x).value (next x).value
        (cell-becomes m s e may x)
        (λ t ok. elim (vcpu-birth e.event.actor before e.event.step e.event.reply e.carry ok) [
          | inl same ↦ subst (λ (b : Option ℕ). IsBorn (dir_of next) (slot_of (suc v)) b) (sym same) (turned v)
          | inr more ↦ elim more [
            | inl none ↦ subst (λ (b : Option ℕ). IsBorn (dir_of next) (slot_of (suc v)) b) (sym none) tt
            | inr adds ↦ added-in O.opening.harts (dir_of s) (dir_of next) (vcpus_of s) v e.event.actor e.event.step e.event.reply e.carry
                (birth_of (vcpu_after e.event.actor before e.event.step e.event.reply e.carry)) t order same-or adds
          ]
        ])
        (λ t. turned v)

    born-kept : AreBorn next
    born-kept = record {
      placed = dir-step Placed (λ ok. (dir-born (dir_of s) (vcpus_of s) 0 e.event.step e.event.reply e.carry J.placed order ok).0) J.placed;
      born = born-next;
    }

  born-run : (s : State (machine O)) (es : List Entry) → IsMachineRun (machine O) s es → AreVcpusInOrder O s es → AreBorn s → AreBorn (state_after (machine O) s es)
  born-run s [] ran order J = J
  born-run s (e ∷ es) ran order J = born-run (next_state (machine O) s e) es ran.1 order.1 (born-kept s e ran.0 order.0 J)

  born-start : AreBorn (start O)
  born-start = record { placed = placed-at-start; born = λ v. tt }

  born-begun : (boot : List Entry) → AreBorn (booted O boot) → AreBorn (begun O boot)
  born-begun boot J = record { placed = J.placed; born = J.born }

  pub born-reached : (s : State (machine O)) → IsReached O s → AreBorn s
  born-reached s is =
      let order = legal-in-order O is.good is.history s is.leads in
      let leads = is.leads in
      let boot = leads.boot in
      let parts = leads.runs.parts in
      let at-boot : AreBorn (booted O boot) = born-run (start O) boot parts.boot_runs order.0.vcpus born-start in
      elim (ended-or (booted O boot first).value) [
        | inl end ↦ subst AreBorn (sym (leads.state.ended end)) (born-run (begun O boot) leads.later parts.later_runs order.1.vcpus (born-begun boot at-boot))
        | inr open' ↦ subst AreBorn (sym (leads.state.unended open').1) at-boot
      ]

  -- so one that runs is of its guest
  pub running-born : (s : State (machine O)) → AreBorn s → (v h : ℕ) → (vcpus_of s (suc v)).state ≡ Running h → birth_in (dir_of s) (slot_of (suc v)) ≡ Some (vcpus_of s (suc v)).birth
  running-born s J v h is =
      let x = vcpus_of s (suc v) in
      (subst (λ (b : Option ℕ). IsBorn (dir_of s) (slot_of (suc v)) b) (ap (λ (z : VcpuState). unless_unknown z x.birth) is) (J.born v)).0
