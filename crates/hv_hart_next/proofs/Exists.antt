-- A hart that is there has a next event unless it is at its end.
use Rattle.std.proofs.Common.{◌≡◌, ℕ, zero, suc, ◌+◌, ◌==◌, ◌&&◌, not, Bool, true, false, if◌then◌else◌, List, [], ◌∷◌, map, eq-eqb, refl, sym, ap, subst, ◌∙◌, arith}
use Rattle.std.specs.Prelude.{Option, None, Some, option_map, ◌%◌}
use Rattle.std.specs.List.{AllByRecursion, list_all}
use Rattle.hv_answer.specs.declared.reply.Reply.{Reply}
use Rattle.hv_event.specs.declared.event.ActorId.TheVariants.{Hart}
use Rattle.hv_event.specs.declared.event.CellId.{CellId}
use Rattle.hv_event.specs.declared.event.CellId.TheVariants as component
use Rattle.hv_kinds.specs.declared.generation.Generation.{Generation}
use Rattle.hv_laws.specs.Laws.{current_of}
use Rattle.hv_laws.specs.Legal.{board_of}
use Rattle.hv_laws.proofs.Frame.{true-false}
use Rattle.hv_rules.proofs.Slices.{first-signal, is_signal}
use Rattle.hv_laws.proofs.States.{runs-here}
use Rattle.hv_machine.specs.Machine.{MayHappen, State, greatest}
use Rattle.hv_model.specs.Cell.{Component, Actor}
use Rattle.hv_model.specs.declared.entry.Entry.{Entry}
use Rattle.hv_model.specs.Hart.{is_free}
use Rattle.hv_model.specs.Origin.{Origin}
use Rattle.hv_model.specs.Rounds.{has_ended}
use Rattle.hv_model.specs.Rules.{IsAllowedAt, components_of, footprint_of, machine}
use Rattle.hv_rules.specs.Carry.{Carry, Pending}
use Rattle.hv_rules.specs.Hart.{Current, Fits, HartState, owed_row, pending_row, row_of, slot_of, ticks, turn_row, waits_for, with_current}
use Rattle.hv_rules.specs.Vcpu.{runs_on}
use Rattle.hv_step.specs.declared.step.Step.{Step}
use Rattle.hv_text.specs.declared.limits.TheConstants.{SLOTS}
use Rattle.hv_vcpu.specs.Vcpu.{VcpuValue}
use Rattle.hv_window_laws.specs.Windows.{birth_in}
use Rattle.hv_hart_next.specs.Next.{RunningIsOfItsGuest}
use Rattle.hv_hart_next.proofs.Can.{Can, IsReady, row-can}
use Rattle.hv_hart_next.proofs.Kept.{IsSized}
use Rattle.hv_hart_next.proofs.Once.{At, Does}
use Rattle.hv_hart_next.proofs.Owned.{IsOf, Owned, owned-reached}
use Rattle.hv_hart_next.proofs.Reached.{Known}
use Rattle.hv_hart_next.proofs.Turns.{Counts}

module _ (O : Origin) (s : State (machine O)) (known : Known O s) (guests : RunningIsOfItsGuest O s) (h : ℕ) (counts : Counts O.opening.turns (s (Actor (Hart h))).value.program)
    (due : has_ended O s (Hart h) ≡ false) where
  abbrev count : ℕ
  count = O.opening.harts

  abbrev hart : HartState
  hart = (s (Actor (Hart h))).value.program

  abbrev vcpu : ℕ → VcpuValue
  vcpu v = (s (Component (component.Vcpu v))).value

  abbrev born_in : ℕ → Option ℕ
  born_in slot = birth_in (s (Component component.Dir)).value slot

  owned : Owned count (board_of O s)
  owned = owned-reached count (board_of O s) known.board

  -- its row is not the end
  not-ended : hart.owed ≡ [] → hart.pending ≡ None → hart.left ≡ 0 → ⊥
  not-ended owed pending left =
      let made : hart.turns ≡ O.opening.turns = sym (zero-plus hart.turns) ∙ ap (λ (n : ℕ). n + hart.turns) (sym left) ∙ counts.sum in
      let over : has_ended O s (Hart h) ≡ true =
      ap (λ (b : Bool). b && is_free hart.owed hart.pending) (eq-eqb hart.turns O.opening.turns made)
      ∙ ap (λ (steps : List Step). is_free steps hart.pending) owed
      ∙ ap (λ (p : Option (Pending × Generation)). is_free [] p) pending in
      true-false (has_ended O s (Hart h)) over due
    where
      zero-plus : (n : ℕ) → 0 + n ≡ n
      zero-plus n = omega arith

  -- a VCPU that runs here is of its guest
  born-here : (v : ℕ) → runs_on (Hart h) (vcpu (suc v)).state ≡ true → born_in (slot_of (suc v)) ≡ Some (vcpu (suc v)).birth
  born-here v ran = guests v h (runs-here h (vcpu (suc v)).state ran)

  own-born : (v : ℕ) (g : Generation) → IsOf v g (vcpu v) → runs_on (Hart h) (vcpu v).state ≡ true → (born_in g.slot ≡ Some g.birth) × (g.birth ≡ (vcpu v).birth)
  own-born v g is ran =
      let ran-suc = subst (λ (z : ℕ). runs_on (Hart h) (vcpu z).state ≡ true) is.1 ran in
      let born : born_in (slot_of v) ≡ Some (vcpu v).birth = subst (λ (z : ℕ). born_in (slot_of z) ≡ Some (vcpu z).birth) (sym is.1) (born-here is.0 ran-suc) in
      (ap born_in is.2 ∙ born ∙ ap Some (sym is.3), is.3)

  ready-current : (now : Option Current) → IsReady O s h known (with_current now)
  ready-current None = tt
  ready-current (Some k) = λ v is ran. born-here v ran

  ready-turn : hart.owed ≡ [] → hart.pending ≡ None → (left : ℕ) → hart.left ≡ left → IsReady O s h known (turn_row h hart left)
  ready-turn owed pending zero is = absurd (not-ended owed pending is)
  ready-turn owed pending (suc left) is =
      elim ((h == 0) && not hart.ticked) as (λ (b : Bool). IsReady O s h known (if b then ticks (hart.turns % SLOTS) else with_current hart.current)) [
        | true ↦ tt
        | false ↦ ready-current hart.current
      ]

  ready-waits : (p : Pending × Generation) → hart.pending ≡ Some p → (now : Option Current) → hart.current ≡ now → IsReady O s h known (waits_for now p.0 p.1)
  ready-waits p pend None is = tt
  ready-waits p pend (Some k) is = (
    subst IsSized pend (owned.kept.sized h),
    λ ran.
        let cur : current_of hart ≡ Some k.vcpu = ap (λ (now : Option Current). option_map (λ (c : Current). c.vcpu) now) is in
        own-born k.vcpu p.1 (owned.owns h k.vcpu p cur pend (runs-here h (vcpu k.vcpu).state ran)) ran,
  )

  ready-pending : hart.owed ≡ [] → (pending : Option (Pending × Generation)) → hart.pending ≡ pending → IsReady O s h known (pending_row h hart pending)
  ready-pending owed None is = ready-turn owed is hart.left refl
  ready-pending owed (Some p) is = ready-waits p is hart.current refl

  ready-owed : (owed : List Step) → hart.owed ≡ owed → IsReady O s h known (owed_row h hart owed)
  ready-owed [] is = ready-pending is hart.pending refl
  ready-owed (next ∷ later) is =
      first-signal (is_signal next) (list_all is_signal later) (ap (list_all is_signal) (sym is) ∙ owned.kept.currents.owes h)

  can : Can O s h known (λ st c. Fits count (row_of h hart) st c)
  can = row-can O s h known (row_of h hart) (ready-owed hart.owed refl)

  -- and the step is an event
  abbrev made : ℕ → ℕ → Step → Reply → Carry → Entry
  made i n st r c = record { event = record { actor = Hart h; index = i; stamp = n; step = st; reply = r }; carry = c }

  cell-agrees : (i n : ℕ) (st : Step) (r : Reply) (c : Carry) (x : CellId) → At O s h st r c (Component x) → IsAllowedAt (Component x) (s (Component x)).value (made i n st r c)
  cell-agrees i n st r c component.Dir ok = ok
  cell-agrees i n st r c component.Shelf ok = ok
  cell-agrees i n st r c component.Files ok = ok
  cell-agrees i n st r c (component.Space g) ok = ok
  cell-agrees i n st r c (component.Queue q) ok = ok
  cell-agrees i n st r c (component.Vcpu v) ok = ok
  cell-agrees i n st r c (component.Body g j) ok = ok
  cell-agrees i n st r c (component.Area a) ok = ok

  all-agree : (i n : ℕ) (st : Step) (r : Reply) (c : Carry) (xs : List CellId) → AllByRecursion (At O s h st r c) (map Component xs)
      → AllByRecursion (λ x. IsAllowedAt x (s x).value (made i n st r c)) (map Component xs)
  all-agree i n st r c [] ok = tt
  all-agree i n st r c (x ∷ xs) ok = (cell-agrees i n st r c x ok.0, all-agree i n st r c xs ok.1)

  event-of : (st : Step) (r : Reply) (c : Carry) → Fits count (row_of h hart) st c → Does O s h st r c → (e : Entry) × (e.event.actor ≡ Hart h) × MayHappen (machine O) s e
  event-of st r c fits does =
      let i = (s (Actor (Hart h))).value.count + 1 in
      let n = greatest (map (λ x. (s x).stamp) (footprint_of count (made 0 0 st r c))) + 1 in
      let own = subst (λ (z : ℕ). Fits z (row_of h hart) st c) (sym (owned.kept.known h)) fits in (
        made i n st r c,
        refl,
        record {
          agreed = (record { index = refl; step = (own, does.0) }, all-agree i n st r c (components_of count (made i n st r c)) does.1);
          stamped = refl;
        },
      )

  pub hart-exists : (e : Entry) × (e.event.actor ≡ Hart h) × MayHappen (machine O) s e
  hart-exists = let it = can in event-of it.0 it.1 it.2 it.3 it.4
