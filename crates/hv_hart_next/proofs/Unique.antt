-- A hart has one next event at most.
use Rattle.std.proofs.Common.{◌≡◌, ℕ, zero, suc, ◌+◌, ◌<◌, ◌≤◌, ◌==◌, ◌⊎◌, inl, inr, not, Bool, true, false, if◌then◌else◌, List, [], ◌∷◌, length, map, refl, sym, ap, subst, ◌∙◌}
use Rattle.std.specs.Prelude.{Option, None, Some, ◌&&◌, ◌%◌}
use Rattle.std.specs.List.{AllByRecursion, list_all}
use Rattle.std.proofs.lemmas.Bool.{cases_lt}
use Rattle.std.proofs.lemmas.Option.{same_Some}
use Rattle.hv_answer.specs.declared.reply.Reply.{Reply}
use Rattle.hv_event.specs.declared.event.ActorId.{ActorId}
use Rattle.hv_event.specs.declared.event.ActorId.TheVariants.{Hart}
use Rattle.hv_event.specs.declared.event.CellId.{CellId}
use Rattle.hv_event.specs.declared.event.CellId.TheVariants as component
use Rattle.hv_kinds.specs.declared.access.AccessKind.{AccessKind}
use Rattle.hv_kinds.specs.declared.access.AccessKind.TheVariants as access
use Rattle.hv_kinds.specs.declared.generation.Generation.{Generation}
use Rattle.hv_laws.specs.Legal.{board_of}
use Rattle.hv_laws.proofs.Frame.{true-false}
use Rattle.hv_rules.proofs.Slices.{first-signal, is_signal}
use Rattle.hv_machine.specs.Machine.{State, MayHappen, greatest}
use Rattle.hv_model.specs.Cell.{Component, Actor}
use Rattle.hv_model.specs.declared.entry.Entry.{Entry}
use Rattle.hv_model.specs.Origin.{Origin}
use Rattle.hv_model.specs.Rules.{machine, components_of, footprint_of, IsAllowedAt}
use Rattle.hv_next.proofs.Guests.{both}
use Rattle.hv_rules.specs.Carry.{Carry, Pending, load, store}
use Rattle.hv_rules.specs.Footprint.{all_queues}
use Rattle.hv_rules.specs.Hart.{HartState, Current, Row, owes, waits, ends, ticks, free, runs, waits_for, with_current, turn_row, pending_row, owed_row, row_of, IsAccess, IsPendingFault, FitsPending, FitsFree, FitsRun, FitsCurrent, Fits, slot_of}
use Rattle.hv_rules.specs.Vcpu.{VcpuAgrees, runs_on, AgreesToFault, TakesInterrupt}
use Rattle.hv_step.specs.declared.step.Access.{Access}
use Rattle.hv_step.specs.declared.step.Fault.{Fault}
use Rattle.hv_step.specs.declared.step.Fetch.{Fetch}
use Rattle.hv_step.specs.declared.step.Step.{Step}
use Rattle.hv_step.specs.declared.step.Step.TheVariants as step
use Rattle.hv_text.specs.declared.limits.TheConstants.{SLOTS}
use Rattle.hv_trap.specs.Trap.{chosen}
use Rattle.hv_vcpu.specs.Vcpu.{VcpuValue}
use Rattle.hv_window_laws.specs.Legal.{guests_of}
use Rattle.hv_window_laws.specs.Rows.{MayAccess, MayFault, MayFetch}
use Rattle.hv_window_laws.proofs.Rows.{only-access, access-or-fault, only-fetch, fetch-or-fault}
use Rattle.hv_hart_next.proofs.Reached.{Known, no-step}
use Rattle.hv_hart_next.proofs.Kept.{Kept, kept-reached, IsSized, size_of}
use Rattle.hv_hart_next.proofs.Once.{At, Does, sample-once, pin-once, tick-once, idle-once, dispatch-once, last-agrees, preempt-once, leave-once, take-once, fault-once, balance-once, fetch-once, access-once}

-- what is known of a row
abbrev pub IsKnown : Row → Type 0
IsKnown (owes next) = is_signal next ≡ true
IsKnown (waits vcpu pending generation) = 1 ≤ size_of pending
IsKnown row = Unit {0}

waits-known : (current : Option Current) (pending : Pending) (generation : Generation) → 1 ≤ size_of pending → IsKnown (waits_for current pending generation)
waits-known None pending generation sized = tt
waits-known (Some current) pending generation sized = sized

current-known : (current : Option Current) → IsKnown (with_current current)
current-known None = tt
current-known (Some current) = tt

turn-known : (n : ℕ) (hart : HartState) (left : ℕ) → IsKnown (turn_row n hart left)
turn-known n hart zero = tt
turn-known n hart (suc left) =
    elim ((n == 0) && not hart.ticked) as (λ b. IsKnown (if b then ticks (hart.turns % SLOTS) else with_current hart.current)) [
      | true ↦ tt
      | false ↦ current-known hart.current
    ]

pending-known : (n : ℕ) (hart : HartState) (pending : Option (Pending × Generation)) → IsSized pending → IsKnown (pending_row n hart pending)
pending-known n hart None sized = turn-known n hart hart.left
pending-known n hart (Some pending) sized = waits-known hart.current pending.0 pending.1 sized

pub owed-known : (n : ℕ) (hart : HartState) (owed : List Step) → list_all is_signal owed ≡ true → IsSized hart.pending → IsKnown (owed_row n hart owed)
owed-known n hart [] signals sized = pending-known n hart hart.pending sized
owed-known n hart (next ∷ later) signals sized = first-signal (is_signal next) (list_all is_signal later) signals

-- a pending access, and its fault
access-vcpu : (v : ℕ) (p : Pending) (g : Generation) (x : Access) (c : Carry) → IsAccess v p g x c → x.vcpu ≡ v
access-vcpu v (load address size is_signed register) g x c is = ap (λ (z : Access). z.vcpu) is.0
access-vcpu v (store address size value) g x c is = ap (λ (z : Access). z.vcpu) is.0

access-size : (v : ℕ) (p : Pending) (g : Generation) (x : Access) (c : Carry) → IsAccess v p g x c → x.size ≡ size_of p
access-size v (load address size is_signed register) g x c is = ap (λ (z : Access). z.size) is.0
access-size v (store address size value) g x c is = ap (λ (z : Access). z.size) is.0

access-pending : (v : ℕ) (p : Pending) (g : Generation) (x : Access) (c : Carry) → IsAccess v p g x c → c.pending ≡ Some p
access-pending v (load address size is_signed register) g x c is = is.1
access-pending v (store address size value) g x c is = is.1

access-row : (v : ℕ) (p : Pending) (g : Generation) (x y : Access) (c d : Carry) → IsAccess v p g x c → IsAccess v p g y d → y ≡ record x { row = y.row }
access-row v (load address size is_signed register) g x y c d is was = was.0 ∙ sym (ap (λ (z : Access). record z { row = y.row }) is.0)
access-row v (store address size value) g x y c d is was = was.0 ∙ sym (ap (λ (z : Access). record z { row = y.row }) is.0)

abbrev fault_of : ℕ → Pending → Generation → Fault
fault_of v (load address size is_signed register) g = record { vcpu = v; address = address; size = size; access = access.Read; generation = g }
fault_of v (store address size value) g = record { vcpu = v; address = address; size = size; access = access.Write; generation = g }

fault-is : (v : ℕ) (p : Pending) (g : Generation) (x : Fault) → IsPendingFault v p g x → x ≡ fault_of v p g
fault-is v (load address size is_signed register) g x is = is
fault-is v (store address size value) g x is = is

fault-vcpu : (v : ℕ) (p : Pending) (g : Generation) (x : Fault) → IsPendingFault v p g x → x.vcpu ≡ v
fault-vcpu v (load address size is_signed register) g x is = ap (λ (z : Fault). z.vcpu) is
fault-vcpu v (store address size value) g x is = ap (λ (z : Fault). z.vcpu) is

fault-access : (v : ℕ) (p : Pending) (g : Generation) (f : Fault) (x : Access) (c : Carry) → IsPendingFault v p g f → IsAccess v p g x c
    → (f.generation.slot ≡ x.generation.slot) × (f.address ≡ x.address) × (f.size ≡ x.size)
fault-access v (load address size is_signed register) g f x c is was = (
  ap (λ (z : Fault). z.generation.slot) is ∙ sym (ap (λ (z : Access). z.generation.slot) was.0),
  ap (λ (z : Fault). z.address) is ∙ sym (ap (λ (z : Access). z.address) was.0),
  ap (λ (z : Fault). z.size) is ∙ sym (ap (λ (z : Access). z.size) was.0),
)
fault-access v (store address size value) g f x c is was = (
  ap (λ (z : Fault). z.generation.slot) is ∙ sym (ap (λ (z : Access). z.generation.slot) was.0),
  ap (λ (z : Fault). z.address) is ∙ sym (ap (λ (z : Access). z.address) was.0),
  ap (λ (z : Fault). z.size) is ∙ sym (ap (λ (z : Access). z.size) was.0),
)

some-none : {A : Type 0} (o : Option A) (x : A) → o ≡ Some x → o ≡ None → ⊥
some-none o x p q = cc

module _ (O : Origin) (s : State (machine O)) (h : ℕ) (known : Known O s) where
  abbrev count : ℕ
  count = O.opening.harts

  abbrev vcpu : ℕ → VcpuValue
  vcpu v = (s (Component (component.Vcpu v))).value

  -- two steps are one, with one answer
  abbrev Same : Step → Step → Reply → Reply → Carry → Carry → Type 0
  Same st su r q c d = (st ≡ su) × (r ≡ q) × (c ≡ d)

  abbrev Once : Step → Type 0
  Once t = (r q : Reply) (c d : Carry) → Does O s h t r c → Does O s h t q d → (r ≡ q) × (c ≡ d)

  to-one : (t st su : Step) (r q : Reply) (c d : Carry) → st ≡ t → su ≡ t → Once t → Does O s h st r c → Does O s h su q d → Same st su r q c d
  to-one t st su r q c d is was once a b =
      let same = once r q c d (subst (λ (z : Step). Does O s h z r c) is a) (subst (λ (z : Step). Does O s h z q d) was b) in
      (is ∙ sym was, same.0, same.1)

  -- an owed step
  signal-once : (t : Step) → is_signal t ≡ true → Once t
  signal-once (step.Sample x) signal = λ r q c d a b. sample-once O s h x.row x.parent x.source x.generation r q c d a b
  signal-once (step.Pin x) signal = λ r q c d a b. pin-once O s h x.row x.vcpu x.generation r q c d a b
  signal-once _ signal = absurd (cc)

  -- whether the VCPU runs here
  abbrev Runs : ℕ → Bool → Type 0
  Runs v b = runs_on (Hart h) (vcpu v).state ≡ b

  apart : {A : Type 0} (v : ℕ) → Runs v true → Runs v false → A
  apart v is isnt = absurd (true-false (runs_on (Hart h) (vcpu v).state) is isnt)

  leave-runs : (v : ℕ) (x : ℕ) (r : Reply) (c : Carry) → x ≡ v → Does O s h (step.Leave (record { vcpu = x })) r c → Runs v false
  leave-runs v x r c is does = subst (λ (z : ℕ). Runs z false) is does.1.0.0

  leave-pair : (v x y : ℕ) (r q : Reply) (c d : Carry) → x ≡ v → y ≡ v → Does O s h (step.Leave (record { vcpu = x })) r c → Does O s h (step.Leave (record { vcpu = y })) q d
      → Same (step.Leave (record { vcpu = x })) (step.Leave (record { vcpu = y })) r q c d
  leave-pair v x y r q c d is was a b =
      let leave : ℕ → Step = λ z. step.Leave (record { vcpu = z }) in
      to-one (leave v) (leave x) (leave y) r q c d (ap leave is) (ap leave was) (λ r q c d a b. leave-once O s h v r q c d a b) a b

  -- while an access is pending
  module _ (v : ℕ) (p : Pending) (g : Generation) (sized : 1 ≤ size_of p) where
    access-runs : (x : Access) (r : Reply) (c : Carry) → IsAccess v p g x c → Does O s h (step.Access x) r c → Runs v true
    access-runs x r c is does = subst (λ (z : ℕ). Runs z true) (access-vcpu v p g x c is) does.1.0.0

    fault-runs : (x : Fault) (r : Reply) (c : Carry) → IsPendingFault v p g x → Does O s h (step.Fault x) r c → Runs v true
    fault-runs x r c is does = subst (λ (z : ℕ). Runs z true) (fault-vcpu v p g x is) does.1.1.0.0

    has-size : (x : Access) (c : Carry) → IsAccess v p g x c → 1 ≤ x.size
    has-size x c is = subst (λ (n : ℕ). 1 ≤ n) (sym (access-size v p g x c is)) sized

    accesses : (x y : Access) (r q : Reply) (c d : Carry) → IsAccess v p g x c → IsAccess v p g y d → Does O s h (step.Access x) r c → Does O s h (step.Access y) q d
        → Same (step.Access x) (step.Access y) r q c d
    accesses x y r q c d is was a b =
        let one : MayAccess (guests_of O s) x = record { reply = r; carry = c; body = a.1.1.0 } in
        let other : MayAccess (guests_of O s) y = record { reply = q; carry = d; body = b.1.1.0 } in
        let same : x ≡ y = only-access count (guests_of O s) known.guests x y (has-size x c is) (access-row v p g x y c d is was) one other in
        let pending : c.pending ≡ d.pending = both (access-pending v p g x c is) (access-pending v p g y d was) in
        let answers = access-once O s h x r q c d pending a (subst (λ (z : Access). Does O s h (step.Access z) q d) (sym same) b) in
        (ap step.Access same, answers.0, answers.1)

    not-both : (x : Access) (f : Fault) (r q : Reply) (c d : Carry) → IsAccess v p g x c → IsPendingFault v p g f → Does O s h (step.Access x) r c → Does O s h (step.Fault f) q d → ⊥
    not-both x f r q c d is was a b =
        let one : MayAccess (guests_of O s) x = record { reply = r; carry = c; body = a.1.1.0 } in
        let other : MayFault (guests_of O s) f = record { reply = q; carry = d; space = b.1.0 } in
        let parts = fault-access v p g f x c was is in
        access-or-fault count (guests_of O s) known.guests x f (has-size x c is) parts.0 parts.1 parts.2 one other

    leave-with : (x : ℕ) (su : Step) (r q : Reply) (c d : Carry) → x ≡ v → FitsPending v p g su d → Does O s h (step.Leave (record { vcpu = x })) r c → Does O s h su q d
        → Same (step.Leave (record { vcpu = x })) su r q c d
    leave-with x (step.Leave y) r q c d is was a b = leave-pair v x y.vcpu r q c d is was a b
    leave-with x (step.Access y) r q c d is was a b = apart v (access-runs y q d was b) (leave-runs v x r c is a)
    leave-with x (step.Fault y) r q c d is was a b = apart v (fault-runs y q d was b) (leave-runs v x r c is a)
    leave-with x _ r q c d is was a b = absurd was

    access-with : (x : Access) (su : Step) (r q : Reply) (c d : Carry) → IsAccess v p g x c → FitsPending v p g su d → Does O s h (step.Access x) r c → Does O s h su q d
        → Same (step.Access x) su r q c d
    access-with x (step.Leave y) r q c d is was a b = apart v (access-runs x r c is a) (leave-runs v y.vcpu q d was b)
    access-with x (step.Access y) r q c d is was a b = accesses x y r q c d is was a b
    access-with x (step.Fault y) r q c d is was a b = absurd (not-both x y r q c d is was a b)
    access-with x _ r q c d is was a b = absurd was

    fault-with : (x : Fault) (su : Step) (r q : Reply) (c d : Carry) → IsPendingFault v p g x → FitsPending v p g su d → Does O s h (step.Fault x) r c → Does O s h su q d
        → Same (step.Fault x) su r q c d
    fault-with x (step.Leave y) r q c d is was a b = apart v (fault-runs x r c is a) (leave-runs v y.vcpu q d was b)
    fault-with x (step.Access y) r q c d is was a b = absurd (not-both y x q r d c was is b a)
    fault-with x (step.Fault y) r q c d is was a b =
        let it = fault_of v p g in
        to-one (step.Fault it) (step.Fault x) (step.Fault y) r q c d (ap step.Fault (fault-is v p g x is)) (ap step.Fault (fault-is v p g y was)) (λ r q c d a b. fault-once O s h it r q c d a b) a b
    fault-with x _ r q c d is was a b = absurd was

    waits-pair : (st su : Step) (r q : Reply) (c d : Carry) → FitsPending v p g st c → FitsPending v p g su d → Does O s h st r c → Does O s h su q d → Same st su r q c d
    waits-pair (step.Leave x) su r q c d is was a b = leave-with x.vcpu su r q c d is was a b
    waits-pair (step.Access x) su r q c d is was a b = access-with x su r q c d is was a b
    waits-pair (step.Fault x) su r q c d is was a b = fault-with x su r q c d is was a b
    waits-pair _ su r q c d is was a b = absurd is

  -- without a VCPU
  dispatch-with : (x : ℕ) (su : Step) (r q : Reply) (c d : Carry) → FitsFree su → Does O s h (step.Dispatch (record { vcpu = x })) r c → Does O s h su q d
      → Same (step.Dispatch (record { vcpu = x })) su r q c d
  dispatch-with x (step.Dispatch y) r q c d was a b =
      let dispatch : ℕ → Step = λ z. step.Dispatch (record { vcpu = z }) in
      let same : y.vcpu ≡ x = same_Some y.vcpu x (sym b.1.0 ∙ a.1.0) in
      to-one (dispatch x) (dispatch x) (dispatch y.vcpu) r q c d refl (ap dispatch same) (λ r q c d a b. dispatch-once O s h x r q c d a b) a b
  dispatch-with x (step.Idle y) r q c d was a b = absurd (some-none _ x a.1.0 b.1.0.0)
  dispatch-with x _ r q c d was a b = absurd was

  idle-with : (su : Step) (r q : Reply) (c d : Carry) → FitsFree su → Does O s h (step.Idle (record {})) r c → Does O s h su q d → Same (step.Idle (record {})) su r q c d
  idle-with (step.Dispatch y) r q c d was a b = absurd (some-none _ y.vcpu b.1.0 a.1.0.0)
  idle-with (step.Idle y) r q c d was a b = to-one (step.Idle (record {})) (step.Idle (record {})) (step.Idle y) r q c d refl refl (λ r q c d a b. idle-once O s h r q c d a b) a b
  idle-with _ r q c d was a b = absurd was

  free-pair : (st su : Step) (r q : Reply) (c d : Carry) → FitsFree st → FitsFree su → Does O s h st r c → Does O s h su q d → Same st su r q c d
  free-pair (step.Dispatch x) su r q c d is was a b = dispatch-with x.vcpu su r q c d was a b
  free-pair (step.Idle x) su r q c d is was a b = idle-with su r q c d was a b
  free-pair _ su r q c d is was a b = absurd is

  -- with slice left
  module _ (v : ℕ) where
    abbrev here : VcpuValue
    here = vcpu (suc v)

    abbrev Fetches : Fetch → Type 0
    Fetches x = (x.vcpu ≡ suc v) × (x.generation.slot ≡ slot_of (suc v))

    abbrev Faults : Fault → Type 0
    Faults x = (x.vcpu ≡ suc v) × (x.generation.slot ≡ slot_of (suc v)) × (x.size ≡ 4) × (x.access ≡ access.Execute)

    fetch-agrees : (x : Fetch) (r : Reply) (c : Carry) → Fetches x → Does O s h (step.Fetch x) r c → VcpuAgrees (Hart h) here (step.Fetch x) r c
    fetch-agrees x r c is does = subst (λ (z : ℕ). VcpuAgrees (Hart h) (vcpu z) (step.Fetch x) r c) is.0 does.1.0

    may-fetch : (x : Fetch) (r : Reply) (c : Carry) → Fetches x → Does O s h (step.Fetch x) r c → MayFetch (guests_of O s) (Hart h) here x
    may-fetch x r c is does = record { reply = r; carry = c; vcpu = fetch-agrees x r c is does; body = does.1.1.0 }

    -- the fault of an instruction is at the pc, where no interrupt can be taken
    fault-agrees : (x : Fault) (r : Reply) (c : Carry) → Faults x → Does O s h (step.Fault x) r c
        → (x.generation.birth ≡ here.birth) × (x.address ≡ here.context.pc) × (chosen here.context ≡ None)
    fault-agrees x r c is does =
        let agreed = subst (λ (z : ℕ). VcpuAgrees (Hart h) (vcpu z) (step.Fault x) r c) is.0 does.1.1.0 in
        let at = subst (λ (z : AccessKind). AgreesToFault here z x.address) is.3 agreed.2 in
        (agreed.1, at.0, at.1)

    take-never : (x : ℕ) (r : Reply) (c : Carry) → x ≡ suc v → Does O s h (step.Take (record { vcpu = x })) r c → chosen here.context ≡ None → ⊥
    take-never x r c is does none =
        let taken : TakesInterrupt (chosen here.context) r = subst (λ (z : ℕ). TakesInterrupt (chosen (vcpu z).context) r) is does.1.0.1 in
        subst (λ (z : Option ℕ). TakesInterrupt z r) none taken

    never-both : (x : Fetch) (f : Fault) (r q : Reply) (c d : Carry) → Fetches x → Faults f → Does O s h (step.Fetch x) r c → Does O s h (step.Fault f) q d → ⊥
    never-both x f r q c d is was a b =
        let fails : MayFault (guests_of O s) f = record { reply = q; carry = d; space = b.1.0 } in
        fetch-or-fault count (guests_of O s) known.guests (Hart h) here x f (both was.1 is.1) (fault-agrees f q d was b).1 was.2 (may-fetch x r c is a) fails

    take-with : (x : ℕ) (su : Step) (r q : Reply) (c d : Carry) → x ≡ suc v → FitsRun count (suc v) su d → Does O s h (step.Take (record { vcpu = x })) r c → Does O s h su q d
        → Same (step.Take (record { vcpu = x })) su r q c d
    take-with x (step.Take y) r q c d is was a b =
        let take : ℕ → Step = λ z. step.Take (record { vcpu = z }) in
        to-one (take (suc v)) (take x) (take y.vcpu) r q c d (ap take is) (ap take was) (λ r q c d a b. take-once O s h (suc v) r q c d a b) a b
    take-with x (step.Fetch y) r q c d is was a b = absurd (take-never x r c is a (fetch-agrees y q d was b).1)
    take-with x (step.Fault y) r q c d is was a b = absurd (take-never x r c is a (fault-agrees y q d was b).2)
    take-with x _ r q c d is was a b = absurd was

    fetch-with : (x : Fetch) (su : Step) (r q : Reply) (c d : Carry) → Fetches x → FitsRun count (suc v) su d → Does O s h (step.Fetch x) r c → Does O s h su q d
        → Same (step.Fetch x) su r q c d
    fetch-with x (step.Take y) r q c d is was a b = absurd (take-never y.vcpu q d was b (fetch-agrees x r c is a).1)
    fetch-with x (step.Fetch y) r q c d is was a b =
        let same : x ≡ y =
        only-fetch count (guests_of O s) known.guests (Hart h) here x y (both is.0 was.0) (both is.1 was.1) (may-fetch x r c is a) (may-fetch y q d was b) in
        let answers = fetch-once O s h x r q c d a (subst (λ (z : Fetch). Does O s h (step.Fetch z) q d) (sym same) b) in
        (ap step.Fetch same, answers.0, answers.1)
    fetch-with x (step.Fault y) r q c d is was a b = absurd (never-both x y r q c d is was a b)
    fetch-with x _ r q c d is was a b = absurd was

    execute-with : (x : Fault) (su : Step) (r q : Reply) (c d : Carry) → Faults x → FitsRun count (suc v) su d → Does O s h (step.Fault x) r c → Does O s h su q d
        → Same (step.Fault x) su r q c d
    execute-with x (step.Take y) r q c d is was a b = absurd (take-never y.vcpu q d was b (fault-agrees x r c is a).2)
    execute-with x (step.Fetch y) r q c d is was a b = absurd (never-both y x q r d c was is b a)
    execute-with x (step.Fault y) r q c d is was a b =
        let one = fault-agrees x r c is a in
        let other = fault-agrees y q d was b in
        let same : x ≡ y = λ i. record {
          vcpu = both is.0 was.0 i;
          address = both one.1 other.1 i;
          size = both is.2 was.2 i;
          access = both is.3 was.3 i;
          generation = record { slot = both is.1 was.1 i; birth = both one.0 other.0 i };
        } in
        let answers = fault-once O s h x r q c d a (subst (λ (z : Fault). Does O s h (step.Fault z) q d) (sym same) b) in
        (ap step.Fault same, answers.0, answers.1)
    execute-with x _ r q c d is was a b = absurd was

    run-pair : (st su : Step) (r q : Reply) (c d : Carry) → FitsRun count (suc v) st c → FitsRun count (suc v) su d → Does O s h st r c → Does O s h su q d → Same st su r q c d
    run-pair (step.Take x) su r q c d is was a b = take-with x.vcpu su r q c d is was a b
    run-pair (step.Fetch x) su r q c d is was a b = fetch-with x su r q c d is was a b
    run-pair (step.Fault x) su r q c d is was a b = execute-with x su r q c d is was a b
    run-pair _ su r q c d is was a b = absurd is

  module _ (there : h < O.opening.harts) where
    balance-with : (su : Step) (r q : Reply) (c d : Carry) → length c.lengths ≡ count → FitsRun count zero su d → Does O s h (step.Balance (record {})) r c → Does O s h su q d
        → Same (step.Balance (record {})) su r q c d
    balance-with (step.Balance y) r q c d many was a b =
        let same = balance-once O s h there r q c d many was a b in
        (refl, same.0, same.1)
    balance-with _ r q c d many was a b = absurd was

    orphan-pair : (st su : Step) (r q : Reply) (c d : Carry) → FitsRun count zero st c → FitsRun count zero su d → Does O s h st r c → Does O s h su q d → Same st su r q c d
    orphan-pair (step.Balance x) su r q c d is was a b = balance-with su r q c d is was a b
    orphan-pair _ su r q c d is was a b = absurd is

    vcpu-pair : (v : ℕ) (st su : Step) (r q : Reply) (c d : Carry) → FitsRun count v st c → FitsRun count v su d → Does O s h st r c → Does O s h su q d → Same st su r q c d
    vcpu-pair zero st su r q c d is was a b = orphan-pair st su r q c d is was a b
    vcpu-pair (suc v) st su r q c d is was a b = run-pair v st su r q c d is was a b

    -- a step of a VCPU is made where it runs here
    last-vcpu : (r : Reply) (c : Carry) → Does O s h (step.Balance (record {})) r c → Runs 0 true
    last-vcpu r c does = last-agrees (At O s h (step.Balance (record {})) r c) (all_queues count) (component.Vcpu 0) does.1

    orphan-runs : (st : Step) (r : Reply) (c : Carry) → FitsRun count zero st c → Does O s h st r c → Runs zero true
    orphan-runs (step.Balance x) r c is a = last-vcpu r c a
    orphan-runs _ r c is a = absurd is

    suc-runs : (v : ℕ) (st : Step) (r : Reply) (c : Carry) → FitsRun count (suc v) st c → Does O s h st r c → Runs (suc v) true
    suc-runs v (step.Take x) r c is a = subst (λ (z : ℕ). Runs z true) is a.1.0.0
    suc-runs v (step.Fetch x) r c is a = (fetch-agrees v x r c is a).0
    suc-runs v (step.Fault x) r c is a = subst (λ (z : ℕ). Runs z true) is.0 a.1.1.0.0
    suc-runs v _ r c is a = absurd is

    run-runs : (v : ℕ) (st : Step) (r : Reply) (c : Carry) → FitsRun count v st c → Does O s h st r c → Runs v true
    run-runs zero st r c is a = orphan-runs st r c is a
    run-runs (suc v) st r c is a = suc-runs v st r c is a

    module _ (k : Current) where
      preempt-runs : (x : ℕ) (r : Reply) (c : Carry) → x ≡ k.vcpu → Does O s h (step.Preempt (record { vcpu = x })) r c → Runs k.vcpu true
      preempt-runs x r c is a = subst (λ (z : ℕ). Runs z true) is a.1.1.0.0

      leave-run : (x : ℕ) (su : Step) (r q : Reply) (c d : Carry) → x ≡ k.vcpu → FitsCurrent count k su d → Does O s h (step.Leave (record { vcpu = x })) r c → Does O s h su q d
          → Same (step.Leave (record { vcpu = x })) su r q c d
      leave-run x (step.Leave y) r q c d is was a b = leave-pair k.vcpu x y.vcpu r q c d is was a b
      leave-run x (step.Preempt y) r q c d is was a b = apart k.vcpu (preempt-runs y.vcpu q d was.0 b) (leave-runs k.vcpu x r c is a)
      leave-run x su r q c d is was a b = apart k.vcpu (run-runs k.vcpu su q d was.1 b) (leave-runs k.vcpu x r c is a)

      preempt-run : (x : ℕ) (su : Step) (r q : Reply) (c d : Carry) → x ≡ k.vcpu → (k.used == k.slice) ≡ true → FitsCurrent count k su d
          → Does O s h (step.Preempt (record { vcpu = x })) r c → Does O s h su q d → Same (step.Preempt (record { vcpu = x })) su r q c d
      preempt-run x (step.Leave y) r q c d is spent was a b = apart k.vcpu (preempt-runs x r c is a) (leave-runs k.vcpu y.vcpu q d was b)
      preempt-run x (step.Preempt y) r q c d is spent was a b =
          let preempt : ℕ → Step = λ z. step.Preempt (record { vcpu = z }) in
          to-one (preempt k.vcpu) (preempt x) (preempt y.vcpu) r q c d (ap preempt is) (ap preempt was.0) (λ r q c d a b. preempt-once O s h k.vcpu r q c d a b) a b
      preempt-run x su r q c d is spent was a b = absurd (true-false (k.used == k.slice) spent was.0)

      other-run : (st su : Step) (r q : Reply) (c d : Carry) → (k.used == k.slice) ≡ false → FitsRun count k.vcpu st c → FitsCurrent count k su d
          → Does O s h st r c → Does O s h su q d → Same st su r q c d
      other-run st (step.Leave y) r q c d left is was a b = apart k.vcpu (run-runs k.vcpu st r c is a) (leave-runs k.vcpu y.vcpu q d was b)
      other-run st (step.Preempt y) r q c d left is was a b = absurd (true-false (k.used == k.slice) was.1 left)
      other-run st su r q c d left is was a b = vcpu-pair k.vcpu st su r q c d is was.1 a b

      current-pair : (st su : Step) (r q : Reply) (c d : Carry) → FitsCurrent count k st c → FitsCurrent count k su d → Does O s h st r c → Does O s h su q d → Same st su r q c d
      current-pair (step.Leave x) su r q c d is was a b = leave-run x.vcpu su r q c d is was a b
      current-pair (step.Preempt x) su r q c d is was a b = preempt-run x.vcpu su r q c d is.0 is.1 was a b
      current-pair st su r q c d is was a b = other-run st su r q c d is.0 is.1 was a b

    row-pair : (row : Row) (st su : Step) (r q : Reply) (c d : Carry) → IsKnown row → Fits count row st c → Fits count row su d → Does O s h st r c → Does O s h su q d
        → Same st su r q c d
    row-pair (owes next) st su r q c d is fits too a b = to-one next st su r q c d fits too (signal-once next is) a b
    row-pair (waits v p g) st su r q c d is fits too a b = waits-pair v p g is st su r q c d fits too a b
    row-pair ends st su r q c d is fits too a b = absurd fits
    row-pair (ticks slot) st su r q c d is fits too a b =
        to-one (step.Tick (record { slot = slot })) st su r q c d fits too (λ r q c d a b. tick-once O s h slot r q c d a b) a b
    row-pair free st su r q c d is fits too a b = free-pair st su r q c d fits too a b
    row-pair (runs k) st su r q c d is fits too a b = current-pair k st su r q c d fits too a b

  -- events by their parts
  abbrev made : ℕ → ℕ → Step → Reply → Carry → Entry
  made i n st r c = record { event = record { actor = Hart h; index = i; stamp = n; step = st; reply = r }; carry = c }

  abbrev May : ℕ → ℕ → Step → Reply → Carry → Type 0
  May i n st r c = MayHappen (machine O) s (made i n st r c)

  abbrev hart : HartState
  hart = (s (Actor (Hart h))).value.program

  cell-agreed : (i n : ℕ) (st : Step) (r : Reply) (c : Carry) (x : CellId) → IsAllowedAt (Component x) (s (Component x)).value (made i n st r c) → At O s h st r c (Component x)
  cell-agreed i n st r c component.Dir ok = ok
  cell-agreed i n st r c component.Shelf ok = ok
  cell-agreed i n st r c component.Files ok = ok
  cell-agreed i n st r c (component.Space g) ok = ok
  cell-agreed i n st r c (component.Queue q) ok = ok
  cell-agreed i n st r c (component.Vcpu v) ok = ok
  cell-agreed i n st r c (component.Body g j) ok = ok
  cell-agreed i n st r c (component.Area a) ok = ok

  all-agreed : (i n : ℕ) (st : Step) (r : Reply) (c : Carry) (xs : List CellId) → AllByRecursion (λ x. IsAllowedAt x (s x).value (made i n st r c)) (map Component xs)
      → AllByRecursion (At O s h st r c) (map Component xs)
  all-agreed i n st r c [] ok = tt
  all-agreed i n st r c (x ∷ xs) ok = (cell-agreed i n st r c x ok.0, all-agreed i n st r c xs ok.1)

  does : (i n : ℕ) (st : Step) (r : Reply) (c : Carry) → May i n st r c → Does O s h st r c
  does i n st r c may = (may.agreed.0.step.1, all-agreed i n st r c (components_of count (made i n st r c)) may.agreed.1)

  kept : Kept count (board_of O s)
  kept = kept-reached count (board_of O s) known.board

  is-there : (i n : ℕ) (st : Step) (r : Reply) (c : Carry) → May i n st r c → h < count
  is-there i n st r c may =
      let place : (h < count) ⊎ (count ≤ h) = cases_lt h count in
      elim place [
        | inl below ↦ below
        | inr out ↦ absurd (no-step O h hart st c out (known.rests h out) may.agreed.0.step)
      ]

  fits : (i n : ℕ) (st : Step) (r : Reply) (c : Carry) → May i n st r c → Fits count (row_of h hart) st c
  fits i n st r c may = subst (λ (z : ℕ). Fits z (row_of h hart) st c) (kept.known h) may.agreed.0.step.0

  answers : (i n j m : ℕ) (st su : Step) (r q : Reply) (c d : Carry) → May i n st r c → May j m su q d → Same st su r q c d
  answers i n j m st su r q c d a b =
      row-pair (is-there i n st r c a) (row_of h hart) st su r q c d (owed-known h hart hart.owed (kept.currents.owes h) (kept.sized h))
      (fits i n st r c a) (fits j m su q d b) (does i n st r c a) (does j m su q d b)

  abbrev next_stamp : Step → Reply → Carry → ℕ
  next_stamp st r c = greatest (map (λ x. (s x).stamp) (footprint_of count (made 0 0 st r c))) + 1

  unique : (i n j m : ℕ) (st su : Step) (r q : Reply) (c d : Carry) → May i n st r c → May j m su q d → made i n st r c ≡ made j m su q d
  unique i n j m st su r q c d a b =
      let same = answers i n j m st su r q c d a b in
      let indexes : i ≡ j = both a.agreed.0.index b.agreed.0.index in
      let stamps : n ≡ m = a.stamped ∙ (λ z. next_stamp (same.0 z) (same.1 z) (same.2 z)) ∙ sym b.stamped in
      λ z. made (indexes z) (stamps z) (same.0 z) (same.1 z) (same.2 z)

  parts : (e : Entry) → e.event.actor ≡ Hart h → e ≡ made e.event.index e.event.stamp e.event.step e.event.reply e.carry
  parts e is = ap (λ (a : ActorId). record { event = record { actor = a; index = e.event.index; stamp = e.event.stamp; step = e.event.step; reply = e.event.reply }; carry = e.carry }) is

  pub hart-unique : (e f : Entry) → e.event.actor ≡ Hart h → f.event.actor ≡ Hart h → MayHappen (machine O) s e → MayHappen (machine O) s f → e ≡ f
  hart-unique e f p q a b =
      let Happens : Entry → Type 0 = MayHappen (machine O) s in
      parts e p
      ∙ unique e.event.index e.event.stamp f.event.index f.event.stamp e.event.step f.event.step e.event.reply f.event.reply e.carry f.carry
      (subst Happens (parts e p) a) (subst Happens (parts f q) b)
      ∙ sym (parts f q)
