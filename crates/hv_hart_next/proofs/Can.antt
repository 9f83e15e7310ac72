-- Each step that a hart's row asks for can be answered.
use Rattle.std.proofs.Common.{◌≡◌, ℕ, zero, suc, ◌+◌, ◌<◌, ◌≤◌, ◌==◌, nat_lt, Bool, true, false, if◌then◌else◌, List, [], ◌∷◌, ◌++◌, map, length, get_or, refl, sym, ap, subst, ◌∙◌, arith, eqb-true, eq-eqb}
use Rattle.std.specs.Prelude.{Option, None, Some, MatchBool, ◌&&◌, is_some}
use Rattle.std.specs.Bool.{then_some}
use Rattle.std.specs.List.{AllByRecursion, range_with_len}
use Rattle.std.specs.Option.{option_map_or}
use Rattle.hv_answer.specs.declared.reply.Outcome.{Outcome}
use Rattle.hv_answer.specs.declared.reply.Outcome.TheVariants as outcome
use Rattle.hv_answer.specs.declared.reply.Reply.{Reply}
use Rattle.hv_answer.specs.declared.reply.Reply.TheVariants as reply
use Rattle.hv_body.specs.Body.{on_device, fetch_answer, no_pins, answered}
use Rattle.hv_body.specs.Contents.{answer_of, fetched, loaded, stored}
use Rattle.hv_body.specs.Memory.{number_at}
use Rattle.hv_body.specs.declared.contents.Contents.{Contents}
use Rattle.hv_body.specs.declared.contents.Contents.TheVariants.{Writable, ReadOnly, Emulated, Shared}
use Rattle.hv_body.specs.declared.place.Answer.{Answer}
use Rattle.hv_body.specs.declared.place.Answer.TheVariants.{Answered, Denied, NoExec, InArea, NotHere}
use Rattle.hv_body.specs.declared.place.Place.{Place}
use Rattle.hv_emu.specs.Device.{DevState, after_tick}
use Rattle.hv_event.specs.declared.event.ActorId.TheVariants.{Hart}
use Rattle.hv_event.specs.declared.event.CellId.{CellId}
use Rattle.hv_event.specs.declared.event.CellId.TheVariants as component
use Rattle.hv_exec.specs.declared.context.After.{After}
use Rattle.hv_exec.specs.declared.context.After.TheVariants as after
use Rattle.hv_kinds.specs.declared.access.AccessKind.TheVariants as access
use Rattle.hv_kinds.specs.declared.access.Direction.{Direction}
use Rattle.hv_kinds.specs.declared.access.Direction.TheVariants.{Read, Write}
use Rattle.hv_kinds.specs.declared.changes.SignalChanges.{SignalChanges}
use Rattle.hv_kinds.specs.declared.generation.Generation.{Generation}
use Rattle.hv_kinds.specs.declared.pins.Pins.{Pins}
use Rattle.hv_rules.proofs.Slices.{is_signal}
use Rattle.hv_machine.specs.Machine.{State}
use Rattle.hv_model.specs.Cell.{Cell, Component}
use Rattle.hv_model.specs.Origin.{Origin}
use Rattle.hv_model.specs.Rules.{machine}
use Rattle.hv_next.proofs.Guests.{readied}
use Rattle.hv_queue.specs.Queue.{head_of, last_of}
use Rattle.hv_queue.specs.declared.entry.QueueEntry.{QueueEntry}
use Rattle.hv_region.specs.declared.window.Window.{Window}
use Rattle.hv_rules.specs.Area.{value_read}
use Rattle.hv_rules.specs.Balance.{is_uneven, longest, told_move}
use Rattle.hv_rules.specs.Body.{BodyValue, ShowsAccess, ShowsLevel, ShowsWord, TakesLevel, access_answer, accessed, answer_to, area_in, changes, fetch_from, index_of, is_born, left_by, line_in, no_changes, parent_of, pins_in, signalled}
use Rattle.hv_rules.specs.Carry.{Carry, Pending, load, store, nothing}
use Rattle.hv_rules.specs.Hart.{Row, Current, FitsPending, FitsRun, FitsCurrent, Fits, owes, waits, ends, ticks, free, runs, access_of, slot_of}
use Rattle.hv_rules.specs.Queue.{SaysMoved}
use Rattle.hv_rules.specs.Space.{Ticks, reached}
use Rattle.hv_rules.specs.Vcpu.{Shows, dispatched, fault_cause, is_of, TakesInterrupt, pending_of, runs_on}
use Rattle.hv_step.specs.declared.step.Access.{Access}
use Rattle.hv_step.specs.declared.step.Fault.{Fault}
use Rattle.hv_step.specs.declared.step.Fetch.{Fetch}
use Rattle.hv_step.specs.declared.step.Step.{Step}
use Rattle.hv_step.specs.declared.step.Step.TheVariants as step
use Rattle.hv_trap.specs.Trap.{chosen}
use Rattle.hv_vcpu.specs.Instruction.{carried_out}
use Rattle.hv_vcpu.specs.Table.{led}
use Rattle.hv_vcpu.specs.Vcpu.{VcpuValue, wakes, with_pins}
use Rattle.hv_vcpu.specs.declared.moves.Move.TheVariants as move
use Rattle.hv_window_laws.specs.Answers.{is_here}
use Rattle.hv_window_laws.specs.Legal.{guests_of}
use Rattle.hv_window_laws.specs.Windows.{birth_in, if_leads}
use Rattle.hv_window_laws.proofs.Answered.{access-in-window, fetch-in-window}
use Rattle.hv_hart_next.proofs.Kept.{size_of}
use Rattle.hv_hart_next.proofs.Once.{At, Does, accessing, balancing, fetching, ticking}
use Rattle.hv_hart_next.proofs.Reached.{Known}
use Rattle.hv_hart_next.proofs.Sizes.{carried-whole, is_whole}

-- what is asked where a test holds
match-if : (b : Bool) (P : Type 0) → (b ≡ true → P) → MatchBool b P (Unit {0})
match-if true P f = f refl
match-if false P f = tt

-- contents answer a fetch but by a denial, and an access but by no word
abbrev is_word : Answer → Bool
is_word Denied = false
is_word answer = true

abbrev is_value : Answer → Bool
is_value NoExec = false
is_value answer = true

value-of : (o : Option ℕ) → is_value (answer_of o) ≡ true
value-of None = refl
value-of (Some value) = refl

stored-value : (b : Bool) → is_value (if b then Answered 0 else Denied) ≡ true
stored-value true = refl
stored-value false = refl

fetched-word : (contents : Contents DevState) (offset size : ℕ) → is_word (fetched contents offset size) ≡ true
fetched-word (Writable bytes) offset size = refl
fetched-word (ReadOnly bytes) offset size = refl
fetched-word (Emulated device) offset size = refl
fetched-word (Shared area start) offset size = refl

loaded-value : (contents : Contents DevState) (offset size : ℕ) → is_value (loaded contents offset size) ≡ true
loaded-value (Writable bytes) offset size = refl
loaded-value (ReadOnly bytes) offset size = refl
loaded-value (Emulated device) offset size = value-of _
loaded-value (Shared area start) offset size = refl

stores-value : (contents : Contents DevState) (offset size value : ℕ) → is_value (stored contents offset size value) ≡ true
stores-value (Writable bytes) offset size value = refl
stores-value (ReadOnly bytes) offset size value = refl
stores-value (Emulated device) offset size value = stored-value _
stores-value (Shared area start) offset size value = refl

-- so does a body
found-so : (test : Answer → Bool) → test NotHere ≡ true → (answer : ℕ → Answer) → ((offset : ℕ) → test (answer offset) ≡ true) → (o : Option ℕ) → test (option_map_or answer o NotHere) ≡ true
found-so test none answer all None = none
found-so test none answer all (Some offset) = all offset

placed-so : (test : Answer → Bool) → test NotHere ≡ true → (answer : Place → Answer) → ((place : Place) → test (answer place) ≡ true) → (o : Option Place) → test (option_map_or answer o NotHere) ≡ true
placed-so test none answer all None = none
placed-so test none answer all (Some place) = all place

body-so : (test : Answer → Bool) → test NotHere ≡ true → (body : BodyValue) (place : Place) (answer : Contents DevState → (offset : ℕ) → Answer)
    → ((contents : Contents DevState) (offset : ℕ) → test (answer contents offset) ≡ true) → test (answered body place answer) ≡ true
body-so test none None place answer all = none
body-so test none (Some live) place answer all = found-so test none (answer live.contents) (all live.contents) _

fetch-word : (body : BodyValue) (birth pc : ℕ) → is_word (fetch_from body birth pc) ≡ true
fetch-word body birth pc =
    placed-so is_word refl (fetch_answer body)
    (λ place. body-so is_word refl body place (λ contents offset. fetched contents offset place.size) (λ contents offset. fetched-word contents offset place.size)) _

way-value : (body : BodyValue) (way : Direction) (value : ℕ) (place : Place) → is_value (access_answer body way value place) ≡ true
way-value body Read value place = body-so is_value refl body place (λ contents offset. loaded contents offset place.size) (λ contents offset. loaded-value contents offset place.size)
way-value body Write value place =
    body-so is_value refl body place (λ contents offset. stored contents offset place.size value) (λ contents offset. stores-value contents offset place.size value)

access-value : (body : BodyValue) (x : Access) → is_value (answer_to body x) ≡ true
access-value body x = placed-so is_value refl (access_answer body x.direction x.value) (way-value body x.direction x.value) _

-- the steps of a VCPU that has slice left
abbrev is_other : Step → Bool
is_other (step.Leave x) = false
is_other (step.Preempt x) = false
is_other st = true

-- what an instruction comes to can be shown
abbrev outcome_of : After → Outcome
outcome_of after.Done = outcome.Done
outcome_of after.Wait = outcome.Wait
outcome_of (after.Load address size is_signed register) = outcome.Access
outcome_of (after.Store address size value) = outcome.Access
outcome_of (after.Trap cause value) = outcome.Trap cause
outcome_of after.System = outcome.Done

shown : (answer : After) → is_whole answer ≡ true → Shows answer (outcome_of answer)
shown after.System whole = absurd (cc)
shown after.Done whole = refl
shown after.Wait whole = refl
shown (after.Load address size is_signed register) whole = refl
shown (after.Store address size value) whole = refl
shown (after.Trap cause value) whole = refl

-- a window that is found leads to its target
leads-there : (found : Option Window) (w : Window) → found ≡ Some w → is_some (if_leads w.target found) ≡ true
leads-there found w is =
    subst (λ (f : Option Window). is_some (if_leads w.target f) ≡ true) (sym is) (ap (λ (b : Bool). is_some (then_some b w)) (eq-eqb w.target w.target refl))

-- the lengths of queues, by number
lengths-at : (f : ℕ → ℕ) (b n g : ℕ) → g < n → get_or (map f (range_with_len b n)) g 0 ≡ f (b + g)
lengths-at f b zero g l = absurd (omega arith)
lengths-at f b (suc n) zero l = ap f (plus-zero b)
  where
    plus-zero : (b : ℕ) → b ≡ b + 0
    plus-zero b = omega arith
lengths-at f b (suc n) (suc g) l = lengths-at f (b + 1) n g (omega arith) ∙ ap f (plus-suc b g)
  where
    plus-suc : (b g : ℕ) → b + 1 + g ≡ b + suc g
    plus-suc b g = omega arith

lengths-long : (f : ℕ → ℕ) (b n : ℕ) → length (map f (range_with_len b n)) ≡ n
lengths-long f b zero = refl
lengths-long f b (suc n) = ap suc (lengths-long f (b + 1) n)

module _ (O : Origin) (s : State (machine O)) (h : ℕ) (known : Known O s) where
  abbrev count : ℕ
  count = O.opening.harts

  abbrev vcpu : ℕ → VcpuValue
  vcpu v = (s (Component (component.Vcpu v))).value

  abbrev body : ℕ → ℕ → BodyValue
  body slot row = (s (Component (component.Body slot row))).value

  abbrev windows : ℕ → List Window
  windows slot = (s (Component (component.Space slot))).value.windows

  abbrev queue : ℕ → List QueueEntry
  queue g = (s (Component (component.Queue g))).value

  -- a step that a row asks for, to which its components agree
  abbrev pub Can : (Step → Carry → Type 0) → Type 0
  Can Asked = (st : Step) × (r : Reply) × (c : Carry) × Asked st c × Does O s h st r c

  -- an owed step
  module _ (row parent source : ℕ) (g : Generation) where
    abbrev sample : Step
    sample = step.Sample (record { row = row; parent = parent; source = source; generation = g })

    abbrev level : ℕ → Bool
    level j = is_born g.birth (body g.slot j) && line_in (body g.slot j)

    abbrev IsTaken : Reply → ℕ → Type 0
    IsTaken r j = TakesLevel (is_born g.birth (body g.slot j)) source (body g.slot j) r

    sample-at : (r : Reply) → ShowsLevel (level row) r → IsTaken r parent → (j : ℕ) → At O s h sample r nothing (Component (component.Body g.slot j))
    sample-at r shows takes j = (
      match-if (j == row) (ShowsLevel (level j) r) (λ is. subst (λ (z : ℕ). ShowsLevel (level z) r) (sym (eqb-true j row is)) shows),
      match-if (j == parent) (IsTaken r j) (λ is. subst (λ (z : ℕ). IsTaken r z) (sym (eqb-true j parent is)) takes),
    )

    in-order : (P : Cell → Type 0) (b : Bool) → ((j : ℕ) → P (Component (component.Body g.slot j)))
        → AllByRecursion P (map Component (if b then component.Body g.slot row ∷ component.Body g.slot parent ∷ [] else component.Body g.slot parent ∷ component.Body g.slot row ∷ []))
    in-order P true all = (all row, (all parent, tt))
    in-order P false all = (all parent, (all row, tt))

    sample-does : (r : Reply) → ShowsLevel (level row) r → IsTaken r parent → Does O s h sample r nothing
    sample-does r shows takes = (refl, in-order (At O s h sample r nothing) (nat_lt row parent) (sample-at r shows takes))

    sample-by : (here : Bool) → is_born g.birth (body g.slot parent) ≡ here → (r : Reply) × Does O s h sample r nothing
    sample-by false is = (reply.Sample None, sample-does (reply.Sample None) tt (subst (λ (b : Bool). TakesLevel b source (body g.slot parent) (reply.Sample None)) (sym is) refl))
    sample-by true is =
        let r = reply.Sample (Some (record { level = level row; changes = changes (body g.slot parent) (signalled source (level row) (body g.slot parent)) })) in
        (r, sample-does r refl (subst (λ (b : Bool). TakesLevel b source (body g.slot parent) r) (sym is) refl))

    sample-can : (r : Reply) × (c : Carry) × Does O s h sample r c
    sample-can = let it = sample-by (is_born g.birth (body g.slot parent)) refl in (it.0, nothing, it.1)

  module _ (row v : ℕ) (g : Generation) where
    abbrev pin : Step
    pin = step.Pin (record { row = row; vcpu = v; generation = g })

    abbrev pins : Pins
    pins = if is_born g.birth (body g.slot row) then pins_in (body g.slot row) (index_of v) else no_pins

    pin-by : (here : Bool) → is_of g.birth (vcpu v) ≡ here → (r : Reply) × (c : Carry) × Does O s h pin r c
    pin-by false is = (reply.Pin None, nothing, (refl, (tt, ((is, refl), (tt, tt)))))
    pin-by true is =
        let r = reply.Pin (Some (record { pins = pins; woke = wakes (with_pins row pins (vcpu v)) })) in
        (r, readied (Some (vcpu v).plan.priority), (refl, (tt, ((is, refl, refl), (refl, tt)))))

    pin-can : (r : Reply) × (c : Carry) × Does O s h pin r c
    pin-can = pin-by (is_of g.birth (vcpu v)) refl

  pub signal-can : (t : Step) → is_signal t ≡ true → (r : Reply) × (c : Carry) × Does O s h t r c
  signal-can (step.Sample x) signal = sample-can x.row x.parent x.source x.generation
  signal-can (step.Pin x) signal = pin-can x.row x.vcpu x.generation
  signal-can _ signal = absurd (cc)

  -- a tick
  abbrev tick : ℕ → Step
  tick slot = step.Tick (record { slot = slot })

  tick-by : (slot : ℕ) (clock : Option (ℕ × ℕ)) → (s (Component (component.Space slot))).value.clock ≡ clock → (r : Reply) × (c : Carry) × Does O s h (tick slot) r c
  tick-by slot None is =
      (reply.Tick None, nothing, (refl, (subst (λ (z : Option (ℕ × ℕ)). Ticks z (reply.Tick None) nothing) (sym is) (refl, refl, refl), tt)))
  tick-by slot (Some clock) is =
      let here = body slot clock.0 in
      let r = reply.Tick (Some (changes here (on_device after_tick here))) in
      let c = ticking (Some clock) (parent_of here) in
      (r, c, (refl, (subst (λ (z : Option (ℕ × ℕ)). Ticks z r c) (sym is) refl, ((refl, refl), tt))))

  tick-can : (slot : ℕ) → (r : Reply) × (c : Carry) × Does O s h (tick slot) r c
  tick-can slot = tick-by slot (s (Component (component.Space slot))).value.clock refl

  -- without a VCPU
  free-by : (head : Option ℕ) → head_of (queue h) ≡ head → Can (λ st c. Fits count free st c)
  free-by None is = (step.Idle (record {}), reply.Idle, nothing, tt, (refl, ((is, refl), tt)))
  free-by (Some v) is =
      (step.Dispatch (record { vcpu = v }), reply.Dispatch (dispatched (vcpu v).plan.slice (led (move.Dispatch h) (vcpu v).state)), nothing, tt, (refl, (is, (refl, tt))))

  free-can : Can (λ st c. Fits count free st c)
  free-can = free-by (head_of (queue h)) refl

  -- a VCPU is left
  leave-can : (v : ℕ) → runs_on (Hart h) (vcpu v).state ≡ false → Does O s h (step.Leave (record { vcpu = v })) (reply.Leave (vcpu v).state) nothing
  leave-can v isnt = (refl, ((isnt, refl), tt))

  -- the areas that regions share
  abbrev bytes_of : ℕ → List ℕ
  bytes_of area = (s (Component (component.Area area))).value

  -- an access that a region answers is made
  module _ (x : Access) (pending : Option Pending) (ran : runs_on (Hart h) (vcpu x.vcpu).state ≡ true) (born : x.generation.birth ≡ (vcpu x.vcpu).birth) where
    abbrev answer : Answer
    answer = answer_to (body x.generation.slot x.row) x

    abbrev changed : SignalChanges
    changed = changes (body x.generation.slot x.row) (left_by (body x.generation.slot x.row) x)

    abbrev own_parent : Option (ℕ × ℕ)
    own_parent = parent_of (body x.generation.slot x.row)

    abbrev Makes : Type 0
    Makes = (r : Reply) × (c : Carry) × (c.pending ≡ pending) × Does O s h (step.Access x) r c

    access-as : (it : Answer) → answer ≡ it → is_here it ≡ true → is_value it ≡ true → Makes
    access-as (Answered value) is here fits =
        let r = reply.Access (Some (accessed value changed)) in
        let c = accessing pending None own_parent in
        (r, c, refl, (refl, ((ran, born), ((subst (λ (z : Answer). ShowsAccess z changed r) (sym is) refl, sym (ap area_in is), refl), tt))))
    access-as Denied is here fits =
        let r = reply.Access None in
        let c = accessing pending None own_parent in
        (r, c, refl, (refl, ((ran, born), ((subst (λ (z : Answer). ShowsAccess z changed r) (sym is) refl, sym (ap area_in is), refl), tt))))
    access-as (InArea number offset) is here fits =
        let r = reply.Access (Some (accessed (value_read (bytes_of number) x.direction offset x.size) no_changes)) in
        let c = accessing pending (Some (number, offset)) own_parent in
        (r, c, refl, (refl, ((ran, born), ((subst (λ (z : Answer). ShowsAccess z changed r) (sym is) tt, sym (ap area_in is), refl), (refl, tt)))))
    access-as NoExec is here fits = absurd (cc fits)
    access-as NotHere is here fits = absurd (cc here)

    access-can : is_here answer ≡ true → Makes
    access-can here = access-as answer refl here (access-value (body x.generation.slot x.row) x)

  abbrev born_in : ℕ → Option ℕ
  born_in slot = birth_in (guests_of O s).dir slot

  -- while an access is pending
  module _ (v : ℕ) (p : Pending) (g : Generation) (sized : 1 ≤ size_of p)
      (own : runs_on (Hart h) (vcpu v).state ≡ true → (born_in g.slot ≡ Some g.birth) × (g.birth ≡ (vcpu v).birth)) where
    abbrev Waits : Pending → Type 0
    Waits pending = Can (λ st c. FitsPending v pending g st c)

    waits-leave : (pending : Pending) → runs_on (Hart h) (vcpu v).state ≡ false → Waits pending
    waits-leave pending isnt = (step.Leave (record { vcpu = v }), reply.Leave (vcpu v).state, nothing, refl, leave-can v isnt)

    load-by : (address size : ℕ) (is_signed : Bool) (register : ℕ) → 1 ≤ size → runs_on (Hart h) (vcpu v).state ≡ true → (found : Option Window) → reached (windows g.slot) address size ≡ found
        → Waits (load address size is_signed register)
    load-by address size is_signed register some ran None is =
        let x : Fault = record { vcpu = v; address = address; size = size; access = access.Read; generation = g } in
        (step.Fault x, reply.Fault (fault_cause access.Read), nothing, refl, (refl, (is, ((ran, (own ran).1, tt, refl), tt))))
    load-by address size is_signed register some ran (Some w) is =
        let x : Access = access_of v w.target address size Read 0 g in
        let here = access-in-window count (guests_of O s) known.guests g.slot w.target x (own ran).0 some ∙ leads-there (reached (windows g.slot) address size) w is in
        let made = access-can x (Some (load address size is_signed register)) ran (own ran).1 here in
        (step.Access x, made.0, made.1, (refl, made.2), made.3)

    store-by : (address size value : ℕ) → 1 ≤ size → runs_on (Hart h) (vcpu v).state ≡ true → (found : Option Window) → reached (windows g.slot) address size ≡ found → Waits (store address size value)
    store-by address size value some ran None is =
        let x : Fault = record { vcpu = v; address = address; size = size; access = access.Write; generation = g } in
        (step.Fault x, reply.Fault (fault_cause access.Write), nothing, refl, (refl, (is, ((ran, (own ran).1, tt, refl), tt))))
    store-by address size value some ran (Some w) is =
        let x : Access = access_of v w.target address size Write value g in
        let here = access-in-window count (guests_of O s) known.guests g.slot w.target x (own ran).0 some ∙ leads-there (reached (windows g.slot) address size) w is in
        let made = access-can x (Some (store address size value)) ran (own ran).1 here in
        (step.Access x, made.0, made.1, (refl, made.2), made.3)

    waits-run : (pending : Pending) → 1 ≤ size_of pending → runs_on (Hart h) (vcpu v).state ≡ true → Waits pending
    waits-run (load address size is_signed register) some ran = load-by address size is_signed register some ran (reached (windows g.slot) address size) refl
    waits-run (store address size value) some ran = store-by address size value some ran (reached (windows g.slot) address size) refl

    waits-by : (ran : Bool) → runs_on (Hart h) (vcpu v).state ≡ ran → Waits p
    waits-by true is = waits-run p sized is
    waits-by false is = waits-leave p is

    waits-can : Waits p
    waits-can = waits-by (runs_on (Hart h) (vcpu v).state) refl

  -- a VCPU of a guest ran
  module _ (v : ℕ) (ran : runs_on (Hart h) (vcpu (suc v)).state ≡ true) (born : born_in (slot_of (suc v)) ≡ Some (vcpu (suc v)).birth) where
    abbrev here : VcpuValue
    here = vcpu (suc v)

    abbrev own_slot : ℕ
    own_slot = slot_of (suc v)

    abbrev generation : Generation
    generation = record { slot = own_slot; birth = here.birth }

    abbrev Runs : Type 0
    Runs = Can (λ st c. FitsRun count (suc v) st c × (is_other st ≡ true))

    take-can : (cause : ℕ) → chosen here.context ≡ Some cause → Runs
    take-can cause is =
        (step.Take (record { vcpu = suc v }), reply.Take cause, nothing, (refl, refl), (refl, ((ran, subst (λ (z : Option ℕ). TakesInterrupt z (reply.Take cause)) (sym is) refl), tt)))

    execute-can : chosen here.context ≡ None → reached (windows own_slot) here.context.pc 4 ≡ None → Runs
    execute-can calm none =
        let x : Fault = record { vcpu = suc v; address = here.context.pc; size = 4; access = access.Execute; generation = generation } in
        (step.Fault x, reply.Fault (fault_cause access.Execute), nothing, ((refl, refl, refl, refl), refl), (refl, (none, ((ran, refl, (refl, calm), refl), tt))))

    module _ (row : ℕ) (calm : chosen here.context ≡ None) where
      abbrev fetch : Fetch
      fetch = record { vcpu = suc v; row = row; generation = generation }

      abbrev word_at : Answer
      word_at = fetch_from (body own_slot row) here.birth here.context.pc

      abbrev after_word : ℕ → After
      after_word word = (carried_out here.context word).answer

      shows : (word : ℕ) → Shows (after_word word) (outcome_of (after_word word))
      shows word = shown (after_word word) (carried-whole here.context word)

      abbrev fetched_word : ℕ → Reply
      fetched_word word = reply.Fetch (Some (record { word = word; outcome = outcome_of (after_word word) }))

      fetch-as : (it : Answer) → word_at ≡ it → is_here it ≡ true → is_word it ≡ true → Runs
      fetch-as (Answered word) is there fits =
          let r = fetched_word word in
          let c = fetching (Some here.context.pc) (pending_of (after_word word)) None in
          (step.Fetch fetch, r, c, ((refl, refl), refl), (refl, ((ran, calm, refl, refl, (shows word, refl)), ((subst (λ (z : Answer). ShowsWord z r) (sym is) refl, sym (ap area_in is)), tt))))
      fetch-as NoExec is there fits =
          let r = reply.Fetch None in
          let c = fetching (Some here.context.pc) None None in
          (step.Fetch fetch, r, c, ((refl, refl), refl), (refl, ((ran, calm, refl, refl, refl), ((subst (λ (z : Answer). ShowsWord z r) (sym is) refl, sym (ap area_in is)), tt))))
      fetch-as (InArea number offset) is there fits =
          let word = number_at (bytes_of number) offset 4 in
          let r = fetched_word word in
          let c = fetching (Some here.context.pc) (pending_of (after_word word)) (Some (number, offset)) in
          (step.Fetch fetch, r, c, ((refl, refl), refl), (refl, ((ran, calm, refl, refl, (shows word, refl)), ((subst (λ (z : Answer). ShowsWord z r) (sym is) tt, sym (ap area_in is)), (refl, tt)))))
      fetch-as Denied is there fits = absurd (cc fits)
      fetch-as NotHere is there fits = absurd (cc there)

    calm-by : chosen here.context ≡ None → (found : Option Window) → reached (windows own_slot) here.context.pc 4 ≡ found → Runs
    calm-by calm None is = execute-can calm is
    calm-by calm (Some w) is =
        let there = fetch-in-window count (guests_of O s) known.guests own_slot w.target here.birth here.context.pc born ∙ leads-there (reached (windows own_slot) here.context.pc 4) w is in
        fetch-as w.target calm (word_at w.target calm) refl there (fetch-word (body own_slot w.target) here.birth here.context.pc)

    run-by : (cause : Option ℕ) → chosen here.context ≡ cause → Runs
    run-by (Some cause) is = take-can cause is
    run-by None is = calm-by is (reached (windows own_slot) here.context.pc 4) refl

    run-can : Runs
    run-can = run-by (chosen here.context) refl

  -- the orphan VCPU balances
  abbrev lengths : List ℕ
  lengths = map (λ g. length (queue g)) (range_with_len 0 count)

  abbrev moved : Option QueueEntry
  moved = if is_uneven lengths then last_of (queue (longest lengths)) else None

  says : (b u : Bool) (g far : ℕ) → (g == far) ≡ b → SaysMoved b u (queue g) (if u then last_of (queue far) else None)
  says true true g far is = ap (λ (z : ℕ). last_of (queue z)) (sym (eqb-true g far is))
  says true false g far is = refl
  says false true g far is = tt
  says false false g far is = refl

  zero-plus : (g : ℕ) → 0 + g ≡ g
  zero-plus g = omega arith

  all-queues : (P : Cell → Type 0) (b n : ℕ) (cs : List CellId) → ((g : ℕ) → g < b + n → P (Component (component.Queue g))) → AllByRecursion P (map Component cs)
      → AllByRecursion P (map Component (map component.Queue (range_with_len b n) ++ cs))
  all-queues P b zero cs each rest = rest
  all-queues P b (suc n) cs each rest = (each b (omega arith), all-queues P (b + 1) n cs (λ g l. each g (omega arith)) rest)

  balance-can : runs_on (Hart h) (vcpu 0).state ≡ true → Can (λ st c. FitsRun count zero st c × (is_other st ≡ true))
  balance-can ran =
      let st = step.Balance (record {}) in
      let r = reply.Balance (told_move lengths moved) in
      let c = balancing lengths moved in
      let each : (g : ℕ) → g < 0 + count → At O s h st r c (Component (component.Queue g)) = λ g l. (
        lengths-at (λ g. length (queue g)) 0 count g (omega arith) ∙ ap (λ (z : ℕ). length (queue z)) (zero-plus g),
        says (g == longest lengths) (is_uneven lengths) g (longest lengths) refl,
        refl,
      ) in
      (st, r, c, (lengths-long (λ g. length (queue g)) 0 count, refl), (refl, all-queues (At O s h st r c) 0 count (component.Vcpu 0 ∷ []) each (ran, tt)))

  -- of the VCPU that the hart ran
  module _ (k : Current) (born : (v : ℕ) → k.vcpu ≡ suc v → runs_on (Hart h) (vcpu (suc v)).state ≡ true → born_in (slot_of (suc v)) ≡ Some (vcpu (suc v)).birth) where
    abbrev Current-step : Type 0
    Current-step = Can (λ st c. FitsCurrent count k st c)

    fits-current : (st : Step) (c : Carry) → (k.used == k.slice) ≡ false → is_other st ≡ true → FitsRun count k.vcpu st c → FitsCurrent count k st c
    fits-current (step.Leave x) c left other fits = absurd (cc other)
    fits-current (step.Preempt x) c left other fits = absurd (cc other)
    fits-current st c left other fits = (left, fits)

    vcpu-by : (v : ℕ) → k.vcpu ≡ v → runs_on (Hart h) (vcpu v).state ≡ true → Can (λ st c. FitsRun count v st c × (is_other st ≡ true))
    vcpu-by zero is ran = balance-can ran
    vcpu-by (suc v) is ran = run-can v ran (born v is ran)

    left-by-slice : (spent : Bool) → (k.used == k.slice) ≡ spent → runs_on (Hart h) (vcpu k.vcpu).state ≡ true → Current-step
    left-by-slice true is ran =
        (step.Preempt (record { vcpu = k.vcpu }), reply.Preempt, readied (Some (vcpu k.vcpu).plan.priority), (refl, is), (refl, (tt, ((ran, refl, refl), tt))))
    left-by-slice false is ran =
        let it = vcpu-by k.vcpu refl ran in
        (it.0, it.1, it.2, fits-current it.0 it.2 is it.3.1 it.3.0, it.4)

    current-by : (ran : Bool) → runs_on (Hart h) (vcpu k.vcpu).state ≡ ran → Current-step
    current-by true is = left-by-slice (k.used == k.slice) refl is
    current-by false is = (step.Leave (record { vcpu = k.vcpu }), reply.Leave (vcpu k.vcpu).state, nothing, refl, leave-can k.vcpu is)

    current-can : Current-step
    current-can = current-by (runs_on (Hart h) (vcpu k.vcpu).state) refl

  -- what has to be known of a row
  abbrev pub IsReady : Row → Type 0
  IsReady (owes next) = is_signal next ≡ true
  IsReady (waits v p g) = (1 ≤ size_of p) × (runs_on (Hart h) (vcpu v).state ≡ true → (born_in g.slot ≡ Some g.birth) × (g.birth ≡ (vcpu v).birth))
  IsReady ends = ⊥
  IsReady (ticks slot) = Unit {0}
  IsReady free = Unit {0}
  IsReady (runs k) = (v : ℕ) → k.vcpu ≡ suc v → runs_on (Hart h) (vcpu (suc v)).state ≡ true → born_in (slot_of (suc v)) ≡ Some (vcpu (suc v)).birth

  -- a row has a step, where it isn't the end
  pub row-can : (row : Row) → IsReady row → Can (λ st c. Fits count row st c)
  row-can (owes next) ready = let it = signal-can next ready in (next, it.0, it.1, refl, it.2)
  row-can (waits v p g) ready = waits-can v p g ready.0 ready.1
  row-can ends ready = absurd ready
  row-can (ticks slot) ready = let it = tick-can slot in (tick slot, it.0, it.1, refl, it.2)
  row-can free ready = free-can
  row-can (runs k) ready = current-can k ready
