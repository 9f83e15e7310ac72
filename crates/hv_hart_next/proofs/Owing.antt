-- A terminal owes interrupt steps alone, and one that owes a step can make it.
use Rattle.std.proofs.Common.{◌≡◌, ℕ, ◌+◌, ◌==◌, nat_lt, inl, inr, Bool, true, false, ◌&&◌, if◌then◌else◌, List, [], ◌∷◌, ◌++◌, map, filter, refl, sym, subst}
use Rattle.std.specs.Prelude.{Option, None, Some, Ok}
use Rattle.std.specs.List.{AllByRecursion, list_all, range_with_len}
use Rattle.hv_answer.specs.declared.reply.Reply.{Reply}
use Rattle.hv_answer.specs.declared.reply.Reply.TheVariants as reply
use Rattle.hv_event.specs.declared.event.ActorId.TheVariants.{Terminal}
use Rattle.hv_event.specs.declared.event.CellId.{CellId}
use Rattle.hv_event.specs.declared.event.CellId.TheVariants as component
use Rattle.hv_kinds.specs.declared.changes.SignalChanges.{SignalChanges}
use Rattle.hv_kinds.specs.declared.generation.Generation.{Generation}
use Rattle.hv_kinds.specs.declared.stage.Stage.{Stage}
use Rattle.hv_kinds.specs.declared.stage.Stage.TheVariants.{Making, Made, Ending}
use Rattle.hv_laws.proofs.Frame.{after-step}
use Rattle.hv_laws.proofs.Legal.{cell-becomes, ended-or}
use Rattle.hv_rules.proofs.Slices.{first-signal, is_signal}
use Rattle.hv_machine.specs.Machine.{MayHappen, State, greatest, next_state, state_after, touches}
use Rattle.hv_machine.specs.Machine.{IsRun as IsMachineRun}
use Rattle.hv_model.specs.Cell.{Actor, Cell, Component}
use Rattle.hv_model.specs.Legal.{begun, booted, first, start}
use Rattle.hv_model.specs.Origin.{Origin}
use Rattle.hv_model.specs.Plans.{Planned, region_at, regions_of}
use Rattle.hv_model.specs.Rules.{IsAllowedAt, footprint_of, machine}
use Rattle.hv_model.specs.Terminal.{IsNextStep, TerminalState, children_owe, if_made, is_interrupt, owed_after, owes_nothing, row_owes, terminal_with}
use Rattle.hv_model.specs.declared.entry.Entry.{Entry}
use Rattle.hv_region.specs.declared.plan.RegionPlan.{RegionPlan}
use Rattle.hv_rules.specs.Carry.{Carry}
use Rattle.hv_rules.specs.Footprint.{components}
use Rattle.hv_rules.specs.Line.{has_device}
use Rattle.hv_rules.specs.Owed.{child_samples, has_changed, owed_for, pin_step, pin_steps, sample_to, samples}
use Rattle.hv_step.specs.declared.step.Step.{Step}
use Rattle.hv_step.specs.declared.step.Step.TheVariants as step
use Rattle.hv_text.specs.declared.limits.TheConstants.{GUEST_VCPUS}
use Rattle.hv_hart_next.specs.Next.{IsReached}
use Rattle.hv_hart_next.proofs.Can.{signal-can}
use Rattle.hv_hart_next.proofs.Once.{Agreed, At}
use Rattle.hv_hart_next.proofs.Reached.{Known}

abbrev AreSignals : List Step → Type 0
AreSignals steps = list_all is_signal steps ≡ true

-- what is owed is samples and pins

and-both : (a b d : Bool) → (a && b) ≡ true → (b ≡ true → d ≡ true) → (a && d) ≡ true
and-both true b d is next = next is
and-both false b d is next = absurd (cc is)

rest-of : (a b : Bool) → (a && b) ≡ true → b ≡ true
rest-of true b is = is
rest-of false b is = absurd (cc is)

append-signals : (xs ys : List Step) → AreSignals xs → AreSignals ys → AreSignals (xs ++ ys)
append-signals [] ys is more = more
append-signals (x ∷ xs) ys is more = and-both (is_signal x) (list_all is_signal xs) (list_all is_signal (xs ++ ys)) is (λ rest. append-signals xs ys rest more)

pins-signals : (g : Generation) (row : ℕ) (ns : List ℕ) → AreSignals (map (pin_step g row) ns)
pins-signals g row [] = refl
pins-signals g row (n ∷ ns) = pins-signals g row ns

samples-signals : (g : Generation) (row : ℕ) (parent : Option (ℕ × ℕ)) (changed : Bool) → AreSignals (samples g row parent changed)
samples-signals g row None changed = refl
samples-signals g row (Some parent) false = refl
samples-signals g row (Some parent) true = refl

owed-signals : (g : Generation) (row : ℕ) (parent : Option (ℕ × ℕ)) (changes : SignalChanges) → AreSignals (owed_for g row parent changes)
owed-signals g row parent changes =
    append-signals (samples g row parent changes.line) (pin_steps g row changes.pins) (samples-signals g row parent changes.line)
    (pins-signals g row (filter (has_changed changes.pins) (range_with_len 0 GUEST_VCPUS)))

chosen-signals : (b : Bool) (steps : List Step) → AreSignals steps → AreSignals (if b then steps else [])
chosen-signals true steps is = is
chosen-signals false steps is = refl

child-signals : (g : Generation) (row new : ℕ) (parent : Option (ℕ × ℕ)) → AreSignals (sample_to g row new parent)
child-signals g row new None = refl
child-signals g row new (Some parent) = chosen-signals (parent.0 == new) (samples g row (Some parent) true) (samples-signals g row (Some parent) true)

children-signals : (g : Generation) (new from : ℕ) (regions : List RegionPlan) → AreSignals (child_samples g new from regions)
children-signals g new from [] = refl
children-signals g new from (region ∷ regions) =
    append-signals (sample_to g from new region.parent) (child_samples g new (from + 1) regions) (child-signals g from new region.parent) (children-signals g new (from + 1) regions)

row-signals : (g : Option Generation) (row : Option ℕ) (parent : Option (ℕ × ℕ)) (changes : SignalChanges) → AreSignals (row_owes g row parent changes)
row-signals None row parent changes = refl
row-signals (Some g) None parent changes = refl
row-signals (Some g) (Some row) parent changes = owed-signals g row parent changes

owe-signals : (g : Option Generation) (row : Option ℕ) (region : Option RegionPlan) (regions : List RegionPlan) → AreSignals (children_owe g row region regions)
owe-signals None row region regions = refl
owe-signals (Some g) None region regions = refl
owe-signals (Some g) (Some row) None regions = refl
owe-signals (Some g) (Some row) (Some region) regions = chosen-signals (has_device region) (child_samples g row 0 regions) (children-signals g row 0 regions)

made-signals : (stage : Stage) (steps : List Step) → AreSignals steps → AreSignals (if_made stage steps)
made-signals Made steps is = is
made-signals Making steps is = refl
made-signals Ending steps is = refl

after-signals : (plans : List Planned) (s : Step) (r : Reply) (c : Carry) → AreSignals (owed_after plans s r c)
after-signals plans (step.Add s) (reply.Add (Ok changes)) c =
    made-signals s.stage (row_owes s.generation c.row c.parent changes ++ children_owe s.generation c.row (region_at plans s.name c.row) (regions_of plans s.name))
    (append-signals (row_owes s.generation c.row c.parent changes) (children_owe s.generation c.row (region_at plans s.name c.row) (regions_of plans s.name))
    (row-signals s.generation c.row c.parent changes) (owe-signals s.generation c.row (region_at plans s.name c.row) (regions_of plans s.name)))
after-signals plans (step.Add s) r c = refl
after-signals plans (step.Drop s) (reply.Drop (Ok changes)) c =
    made-signals s.stage (row_owes s.generation c.row c.parent changes) (row-signals s.generation c.row c.parent changes)
after-signals plans (step.Drop s) r c = refl
after-signals plans (step.Devreset s) (reply.Devreset (Ok changes)) c = row-signals s.generation c.row c.parent changes
after-signals plans (step.Devreset s) r c = refl
after-signals plans (step.Feed s) (reply.Feed (Ok changes)) c = row-signals s.generation c.row c.parent changes
after-signals plans (step.Feed s) r c = refl
after-signals plans (step.Sample s) (reply.Sample (Some sampled)) c = owed-signals s.generation s.parent None sampled.changes
after-signals plans (step.Sample s) r c = refl
after-signals plans s r c = refl

terminal-signals : (t : TerminalState) (owed : List Step) (s : Step) (r : Reply) (c : Carry) → AreSignals owed → AreSignals (terminal_with t owed s r c).owed
terminal-signals t (due ∷ owed) s r c is =
    append-signals owed (owed_after t.plans s r c) (rest-of (is_signal due) (list_all is_signal owed) is) (after-signals t.plans s r c)
terminal-signals t [] s r c is = after-signals t.plans s r c

signal-interrupt : (s : Step) → is_signal s ≡ true → is_interrupt s ≡ true
signal-interrupt (step.Sample s) signal = refl
signal-interrupt (step.Pin s) signal = refl
signal-interrupt _ signal = absurd (cc signal)

module _ (O : Origin) where
  abbrev pub AllOwe : State (machine O) → Type 0
  AllOwe s = (t : ℕ) → AreSignals (s (Actor (Terminal t))).value.owed

  owe-next : (s : State (machine O)) (e : Entry) → MayHappen (machine O) s e → AllOwe s → AllOwe (next_state (machine O) s e)
  owe-next s e may was t =
      let m = machine O in
      let x = Actor (Terminal t) in
      let terminal = (s x).value in
      after-step (λ (v : TerminalState). AreSignals v.owed) (touches m x e) (m.IsAllowedAt x (s x).value e) (m.apply_at x (s x).value e) (s x).value (next_state m s e x).value
      (cell-becomes m s e may x) (λ d ok. terminal-signals terminal terminal.owed e.event.step e.event.reply e.carry (was t)) (λ d. was t)

  owe-run : (s : State (machine O)) (es : List Entry) → IsMachineRun (machine O) s es → AllOwe s → AllOwe (state_after (machine O) s es)
  owe-run s [] ran was = was
  owe-run s (e ∷ es) ran was = owe-run (next_state (machine O) s e) es ran.1 (owe-next s e ran.0 was)

  owe-start : AllOwe (start O)
  owe-start t = refl

  owe-begun : (boot : List Entry) → AllOwe (booted O boot) → AllOwe (begun O boot)
  owe-begun boot was t = was t

  pub owe-reached : (s : State (machine O)) → IsReached O s → AllOwe s
  owe-reached s is =
      let leads = is.leads in
      let boot = leads.boot in
      let parts = leads.runs.parts in
      let at-boot : AllOwe (booted O boot) = owe-run (start O) boot parts.boot_runs owe-start in
      elim (ended-or (booted O boot first).value) [
        | inl end ↦ subst AllOwe (sym (leads.state.ended end)) (owe-run (begun O boot) leads.later parts.later_runs (owe-begun boot at-boot))
        | inr open' ↦ subst AllOwe (sym (leads.state.unended open').1) at-boot
      ]

  -- the components agree to a terminal's owed step as to a hart's

  module _ (s : State (machine O)) (known : Known O s) (t : ℕ) where
    abbrev made : ℕ → ℕ → Step → Reply → Carry → Entry
    made i n st r c = record { event = record { actor = Terminal t; index = i; stamp = n; step = st; reply = r }; carry = c }

    abbrev Allows : ℕ → ℕ → Step → Reply → Carry → Cell → Type 0
    Allows i n st r c x = IsAllowedAt x (s x).value (made i n st r c)

    either : (P Q : Cell → Type 0) (b : Bool) (one other : List CellId) → (AllByRecursion P (map Component one) → AllByRecursion Q (map Component one))
        → (AllByRecursion P (map Component other) → AllByRecursion Q (map Component other))
        → AllByRecursion P (map Component (if b then one else other)) → AllByRecursion Q (map Component (if b then one else other))
    either P Q true one other f k = f
    either P Q false one other f k = k

    signal-agrees : (i n : ℕ) (st : Step) (r : Reply) (c : Carry) → is_signal st ≡ true → Agreed O s 0 st r c
        → AllByRecursion (Allows i n st r c) (map Component (components O.opening.harts (Terminal t) st r c))
    signal-agrees i n (step.Sample x) r c signal agreed =
        let g = x.generation in
        either (At O s 0 (step.Sample x) r c) (Allows i n (step.Sample x) r c) (nat_lt x.row x.parent)
        (component.Body g.slot x.row ∷ component.Body g.slot x.parent ∷ []) (component.Body g.slot x.parent ∷ component.Body g.slot x.row ∷ [])
        (λ ok. ok) (λ ok. ok) agreed
    signal-agrees i n (step.Pin x) r c signal agreed = agreed
    signal-agrees i n _ r c signal agreed = absurd (cc signal)

    event-of : (due : Step) (later : List Step) → (s (Actor (Terminal t))).value.owed ≡ due ∷ later → is_signal due ≡ true
        → (e : Entry) × (e.event.actor ≡ Terminal t) × MayHappen (machine O) s e
    event-of due later is signal =
        let terminal = (s (Actor (Terminal t))).value in
        let can = signal-can O s 0 known due signal in
        let r = can.0 in
        let c = can.1 in
        let i = terminal.count + 1 in
        let n = greatest (map (λ x. (s x).stamp) (footprint_of O.opening.harts (made 0 0 due r c))) + 1 in
        let next : IsNextStep terminal terminal.owed due r c = subst (λ (owed : List Step). IsNextStep terminal owed due r c) (sym is) (refl, signal-interrupt due signal) in (
          made i n due r c,
          refl,
          record {
            agreed = (record { index = refl; step = next; carry = can.2.0 }, signal-agrees i n due r c signal can.2.1);
            stamped = refl;
          },
        )

    by-owed : (owed : List Step) → (s (Actor (Terminal t))).value.owed ≡ owed → AreSignals owed → owes_nothing owed ≡ false
        → (e : Entry) × (e.event.actor ≡ Terminal t) × MayHappen (machine O) s e
    by-owed [] is signals owes = absurd (cc owes)
    by-owed (due ∷ later) is signals owes = event-of due later is (first-signal (is_signal due) (list_all is_signal later) signals)

    pub owing-exists : AllOwe s → owes_nothing (s (Actor (Terminal t))).value.owed ≡ false → (e : Entry) × (e.event.actor ≡ Terminal t) × MayHappen (machine O) s e
    owing-exists all owes = by-owed (s (Actor (Terminal t))).value.owed refl (all t) owes
