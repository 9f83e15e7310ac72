-- A hart has as many turns left as it has not made, and one at least while it waits for an access.
use Rattle.std.proofs.Common.{◌≡◌, ℕ, zero, suc, ◌+◌, ◌-◌, ◌<◌, ◌≤◌, ◌==◌, inl, inr, not, Bool, true, false, if◌then◌else◌, List, [], ◌∷◌, refl, sym, ap, subst, ◌∙◌, arith}
use Rattle.std.specs.Prelude.{Option, None, Some, Ok, is_some, ◌&&◌, ◌%◌}
use Rattle.std.specs.List.{list_all}
use Rattle.hv_answer.specs.declared.reply.Outcome.{Outcome}
use Rattle.hv_answer.specs.declared.reply.Outcome.TheVariants as outcome
use Rattle.hv_answer.specs.declared.reply.Reply.{Reply}
use Rattle.hv_answer.specs.declared.reply.Reply.TheVariants as reply
use Rattle.hv_event.specs.declared.event.ActorId.TheVariants.{Hart}
use Rattle.hv_kinds.specs.declared.access.AccessKind.{AccessKind}
use Rattle.hv_kinds.specs.declared.access.AccessKind.TheVariants as access
use Rattle.hv_kinds.specs.declared.generation.Generation.{Generation}
use Rattle.hv_rules.specs.Hart.{IsWithinItsSlice}
use Rattle.hv_laws.specs.Legal.{board_of}
use Rattle.hv_laws.proofs.Frame.{after-step, false-true, true-false}
use Rattle.hv_laws.proofs.Legal.{cell-becomes, ended-or}
use Rattle.hv_rules.proofs.Slices.{first-signal, is_signal}
use Rattle.hv_laws.proofs.Runs.{harts-are-within}
use Rattle.hv_machine.specs.Machine.{MayHappen, State, next_state, state_after, touches}
use Rattle.hv_machine.specs.Machine.{IsRun as IsMachineRun}
use Rattle.hv_model.specs.Cell.{Actor}
use Rattle.hv_model.specs.declared.entry.Entry.{Entry}
use Rattle.hv_model.specs.Hart.{HartState as Counted}
use Rattle.hv_model.specs.Legal.{begun, booted, first, start}
use Rattle.hv_model.specs.Origin.{Origin}
use Rattle.hv_model.specs.Rules.{machine}
use Rattle.hv_rules.specs.Carry.{Carry, Pending, load, store}
use Rattle.hv_rules.specs.Hart.{Current, Fits, FitsPending, HartAgrees, HartState, IsPendingFault, Row, ends, faulted, fetched, free, hart_after, owed_row, owes, pending_row, row_of, runs, ticks, turn_row, waits, waits_for, with_current}
use Rattle.hv_step.specs.declared.step.Fault.{Fault}
use Rattle.hv_step.specs.declared.step.Step.{Step}
use Rattle.hv_step.specs.declared.step.Step.TheVariants as step
use Rattle.hv_text.specs.declared.limits.TheConstants.{SLOTS}
use Rattle.hv_window_laws.specs.Legal.{AreInOrder}
use Rattle.hv_window_laws.proofs.Lists.{lt-true}
use Rattle.hv_hart_next.specs.Next.{IsReached}
use Rattle.hv_hart_next.proofs.Kept.{kept-reached}
use Rattle.hv_hart_next.proofs.Reached.{Known, known-begun, known-next, known-run, known-start, boot-order, later-order}

pub record Counts (turns : ℕ) (hart : HartState) : Type 0 where
  pub sum : hart.left + hart.turns ≡ turns
  pub waits_in : is_some hart.pending ≡ true → 1 ≤ hart.left

-- what a row says of the turns that are left

abbrev Left : Row → HartState → Type 0
Left (owes next) hart = is_signal next ≡ true
Left (waits v p g) hart = 1 ≤ hart.left
Left ends hart = Unit {0}
Left (ticks slot) hart = Unit {0}
Left free hart = (1 ≤ hart.left) × (hart.pending ≡ None)
Left (runs k) hart = (1 ≤ hart.left) × (hart.pending ≡ None)

some-left : (n left : ℕ) → n ≡ suc left → 1 ≤ n
some-left n left is = omega arith

none-some : {A : Type 0} (o : Option A) (x : A) → o ≡ None → o ≡ Some x → ⊥
none-some o x p q = cc

current-left : (hart : HartState) (now : Option Current) → 1 ≤ hart.left → hart.pending ≡ None → Left (with_current now) hart
current-left hart None some none = (some, none)
current-left hart (Some k) some none = (some, none)

turn-left : (n : ℕ) (hart : HartState) (left : ℕ) → hart.left ≡ left → hart.pending ≡ None → Left (turn_row n hart left) hart
turn-left n hart zero is none = tt
turn-left n hart (suc left) is none =
    elim ((n == 0) && not hart.ticked) as (λ b. Left (if b then ticks (hart.turns % SLOTS) else with_current hart.current) hart) [
      | true ↦ tt
      | false ↦ current-left hart hart.current (some-left hart.left left is) none
    ]

waits-left : (hart : HartState) (now : Option Current) (p : Pending × Generation) → IsWithinItsSlice hart → hart.current ≡ now → hart.pending ≡ Some p → 1 ≤ hart.left
    → Left (waits_for now p.0 p.1) hart
waits-left hart None p within is pend some = absurd (none-some hart.pending p (within.pending is) pend)
waits-left hart (Some k) p within is pend some = some

pending-left : (n : ℕ) (hart : HartState) (pending : Option (Pending × Generation)) → (is_some hart.pending ≡ true → 1 ≤ hart.left) → IsWithinItsSlice hart → hart.pending ≡ pending
    → Left (pending_row n hart pending) hart
pending-left n hart None some within is = turn-left n hart hart.left refl is
pending-left n hart (Some p) some within is = waits-left hart hart.current p within refl is (some (ap is_some is))

owed-left : (n : ℕ) (hart : HartState) (owed : List Step) → (is_some hart.pending ≡ true → 1 ≤ hart.left) → IsWithinItsSlice hart → list_all is_signal owed ≡ true → Left (owed_row n hart owed) hart
owed-left n hart [] some within signals = pending-left n hart hart.pending some within refl
owed-left n hart (next ∷ later) some within signals = first-signal (is_signal next) (list_all is_signal later) signals

-- the steps that end a turn, or may, and those of them that leave the access

abbrev is_execute : AccessKind → Bool
is_execute access.Execute = true
is_execute _ = false

abbrev is_turn : Step → Bool
is_turn (step.Idle s) = true
is_turn (step.Dispatch s) = true
is_turn (step.Preempt s) = true
is_turn (step.Leave s) = true
is_turn (step.Take s) = true
is_turn (step.Balance s) = true
is_turn (step.Fetch s) = true
is_turn (step.Access s) = true
is_turn (step.Fault s) = true
is_turn s = false

abbrev is_free : Step → Bool
is_free (step.Idle s) = true
is_free (step.Dispatch s) = true
is_free (step.Take s) = true
is_free (step.Balance s) = true
is_free (step.Fetch s) = true
is_free (step.Fault s) = is_execute s.access
is_free s = false

signal-turn : (s : Step) → is_signal s ≡ true → is_turn s ≡ true → ⊥
signal-turn (step.Sample s) signal turn = cc turn
signal-turn (step.Pin s) signal turn = cc turn
signal-turn _ signal turn = cc signal

signal-free : (s : Step) → is_signal s ≡ true → is_free s ≡ true → ⊥
signal-free (step.Sample s) signal turn = cc turn
signal-free (step.Pin s) signal turn = cc turn
signal-free _ signal turn = cc signal

at-turn : (harts : ℕ) (row : Row) (hart : HartState) (s : Step) (c : Carry) → Left row hart → Fits harts row s c → is_turn s ≡ true → 1 ≤ hart.left
at-turn harts (owes next) hart s c left fits turn = absurd (signal-turn s (ap is_signal fits ∙ left) turn)
at-turn harts (waits v p g) hart s c left fits turn = left
at-turn harts ends hart s c left fits turn = absurd fits
at-turn harts (ticks slot) hart s c left fits turn = absurd (true-false (is_turn s) turn (ap is_turn fits))
at-turn harts free hart s c left fits turn = left.0
at-turn harts (runs k) hart s c left fits turn = left.0

fault-kind : (v : ℕ) (p : Pending) (g : Generation) (s : Fault) → IsPendingFault v p g s → is_execute s.access ≡ false
fault-kind v (load address size is_signed register) g s is = ap (λ (f : Fault). is_execute f.access) is
fault-kind v (store address size value) g s is = ap (λ (f : Fault). is_execute f.access) is

waits-free : (v : ℕ) (p : Pending) (g : Generation) (s : Step) (c : Carry) → FitsPending v p g s c → is_free s ≡ true → ⊥
waits-free v p g (step.Leave s) c fits free' = cc free'
waits-free v p g (step.Access s) c fits free' = cc free'
waits-free v p g (step.Fault s) c fits free' = true-false (is_execute s.access) free' (fault-kind v p g s fits)
waits-free v p g _ c fits free' = fits

at-free : (harts : ℕ) (row : Row) (hart : HartState) (s : Step) (c : Carry) → Left row hart → Fits harts row s c → is_free s ≡ true → hart.pending ≡ None
at-free harts (owes next) hart s c left fits free' = absurd (signal-free s (ap is_signal fits ∙ left) free')
at-free harts (waits v p g) hart s c left fits free' = absurd (waits-free v p g s c fits free')
at-free harts ends hart s c left fits free' = absurd fits
at-free harts (ticks slot) hart s c left fits free' = absurd (true-false (is_free s) free' (ap is_free fits))
at-free harts free hart s c left fits free' = left.1
at-free harts (runs k) hart s c left fits free' = left.1

module _ (turns n : ℕ) (hart : HartState) (J : Counts turns hart) where
  same : (new : HartState) → new.left ≡ hart.left → new.turns ≡ hart.turns → new.pending ≡ hart.pending → Counts turns new
  same new left made pending = record {
    sum = ap (λ (m : ℕ). m + new.turns) left ∙ ap (λ (m : ℕ). hart.left + m) made ∙ J.sum;
    waits_in = λ some. subst (λ (m : ℕ). 1 ≤ m) (sym left) (J.waits_in (sym (ap is_some pending) ∙ some));
  }

  one-less : (a b t : ℕ) → 1 ≤ a → a + b ≡ t → a - 1 + (b + 1) ≡ t
  one-less a b t some is = grind arith

  ended : (new : HartState) → new.left ≡ hart.left - 1 → new.turns ≡ hart.turns + 1 → new.pending ≡ None → 1 ≤ hart.left → Counts turns new
  ended new left made pending some = record {
    sum = ap (λ (m : ℕ). m + new.turns) left ∙ ap (λ (m : ℕ). hart.left - 1 + m) made ∙ one-less hart.left hart.turns turns some J.sum;
    waits_in = λ there. absurd (false-true (sym (ap is_some pending) ∙ there));
  }

  waiting : (new : HartState) → new.left ≡ hart.left → new.turns ≡ hart.turns → 1 ≤ hart.left → Counts turns new
  waiting new left made some = record {
    sum = ap (λ (m : ℕ). m + new.turns) left ∙ ap (λ (m : ℕ). hart.left + m) made ∙ J.sum;
    waits_in = λ there. subst (λ (m : ℕ). 1 ≤ m) (sym left) some;
  }

  fetched-counts : (g : Generation) (o : Outcome) (c : Carry) → 1 ≤ hart.left → hart.pending ≡ None → Counts turns (fetched hart g o c)
  fetched-counts g outcome.Access c some none = waiting (fetched hart g outcome.Access c) refl refl some
  fetched-counts g outcome.Wait c some none = ended (fetched hart g outcome.Wait c) refl refl refl some
  fetched-counts g outcome.Done c some none = ended (fetched hart g outcome.Done c) refl refl none some
  fetched-counts g (outcome.Trap cause) c some none = ended (fetched hart g (outcome.Trap cause) c) refl refl none some

  faulted-counts : (kind : AccessKind) → 1 ≤ hart.left → (is_execute kind ≡ true → hart.pending ≡ None) → Counts turns (faulted hart kind)
  faulted-counts access.Execute some none = ended (faulted hart access.Execute) refl refl (none refl) some
  faulted-counts access.Read some none = ended (faulted hart access.Read) refl refl refl some
  faulted-counts access.Write some none = ended (faulted hart access.Write) refl refl refl some

  module _ (within : IsWithinItsSlice hart) (signals : list_all is_signal hart.owed ≡ true) where
    some-at : (s : Step) (c : Carry) → HartAgrees n hart s c → is_turn s ≡ true → 1 ≤ hart.left
    some-at s c ok turn = at-turn hart.harts (row_of n hart) hart s c (owed-left n hart hart.owed J.waits_in within signals) ok.0 turn

    none-at : (s : Step) (c : Carry) → HartAgrees n hart s c → is_free s ≡ true → hart.pending ≡ None
    none-at s c ok free' = at-free hart.harts (row_of n hart) hart s c (owed-left n hart hart.owed J.waits_in within signals) ok.0 free'

    counts-after : (s : Step) (r : Reply) (c : Carry) → HartAgrees n hart s c → Counts turns (hart_after hart s r c)
    counts-after (step.Sample s) (reply.Sample None) c ok = same (hart_after hart (step.Sample s) (reply.Sample None) c) refl refl refl
    counts-after (step.Sample s) (reply.Sample (Some sampled)) c ok = same (hart_after hart (step.Sample s) (reply.Sample (Some sampled)) c) refl refl refl
    counts-after (step.Tick s) (reply.Tick None) c ok = same (hart_after hart (step.Tick s) (reply.Tick None) c) refl refl refl
    counts-after (step.Tick s) (reply.Tick (Some changes)) c ok = same (hart_after hart (step.Tick s) (reply.Tick (Some changes)) c) refl refl refl
    counts-after (step.Idle s) r c ok = ended (hart_after hart (step.Idle s) r c) refl refl (none-at (step.Idle s) c ok refl) (some-at (step.Idle s) c ok refl)
    counts-after (step.Dispatch s) (reply.Dispatch (Ok slice)) c ok =
        ended (hart_after hart (step.Dispatch s) (reply.Dispatch (Ok slice)) c) refl refl (none-at (step.Dispatch s) c ok refl) (some-at (step.Dispatch s) c ok refl)
    counts-after (step.Dispatch s) r c ok = ended (hart_after hart (step.Dispatch s) r c) refl refl (none-at (step.Dispatch s) c ok refl) (some-at (step.Dispatch s) c ok refl)
    counts-after (step.Preempt s) r c ok = ended (hart_after hart (step.Preempt s) r c) refl refl refl (some-at (step.Preempt s) c ok refl)
    counts-after (step.Leave s) r c ok = ended (hart_after hart (step.Leave s) r c) refl refl refl (some-at (step.Leave s) c ok refl)
    counts-after (step.Take s) r c ok = ended (hart_after hart (step.Take s) r c) refl refl (none-at (step.Take s) c ok refl) (some-at (step.Take s) c ok refl)
    counts-after (step.Balance s) r c ok = ended (hart_after hart (step.Balance s) r c) refl refl (none-at (step.Balance s) c ok refl) (some-at (step.Balance s) c ok refl)
    counts-after (step.Fetch s) (reply.Fetch None) c ok =
        ended (hart_after hart (step.Fetch s) (reply.Fetch None) c) refl refl (none-at (step.Fetch s) c ok refl) (some-at (step.Fetch s) c ok refl)
    counts-after (step.Fetch s) (reply.Fetch (Some done)) c ok = fetched-counts s.generation done.outcome c (some-at (step.Fetch s) c ok refl) (none-at (step.Fetch s) c ok refl)
    counts-after (step.Access s) (reply.Access None) c ok = ended (hart_after hart (step.Access s) (reply.Access None) c) refl refl refl (some-at (step.Access s) c ok refl)
    counts-after (step.Access s) (reply.Access (Some accessed)) c ok =
        ended (hart_after hart (step.Access s) (reply.Access (Some accessed)) c) refl refl refl (some-at (step.Access s) c ok refl)
    counts-after (step.Fault s) r c ok = faulted-counts s.access (some-at (step.Fault s) c ok refl) (none-at (step.Fault s) c ok)
    counts-after s r c ok = same (hart_after hart s r c) refl refl refl

-- so in each state that is reached

module _ (O : Origin) where
  abbrev pub AllCount : State (machine O) → Type 0
  AllCount s = (h : ℕ) → h < O.opening.harts → Counts O.opening.turns (s (Actor (Hart h))).value.program

  counts-next : (s : State (machine O)) (e : Entry) → Known O s → MayHappen (machine O) s e → AllCount s → AllCount (next_state (machine O) s e)
  counts-next s e known may was h below =
      let m = machine O in
      let x = Actor (Hart h) in
      let hart = (s x).value.program in
      let kept = kept-reached O.opening.harts (board_of O s) known.board in
      after-step (λ (v : Counted). Counts O.opening.turns v.program) (touches m x e) (m.IsAllowedAt x (s x).value e) (m.apply_at x (s x).value e) (s x).value (next_state m s e x).value
      (cell-becomes m s e may x)
      (λ t ok.
      counts-after O.opening.turns h hart (was h below) (harts-are-within O.opening.harts (board_of O s) known.board h) (kept.currents.owes h) e.event.step e.event.reply e.carry ok.step)
      (λ t. was h below)

  counts-run : (s : State (machine O)) (es : List Entry) → IsMachineRun (machine O) s es → AreInOrder O s es → Known O s → AllCount s → AllCount (state_after (machine O) s es)
  counts-run s [] ran order known was = was
  counts-run s (e ∷ es) ran order known was =
      counts-run (next_state (machine O) s e) es ran.1 order.1 (known-next O s e ran.0 order.0 known) (counts-next s e known ran.0 was)

  counts-start : AllCount (start O)
  counts-start h below = record {
    sum = plus-zero _ ∙ ap (λ (b : Bool). if b then O.opening.turns else 0) (lt-true h O.opening.harts below);
    waits_in = λ some. absurd (false-true some);
  }
    where
      plus-zero : (a : ℕ) → a + 0 ≡ a
      plus-zero a = omega arith

  counts-begun : (boot : List Entry) → AllCount (booted O boot) → AllCount (begun O boot)
  counts-begun boot was h below = was h below

  pub counts-reached : (s : State (machine O)) → IsReached O s → AllCount s
  counts-reached s is =
      let leads = is.leads in
      let boot = leads.boot in
      let parts = leads.runs.parts in
      let known = known-run O (start O) boot parts.boot_runs (boot-order O s is) (known-start O) in
      let at-boot : AllCount (booted O boot) = counts-run (start O) boot parts.boot_runs (boot-order O s is) (known-start O) counts-start in
      elim (ended-or (booted O boot first).value) [
        | inl end ↦ subst AllCount (sym (leads.state.ended end)) (counts-run (begun O boot) leads.later parts.later_runs (later-order O s is) (known-begun O boot known) (counts-begun boot at-boot))
        | inr open' ↦ subst AllCount (sym (leads.state.unended open').1) at-boot
      ]
