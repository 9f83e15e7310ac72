-- A hart adds no region and no VCPU, and changes nothing of the directory.
use Rattle.std.proofs.Common.{◌≡◌, ℕ, zero, suc, ◌==◌, ◌%◌, ◌&&◌, not, if◌then◌else◌, true, false, eq-eqb, refl, ap, ◌∙◌, List, [], ◌∷◌, Option, None, Some}
use Rattle.std.specs.List.{list_all}
use Rattle.hv_event.specs.declared.event.ActorId.TheVariants.{Hart}
use Rattle.hv_kinds.specs.declared.generation.Generation.{Generation}
use Rattle.hv_laws.specs.Board.{is_hart}
use Rattle.hv_laws.specs.Legal.{board_of}
use Rattle.hv_laws.proofs.Current.{Currents}
use Rattle.hv_laws.proofs.Frame.{touched}
use Rattle.hv_laws.proofs.Legal.{step-of}
use Rattle.hv_machine.specs.Machine.{MayHappen, State, next_state}
use Rattle.hv_model.specs.Cell.{Actor}
use Rattle.hv_model.specs.declared.entry.Entry.{Entry}
use Rattle.hv_model.specs.Origin.{Origin}
use Rattle.hv_model.specs.Rules.{machine}
use Rattle.hv_rules.proofs.Slices.{first-signal, is_signal}
use Rattle.hv_rules.specs.Carry.{Carry, Pending}
use Rattle.hv_rules.specs.Hart.{Current, Fits, FitsCurrent, FitsFree, FitsPending, FitsRun, HartAgrees, HartState, Row, ends, free, hart_after, owed_row, owes, pending_row, row_of, runs, ticks, turn_row, waits, waits_for, with_current}
use Rattle.hv_step.specs.declared.step.Step.{Step}
use Rattle.hv_step.specs.declared.step.Step.TheVariants as step
use Rattle.hv_text.specs.declared.limits.TheConstants.{SLOTS}
use Rattle.hv_order_laws.proofs.Begun.{is_calm}

signal-calm : (s : Step) → is_signal s ≡ true → is_calm s ≡ true
signal-calm (step.Sample s) signal = refl
signal-calm (step.Pin s) signal = refl
signal-calm _ signal = absurd (cc signal)

waits-calm : (v : ℕ) (p : Pending) (g : Generation) (s : Step) (c : Carry) → FitsPending v p g s c → is_calm s ≡ true
waits-calm v p g (step.Leave s) c fits = refl
waits-calm v p g (step.Access s) c fits = refl
waits-calm v p g (step.Fault s) c fits = refl
waits-calm v p g _ c fits = absurd fits

free-calm : (s : Step) → FitsFree s → is_calm s ≡ true
free-calm (step.Dispatch s) fits = refl
free-calm (step.Idle s) fits = refl
free-calm _ fits = absurd fits

run-calm : (harts v : ℕ) (s : Step) (c : Carry) → FitsRun harts v s c → is_calm s ≡ true
run-calm harts zero (step.Balance s) c fits = refl
run-calm harts zero _ c fits = absurd fits
run-calm harts (suc v) (step.Take s) c fits = refl
run-calm harts (suc v) (step.Fetch s) c fits = refl
run-calm harts (suc v) (step.Fault s) c fits = refl
run-calm harts (suc v) _ c fits = absurd fits

current-calm : (harts : ℕ) (k : Current) (s : Step) (c : Carry) → FitsCurrent harts k s c → is_calm s ≡ true
current-calm harts k (step.Leave s) c fits = refl
current-calm harts k (step.Preempt s) c fits = refl
current-calm harts k s c fits = run-calm harts k.vcpu s c fits.1

-- it owes interrupt steps alone
abbrev IsSignalRow : Row → Type 0
IsSignalRow (owes next) = is_signal next ≡ true
IsSignalRow row = Unit {0}

row-calm : (harts : ℕ) (row : Row) (s : Step) (c : Carry) → IsSignalRow row → Fits harts row s c → is_calm s ≡ true
row-calm harts (owes next) s c known fits = signal-calm s (ap is_signal fits ∙ known)
row-calm harts (waits v p g) s c known fits = waits-calm v p g s c fits
row-calm harts ends s c known fits = absurd fits
row-calm harts (ticks slot) s c known fits = ap is_calm fits
row-calm harts free s c known fits = free-calm s fits
row-calm harts (runs k) s c known fits = current-calm harts k s c fits

waits-row : (current : Option Current) (p : Pending) (g : Generation) → IsSignalRow (waits_for current p g)
waits-row None p g = tt
waits-row (Some k) p g = tt

current-row : (current : Option Current) → IsSignalRow (with_current current)
current-row None = tt
current-row (Some current) = tt

left-row : (n : ℕ) (hart : HartState) (left : ℕ) → IsSignalRow (turn_row n hart left)
left-row n hart zero = tt
left-row n hart (suc left) =
    elim ((n == 0) && not hart.ticked) as (λ b. IsSignalRow (if b then ticks (hart.turns % SLOTS) else with_current hart.current)) [
      | true ↦ tt
      | false ↦ current-row hart.current
    ]

turn-signal : (n : ℕ) (hart : HartState) (pending : Option (Pending × Generation)) → IsSignalRow (pending_row n hart pending)
turn-signal n hart None = left-row n hart hart.left
turn-signal n hart (Some pending) = waits-row hart.current pending.0 pending.1

owed-signal : (n : ℕ) (hart : HartState) (owed : List Step) → list_all is_signal owed ≡ true → IsSignalRow (owed_row n hart owed)
owed-signal n hart [] signals = turn-signal n hart hart.pending
owed-signal n hart (next ∷ later) signals = first-signal (is_signal next) (list_all is_signal later) signals

pub hart-calm : (O : Origin) (s : State (machine O)) (h : ℕ) (e : Entry) → Currents (board_of O s) → e.event.actor ≡ Hart h → MayHappen (machine O) s e → is_calm e.event.step ≡ true
hart-calm O s h e currents by may =
    let hart = (s (Actor (Hart h))).value.program in
    let after = (board_of O (next_state (machine O) s e)).harts h in
    let agrees : HartAgrees h hart e.event.step e.carry =
    (touched (is_hart h e.event.actor) (HartAgrees h hart e.event.step e.carry) (hart_after hart e.event.step e.event.reply e.carry) hart after
    (ap (is_hart h) by ∙ eq-eqb h h refl) ((step-of O s e may).actor h)).0 in
    row-calm hart.harts (row_of h hart) e.event.step e.carry (owed-signal h hart hart.owed (currents.owes h)) agrees.0
