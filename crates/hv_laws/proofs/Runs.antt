-- What holds at the start of a run and is kept by each step holds at each board that it reaches.
use Rattle.std.proofs.Common.{◌≡◌, ℕ, zero, suc, ◌<◌, Bool, true, false, ◌==◌, refl, ap, sym, ◌∙◌, subst, arith, eqb-true, eq-eqb, List, [], ◌∷◌}
use Rattle.std.specs.Prelude.{option_map, Option, None, Some, Ok}
use Rattle.std.specs.List.{list_all, list_any, range_with_len}
use Rattle.hv_answer.specs.declared.reply.Reply.{Reply}
use Rattle.hv_answer.specs.declared.reply.Reply.TheVariants as reply
use Rattle.hv_event.specs.declared.event.ActorId.{ActorId}
use Rattle.hv_event.specs.declared.event.ActorId.TheVariants.{Hart, Terminal}
use Rattle.hv_kinds.specs.declared.state.State.{State}
use Rattle.hv_kinds.specs.declared.state.State.TheVariants.{Ready, Running}
use Rattle.hv_queue.specs.Queue.{weigh, count_in, head_of}
use Rattle.hv_rules.specs.Carry.{Carry}
use Rattle.hv_event.specs.declared.event.CellId.TheVariants.{Queue, Vcpu}
use Rattle.hv_rules.specs.Footprint.{components, reached}
use Rattle.hv_rules.specs.Vcpu.{VcpuAgrees, runs_on, dispatched}
use Rattle.hv_step.specs.declared.step.Step.{Step}
use Rattle.hv_step.specs.declared.step.Step.TheVariants as step
use Rattle.hv_vcpu.specs.Table.{led}
use Rattle.hv_vcpu.specs.Vcpu.{VcpuValue}
use Rattle.hv_vcpu.specs.declared.moves.Move.TheVariants as move
use Rattle.hv_laws.specs.Board.{Board, Made, IsStep, is_vcpu}
use Rattle.hv_laws.specs.Run.{IsStart, IsRun, IsReached}
use Rattle.hv_laws.specs.Laws.{HartsAreWithinTheirSlices, current_of, vcpu_run, StepsAreOfTheCurrent, is_ready, one_if, RunningIsCurrent, RunsApart, DispatchIsNotRefused}
use Rattle.hv_laws.proofs.Current.{Currents, currents-kept, hart-step, some-same}
use Rattle.hv_laws.proofs.Frame.{or-true}
use Rattle.hv_laws.proofs.Ready.{Ordered, ordered-kept, there}
use Rattle.hv_rules.proofs.Slices.{is_signal, within-kept}
use Rattle.hv_rules.specs.Hart.{Current, IsWithinItsSlice}
use Rattle.hv_laws.proofs.States.{runs-here, running-same}
use Rattle.hv_laws.proofs.Steps.{queue-touched, vcpu-touched, past-queues}
use Rattle.hv_laws.proofs.Sums.{sum-none, sum-part}
use Rattle.hv_laws.proofs.Weights.{valued, head-stands}
use Rattle.hv_laws.proofs.Worths.{worth-none}

run-keeps : (count : ℕ) (P : Board → Type 0) → ((before after : Board) (made : Made) → IsStep count before after made → P before → P after)
    → (from : Board) (steps : List Made) (to : Board) → IsRun count from steps to → P from → P to
run-keeps count P kept from [] to is p = subst P (sym is) p
run-keeps count P kept from (made ∷ later) to is p = run-keeps count P kept is.0 later to is.2 (kept from is.0 made is.1 p)

pub reached-keeps : (count : ℕ) (P : Board → Type 0) → ((start : Board) → IsStart count start → P start)
    → ((before after : Board) (made : Made) → IsStep count before after made → P before → P after)
    → (board : Board) → IsReached count board → P board
reached-keeps count P begins kept board is = run-keeps count P kept is.start is.steps board is.leads (begins is.start is.begins)

-- at the start no VCPU runs
start-running : (count : ℕ) (b : Board) → IsStart count b → (v h : ℕ) → (b.vcpus v).state ≡ Running h → ⊥
start-running count b is zero h run = let r = is.orphan in cc
start-running count b is (suc v) h run = let r = ap (λ x. x.state) (is.others v) in cc

start-currents : (count : ℕ) (b : Board) → IsStart count b → Currents b
start-currents count b is = record {
  runs = λ v h run. absurd (start-running count b is v h run);
  owes = λ h. ap (λ owed. list_all is_signal owed) (is.nothing_owed h);
}

currents-reached : (count : ℕ) (b : Board) → IsReached count b → Currents b
currents-reached count = reached-keeps count Currents (start-currents count) (λ b a m is J. currents-kept count b a m is J)

pub running-is-current : RunningIsCurrent
running-is-current count b is v h run = (currents-reached count b is).runs v h run

same-test : (a b : Bool) → (a ≡ true → b ≡ true) → (b ≡ true → a ≡ true) → a ≡ b
same-test true true f g = refl
same-test true false f g = sym (f refl)
same-test false true f g = g refl
same-test false false f g = refl

pub runs-apart : RunsApart
runs-apart count b is v w g h p q =
    same-test (v == w) (g == h)
    (λ same. eq-eqb g h (running-same (b.vcpus w).state g h (subst (λ n. (b.vcpus n).state ≡ Running g) (eqb-true v w same) p) q))
    (λ same.
    eq-eqb v w (some-same (current_of (b.harts h)) v w
    (running-is-current count b is v h (p ∙ ap Running (eqb-true g h same))) (running-is-current count b is w h q)))

record Slices (b : Board) : Type 0 where
  currents : Currents b
  within : (h : ℕ) → IsWithinItsSlice (b.harts h)

start-slices : (count : ℕ) (b : Board) → IsStart count b → Slices b
start-slices count b is = record {
  currents = start-currents count b is;
  within = λ h. record { pending = λ _. is.nothing_pending h; used = λ current now. absurd (none-some (b.harts h).current current (is.free h) now) };
}
  where
    none-some : (now : Option Current) (k : Current) → now ≡ None → now ≡ Some k → ⊥
    none-some now k p q = cc

slices-reached : (count : ℕ) (b : Board) → IsReached count b → Slices b
slices-reached count =
    reached-keeps count Slices (start-slices count)
    (λ b a m is J. record {
      currents = currents-kept count b a m is J.currents;
      within = λ h. hart-step count b a m is h IsWithinItsSlice (λ t ok. within-kept h (b.harts h) (J.currents.owes h) (J.within h) m.step m.reply m.carry ok) (λ t. J.within h);
    })

pub harts-are-within : HartsAreWithinTheirSlices
harts-are-within count b is h = (slices-reached count b is).within h

-- at the start no VCPU is ready, and no queue has an entry
start-not-ready : (count : ℕ) (b : Board) → IsStart count b → (v : ℕ) → is_ready (b.vcpus v).state ≡ false
start-not-ready count b is zero = ap is_ready is.orphan
start-not-ready count b is (suc v) = ap (λ x. is_ready x.state) (is.others v)

start-ordered : (count : ℕ) (b : Board) → IsStart count b → Ordered count b
start-ordered count b is = record {
  currents = start-currents count b is;
  known = is.known;
  idle = λ h out. ap (λ now. option_map (λ current. current.vcpu) now) (is.free h);
  empty = λ g out. is.queues g;
  counted = λ v f.
      sum-none count (λ g. weigh (valued v f) (b.queues g)) (λ g l. ap (weigh (valued v f)) (is.queues g)) ∙ sym (worth-none f (b.vcpus v) (start-not-ready count b is v));
}

pub ordered-reached : (count : ℕ) → 0 < count → (b : Board) → IsReached count b → Ordered count b
ordered-reached count positive = reached-keeps count (Ordered count) (start-ordered count) (λ b a m is J. ordered-kept count positive b a J m is)

-- a VCPU that stands in a queue is ready
pub one-if-true : (b : Bool) → 0 < one_if b → b ≡ true
one-if-true true l = refl
one-if-true false l = absurd (omega arith)

pub ready-is : (s : State) → is_ready s ≡ true → s ≡ Ready
ready-is Ready is = refl
ready-is _ is = absurd (cc)

standing-ready : (count : ℕ) (b : Board) → Ordered count b → (g v : ℕ) → g < count → head_of (b.queues g) ≡ Some v → (b.vcpus v).state ≡ Ready
standing-ready count b o g v l head =
    let stood = head-stands (b.queues g) v head in
    let part = sum-part count g (λ k. count_in v (b.queues k)) l in
    let total = o.counted v (λ p. 1) in
    ready-is (b.vcpus v).state (one-if-true (is_ready (b.vcpus v).state) (omega arith))

dispatch-answer : (count : ℕ) (positive : 0 < count) (b a : Board) (by : ActorId) (vcpu : ℕ) (r : Reply) (c : Carry) → Ordered count b
    → IsStep count b a (record { by = by; step = step.Dispatch (record { vcpu = vcpu }); reply = r; carry = c }) → r ≡ reply.Dispatch (Ok (b.vcpus vcpu).plan.slice)
dispatch-answer count positive b a (Terminal t) vcpu r c o is =
    let at = vcpu-touched (Vcpu vcpu ∷ []) b a (record { by = Terminal t; step = step.Dispatch (record { vcpu = vcpu }); reply = r; carry = c }) is.components vcpu (or-true (vcpu == vcpu) false (eq-eqb vcpu vcpu refl)) in
    absurd at.0
dispatch-answer count positive b a (Hart h) vcpu r c o is =
    let s : Step = step.Dispatch (record { vcpu = vcpu }) in
    let m : Made = record { by = Hart h; step = s; reply = r; carry = c } in
    let cs = Queue h ∷ Vcpu vcpu ∷ [] in
    let at = vcpu-touched cs b a m is.components vcpu (or-true (vcpu == vcpu) false (eq-eqb vcpu vcpu refl)) in
    let here = queue-touched cs b a m is.components h (or-true (h == h) false (eq-eqb h h refl)) in
    let ready = standing-ready count b o h vcpu (there count positive b a o m is h refl refl) here.0 in
    at.0 ∙ ap (λ x. reply.Dispatch (dispatched (b.vcpus vcpu).plan.slice (led (move.Dispatch h) x))) ready

pub dispatch-is-not-refused : DispatchIsNotRefused
dispatch-is-not-refused count b next made vcpu positive reached is dispatches =
    dispatch-answer count positive b next made.by vcpu made.reply made.carry (ordered-reached count positive b reached)
    (subst (λ s. IsStep count b next (record { by = made.by; step = s; reply = made.reply; carry = made.carry })) dispatches is)

-- a step that runs a VCPU touches it, and the VCPU agrees where it runs on the actor
named : (v u : ℕ) → Some u ≡ Some v → (v == u) ≡ true
named v u is = eq-eqb v u (some-injective u v is)
  where
    some-injective : (u v : ℕ) → Some u ≡ Some v → v ≡ u
    some-injective u v is = cc

run-touched : (count : ℕ) (by : ActorId) (s : Step) (r : Reply) (c : Carry) (v : ℕ) → vcpu_run s ≡ Some v → list_any (is_vcpu v) (components count by s r c) ≡ true
run-touched count (Hart h) (step.Preempt s) r c v is = or-true (v == s.vcpu) false (named v s.vcpu is)
run-touched count (Terminal t) (step.Preempt s) r c v is = or-true (v == s.vcpu) false (named v s.vcpu is)
run-touched count by (step.Take s) r c v is = or-true (v == s.vcpu) false (named v s.vcpu is)
run-touched count by (step.Fetch s) r c v is = or-true (v == s.vcpu) (list_any (is_vcpu v) (reached s.generation s.row c.area)) (named v s.vcpu is)
run-touched count by (step.Access s) r c v is = or-true (v == s.vcpu) (list_any (is_vcpu v) (reached s.generation s.row c.area)) (named v s.vcpu is)
run-touched count by (step.Fault s) r c v is = or-true (v == s.vcpu) false (named v s.vcpu is)
run-touched count by (step.Balance s) r c v is = past-queues v (range_with_len 0 count) (Vcpu 0 ∷ []) ∙ or-true (v == 0) false (named v 0 is)
run-touched count by _ r c v is = absurd (cc)

run-agreed : (by : ActorId) (x : VcpuValue) (s : Step) (r : Reply) (c : Carry) (v : ℕ) → vcpu_run s ≡ Some v → VcpuAgrees by x s r c → runs_on by x.state ≡ true
run-agreed by x (step.Preempt s) r c v is ok = ok.0
run-agreed by x (step.Take s) r c v is ok = ok.0
run-agreed by x (step.Fetch s) r c v is ok = ok.0
run-agreed by x (step.Access s) r c v is ok = ok.0
run-agreed by x (step.Fault s) r c v is ok = ok.0
run-agreed by x (step.Balance s) r c v is ok = ok
run-agreed by x _ r c v is ok = absurd (cc)

runs-by : (by : ActorId) (s : State) → runs_on by s ≡ true → (h : ℕ) × (by ≡ Hart h) × (s ≡ Running h)
runs-by (Hart h) s is = (h, refl, runs-here h s is)
runs-by (Terminal t) s is = absurd (cc)

pub steps-are-of-the-current : StepsAreOfTheCurrent
steps-are-of-the-current count b next made v reached is runs =
    let at = vcpu-touched (components count made.by made.step made.reply made.carry) b next made is.components v (run-touched count made.by made.step made.reply made.carry v runs) in
    let by = runs-by made.by (b.vcpus v).state (run-agreed made.by (b.vcpus v) made.step made.reply made.carry v runs at.0) in
    (by.0, by.1, by.2, running-is-current count b reached v by.0 by.2)
