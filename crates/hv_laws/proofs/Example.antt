-- The example is a run: what each step touches agrees to it.
use Rattle.std.proofs.Common.{◌≡◌, ℕ, Bool, true, false, ◌==◌, ◌||◌, if◌then◌else◌, List, [], ◌∷◌, refl, sym, ◌∙◌}
use Rattle.std.specs.List.{list_any}
use Rattle.hv_rules.specs.Footprint.{components}
use Rattle.hv_rules.specs.Hart.{HartAgrees}
use Rattle.hv_rules.specs.Queue.{QueueAgrees}
use Rattle.hv_rules.specs.Vcpu.{VcpuAgrees}
use Rattle.hv_laws.specs.Board.{Board, Made, Becomes, IsStep, is_queue, is_vcpu, is_hart, board_after}
use Rattle.hv_laws.specs.Run.{IsRun, board_at}
use Rattle.hv_laws.specs.Example as example
use Rattle.hv_laws.proofs.Frame.{or-false, at-same, false-true}

becomes-if : {A : Type 0} (t : Bool) (agrees : Type 0) (changed before : A) → (t ≡ true → agrees) → Becomes t agrees changed before (if t then changed else before)
becomes-if true agrees changed before ok = (ok refl, refl)
becomes-if false agrees changed before ok = refl

record Agree (count : ℕ) (b : Board) (m : Made) : Type 0 where
  queues : (g : ℕ) → list_any (is_queue g) (components count m.by m.step m.reply m.carry) ≡ true → QueueAgrees g (b.queues g) m.step m.reply m.carry
  vcpus : (v : ℕ) → list_any (is_vcpu v) (components count m.by m.step m.reply m.carry) ≡ true → VcpuAgrees m.by (b.vcpus v) m.step m.reply m.carry
  hart : (h : ℕ) → is_hart h m.by ≡ true → HartAgrees h (b.harts h) m.step m.carry

step-made : (count : ℕ) (b : Board) (m : Made) → Agree count b m → IsStep count b (board_after count b m) m
step-made count b m a = record {
  components = record {
    queues = λ g. becomes-if (list_any (is_queue g) (components count m.by m.step m.reply m.carry)) _ _ _ (a.queues g);
    vcpus = λ v. becomes-if (list_any (is_vcpu v) (components count m.by m.step m.reply m.carry)) _ _ _ (a.vcpus v);
  };
  actor = λ h. becomes-if (is_hart h m.by) _ _ _ (a.hart h);
}

abbrev AllAgree : (count : ℕ) → Board → List Made → Type 0
AllAgree count b [] = Unit {0}
AllAgree count b (m ∷ later) = Agree count b m × AllAgree count (board_after count b m) later

run-made : (count : ℕ) (b : Board) (steps : List Made) → AllAgree count b steps → IsRun count b steps (board_at count b steps)
run-made count b [] all = refl
run-made count b (m ∷ later) all = (board_after count b m, step-made count b m all.0, run-made count (board_after count b m) later all.1)

-- what holds of number 0 holds of each number that a step touches
at-zero : (P : ℕ → Type 0) (v : ℕ) → ((v == 0) || false) ≡ true → P 0 → P v
at-zero P v t = at-same P v 0 (sym (or-false (v == 0)) ∙ t)

abbrev board : List Made → Board
board steps = board_at 2 example.start steps

-- a step of hart 0
hart-zero : (b : Board) (m : Made) → HartAgrees 0 (b.harts 0) m.step m.carry → (h : ℕ) → (h == 0) ≡ true → HartAgrees h (b.harts h) m.step m.carry
hart-zero b m ok h is = at-same (λ n. HartAgrees n (b.harts n) m.step m.carry) h 0 is ok

vcpu-zero : (b : Board) (m : Made) → VcpuAgrees m.by (b.vcpus 0) m.step m.reply m.carry → (v : ℕ) → ((v == 0) || false) ≡ true → VcpuAgrees m.by (b.vcpus v) m.step m.reply m.carry
vcpu-zero b m ok v t = at-zero (λ n. VcpuAgrees m.by (b.vcpus n) m.step m.reply m.carry) v t ok

queue-zero : (b : Board) (m : Made) → QueueAgrees 0 (b.queues 0) m.step m.reply m.carry → (g : ℕ) → ((g == 0) || false) ≡ true → QueueAgrees g (b.queues g) m.step m.reply m.carry
queue-zero b m ok g t = at-zero (λ n. QueueAgrees n (b.queues n) m.step m.reply m.carry) g t ok

kick-agrees : Agree 2 example.start example.kick
kick-agrees = record {
  queues = λ g t. tt;
  vcpus = vcpu-zero example.start example.kick (refl, refl);
  hart = λ h t. absurd (false-true t);
}

first-tick-agrees : Agree 2 (board (example.kick ∷ [])) (example.tick 0)
first-tick-agrees = record {
  queues = λ g t. absurd (false-true t);
  vcpus = λ v t. absurd (false-true t);
  hart = hart-zero (board (example.kick ∷ [])) (example.tick 0) (refl, refl);
}

dispatch-agrees : Agree 2 (board (example.kick ∷ example.tick 0 ∷ [])) example.dispatch
dispatch-agrees = record {
  queues = queue-zero (board (example.kick ∷ example.tick 0 ∷ [])) example.dispatch refl;
  vcpus = vcpu-zero (board (example.kick ∷ example.tick 0 ∷ [])) example.dispatch refl;
  hart = hart-zero (board (example.kick ∷ example.tick 0 ∷ [])) example.dispatch (tt, refl);
}

pause-agrees : Agree 2 (board example.running) example.pause
pause-agrees = record {
  queues = λ g t. tt;
  vcpus = vcpu-zero (board example.running) example.pause refl;
  hart = λ h t. absurd (false-true t);
}

second-tick-agrees : Agree 2 (board (example.kick ∷ example.tick 0 ∷ example.dispatch ∷ example.pause ∷ [])) (example.tick 1)
second-tick-agrees = record {
  queues = λ g t. absurd (false-true t);
  vcpus = λ v t. absurd (false-true t);
  hart = hart-zero (board (example.kick ∷ example.tick 0 ∷ example.dispatch ∷ example.pause ∷ [])) (example.tick 1) (refl, refl);
}

leave-agrees : Agree 2 (board (example.kick ∷ example.tick 0 ∷ example.dispatch ∷ example.pause ∷ example.tick 1 ∷ [])) example.leave
leave-agrees = record {
  queues = λ g t. absurd (false-true t);
  vcpus = vcpu-zero (board (example.kick ∷ example.tick 0 ∷ example.dispatch ∷ example.pause ∷ example.tick 1 ∷ [])) example.leave (refl, refl);
  hart = hart-zero (board (example.kick ∷ example.tick 0 ∷ example.dispatch ∷ example.pause ∷ example.tick 1 ∷ [])) example.leave (refl, refl);
}

pub example-runs : IsRun 2 example.start example.left (board_at 2 example.start example.left)
example-runs =
    run-made 2 example.start example.left
    (kick-agrees, (first-tick-agrees, (dispatch-agrees, (pause-agrees, (second-tick-agrees, (leave-agrees, tt))))))
