use Rattle.std.proofs.Common.{◌≡◌, ◌<◌, ◌≤◌, ℕ, length, slice_index_or}
use Rattle.hv_hart_steps.specs.Balanced.{Balances}
use Rattle.hv_parts.specs.Value.{valued}
use Rattle.hv_hart_steps.proofs.queues.balance_queues.Given as goal

abbrev pub invariant-loop-number : goal.invariant-loop-number
invariant-loop-number g l = record {
  long : length l.queues ≡ length l.fn.queues;
  each : (k : ℕ) (d : _) → k < l.number → Balances l.lengths l.moved k (valued g.E.Emulator.state (slice_index_or l.fn.queues k d)) (valued g.E.Emulator.state (slice_index_or l.queues k d));
  rest : (k : ℕ) (d : _) → l.number ≤ k → slice_index_or l.queues k d ≡ slice_index_or l.fn.queues k d;
}
