use Rattle.std.proofs.Common.{◌≡◌, ◌≤◌, length, map, take}
use Rattle.std.specs.Prelude.{vec_capacity}
use Rattle.hv_hart_steps.specs.Balanced.{queue_in}
use Rattle.hv_parts.specs.Value.{valued}
use Rattle.hv_hart_steps.proofs.lengths.lengths_of.Given as goal

abbrev pub invariant-loop-number : goal.invariant-loop-number
invariant-loop-number g l = record {
  measured : l.lengths.items ≡ map (λ place. length (queue_in (valued g.E.Emulator.state place))) (take l.number l.fn.queues);
  room : length l.fn.queues ≤ vec_capacity l.lengths;
}
