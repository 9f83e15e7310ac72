use Rattle.std.proofs.Common.{◌≡◌, ◌+◌, ◌≤◌, ◌++◌, map}
use Rattle.std.specs.VecDeque.{deque_len, deque_capacity}
use Rattle.hv_programs.specs.Owed.{step_of}
use Rattle.hv_programs.proofs.Pins.{pins_below}
use Rattle.hv_programs.proofs.owed.push_pins.Given as goal

abbrev pub invariant-loop-index : goal.invariant-loop-index
invariant-loop-index l = record {
  steps : map step_of l.steps.items ≡ map step_of l.initial.steps.items ++ pins_below l.generation l.row l.pins l.index;
  length : deque_len l.steps ≤ deque_len l.initial.steps + l.index;
  capacity : deque_capacity l.steps ≡ deque_capacity l.initial.steps;
}
