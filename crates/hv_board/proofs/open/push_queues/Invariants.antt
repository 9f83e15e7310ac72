use Rattle.std.proofs.Common.{◌+◌}
use Rattle.hv_board.specs.Places.{first_queue}
use Rattle.hv_board.specs.Started.{StartsTo}
use Rattle.hv_board.proofs.open.push_queues.Given as goal

abbrev pub invariant-loop-hart : goal.invariant-loop-hart
invariant-loop-hart g l = StartsTo g.E.Emulator.state l.fn.layout l.fn.cells.items first_queue l.cells.items (first_queue + l.hart)
