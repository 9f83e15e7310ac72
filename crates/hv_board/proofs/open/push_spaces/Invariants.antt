use Rattle.std.proofs.Common.{◌+◌}
use Rattle.hv_board.specs.Places.{first_space}
use Rattle.hv_board.specs.Started.{StartsTo}
use Rattle.hv_board.specs.declared.layout.Layout.{Layout}
use Rattle.hv_board.proofs.open.push_spaces.Given as goal

abbrev pub invariant-loop-slot : goal.invariant-loop-slot
invariant-loop-slot g l = (layout : Layout) → StartsTo g.E.Emulator.state layout l.fn.cells.items first_space l.cells.items (first_space + l.slot)
