use Rattle.std.proofs.Common.{◌+◌}
use Rattle.hv_board.specs.Places.{first_body}
use Rattle.hv_board.specs.Started.{StartsTo}
use Rattle.hv_board.specs.declared.layout.Layout.{Layout}
use Rattle.hv_board.proofs.open.push_bodies.Given as goal

abbrev pub invariant-loop-number : goal.invariant-loop-number
invariant-loop-number g l = (layout : Layout) → StartsTo g.E.Emulator.state layout l.fn.cells.items (first_body layout) l.cells.items (first_body layout + l.number)
