use Rattle.std.proofs.Common.{◌≡◌, ◌+◌, length}
use Rattle.hv_model.specs.Origin.{Origin}
use Rattle.hv_board.specs.Places.{first_area}
use Rattle.hv_board.specs.Started.{AreStarted}
use Rattle.hv_board.specs.declared.layout.Layout.{Layout}
use Rattle.hv_board.proofs.open.push_areas.Given as goal

abbrev pub invariant-loop-named : goal.invariant-loop-named
invariant-loop-named g l =
    (O : Origin) (layout : Layout) → O.opening.areas ≡ l.fn.areas → layout.areas ≡ length l.fn.areas → AreStarted g.E.Emulator.state O layout l.fn.cells.items (first_area layout)
    → AreStarted g.E.Emulator.state O layout l.cells.items (first_area layout + l.named-index)
