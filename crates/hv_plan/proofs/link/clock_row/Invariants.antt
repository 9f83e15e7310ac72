use Rattle.std.proofs.Common.{◌≡◌, drop}
use Rattle.std.specs.List.{position_from}
use Rattle.hv_plan.specs.Links.{is_clock}
use Rattle.hv_plan.proofs.link.clock_row.Given as goal

abbrev pub invariant-loop-row : goal.invariant-loop-row
invariant-loop-row l = position_from is_clock l.row (drop l.row l.regions) ≡ position_from is_clock 0 l.regions
