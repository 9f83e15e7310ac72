use Rattle.std.proofs.Common.{◌≡◌, ◌++◌}
use Rattle.std.specs.List.{flat_map, range_with_len}
use Rattle.hv_gen.specs.Boot.{start_lines}
use Rattle.hv_gen.proofs.boot.push_starts.Given as goal

abbrev pub invariant-guests : goal.invariant-guests
invariant-guests l = l.to ≡ l.fn.to ++ flat_map start_lines (range_with_len 0 l.guest)
