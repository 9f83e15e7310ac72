use Rattle.std.proofs.Common.{◌≡◌, ◌++◌}
use Rattle.std.specs.List.{flat_map, range_with_len}
use Rattle.hv_gen.specs.Host.{guest_line}
use Rattle.hv_gen.proofs.host.push_guests.Given as goal

abbrev pub invariant-guests : goal.invariant-guests
invariant-guests l = l.to ≡ l.fn.to ++ flat_map guest_line (range_with_len 0 l.guest)
