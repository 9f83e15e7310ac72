use Rattle.std.proofs.Common.{◌≡◌, take}
use Rattle.std.specs.Prelude.{filter_map}
use Rattle.std.specs.Option.{option_map}
use Rattle.hv_rules.specs.Dir.{listed}
use Rattle.hv_guest_steps.proofs.directory.listed_guests.Given as goal

abbrev pub invariant-loop-slot : goal.invariant-loop-slot
invariant-loop-slot l = l.guests.items ≡ filter_map (option_map listed) (take l.slot l.dir.entries)
