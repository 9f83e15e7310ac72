use Rattle.std.proofs.Common.{◌≡◌, ◌<◌, ◌^◌, ◌++◌}
use Rattle.std.specs.List.{flat_map, range_with_len}
use Rattle.hv_gen.specs.Numbers.{number_at}
use Rattle.hv_gen.specs.Program.{addition_at}
use Rattle.hv_gen.proofs.program.push_additions.Given as goal

abbrev pub invariant-additions : goal.invariant-additions
invariant-additions l = record {
  number : l.number ≡ number_at l.first l._made;
  small : l.number < 2 ^ 31;
  text : l.to ≡ l.fn.to ++ flat_map (addition_at l.first) (range_with_len 1 l._made);
}
