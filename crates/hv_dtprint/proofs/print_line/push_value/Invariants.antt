use Rattle.std.proofs.Common.{◌≡◌, ◌++◌, ◌∷◌, take}
use Rattle.std.specs.List.{flat_map}
use Rattle.hv_dtprint.specs.Printed.{hex_pair}
use Rattle.hv_dtprint.proofs.print_line.push_value.Given as goal

abbrev pub invariant-loop-byte : goal.invariant-loop-byte
invariant-loop-byte l = l.out.items ≡ l.initial.out.items ++ flat_map (λ byte. 32 ∷ hex_pair byte) (take l.byte-index l.rest)
