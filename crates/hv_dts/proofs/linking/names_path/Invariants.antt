use Rattle.std.proofs.Common.{◌≡◌, ◌++◌, drop}
use Rattle.hv_dts.specs.Linking.{names_path}
use Rattle.hv_dts.proofs.linking.names_path.Given as goal

abbrev pub invariant-loop-name : goal.invariant-loop-name
invariant-loop-name l = l.path.items ++ names_path (drop l.name-index l.names) ≡ names_path l.names
