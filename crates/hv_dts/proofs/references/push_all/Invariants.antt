use Rattle.std.proofs.Common.{◌≡◌, ◌++◌, drop}
use Rattle.std.specs.Prelude.{map}
use Rattle.hv_dts.proofs.references.push_all.Given as goal

abbrev pub invariant-loop-name : goal.invariant-loop-name
invariant-loop-name l = map (λ it. it.now) l.out.items ++ (drop l.name-index l.names) ≡ map (λ it. it.now) l.initial.out.items ++ l.names
