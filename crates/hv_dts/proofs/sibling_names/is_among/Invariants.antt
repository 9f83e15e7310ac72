use Rattle.std.proofs.Common.{◌≡◌, drop}
use Rattle.hv_dts.specs.Rules.{has_name}
use Rattle.hv_dts.proofs.sibling_names.is_among.Given as goal

abbrev pub invariant-loop-one : goal.invariant-loop-one
invariant-loop-one l = has_name (drop l.one-index l.names) l.name ≡ has_name l.names l.name
