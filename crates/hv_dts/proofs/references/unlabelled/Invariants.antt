use Rattle.std.proofs.Common.{◌≡◌, List, ℕ, drop}
use Rattle.hv_dts.specs.Rules.{lesser, least, unlabelled}
use Rattle.hv_dts.specs.Sets.{Holds}
use Rattle.hv_dts.proofs.Labels.{lent}
use Rattle.hv_dts.proofs.references.unlabelled.Given as goal

abbrev pub invariant-loop-name : goal.invariant-loop-name
invariant-loop-name l = (held : List (List ℕ)) → Holds l.labels held → lesser l.best (least (unlabelled held (lent (drop l.name-index l.names)))) ≡ least (unlabelled held (lent l.names))
