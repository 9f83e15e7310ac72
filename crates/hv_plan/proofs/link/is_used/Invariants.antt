use Rattle.std.proofs.Common.{◌≡◌, drop}
use Rattle.std.specs.List.{list_any}
use Rattle.hv_plan.specs.Links.{is_same_link}
use Rattle.hv_plan.proofs.link.is_used.Given as goal

abbrev pub invariant-loop-one : goal.invariant-loop-one
invariant-loop-one l = list_any (is_same_link l.link) (drop l.one-index l.earlier) ≡ list_any (is_same_link l.link) l.earlier
