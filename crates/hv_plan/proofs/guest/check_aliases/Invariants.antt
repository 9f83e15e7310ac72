use Rattle.std.proofs.Common.{◌≡◌, drop}
use Rattle.hv_plan.specs.Windows.{alias_causes}
use Rattle.hv_plan.specs.Guests.{faults_from, in_regions}
use Rattle.hv_plan.proofs.guest.check_aliases.Given as goal

abbrev pub invariant-loop-row : goal.invariant-loop-row
invariant-loop-row l =
    faults_from (in_regions l.guest) (λ plan. plan.name) (alias_causes l.plans) l.row (drop l.row l.plans) ≡ faults_from (in_regions l.guest) (λ plan. plan.name) (alias_causes l.plans) 0 l.plans
