use Rattle.hv_turn.specs.Passes.{IsOutside}
use Rattle.hv_turn.proofs.tests.visit.Given as goal

abbrev pub invariant-loop : goal.invariant-loop
invariant-loop g l = IsOutside l.turn.id l.number l.pass
