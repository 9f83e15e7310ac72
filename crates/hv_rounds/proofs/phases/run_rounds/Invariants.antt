use Rattle.std.proofs.Common.{◌≡◌, ◌≤◌, ◌-◌, ◌*◌, List, []}
use Rattle.hv_text.specs.declared.limits.TheConstants.{GREATEST_STAMP}
use Rattle.hv_machine.specs.Machine.{State}
use Rattle.hv_model.specs.declared.entry.Entry.{Entry}
use Rattle.hv_model.specs.Origin.{Origin}
use Rattle.hv_model.specs.Rules.{machine}
use Rattle.hv_rounds.specs.Board.{Goes}
use Rattle.hv_rounds.proofs.PhaseLemmas.{RoundsGo, total}
use Rattle.hv_rounds.proofs.phases.run_rounds.Given as goal

abbrev pub invariant-rounds : goal.invariant-rounds
invariant-rounds l =
    (l.from ≤ 4) × ((O : Origin) (s : State (machine O)) (before : List Entry) → O.opening.turns ≡ 0 → Goes O s before [] l.initial.board → RoundsGo O s before l.made.items l.from l.board)

abbrev pub decreases-rounds : goal.decreases-rounds
decreases-rounds l = 4 * GREATEST_STAMP - total l.board.terminals.items
