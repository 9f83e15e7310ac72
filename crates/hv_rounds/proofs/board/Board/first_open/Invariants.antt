use Rattle.std.proofs.Common.{◌≡◌, ℕ, ◌<◌, ◌≤◌, true}
use Rattle.hv_model.specs.Session.{has_ended}
use Rattle.hv_rounds.specs.declared.terminal.Terminal.{Terminal}
use Rattle.hv_rounds.specs.Cells.{session_of}
use Rattle.hv_rounds.specs.Board.{at}
use Rattle.hv_rounds.proofs.board.Board.first_open.Given as goal

abbrev pub invariant-loop-index : goal.invariant-loop-index
invariant-loop-index l = (k : ℕ) (d : Terminal) → l.from ≤ k → k < l.index → has_ended (session_of (at l.self k d)) ≡ true
