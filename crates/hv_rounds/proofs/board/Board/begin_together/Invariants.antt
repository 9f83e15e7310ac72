use Rattle.std.proofs.Common.{◌≡◌, ℕ, ◌<◌, ◌≤◌}
use Rattle.hv_rounds.specs.declared.terminal.Terminal.{Terminal}
use Rattle.hv_rounds.specs.Cells.{BeginsAt}
use Rattle.hv_rounds.specs.Board.{at}
use Rattle.hv_rounds.proofs.board.Board.begin_together.Given as goal

pub record Begun {B : Type 0} (at_ : B → ℕ → Terminal → Terminal) (first now : B) (index stamp : ℕ) : Type 0 where
  pub done : (t : ℕ) (d : Terminal) → t < index → BeginsAt (at_ first t d) (at_ now t d) stamp
  pub left : (t : ℕ) (d : Terminal) → index ≤ t → at_ now t d ≡ at_ first t d

abbrev pub invariant-loop-index : goal.invariant-loop-index
invariant-loop-index l = (l.self.files ≡ l.initial.self.files) × Begun at l.initial.self l.self l.index l.stamp
