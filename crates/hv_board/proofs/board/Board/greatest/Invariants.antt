use Rattle.std.proofs.Common.{◌≡◌, take}
use Rattle.hv_board.specs.Board.{greatest_at}
use Rattle.hv_board.proofs.board.Board.greatest.Given as goal

abbrev pub invariant-loop-x : goal.invariant-loop-x
invariant-loop-x g l = l.top ≡ greatest_at l.self l.fn.stamp (take l.x-index l.xs)
