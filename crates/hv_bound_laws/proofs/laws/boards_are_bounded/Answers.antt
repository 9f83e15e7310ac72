use Rattle.hv_bound_laws.proofs.Boards.{holds-within}
use Rattle.hv_bound_laws.proofs.laws.boards_are_bounded.Goals as goal

pub returns : goal.returns
returns g c = holds-within g.E.Emulator.state c.args.board.now
