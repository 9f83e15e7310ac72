use Rattle.std.proofs.Common.{arith}
use Rattle.hv_board.proofs.LiftLemmas.{greatest-within}
use Rattle.hv_board.proofs.board.Board.lift.Goals as goal

pub overflow_add-top : goal.overflow_add-top
overflow_add-top g c =
    let within = greatest-within g.E.Emulator.state c.args.self.now c.args.xs.now c.args.stamp c.requires.whole c.requires.order c.requires.bounded in
    omega (arith, within, c.greatest-top.ensures)

pub take_out-requires-clause-bounded : goal.take_out-requires-clause-bounded
take_out-requires-clause-bounded g c =
    let within = greatest-within g.E.Emulator.state c.args.self.now c.args.xs.now c.args.stamp c.requires.whole c.requires.order c.requires.bounded in
    omega (arith, within, c.greatest-top.ensures, c.if-top-eq-GREATEST_STAMP.false)
