use Rattle.std.proofs.Common.{sym}
use Rattle.hv_terminals.proofs.Terminals.{took-is}
use Rattle.hv_terminals.proofs.terminal.Terminal.took.Goals as goal

pub returns : goal.returns
returns c = λ carry row told.
    took-is c.args.self.now.terminal c.made.new.self.terminal c.owe.new.self.terminal c.count.new.self.terminal
    c.args.step.now c.args.reply.now carry c.args.row c.args.told.parent
    row (sym told.parent) (c.made.ensures.made carry (sym told.guest)) c.owe.ensures c.count.ensures
