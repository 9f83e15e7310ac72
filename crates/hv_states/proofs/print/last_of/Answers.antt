use Rattle.std.proofs.Common.{◌-◌, arith, length}
use Rattle.hv_kinds.specs.declared.state.State.TheVariants.{Unknown}
use Rattle.hv_states.proofs.Lines.{last-at}
use Rattle.hv_states.proofs.print.last_of.Goals as goal

pub returns-in-len1-up : goal.returns-in-len1-up
returns-in-len1-up c =
    last-at c.args.first c.args.further.now (length c.args.further.now - 1) Unknown (omega (arith, c.in-len1-up.len_at_least))
