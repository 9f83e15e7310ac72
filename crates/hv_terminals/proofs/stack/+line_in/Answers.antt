use Rattle.std.proofs.Common.{ap, sym, ◌∙◌}
use Rattle.std.specs.Option.{option_copied}
use Rattle.hv_terminals.specs.Scripts.{line_of}
use Rattle.hv_terminals.proofs.Stacks.{line_last, further_last}
use Rattle.hv_terminals.proofs.stack.+line_in.Goals as goal

pub returns-in-Some : goal.returns-in-Some
returns-in-Some t c =
    line_last c.args.scripts.now _ c.inner-item.result c.in-Some.line.now c.in-len1-up.len_at_least c.inner-item.is
    (sym c.line.ensures ∙ ap option_copied c.in-Some.is)

pub returns-in-None : goal.returns-in-None
returns-in-None t c =
    c.line_in.ensures
    ∙ ap line_of (further_last c.args.scripts.now _ c.inner-item.result c.in-len1-up.len_at_least c.inner-item.is (sym c.line.ensures ∙ ap option_copied c.in-None.is))
