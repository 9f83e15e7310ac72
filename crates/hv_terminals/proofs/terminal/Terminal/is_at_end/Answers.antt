use Rattle.std.proofs.Common.{ap, sym, subst}
use Rattle.hv_model.specs.Session.{HasEnded}
use Rattle.hv_terminals.specs.Terminal.{TerminalKept}
use Rattle.hv_terminals.proofs.terminal.Terminal.is_at_end.Goals as goal

pub returns-then-owes_nothing : goal.returns-then-owes_nothing
returns-then-owes_nothing c =
    let same = ap (λ (t : TerminalKept). t.terminal.session) c.self.view_is in (
      λ over. record {
        owed = c.owes_nothing.ensures.0 c.if-owes_nothing.true;
        ended = subst HasEnded same (c.has_ended.ensures.0 over);
      },
      λ ended. c.has_ended.ensures.1 (subst HasEnded (sym same) ended.ended),
    )
