use Rattle.std.proofs.Common.{ap, sym, subst}
use Rattle.hv_model.specs.Session.{HasBooted}
use Rattle.hv_terminals.specs.Terminal.{TerminalKept}
use Rattle.hv_terminals.proofs.terminal.Terminal.is_at_boot_end.Goals as goal

pub returns-then-owes_nothing : goal.returns-then-owes_nothing
returns-then-owes_nothing c =
    let same = ap (λ (t : TerminalKept). t.terminal.session) c.self.view_is in (
      λ booted. record {
        owed = c.owes_nothing.ensures.0 c.if-owes_nothing.true;
        booted = subst HasBooted same (c.has_booted.ensures.0 booted);
      },
      λ ended. c.has_booted.ensures.1 (subst HasBooted (sym same) ended.booted),
    )
