use Rattle.std.proofs.Common.{sym}
use Rattle.hv_body.proofs.WindowLemmas.{nothing, only}
use Rattle.hv_body.proofs.window.window_for.Goals as goal

pub returns-in_default-clause-value : goal.returns-in_default-clause-value
returns-in_default-clause-value c = sym (nothing c.args.place c.args.windows.now c.requires c.in_default.ensures)

pub returns-then-window-place-clause-value : goal.returns-then-window-place-clause-value
returns-then-window-place-clause-value c =
    sym ((only c.args.place c.args.windows.now c.in-Some.window c.requires c.at-first.ensures.rules c.in-Some.ensures.0 c.in-Some.ensures.1).0 c.if-window-place.true)

pub returns-else-window-place-clause-value : goal.returns-else-window-place-clause-value
returns-else-window-place-clause-value c =
    sym ((only c.args.place c.args.windows.now c.in-Some.window c.requires c.at-first.ensures.rules c.in-Some.ensures.0 c.in-Some.ensures.1).1 c.if-window-place.false)
