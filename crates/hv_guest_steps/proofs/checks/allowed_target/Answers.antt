use Rattle.std.proofs.Common.{◌∙◌, sym, ap, filter, is_some}
use Rattle.hv_body.specs.Windows.{meets}
use Rattle.hv_region.specs.declared.window.Window.{Window}
use Rattle.hv_rules.specs.Space.{is_of, least_row}
use Rattle.hv_guest_steps.specs.Additions.{region_at}
use Rattle.hv_guest_steps.proofs.Allowed.{any_found, is_live, is_overlap, then_alias}
use Rattle.hv_guest_steps.proofs.checks.allowed_target.Goals as goal

pub returns-then-is_some : goal.returns-then-is_some
returns-then-is_some c =
    let found = any_found (is_of c.args.at.row) c.args.windows.now in
    λ devices.
    is_live c.args.windows.now (region_at c.args.at c.args.plan.now) devices
    (cc (found, ap is_some c.window_of_row.ensures, c.is_some.ensures, c.if-is_some.true))

pub returns-in-Some : goal.returns-in-Some
returns-in-Some c =
    let found = any_found (is_of c.args.at.row) c.args.windows.now in
    λ devices.
    is_overlap c.args.windows.now (region_at c.args.at c.args.plan.now) devices c.in-Some.row
    (cc (found, ap is_some c.window_of_row.ensures, c.is_some.ensures, c.if-is_some.false))
    (ap (λ (w : Window). least_row (filter (meets w) c.args.windows.now)) (sym c.window_of.ensures) ∙ (sym c.least_met.ensures ∙ c.in-Some.is))

pub returns : goal.returns
returns c =
    let found = any_found (is_of c.args.at.row) c.args.windows.now in
    then_alias c.args.windows.now (region_at c.args.at c.args.plan.now) c.alias_target.result
    (cc (found, ap is_some c.window_of_row.ensures, c.is_some.ensures, c.if-is_some.false))
    (ap (λ (w : Window). least_row (filter (meets w) c.args.windows.now)) (sym c.window_of.ensures) ∙ (sym c.least_met.ensures ∙ c.in_default.is))
    c.alias_target.ensures
