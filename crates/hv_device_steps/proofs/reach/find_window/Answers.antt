use Rattle.std.proofs.Common.{List, ap, ◌∙◌}
use Rattle.hv_region.specs.declared.window.Window.{Window}
use Rattle.hv_rules.specs.Windows.{window_at}
use Rattle.hv_device_steps.proofs.reach.find_window.Goals as goal

pub returns : goal.returns
returns c =
    c.searches_find_what_the_rules_name.ensures.window c.windows-windows.result.now c.args.kind c.args.address c.args.size c.find.result
    c.at-first.ensures.rules c.find.ensures
    ∙ ap (λ (windows : List Window). window_at windows c.args.kind c.args.address c.args.size) c.windows-windows.ensures
