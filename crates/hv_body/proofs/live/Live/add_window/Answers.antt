use Rattle.std.proofs.Common.{◌+◌, ◌≤◌, ◌∙◌, sym}
use Rattle.hv_body.specs.Windows.{lies_apart}
use Rattle.hv_body.proofs.WindowLemmas.{all_put, shows_within}
use Rattle.hv_body.proofs.live.Live.add_window.Goals as goal

pub returns-then-lies_within-clause-rules : goal.returns-then-lies_within-clause-rules
returns-then-lies_within-clause-rules g c = record {
  form = c.requires.form;
  within =
      all_put (λ window. window.offset + window.size ≤ c.args.self.now.plan.size) (lies_apart c.args.self.now.windows c.args.window) c.args.self.now.windows c.put.new.windows c.args.window c.put.ensures
      (shows_within c.args.self.now.plan.size c.args.window (sym c.lies_within.ensures ∙ c.if-lies_within.true)) c.requires.within;
}
