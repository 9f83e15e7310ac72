use Rattle.std.proofs.Common.{◌+◌, ◌≤◌, ◌==◌, not, sym, subst}
use Rattle.std.specs.List.{All}
use Rattle.std.proofs.lemmas.List.Elements.{All-filter}
use Rattle.hv_body.proofs.live.Live.remove_window.Goals as goal

pub returns-clause-rules : goal.returns-clause-rules
returns-clause-rules g c = record {
  form = c.requires.form;
  within =
      subst (All (λ window. window.offset + window.size ≤ c.args.self.now.plan.size)) (sym c.remove_owner.ensures)
      (All-filter (λ window. not (window.owner == c.args.owner)) (λ window. window.offset + window.size ≤ c.args.self.now.plan.size) c.args.self.now.windows c.requires.within);
}
