use Rattle.std.proofs.Common.{◌≡◌, ◌==◌, not, subst, sym, ap, ◌∙◌, arith, rules}
use Rattle.std.proofs.lemmas.Fn.{filter_same}
use Rattle.hv_region.specs.Windows.{AreWindows, without_target}
use Rattle.hv_region.proofs.Places.{kept}
use Rattle.hv_region.proofs.list.WindowList.remove_target.Goals as goal

pub invariant_of-self : goal.invariant_of-self
invariant_of-self c =
    let is : c.retain.new.self.items ≡ without_target c.args.target c.self.inside.items.items = filter_same _ (λ window. not (window.target == c.args.target)) _ (λ x b f' k. search rules) _ _ c.retain.ensures.filtered in
    (subst AreWindows (sym is) (kept (λ window. not (window.target == c.args.target)) c.self.inside.items.items c.self.invariant.0), omega (arith, c.self.invariant.1))

pub returns : goal.returns
returns c =
    let is : c.retain.new.self.items ≡ without_target c.args.target c.self.inside.items.items = filter_same _ (λ window. not (window.target == c.args.target)) _ (λ x b f' k. search rules) _ _ c.retain.ensures.filtered in
    is ∙ ap (without_target c.args.target) c.self.view_is
