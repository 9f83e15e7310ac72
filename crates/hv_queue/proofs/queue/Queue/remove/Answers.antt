use Rattle.std.proofs.Common.{◌≡◌, ◌==◌, not, subst, sym, ap, ◌∙◌, arith, rules}
use Rattle.std.proofs.lemmas.Fn.{filter_same}
use Rattle.hv_queue.specs.Queue.{IsQueue, without}
use Rattle.hv_queue.proofs.Weights.{filter-without}
use Rattle.hv_queue.proofs.Kept.{kept-without}
use Rattle.hv_queue.proofs.queue.Queue.remove.Goals as goal

pub invariant_of-self : goal.invariant_of-self
invariant_of-self c =
    let is : c.retain.new.self.items ≡ without c.args.vcpu c.self.inside.entries.items =
    filter_same _ (λ e. not (c.args.vcpu == e.vcpu)) _ (λ x b f' k. search rules) _ _ c.retain.ensures.filtered ∙ filter-without c.args.vcpu c.self.inside.entries.items in
    (subst IsQueue (sym is) (kept-without c.args.vcpu c.self.inside.entries.items c.self.invariant.0), omega (arith, c.self.invariant.1, c.retain.ensures.capacity))

pub returns : goal.returns
returns c =
    let is : c.retain.new.self.items ≡ without c.args.vcpu c.self.inside.entries.items =
    filter_same _ (λ e. not (c.args.vcpu == e.vcpu)) _ (λ x b f' k. search rules) _ _ c.retain.ensures.filtered ∙ filter-without c.args.vcpu c.self.inside.entries.items in
    is ∙ ap (without c.args.vcpu) c.self.view_is
