use Rattle.std.proofs.Common.{◌≡◌, ◌∷◌, [], ◌++◌, subst, sym, ap, ◌∙◌, arith}
use Rattle.hv_queue.specs.Queue.{IsQueue, last_of, front_of, pair_of}
use Rattle.hv_queue.proofs.Kept.{kept-take}
use Rattle.hv_queue.proofs.Last.{last-push, front-push}
use Rattle.hv_queue.proofs.queue.Queue.pop_last.Goals as goal

pub invariant_of-self-2 : goal.invariant_of-self-2
invariant_of-self-2 c = (subst IsQueue (sym c.pop.ensures.rest) (kept-take _ _ c.self.invariant.0), omega (arith, c.self.invariant.1, c.pop.ensures.capacity))

pub returns-clause-last : goal.returns-clause-last
returns-clause-last c =
    let was : c.args.self.now ≡ c.pop.new.self.items ++ c.in_ok-last.last ∷ [] = sym c.self.view_is ∙ c.in_ok-last.ensures.items in
    sym (ap (λ q. pair_of (last_of q)) was ∙ ap pair_of (last-push c.pop.new.self.items c.in_ok-last.last))

pub returns-clause-others : goal.returns-clause-others
returns-clause-others c =
    let was : c.args.self.now ≡ c.pop.new.self.items ++ c.in_ok-last.last ∷ [] = sym c.self.view_is ∙ c.in_ok-last.ensures.items in
    sym (ap front_of was ∙ front-push c.pop.new.self.items c.in_ok-last.last)
