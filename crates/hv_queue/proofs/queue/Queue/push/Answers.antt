use Rattle.std.proofs.Common.{◌≡◌, [], ◌∷◌, ◌++◌, ap, subst, sym, ◌∙◌, arith}
use Rattle.hv_queue.specs.Queue.{IsQueue, IsEntry, count_in, without}
use Rattle.hv_queue.proofs.Weights.{count-without}
use Rattle.hv_queue.proofs.Kept.{kept-append, room, taken_if}
use Rattle.hv_queue.proofs.queue.Queue.push.Goals as goal

-- what is there before the push is the queue without the VCPU, which finds room
module _ (c : goal.After-drop) where
  is_entry : IsEntry (record { vcpu = c.args.vcpu; priority = c.args.priority })
  is_entry = record { vcpu = c.requires.vcpu; priority = c.requires.priority }

  was : c.self.inside.entries.items ≡ without c.args.vcpu c.args.self.now
  was = c.self.view_is ∙ c.remove.ensures

  none : count_in c.args.vcpu c.self.inside.entries.items ≡ 0
  none = ap (count_in c.args.vcpu) was ∙ count-without c.args.vcpu c.args.self.now

  pushed : c.push-pushed.new.self.items ≡ c.self.inside.entries.items ++ record { vcpu = c.args.vcpu; priority = c.args.priority } ∷ []
  pushed =
      let few = room c.self.inside.entries.items (record { vcpu = c.args.vcpu; priority = c.args.priority }) c.self.invariant.0 is_entry none in
      taken_if _ _ _ _ (c.push-pushed.ensures.succeeds (omega (arith, few, c.self.invariant.1))) c.push-pushed.ensures.items

pub invariant_of-self : goal.invariant_of-self
invariant_of-self c =
    (subst IsQueue (sym (pushed c)) (kept-append c.self.inside.entries.items (record { vcpu = c.args.vcpu; priority = c.args.priority }) c.self.invariant.0 (is_entry c) (none c)), omega (arith, c.self.invariant.1, c.push-pushed.ensures.capacity))

pub returns : goal.returns
returns c = pushed c ∙ ap (λ q. q ++ record { vcpu = c.args.vcpu; priority = c.args.priority } ∷ []) (was c)
