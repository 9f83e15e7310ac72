use Rattle.std.proofs.Common.{rules, ◌∙◌, ◌++◌, ◌∷◌, [], ap, arith}
use Rattle.std.proofs.Math.Seq.{map-set_same}
use Rattle.hv_states.specs.ByNumber.{states_in}
use Rattle.hv_states.proofs.Told.{pushed-past, pushed-there}
use Rattle.hv_states.proofs.vcpus.VcpuStates.add.Goals as goal
use Rattle.hv_states.proofs.vcpus.VcpuStates.add.Goals.{in-Some+in_ok-push-in-Some, in-None}

pub returns-in_err-push-in-Some-clause-err : goal.returns-in_err-push-in-Some-clause-err
returns-in_err-push-in-Some-clause-err c =
    let same =
    map-set_same (λ states. states.items) c.self.inside.lists.items c.from.result c.push.new.self c.in-Some.states.now
    (c.in_err-push-in-Some.ensures.items ∙ ap (λ states. states.items) c.in-Some.ensures.value)
    in
    let kept = same ∙ c.self.view_is in
    search (rules, kept)

pub returns-clause-ok : goal.returns-clause-ok
returns-clause-ok c = elim c.match-get_mut.branch [
  | in-Some+in_ok-push-in-Some w ↦
      rw w.result-is
      (rw w.self-inside-is
      (pushed-there (λ states. states.items) c.self.inside.lists.items c.args.self.now c.from.result c.args.vcpu w.in-Some.states.now w.push.new.self c.args.state
      c.self.view_is c.from.ensures (grind (arith, w.in-Some.ensures.variant, c.self.inside.lists.ok)) w.in-Some.ensures.value w.in_ok-push-in-Some.ensures.items))
  | in-None w ↦
      rw w.result-is
      (rw w.self-inside-is
      (pushed-past (λ states. states.items) c.self.inside.lists.items c.args.self.now c.from.result c.args.vcpu (states_in c.args.self.now c.args.vcpu ++ c.args.state ∷ [])
      c.self.view_is c.from.ensures (grind (arith, w.in-None.ensures.variant, c.self.inside.lists.ok))))
]
