use Rattle.std.proofs.Common.{ℕ, List, ◌∙◌, ◌++◌, ap, map}
use Rattle.hv_model.specs.States.{states_line}
use Rattle.hv_states.specs.ByNumber.{states_in}
use Rattle.hv_states.proofs.Lines.{lines-more, states-here}
use Rattle.hv_states.proofs.print.push_lines.Goals as goal

pub loop-vcpu-preserved : goal.loop-vcpu-preserved
loop-vcpu-preserved c =
    let vcpu = c.loop-vcpu.vcpu in
    let here = c.as_slice.ensures.value ∙ states-here (λ states. states.items) c.args.lists.now vcpu c.index-lists-vcpu.result c.loop-vcpu-test.true c.index-lists-vcpu.is in
    let text : ℕ → List ℕ = λ v. states_line c.args.brief v (states_in (map (λ states. states.items) c.args.lists.now) v) in
    c.in_ok-push_line.ensures
    ∙ (ap (λ states. c.loop-vcpu.to ++ states_line c.args.brief vcpu states) here
    ∙ (ap (λ to. to ++ text vcpu) c.loop-vcpu.invariant ∙ lines-more text c.args.to.now vcpu))
