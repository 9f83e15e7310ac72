use Rattle.std.proofs.Common.{codes}
use Rattle.std.proofs.lemmas.Result.{on_ok_weaker}
use Rattle.hv_model.specs.Transcript.{line}
use Rattle.hv_text.specs.declared.limits.TheConstants.{VCPUS}
use Rattle.hv_states.proofs.Lines.{behind-head}
use Rattle.hv_states.proofs.vcpus.VcpuStates.push_text.Goals as goal

pub returns : goal.returns
returns c =
    on_ok_weaker c.push_lines.result
    (behind-head (λ states. states.items) c.args.brief c.self.inside.lists.items c.deref.result.now c.args.self.now VCPUS c.args.to.now (line (codes "states")) c.append.new.self c.push_lines.new.to
    c.deref.ensures.value c.self.invariant c.self.view_is c.in_ok-append.ensures.ok)
    c.push_lines.ensures
