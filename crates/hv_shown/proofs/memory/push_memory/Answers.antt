use Rattle.std.proofs.Common.{◌++◌, ap, ◌∙◌}
use Rattle.hv_model.specs.Transcript.{memory_line}
use Rattle.hv_shown.proofs.Lists.{lines_more}
use Rattle.hv_shown.proofs.memory.push_memory.Goals as goal

pub loop-number-preserved : goal.loop-number-preserved
loop-number-preserved c =
    let text = memory_line c.args.address c.args.bytes.now in
    c.in_ok-push_memory_line.ensures
    ∙ (ap (λ to. to ++ text c.loop-number.number) c.loop-number.invariant ∙ lines_more text c.args.to.now c.loop-number.number)
