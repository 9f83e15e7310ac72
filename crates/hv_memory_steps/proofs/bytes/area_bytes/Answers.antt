use Rattle.std.proofs.Common.{◌∙◌, sym}
use Rattle.hv_memory_steps.proofs.LookLemmas.{read_more}
use Rattle.hv_memory_steps.proofs.bytes.area_bytes.Goals as goal

pub loop-index-preserved : goal.loop-index-preserved
loop-index-preserved c =
    c.in_ok-push.ensures.items
    ∙ read_more c.args.area.now c.loop-index.bytes.items c.args.offset c.loop-index.index c.in-Some.byte (sym c.in-Some.ensures) c.loop-index.invariant
