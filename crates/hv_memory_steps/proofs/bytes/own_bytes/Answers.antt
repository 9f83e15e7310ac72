use Rattle.std.proofs.Common.{◌+◌, ◌∙◌, sym}
use Rattle.hv_memory_steps.specs.Ranges.{own_memory}
use Rattle.hv_memory_steps.proofs.LookLemmas.{byte_is, read_more}
use Rattle.hv_memory_steps.proofs.bytes.own_bytes.Goals as goal

pub loop-index-preserved : goal.loop-index-preserved
loop-index-preserved g c =
    c.in_ok-push.ensures.items
    ∙ read_more (own_memory c.args.body.now) c.loop-index.bytes.items c.args.offset c.loop-index.index c.in-Some.byte
    (sym (byte_is c.args.body.now (c.args.offset + c.args.size) (c.args.offset + c.loop-index.index) c.requires.within) ∙ sym c.in-Some.ensures)
    c.loop-index.invariant
