use Rattle.hv_data.proofs.Splits.{more_parts, all_parts}
use Rattle.hv_data.proofs.parts.split_at_byte.Goals as goal

pub loop-part-preserved : goal.loop-part-preserved
loop-part-preserved c =
    rw (c.in_ok-push.ensures.items, c.from_vec.ensures, c.in_ok-from_slice.ensures.items) (more_parts c.args.byte c.args.text.now c.loop-part.parts.items c.loop-part.rest.now c.in-Some.part.now c.in-Some.behind.now c.loop-part.invariant c.in-Some.ensures.0 c.in-Some.ensures.1)

pub returns : goal.returns
returns c =
    rw (c.in_ok-push-2.ensures.items, c.from_vec-2.ensures, c.in_ok-from_slice-2.ensures.items) (all_parts c.args.byte c.args.text.now c.loop-part.parts.items c.loop-part.rest.now c.loop-part.invariant c.in_default.ensures)
