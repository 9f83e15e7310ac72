use Rattle.std.proofs.Common.{arith}
use Rattle.hv_merge.proofs.PairLemmas.{apart_at}
use Rattle.hv_merge.proofs.pair.begins_first.Goals as goal

pub is_before-requires : goal.is_before-requires
is_before-requires c =
    apart_at c.args.one.now.items c.args.other.now.items c.in-Some.first.now c.in-Some-front.second.now c.requires (omega (arith, c.in-Some.ensures.item)) c.in-Some.ensures.lookup (omega (arith, c.in-Some-front.ensures.item)) c.in-Some-front.ensures.lookup
