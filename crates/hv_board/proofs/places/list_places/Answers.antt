use Rattle.std.proofs.Common.{length, take, ap, arith}
use Rattle.std.proofs.lemmas.List.{length-map, length-take-le}
use Rattle.hv_board.specs.Places.{place_of}
use Rattle.hv_board.proofs.places.list_places.Goals as goal

pub push_reserved-requires : goal.push_reserved-requires
push_reserved-requires c =
    let l = c.loop-x in
    let first = take l.x-index c.args.xs.now in
    omega (arith, ap length l.invariant.items, length-map first (place_of c.args.layout), length-take-le l.x-index c.args.xs.now (omega arith), l.places.ok.0)
