use Rattle.std.proofs.Common.{◌≡◌, map, take, vec_capacity}
use Rattle.hv_board.specs.Places.{place_of}
use Rattle.hv_board.proofs.places.list_places.Given as goal

abbrev pub invariant-loop-x : goal.invariant-loop-x
invariant-loop-x l = record {
  items : l.places.items ≡ map (place_of l.layout) (take l.x-index l.xs);
  capacity : vec_capacity l.places ≡ vec_capacity l.fn.places;
}
