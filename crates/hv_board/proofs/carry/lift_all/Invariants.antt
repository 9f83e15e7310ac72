use Rattle.std.proofs.Common.{◌≡◌, ◌≤◌, length, map, max, take, vec_capacity}
use Rattle.hv_machine.specs.Machine.{greatest}
use Rattle.hv_board.specs.Carrying.{AreOut, AreFrom, stamp_in}
use Rattle.hv_board.proofs.carry.lift_all.Given as goal

abbrev pub invariant-loop-j : goal.invariant-loop-j
invariant-loop-j g l = record {
  long : length l.parts.items ≡ l.j;
  room : length l.fn.places ≤ vec_capacity l.parts;
  capacity : vec_capacity l.parts ≡ vec_capacity l.initial.parts;
  out : AreOut (take l.j l.fn.places) l.parts.items l.fn.cells l.cells;
  from : AreFrom (take l.j l.fn.places) l.parts.items l.fn.cells;
  top : l.top ≡ max l.fn.stamp (greatest (map (stamp_in l.fn.cells) (take l.j l.fn.places)));
}
