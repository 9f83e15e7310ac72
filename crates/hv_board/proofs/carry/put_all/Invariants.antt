use Rattle.std.proofs.Common.{◌≡◌, ◌++◌, List, vec_len, vec_capacity, drop}
use Rattle.hv_parts.specs.declared.part.Part.{Part}
use Rattle.hv_board.specs.Carrying.{ArePut}
use Rattle.hv_board.proofs.carry.put_all.Given as goal

abbrev pub invariant-loop-part : goal.invariant-loop-part
invariant-loop-part g l =
    (gone : List (Part g.row.E.Denot)) × (l.initial.parts.items ≡ l.parts.items ++ gone)
    × ArePut l.fn.stamp (drop (vec_len l.parts) l.fn.places) gone l.fn.cells l.cells × (vec_capacity l.parts ≡ vec_capacity l.initial.parts)

abbrev pub decreases-loop-part : goal.decreases-loop-part
decreases-loop-part g l = vec_len l.parts
