use Rattle.std.proofs.Common.{◌≡◌, ◌++◌, List, [], false, vec_len}
use Rattle.hv_turn.specs.Passes.{PassView}
use Rattle.hv_turn.specs.Rule.{StartsWith, seat_view, Covers}
use Rattle.hv_turn.proofs.turn.gather.Given as goal

abbrev pub invariant-loop-pass : goal.invariant-loop-pass
invariant-loop-pass g l =
    (l.seat.table_id ≡ l.initial.seat.table_id)
    × (l.seat.id ≡ l.initial.seat.id)
    × (l.seat.me ≡ (seat_view false l.seat.me.0.passes, []))
    × StartsWith l.seat.me.0.passes l.initial.seat.me.0.passes
    × ((gone : List (PassView g.row.T-Entry.Denot)) × (l.initial.passes.items ≡ l.passes.items ++ gone) × Covers l.seat.me.0.passes gone)

abbrev pub decreases-loop-pass : goal.decreases-loop-pass
decreases-loop-pass g l = vec_len l.passes
