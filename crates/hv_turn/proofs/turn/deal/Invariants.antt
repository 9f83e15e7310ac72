use Rattle.std.proofs.Common.{◌≡◌, ◌≤◌, ◌-◌, ℕ, [], length, slice_get, Some, vec_capacity}
use Rattle.hv_turn.specs.Passes.{PassView, new_pass}
use Rattle.hv_turn.specs.Rule.{all_from, seen_by}
use Rattle.hv_turn.proofs.turn.deal.Given as goal

abbrev pub invariant-loop-number : goal.invariant-loop-number
invariant-loop-number g l =
    (l.seat.table_id ≡ l.fn.seat.table_id)
    × (l.seat.me ≡ (all_from l.number (l.fn.count - l.number) (seen_by l.fn.seat.me.0), []))
    × (length l.passes.items ≡ l.number)
    × (l.fn.count ≤ vec_capacity l.passes)
    × ((k : ℕ) (p : PassView g.row.T-Entry.Denot) → slice_get l.passes.items k ≡ Some p → p ≡ new_pass l.fn.seat.table_id k (seen_by l.fn.seat.me.0))
