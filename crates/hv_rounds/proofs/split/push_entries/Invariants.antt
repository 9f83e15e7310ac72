use Rattle.std.proofs.Common.{◌≡◌, ◌++◌}
use Rattle.hv_rounds.specs.Board.{own_events}
use Rattle.hv_rounds.proofs.split.push_entries.Given as goal

abbrev pub invariant-loop-entry : goal.invariant-loop-entry
invariant-loop-entry l =
    (l.logs.zero.items ≡ l.fn.logs.zero.items ++ own_events 0 l.yielded)
    × (l.logs.one.items ≡ l.fn.logs.one.items ++ own_events 1 l.yielded)
    × (l.logs.two.items ≡ l.fn.logs.two.items ++ own_events 2 l.yielded)
    × (l.logs.three.items ≡ l.fn.logs.three.items ++ own_events 3 l.yielded)
