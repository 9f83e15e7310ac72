use Rattle.std.proofs.Common.{◌≡◌, ◌≤◌, ◌-◌, ◌++◌, length, take, replicate}
use Rattle.hv_registers.proofs.words.resize.Given as goal

-- the words that stay, and behind them one for each new context so far
abbrev pub invariant-loop : goal.invariant-loop
invariant-loop l =
    (l.words.items ≡ take l.fn.contexts l.fn.words.items ++ replicate (l.counter - l.initial.counter) l.fn.after_reset)
    × (length l.words.items ≡ l.counter)
    × (l.initial.counter ≤ l.counter)
    × (l.initial.counter ≡ length (take l.fn.contexts l.fn.words.items))
