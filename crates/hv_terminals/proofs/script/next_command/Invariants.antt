use Rattle.std.proofs.Common.{◌≡◌, ◌≤◌, ◌-◌, length, drop}
use Rattle.hv_words.specs.Words.{commands_of}
use Rattle.hv_terminals.proofs.script.next_command.Given as goal

abbrev pub invariant-loop-start : goal.invariant-loop-start
invariant-loop-start l = (l.offset ≤ length l.text) × (commands_of (drop l.offset l.text) ≡ commands_of (drop l.from l.text))

abbrev pub decreases-loop-start : goal.decreases-loop-start
decreases-loop-start l = length l.text - l.offset
