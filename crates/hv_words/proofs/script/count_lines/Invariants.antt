use Rattle.std.proofs.Common.{◌≡◌, ◌≤◌, ◌+◌, ◌-◌, length, drop}
use Rattle.hv_text.specs.Lines.{script_lines}
use Rattle.hv_words.proofs.script.count_lines.Given as goal

abbrev pub invariant-loop-next : goal.invariant-loop-next
invariant-loop-next l = (l.offset ≤ length l.text) × (l.count ≤ l.offset) × (l.count + length (script_lines (drop l.offset l.text)) ≡ length (script_lines l.text))

abbrev pub decreases-loop-next : goal.decreases-loop-next
decreases-loop-next l = length l.text - l.offset
