-- A source over memory: which reads fail, and what the others give.
use Rattle.std.specs.Prelude.{ℕ, min, List, length, drop, Bool, true, false, ◌==◌, if◌then◌else◌}
use Rattle.hv_base.specs.declared.source.Pull.{Pull}
use Rattle.hv_base.specs.declared.source.Pull.TheVariants as pull
use Rattle.hv_base.specs.Count.{next_count, is_failing}

-- the bytes left, the most bytes in one read, the numbers of the reads that fail, the reads and the faults so far, and whether the last read answered the end
pub record SourceState : Type 0 where
  pub left : List ℕ
  pub piece : ℕ
  pub failing : List ℕ
  pub calls : ℕ
  pub faults : ℕ
  pub ended : Bool

-- a source that was never read
abbrev pub opened_with : List ℕ → ℕ → List ℕ → SourceState
opened_with bytes piece failing = record { left = bytes; piece = piece; failing = failing; calls = 0; faults = 0; ended = false }

-- the next read is one of those that fail
abbrev pub fails_next : SourceState → Bool
fails_next s = is_failing s.failing (next_count s.calls)

-- as many bytes as are left, as one read gives and as there is room for
abbrev pub next_len : SourceState → ℕ → ℕ
next_len s room = min (min (length s.left) s.piece) room

-- what a read with so much room answers: a fault where it is one of those that fail, the end where no byte is left, and else the next bytes
abbrev pub pull_of : SourceState → ℕ → Pull
pull_of s room = if fails_next s then pull.Failed else (if length s.left == 0 then pull.End else pull.Got (next_len s room))

-- the source after a read that answered this: the call is counted, a fault too, and only bytes that were given are gone
abbrev pub after_pull : SourceState → Pull → SourceState
after_pull s (pull.Got n) = record s { left = drop n s.left; calls = next_count s.calls; ended = false }
after_pull s pull.End = record s { calls = next_count s.calls; ended = true }
after_pull s pull.Failed = record s { calls = next_count s.calls; faults = next_count s.faults; ended = false }
