-- A source over memory that never fails.
use Rattle.std.specs.Prelude.{ℕ, min, List, length, drop, Bool, true, false, ◌==◌, if◌then◌else◌}
use Rattle.hv_base.specs.declared.source.Pull.{Pull}
use Rattle.hv_base.specs.declared.source.Pull.TheVariants as pull

-- the bytes left, the most bytes in one read, and whether the last read answered the end
pub record SureState : Type 0 where
  pub left : List ℕ
  pub piece : ℕ
  pub ended : Bool

-- a source that was never read
abbrev pub opened_sure : List ℕ → ℕ → SureState
opened_sure bytes piece = record { left = bytes; piece = piece; ended = false }

-- what a read with so much room answers: the end where no byte is left, and else as many bytes as are left, as one read gives and as there is room for
abbrev pub sure_pull : SureState → ℕ → Pull
sure_pull s room = if length s.left == 0 then pull.End else pull.Got (min (min (length s.left) s.piece) room)

-- the source after a read that answered this
abbrev pub after_sure_pull : SureState → Pull → SureState
after_sure_pull s (pull.Got n) = record s { left = drop n s.left; ended = false }
after_sure_pull s pull.End = record s { ended = true }
after_sure_pull s pull.Failed = s
