-- What a read does to the bytes that are left and to the count of faults.
use Rattle.std.specs.Prelude.{◌≡◌, ℕ, ◌<◌, ◌≤◌, List, length, take, Bool, true, false, Option}
use Rattle.std.specs.Io.KnownBytes.{Consumes, Keeps, IsAtEnd}
use Rattle.hv_base.specs.declared.source.Pull.{Pull}
use Rattle.hv_base.specs.declared.source.Pull.TheVariants as pull
use Rattle.hv_base.specs.Count.{Rose}

-- the next bytes, at least one and at most as many as there was room for; the end only where none were left; nothing at a fault
abbrev pub Pulls : Option (List ℕ) → Option (List ℕ) → Pull → List ℕ → Type 0
Pulls old new (pull.Got n) into = (0 < n) × (n ≤ length into) × Consumes old new (take n into)
Pulls old new pull.End into = IsAtEnd old × IsAtEnd new × Keeps old new
Pulls old new pull.Failed into = Keeps old new

-- whether the read answered the end
abbrev pub is_end : Pull → Bool
is_end (pull.Got n) = false
is_end pull.End = true
is_end pull.Failed = false

-- the count doesn't fall, and a fault is answered only where it rose
pub record PullHasCause (before now : ℕ) (result : Pull) : Type 0 where
  pub later : before ≤ now
  pub failed : result ≡ pull.Failed → Rose before now

-- so many of the next bytes were taken, from the least number to the most
pub record Takes (old new : Option (List ℕ)) (least most : ℕ) : Type 0 where
  pub taken : List ℕ
  pub no_fewer : least ≤ length taken
  pub no_more : length taken ≤ most
  pub consumed : Consumes old new taken
