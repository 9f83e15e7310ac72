-- What a write does to the bytes that are held and to the count of faults.
use Rattle.std.specs.Prelude.{◌≡◌, ℕ, ◌<◌, ◌≤◌, List, ◌++◌, length, take, Option}
use Rattle.std.specs.Io.KnownBytes.{Appends, Keeps}
use Rattle.hv_base.specs.declared.sink.Push.{Push}
use Rattle.hv_base.specs.declared.sink.Push.TheVariants as push
use Rattle.hv_base.specs.Count.{Rose}

-- the front of the piece, at least one byte, is appended; nothing at a fault
abbrev pub Pushes : Option (List ℕ) → Option (List ℕ) → Push → List ℕ → Type 0
Pushes old new (push.Took n) piece = (0 < n) × (n ≤ length piece) × Appends old new (take n piece)
Pushes old new push.Failed piece = Keeps old new

-- the count doesn't fall, and a fault is answered only where it rose
pub record PushHasCause (before now : ℕ) (result : Push) : Type 0 where
  pub later : before ≤ now
  pub failed : result ≡ push.Failed → Rose before now

-- the bytes before the rest were appended
pub record AppendsBefore (old new : Option (List ℕ)) (bytes rest : List ℕ) : Type 0 where
  pub front : List ℕ
  pub parts : bytes ≡ front ++ rest
  pub held : Appends old new front

-- some front of the bytes was appended
abbrev pub AppendsFront : Option (List ℕ) → Option (List ℕ) → List ℕ → Type 0
AppendsFront old new bytes = (rest : List ℕ) × AppendsBefore old new bytes rest
