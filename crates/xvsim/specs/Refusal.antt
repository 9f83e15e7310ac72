-- Why an input is refused.
use Rattle.std.specs.Prelude.{◌≡◌, ◌⊎◌, ℕ, ◌+◌, ◌<◌, ◌≤◌, List, length, Err}
use Rattle.hv_kinds.specs.declared.limit.LimitName.{LimitName}
use Rattle.hv_kinds.specs.declared.limit.LimitName.TheVariants as limit
use Rattle.hv_bundle.specs.declared.file.File.{File}
use Rattle.hv_bundle.specs.Bundle.{IsBadAt}
use Rattle.hv_host.specs.declared.refusal.BoardRefusal.TheVariants as board
use Rattle.hv_host.specs.Boards.{Says}
use Rattle.xvsim.specs.Opening.{host_text}
use Rattle.xvsim.specs.declared.limits.TheConstants.{MOST_BYTES}
use Rattle.xvsim.specs.Limits.{IsInput, PassesLimit, AreWithinLimits}
use Rattle.xvsim.specs.declared.refusal.InputRefusal.{InputRefusal}
use Rattle.xvsim.specs.declared.refusal.InputRefusal.TheVariants as refusal
use Rattle.xvsim.specs.declared.status.Status.{Status}
use Rattle.xvsim.specs.declared.status.Status.TheVariants as status

-- the refusal is the one that is due for the files of a bundle, or memory ran out
abbrev pub IsDueForFiles : List File → InputRefusal → Type 0
IsDueForFiles files refusal.ReadFault = ⊥
IsDueForFiles files (refusal.BadBundle offset) = ⊥
IsDueForFiles files (refusal.Limit name number) = PassesLimit files name number
IsDueForFiles files (refusal.BadTree offset) = AreWithinLimits files × Says (host_text files) (Err (board.BadTree offset))
IsDueForFiles files (refusal.BadHost path) = AreWithinLimits files × Says (host_text files) (Err (board.BadHost path))
IsDueForFiles files (refusal.Memory e) = Unit {0}

-- the refusal is due for the files of the bundle that the bytes are
pub record IsDueInside (bytes : List ℕ) (why : InputRefusal) : Type 0 where
  pub files : List File
  pub input : IsInput bytes files
  pub due : IsDueForFiles files why

-- there are too many bytes, and one more than may be was read
pub record AreTooManyBytes (bytes : List ℕ) (name : LimitName) (number : ℕ) : Type 0 where
  pub name_is : name ≡ limit.Bytes
  pub many : MOST_BYTES < length bytes
  pub number_is : number ≡ MOST_BYTES + 1

-- the bytes pass this limit with this number, and no earlier one
abbrev pub IsOverLimit : List ℕ → LimitName → ℕ → Type 0
IsOverLimit bytes name number = AreTooManyBytes bytes name number ⊎ IsDueInside bytes (refusal.Limit name number)

-- what the bytes have to be for a refusal, if it is no fault and no want of memory
abbrev pub IsDueForBytes : List ℕ → InputRefusal → Type 0
IsDueForBytes bytes refusal.ReadFault = Unit {0}
IsDueForBytes bytes (refusal.BadBundle offset) = (length bytes ≤ MOST_BYTES) × IsBadAt bytes offset
IsDueForBytes bytes (refusal.Limit name number) = IsOverLimit bytes name number
IsDueForBytes bytes (refusal.BadTree offset) = IsDueInside bytes (refusal.BadTree offset)
IsDueForBytes bytes (refusal.BadHost path) = IsDueInside bytes (refusal.BadHost path)
IsDueForBytes bytes (refusal.Memory e) = Unit {0}

-- how a call ends whose input is refused
abbrev pub status_of : InputRefusal → Status
status_of refusal.ReadFault = status.ReadFault
status_of (refusal.BadBundle offset) = status.BadBundle offset
status_of (refusal.Limit name number) = status.Limit name number
status_of (refusal.BadTree offset) = status.BadTree offset
status_of (refusal.BadHost path) = status.BadHost path
status_of (refusal.Memory e) = status.OutOfMemory
