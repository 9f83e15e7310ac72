-- When each answer comes, by the words and the bytes.
use Rattle.std.specs.Prelude.{◌≡◌, ◌⊎◌, ℕ, List}
use Rattle.hv_bundle.specs.declared.file.File.{File}
use Rattle.xvsim.specs.Words.{AreRunWords, AreInputWords, AreAnyGenWords, AreWords}
use Rattle.xvsim.specs.Limits.{IsInput, AreGood}
use Rattle.xvsim.specs.Refusal.{IsDueForBytes}
use Rattle.xvsim.specs.declared.refusal.InputRefusal.TheVariants as refusal
use Rattle.xvsim.specs.declared.status.Status.{Status}
use Rattle.xvsim.specs.declared.status.Status.TheVariants as status

-- the bytes are a bundle whose files are good
pub record AreGoodBytes (bytes : List ℕ) : Type 0 where
  pub files : List File
  pub input : IsInput bytes files
  pub good : AreGood files

-- what the bytes have to be for an answer, where the words are those of a command that reads them
abbrev pub IsDueStatus : List ℕ → Status → Type 0
IsDueStatus bytes status.Usage = ⊥
IsDueStatus bytes status.ReadFault = IsDueForBytes bytes refusal.ReadFault
IsDueStatus bytes status.OutOfMemory = Unit {0}
IsDueStatus bytes (status.Limit name number) = IsDueForBytes bytes (refusal.Limit name number)
IsDueStatus bytes (status.BadBundle offset) = IsDueForBytes bytes (refusal.BadBundle offset)
IsDueStatus bytes (status.BadTree offset) = IsDueForBytes bytes (refusal.BadTree offset)
IsDueStatus bytes (status.BadHost path) = IsDueForBytes bytes (refusal.BadHost path)
IsDueStatus bytes status.Done = AreGoodBytes bytes
IsDueStatus bytes status.WriteFault = AreGoodBytes bytes
IsDueStatus bytes (status.StampsSpent stamp) = AreGoodBytes bytes

-- an answer that `gen` gives, whatever the bytes are
abbrev pub IsOfGen : Status → Type 0
IsOfGen status.Done = Unit {0}
IsOfGen status.WriteFault = Unit {0}
IsOfGen status.OutOfMemory = Unit {0}
IsOfGen s = ⊥

-- when an answer is due: other words give only Usage, only a run is stopped by its stamps, `gen` reads nothing, and else
-- the bytes decide
abbrev pub IsDue : List (List ℕ) → List ℕ → Status → Type 0
IsDue words bytes status.Usage = AreWords words → ⊥
IsDue words bytes (status.StampsSpent stamp) = AreRunWords words × IsDueStatus bytes (status.StampsSpent stamp)
IsDue words bytes s = (AreInputWords words × IsDueStatus bytes s) ⊎ (AreAnyGenWords words × IsOfGen s)

-- an answer that any input may get: a fault of reading, or want of memory
abbrev pub IsOfAny : Status → Type 0
IsOfAny status.ReadFault = Unit {0}
IsOfAny status.OutOfMemory = Unit {0}
IsOfAny s = ⊥

-- an answer that a good input may get: what becomes of it is for the sink and the run to say
abbrev pub IsOfGood : Status → Type 0
IsOfGood status.Done = Unit {0}
IsOfGood status.WriteFault = Unit {0}
IsOfGood (status.StampsSpent stamp) = Unit {0}
IsOfGood s = ⊥

-- the answer that came, and one that was due: they are the same, or both are a good input's, or one is any input's
pub data IsAnswerFor (came due : Status) : Type 0 where
  same : came ≡ due → IsAnswerFor came due
  both_good : IsOfGood came → IsOfGood due → IsAnswerFor came due
  came_to_any : IsOfAny came → IsAnswerFor came due
  due_to_any : IsOfAny due → IsAnswerFor came due
