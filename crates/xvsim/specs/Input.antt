-- What was read: a bundle's files, with what a run and a check need of them.
use Rattle.std.specs.Prelude.{◌≡◌, ℕ, List, Option, Bool, IsTrue, length}
use Rattle.std.specs.Io.KnownBytes.{IsAtEnd}
use Rattle.hv_model.specs.Files.{load_files}
use Rattle.xvsim.specs.Given.{GaveBytes}
use Rattle.xvsim.specs.Opening.{scripts_of, HaveBoard}
use Rattle.xvsim.specs.Limits.{IsInput, AreWithinLimits}
use Rattle.xvsim.specs.declared.input.Input.{Input}

-- the parts of an input are those of its files
pub record IsWhole (input : Input) : Type 0 where
  pub loaded : input.tree ≡ load_files input.files.items
  pub scripts : input.scripts.items ≡ scripts_of (load_files input.files.items)
  pub within : AreWithinLimits input.files.items
  pub board : HaveBoard input.files.items input.board

-- the bytes are the bundle of these files, and so many
pub record IsReadFrom (bytes : List ℕ) (input : Input) : Type 0 where
  pub bundle : IsInput bytes input.files.items
  pub size : input.size ≡ length bytes

-- the source was read to its end, and the input was read from its bytes
pub record IsAllOf (told left : Option (List ℕ)) (ended : Bool) (input : Input) : Type 0 where
  pub all_read : IsTrue ended
  pub nothing_left : IsAtEnd left
  pub read : GaveBytes told (λ bytes. IsReadFrom bytes input)
