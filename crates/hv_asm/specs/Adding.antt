-- Used by proofs and private functions alone.
-- What a line adds to the bytes of a text.
use Rattle.std.specs.Prelude.{◌≡◌, ℕ, List, ◌++◌, Option, ⊤}
use Rattle.hv_asm.specs.declared.refusal.AsmRefusal.{AsmRefusal}
use Rattle.hv_asm.specs.declared.refusal.AsmRefusal.TheVariants.{BadAsm, Memory}
use Rattle.hv_asm.specs.Assembly.{answer_bytes}
use Rattle.hv_asm.specs.Line.{Gives, IsBadLine}

-- the bytes of a line were added
pub record AddsLine (line old new : List ℕ) : Type 0 where
  pub answer : Option ℕ
  pub gives : Gives line answer
  pub bytes_are : new ≡ old ++ answer_bytes answer

-- a line was refused: it is bad, or memory ran out
abbrev pub IsRefusedAt : List ℕ → ℕ → AsmRefusal → Type 0
IsRefusedAt line number (BadAsm n) = (n ≡ number) × IsBadLine line
IsRefusedAt line number (Memory e) = ⊤
