-- What holds of the bytes that a source gives.
use Rattle.std.specs.Prelude.{◌≡◌, ℕ, List, Option, IfSome}

-- a source gave some bytes, those that it told where it told any, and this holds of them
pub record GaveBytes (told : Option (List ℕ)) (P : List ℕ → Type 0) : Type 0 where
  pub bytes : List ℕ
  pub as_told : IfSome told (λ known. bytes ≡ known)
  pub holds : P bytes
