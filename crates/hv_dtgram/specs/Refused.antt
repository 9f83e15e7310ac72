-- What a reader of source answers.
use Rattle.std.specs.Prelude.{◌≡◌, ℕ, List, Result, Ok, Err, Vec}
use Rattle.std.specs.declared.alloc.Global.{Global}
use Rattle.hv_dtlex.specs.declared.token.Token.{Token}
use Rattle.hv_dtgram.specs.Lexed.{IsBadTokenAt, IsUnexpectedIn}
use Rattle.hv_dtgram.specs.declared.syntax.SyntaxRefusal.{SyntaxRefusal}
use Rattle.hv_dtgram.specs.declared.syntax.SyntaxRefusal.TheVariants as refusal

-- a refusal carries its offset
abbrev pub IsRefusal : List ℕ → SyntaxRefusal → Type 0
IsRefusal text (refusal.BadToken offset) = IsBadTokenAt text offset
IsRefusal text (refusal.Unexpected offset) = IsUnexpectedIn text offset
IsRefusal text (refusal.Memory e) = Unit {0}

-- what was read is these tokens, unless memory ran out
abbrev pub Reads : Result (Vec Token Global) SyntaxRefusal → List Token → Type 0
Reads (Ok found) tokens = found.items ≡ tokens
Reads (Err (refusal.BadToken offset)) tokens = ⊥
Reads (Err (refusal.Unexpected offset)) tokens = ⊥
Reads (Err (refusal.Memory e)) tokens = Unit {0}
