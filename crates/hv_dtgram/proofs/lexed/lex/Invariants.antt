use Rattle.std.proofs.Common.{◌≡◌, ℕ, ◌-◌, ◌≤◌, List, ◌++◌, length}
use Rattle.std.specs.Prelude.{Option}
use Rattle.hv_dtlex.specs.declared.token.Token.{Token}
use Rattle.hv_dtlex.specs.declared.token.Mode.TheVariants.{Name}
use Rattle.hv_dtgram.specs.Lexed.{Lexes, symbols_of}
use Rattle.hv_dtgram.proofs.lexed.lex.Given as goal

abbrev pub invariant-lexing : goal.invariant-lexing
invariant-lexing l = record {
  within : l.at ≤ length l.text;
  goes_on : (tokens : List Token) (ending : Option ℕ) → Lexes l.text l.at l.mode tokens ending → Lexes l.text 0 Name (l.tokens.items ++ tokens) ending;
  symbols : l.symbols.items ≡ symbols_of l.text l.tokens.items;
}

abbrev pub decreases-lexing : goal.decreases-lexing
decreases-lexing l = length l.text - l.at
