-- Tokens, one behind the other.
use Rattle.std.proofs.Common.{◌≡◌, ℕ, ◌+◌, ◌≤◌, List, [], ◌∷◌, ◌++◌, length, drop, refl, sym, ap, subst, ◌∙◌, Ok, Err, arith, append_assoc, take-append-drop, inl, inr}
use Rattle.std.specs.Prelude.{Option, Some, None, Result, Vec, IfOk, IfErr}
use Rattle.std.specs.declared.alloc.Global.{Global}
use Rattle.std.proofs.lemmas.Bool.{cases_lt}
use Rattle.std.proofs.lemmas.List.{append-nil, map-append, take_all, length-map}
use Rattle.hv_dtlex.specs.Tokens.{token_at}
use Rattle.hv_dtlex.specs.declared.token.Token.{Token}
use Rattle.hv_dtlex.specs.declared.token.BadToken.{BadToken}
use Rattle.hv_dtlex.specs.declared.token.Mode.{Mode}
use Rattle.hv_dtlex.specs.declared.token.Mode.TheVariants.{Name}
use Rattle.hv_dtgram.specs.declared.symbol.Symbol.{Symbol}
use Rattle.hv_dtgram.specs.Source.{IsSource, IsUnexpectedAt}
use Rattle.hv_dtgram.specs.Refused.{IsRefusal, Reads}
use Rattle.hv_dtgram.specs.declared.syntax.SyntaxRefusal.{SyntaxRefusal}
use Rattle.hv_dtgram.specs.declared.syntax.SyntaxRefusal.TheVariants as refusal
use Rattle.hv_dtgram.specs.Lexed.{Lexes, end_of, mode_after, symbol_of, symbols_of, IsSourceText, IsBadTokenAt}

-- tokens that were found are those that came before, and what goes on from them
abbrev pub GoesOn : List ℕ → ℕ → Mode → List Token → Type 0
GoesOn text at mode before = (tokens : List Token) (ending : Option ℕ) → Lexes text at mode tokens ending → Lexes text 0 Name (before ++ tokens) ending

pub lexed_end : (text : List ℕ) (at : ℕ) (mode : Mode) (before : List Token) (ending : Option ℕ) → GoesOn text at mode before → token_at text at mode ≡ end_of ending → Lexes text 0 Name before ending
lexed_end text at mode before ending so here = subst (λ (ts : List Token). Lexes text 0 Name ts ending) (append-nil before) (so [] ending here)

pub lexed_more : (text : List ℕ) (at : ℕ) (mode : Mode) (before : List Token) (token : Token) → GoesOn text at mode before → token_at text at mode ≡ Ok (Some token) → GoesOn text token.end (mode_after mode token.kind) (before ++ token ∷ [])
lexed_more text at mode before token so here tokens ending rest =
    subst (λ (ts : List Token). Lexes text 0 Name ts ending) (sym (append_assoc before (token ∷ []) tokens)) (so (token ∷ tokens) ending (here, rest))

pub symbols_more : (text : List ℕ) (before : List Token) (token : Token) → symbols_of text (before ++ token ∷ []) ≡ symbols_of text before ++ symbol_of text token ∷ []
symbols_more text before token = map-append (symbol_of text) before (token ∷ [])

-- where the tokens are used up, they are a front of a source
pub bad_behind : (text : List ℕ) (tokens : List Token) (place offset : ℕ) → Lexes text 0 Name tokens (Some offset) → IsUnexpectedAt (symbols_of text tokens) place → length tokens ≤ place → IsBadTokenAt text offset
bad_behind text tokens place offset lexes unexpected over = record {
  tokens = tokens;
  lexes = lexes;
  rest = unexpected.rest;
  front = subst (λ (s : List Symbol). IsSource (s ++ unexpected.rest)) (take_all place (symbols_of text tokens) (omega (arith, length-map tokens (symbol_of text)))) unexpected.front;
}

pub bad_after_all : (text : List ℕ) (tokens : List Token) (offset : ℕ) → Lexes text 0 Name tokens (Some offset) → IsSource (symbols_of text tokens) → IsBadTokenAt text offset
bad_after_all text tokens offset lexes source = record {
  tokens = tokens;
  lexes = lexes;
  rest = [];
  front = subst IsSource (sym (append-nil (symbols_of text tokens))) source;
}

abbrev bad_of : Result (Option Token) BadToken → ℕ
bad_of (Ok found) = 0
bad_of (Err bad) = bad.0

-- a text has one row of tokens and one end
pub lexes_same : (text : List ℕ) (at : ℕ) (mode : Mode) (tokens others : List Token) (ending other : Option ℕ) → Lexes text at mode tokens ending → Lexes text at mode others other → (tokens ≡ others) × (ending ≡ other)
lexes_same text at mode [] [] None None h k = (refl, refl)
lexes_same text at mode [] [] None (Some b) h k = cc (h, k)
lexes_same text at mode [] [] (Some a) None h k = cc (h, k)
lexes_same text at mode [] [] (Some a) (Some b) h k = (refl, (let same : a ≡ b = ap bad_of (sym h ∙ k) in ap (λ (n : ℕ). Some n) same))
lexes_same text at mode [] (o ∷ others) None other h k = absurd (cc (h, k.0))
lexes_same text at mode [] (o ∷ others) (Some a) other h k = absurd (cc (h, k.0))
lexes_same text at mode (t ∷ tokens) [] ending None h k = absurd (cc (h.0, k))
lexes_same text at mode (t ∷ tokens) [] ending (Some b) h k = absurd (cc (h.0, k))
lexes_same text at mode (t ∷ tokens) (o ∷ others) ending other h k =
    let first : t ≡ o = cc (h.0, k.0) in
    let rest = lexes_same text t.end (mode_after mode t.kind) tokens others ending other h.1 (subst (λ (x : Token). Lexes text x.end (mode_after mode x.kind) others other) (sym first) k.1) in
    ((λ i. first i ∷ rest.0 i), rest.1)

-- a source has no symbol that may not stand
pub no_source : (symbols : List Symbol) (place : ℕ) → IsSource symbols → IsUnexpectedAt symbols place → ⊥
no_source symbols place source unexpected = elim (cases_lt place (length symbols)) [
  | inl lt ↦ unexpected.not_here lt (drop (place + 1) symbols) (subst IsSource (sym (take-append-drop (place + 1) symbols)) source)
  | inr le ↦ unexpected.not_all (omega (arith, unexpected.within)) source
]

-- the text of a source is no other row of tokens
pub only_tokens : (text : List ℕ) (tokens others : List Token) → IsSourceText text others → Lexes text 0 Name tokens None → tokens ≡ others
only_tokens text tokens others is lexes = (lexes_same text 0 Name tokens others None None lexes is.lexes).0

pub not_bad : (text : List ℕ) (tokens others : List Token) (offset : ℕ) → IsSourceText text others → Lexes text 0 Name tokens (Some offset) → ⊥
not_bad text tokens others offset is lexes = let same = (lexes_same text 0 Name tokens others (Some offset) None lexes is.lexes).1 in cc same

pub not_unexpected : (text : List ℕ) (tokens others : List Token) (ending : Option ℕ) (place : ℕ) → IsSourceText text others → Lexes text 0 Name tokens ending → IsUnexpectedAt (symbols_of text tokens) place → ⊥
not_unexpected text tokens others ending place is lexes unexpected =
    let same = (lexes_same text 0 Name tokens others ending None lexes is.lexes).0 in
    no_source (symbols_of text others) place is.source (subst (λ (ts : List Token). IsUnexpectedAt (symbols_of text ts) place) same unexpected)

-- so what was read is the only row of tokens, and a refusal says that the text is no source
pub refusal_only : (text : List ℕ) (refused : SyntaxRefusal) → IsRefusal text refused → (others : List Token) → IsSourceText text others → Reads (Err refused) others
refusal_only text (refusal.BadToken offset) it others is = not_bad text it.tokens others offset is it.lexes
refusal_only text (refusal.Unexpected offset) it others is = not_unexpected text it.tokens others it.ending it.place is it.lexes it.unexpected
refusal_only text (refusal.Memory e) it others is = tt

pub reads_only : (text : List ℕ) (result : Result (Vec Token Global) SyntaxRefusal) → IfOk result (λ tokens. IsSourceText text tokens.items) → IfErr result (λ refused. IsRefusal text refused) → (others : List Token) → IsSourceText text others → Reads result others
reads_only text (Ok found) ok err others is = only_tokens text found.items others is ok.lexes
reads_only text (Err refused) ok err others is = refusal_only text refused err others is
