-- Text that is read token by token.
use Rattle.std.proofs.Common.{◌≡◌, ℕ, ◌+◌, ◌-◌, ◌<◌, Bool, true, List, [], ◌∷◌, ◌++◌, length, take, drop, refl, sym, ap, ◌∙◌, arith, length-append, Ok}
use Rattle.std.specs.Prelude.{Some, None, map, if◌then◌else◌}
use Rattle.std.specs.List.{AllByRecursion}
use Rattle.std.proofs.Math.Seq.{drop-append_seam}
use Rattle.std.proofs.lemmas.List.{drop-drop, drop-take, take_at}
use Rattle.hv_dtlex.specs.Blank.{is_space, comment_len, blank_len, behind_blanks}
use Rattle.hv_dtlex.specs.Tokens.{form_in, token_from, token_in, token_at}
use Rattle.hv_dtlex.specs.declared.token.Token.{Token}
use Rattle.hv_dtlex.specs.declared.token.TokenKind.{TokenKind}
use Rattle.hv_dtlex.specs.declared.token.Mode.{Mode}
use Rattle.hv_dtlex.proofs.Blanks.{skipped_none, behind_one}
use Rattle.hv_dtgram.specs.Lexed.{Lexes, mode_after, token_text}
use Rattle.hv_dtgram.specs.Contents.{Piece, kind_piece, piece_of}

-- what is left of a text from an offset on
pub record Stands (text : List ℕ) (at : ℕ) (rest : List ℕ) : Type 0 where
  pub here : drop at text ≡ rest
  pub all : at + length rest ≡ length text

-- from an offset on the text is tokens that say these pieces
pub record Continues (text : List ℕ) (at : ℕ) (mode : Mode) (pieces : List Piece) : Type 0 where
  pub tokens : List Token
  pub lexes : Lexes text at mode tokens None
  pub are : map (piece_of text) tokens ≡ pieces

-- a front of what is left is read, and then this is left
pub record Passes (text : List ℕ) (at : ℕ) (mode : Mode) (rest : List ℕ) (next : Mode) (pieces : List Piece → List Piece) : Type 0 where
  pub after : ℕ
  pub stands : Stands text after rest
  pub reads : (tail : List Piece) → Continues text after next tail → Continues text at mode (pieces tail)

pub stands_on : (text front rest : List ℕ) (at : ℕ) → Stands text at (front ++ rest) → Stands text (at + length front) rest
stands_on text front rest at it = record {
  here = sym (drop-drop (length front) at text) ∙ ap (drop (length front)) it.here ∙ drop-append_seam front rest;
  all = omega (arith, it.all, length-append front rest);
}

-- bytes of space
abbrev pub AreSpaces : List ℕ → Type 0
AreSpaces text = AllByRecursion (λ b. is_space b ≡ true) text

one_space : (b : ℕ) (rest : List ℕ) (len : ℕ) → len ≡ 1 → blank_len (b ∷ rest) ≡ len → behind_blanks (b ∷ rest) ≡ behind_blanks rest
one_space b rest len one is =
    let size : blank_len (b ∷ rest) ≡ 1 = is ∙ one in
    sym (behind_one (b ∷ rest) (omega arith)) ∙ ap (λ (n : ℕ). behind_blanks (drop n (b ∷ rest))) size

pub behind_spaces : (spaces rest : List ℕ) → AreSpaces spaces → behind_blanks (spaces ++ rest) ≡ behind_blanks rest
behind_spaces [] rest all = refl
behind_spaces (b ∷ spaces) rest all =
    one_space b (spaces ++ rest) 1 refl (ap (λ (is : Bool). if is then 1 else comment_len (b ∷ (spaces ++ rest))) all.0) ∙ behind_spaces spaces rest all.1

same_token : (text spaces rest : List ℕ) (at : ℕ) (mode : Mode) → AreSpaces spaces → Stands text at (spaces ++ rest) → token_at text at mode ≡ token_at text (at + length spaces) mode
unfolding token_at
same_token text spaces rest at mode all it =
    let next = stands_on text spaces rest at it in
    ap (token_in mode (length text)) (ap behind_blanks it.here ∙ behind_spaces spaces rest all ∙ ap behind_blanks (sym next.here))

lexes_from : (text : List ℕ) (at next : ℕ) (mode : Mode) (tokens : List Token) → token_at text at mode ≡ token_at text next mode → Lexes text next mode tokens None → Lexes text at mode tokens None
lexes_from text at next mode [] same it = same ∙ it
lexes_from text at next mode (t ∷ tokens) same it = (same ∙ it.0, it.1)

-- space is passed
pub pass_spaces : (text spaces rest : List ℕ) (at : ℕ) (mode : Mode) → AreSpaces spaces → Stands text at (spaces ++ rest) → Passes text at mode rest mode (λ tail. tail)
pass_spaces text spaces rest at mode all it = record {
  after = at + length spaces;
  stands = stands_on text spaces rest at it;
  reads = λ tail go. record { tokens = go.tokens; lexes = lexes_from text at (at + length spaces) mode go.tokens (same_token text spaces rest at mode all it) go.lexes; are = go.are };
}

token_is : (text bytes rest : List ℕ) (at : ℕ) (mode : Mode) (kind : TokenKind) → 0 < length bytes → Stands text at (bytes ++ rest) → blank_len (bytes ++ rest) ≡ 0
    → form_in mode (bytes ++ rest) ≡ Some (kind, length bytes) → token_at text at mode ≡ Ok (Some (record { kind = kind; start = at; end = at + length bytes }))
unfolding token_at
token_is text [] rest at mode kind some it blank form = absurd (omega arith)
token_is text (b ∷ bytes) rest at mode kind some it blank form =
    let all = b ∷ (bytes ++ rest) in
    let start : length text - length all ≡ at = omega (arith, it.all) in
    ap (token_in mode (length text)) (ap behind_blanks it.here ∙ skipped_none (length all) all blank)
    ∙ ap (λ (n : ℕ). token_from n (form_in mode all)) start
    ∙ ap (token_from at) form

text_is : (text bytes rest : List ℕ) (at : ℕ) (kind : TokenKind) → Stands text at (bytes ++ rest) → token_text text (record { kind = kind; start = at; end = at + length bytes }) ≡ bytes
text_is text bytes rest at kind it = drop-take at (length bytes) text ∙ ap (take (length bytes)) it.here ∙ take_at bytes rest (length bytes) refl

-- a token is passed
pub pass_token : (text bytes rest : List ℕ) (at : ℕ) (mode : Mode) (kind : TokenKind) → 0 < length bytes → Stands text at (bytes ++ rest) → blank_len (bytes ++ rest) ≡ 0
    → form_in mode (bytes ++ rest) ≡ Some (kind, length bytes) → Passes text at mode rest (mode_after mode kind) (λ tail. kind_piece kind bytes at ∷ tail)
pass_token text bytes rest at mode kind some it blank form =
    let token : Token = record { kind = kind; start = at; end = at + length bytes } in
    record {
      after = at + length bytes;
      stands = stands_on text bytes rest at it;
      reads = λ tail go. record {
        tokens = token ∷ go.tokens;
        lexes = (token_is text bytes rest at mode kind some it blank form, go.lexes);
        are = λ i. kind_piece kind (text_is text bytes rest at kind it i) at ∷ go.are i;
      };
    }
