-- What a text spells, byte after byte.
use Rattle.std.proofs.Common.{◌≡◌, ℕ, ◌+◌, ◌*◌, ◌<◌, List, [], ◌∷◌, ◌++◌, length, refl, sym, ap, subst, ◌∙◌, inl, inr, arith, append_assoc, cond, Bool, ltb, ne_eqb, length-append, Bor}
use Rattle.std.specs.Prelude.{Option, Some, None, MatchOption}
use Rattle.std.specs.Char.{digit_value}
use Rattle.std.proofs.lemmas.Bool.{and_from, lt-ltb}
use Rattle.std.proofs.lemmas.List.{append-nil, nil_from_length}
use Rattle.hv_words.specs.Text.{Spells, SpellsAll, IsText}
use Rattle.hv_words.specs.Commands.{SomeText, PathGiven, TextGiven, NumberGiven, WordGiven}
use Rattle.hv_words.specs.Arguments.{IsUnfit}
use Rattle.hv_words.specs.Spelled.{BeginsWithDigitPair, HasNoDigitPair, BeginsWithByte, HasNoByte, escaped, spelled_front}

pub spelled_is : (piece rest : List ℕ) (byte : ℕ) → Spells piece byte → spelled_front (piece ++ rest) ≡ Some (byte, rest)
spelled_is piece rest byte (inl h) =
    ap (λ (p : List ℕ). spelled_front (p ++ rest)) h.1 ∙ ap (λ (b : Bool). cond b (escaped rest) (Some (byte, rest))) (ne_eqb byte 92 h.0)
spelled_is piece rest byte (inr (inl h)) = ap (λ (p : List ℕ). spelled_front (p ++ rest)) h.1 ∙ ap (λ (b : ℕ). Some (b, rest)) (sym h.0)
spelled_is piece rest byte (inr (inr (inl h))) = ap (λ (p : List ℕ). spelled_front (p ++ rest)) h.1 ∙ ap (λ (b : ℕ). Some (b, rest)) (sym h.0)
spelled_is piece rest byte (inr (inr (inr (inl h)))) = ap (λ (p : List ℕ). spelled_front (p ++ rest)) h.1 ∙ ap (λ (b : ℕ). Some (b, rest)) (sym h.0)
spelled_is piece rest byte (inr (inr (inr (inr h)))) =
    let both = and_from (ltb (digit_value h.high) 16) (ltb (digit_value h.low) 16) (lt-ltb (digit_value h.high) 16 h.high_digit) (lt-ltb (digit_value h.low) 16 h.low_digit) in
    ap (λ (p : List ℕ). spelled_front (p ++ rest)) h.piece_is
    ∙ ap (λ (t : Bool). cond t (Some (digit_value h.high * 16 + digit_value h.low, rest)) None) both
    ∙ ap (λ (b : ℕ). Some (b, rest)) (sym h.value)

-- a text begins with one spelled byte at most
pub same_byte : (text : List ℕ) (b c : ℕ) (x y : List ℕ) → BeginsWithByte text b x → BeginsWithByte text c y → (b ≡ c) × (x ≡ y)
same_byte text b c x y h k =
    let one : spelled_front text ≡ Some (b, x) = ap spelled_front h.text_is ∙ spelled_is h.piece x b h.spelled in
    let other : spelled_front text ≡ Some (c, y) = ap spelled_front k.text_is ∙ spelled_is k.piece y c k.spelled in
    let pair : ◌≡◌ {A = ℕ × List ℕ} (b, x) (c, y) = cc (one, other) in
    (ap (λ (p : ℕ × List ℕ). p.0) pair, ap (λ (p : ℕ × List ℕ). p.1) pair)

-- a spelling has a byte at least
spelled_some : (piece : List ℕ) (b : ℕ) → Spells piece b → 0 < length piece
spelled_some [] b (inl h) = absurd (cc (h.1))
spelled_some [] b (inr (inl h)) = absurd (cc (h.1))
spelled_some [] b (inr (inr (inl h))) = absurd (cc (h.1))
spelled_some [] b (inr (inr (inr (inl h)))) = absurd (cc (h.1))
spelled_some [] b (inr (inr (inr (inr h)))) = absurd (cc (h.piece_is))
spelled_some (p ∷ piece) b h = omega arith

pub byte_is_some : (text : List ℕ) (b : ℕ) (x : List ℕ) → BeginsWithByte text b x → length x < length text
byte_is_some text b x h = omega (arith, ap length h.text_is, length-append h.piece x, spelled_some h.piece b h.spelled)

-- digits behind `\\x` spell their byte
digits_spelled : (text behind : List ℕ) (byte : ℕ) (rest : List ℕ) → text ≡ 92 ∷ 120 ∷ behind → BeginsWithDigitPair behind byte rest → BeginsWithByte text byte rest
digits_spelled text behind byte rest is h = record {
  piece = 92 ∷ 120 ∷ h.high ∷ h.low ∷ [];
  text_is = cc (is, h.text_is);
  spelled = inr (inr (inr (inr (record { high = h.high; low = h.low; high_digit = h.high_digit; low_digit = h.low_digit; piece_is = refl; value = h.value }))));
}

digits_only : (piece behind : List ℕ) (byte : ℕ) (rest : List ℕ) → 92 ∷ 120 ∷ behind ≡ piece ++ rest → Spells piece byte → BeginsWithDigitPair behind byte rest
digits_only piece behind byte rest is (inl h) =
    let e : 92 ∷ 120 ∷ behind ≡ byte ∷ rest = is ∙ ap (λ (p : List ℕ). p ++ rest) h.1 in
    let letter : byte ≡ 92 = cc in
    absurd (h.0 letter)
digits_only piece behind byte rest is (inr (inl h)) =
    let e : 92 ∷ 120 ∷ behind ≡ 92 ∷ 92 ∷ rest = is ∙ ap (λ (p : List ℕ). p ++ rest) h.1 in
    let letter : ◌≡◌ {A = ℕ} 120 92 = cc in
    absurd (omega arith)
digits_only piece behind byte rest is (inr (inr (inl h))) =
    let e : 92 ∷ 120 ∷ behind ≡ 92 ∷ 110 ∷ rest = is ∙ ap (λ (p : List ℕ). p ++ rest) h.1 in
    let letter : ◌≡◌ {A = ℕ} 120 110 = cc in
    absurd (omega arith)
digits_only piece behind byte rest is (inr (inr (inr (inl h)))) =
    let e : 92 ∷ 120 ∷ behind ≡ 92 ∷ 115 ∷ rest = is ∙ ap (λ (p : List ℕ). p ++ rest) h.1 in
    let letter : ◌≡◌ {A = ℕ} 120 115 = cc in
    absurd (omega arith)
digits_only piece behind byte rest is (inr (inr (inr (inr h)))) =
    let e : 92 ∷ 120 ∷ behind ≡ 92 ∷ 120 ∷ h.high ∷ h.low ∷ rest = is ∙ ap (λ (p : List ℕ). p ++ rest) h.piece_is in
    record { high = h.high; low = h.low; high_digit = h.high_digit; low_digit = h.low_digit; text_is = cc; value = h.value }

-- behind `\\x` a byte is spelled where two digits follow, and only there
pub digits_next : (text behind : List ℕ) → text ≡ 92 ∷ 120 ∷ behind → (r : Option (ℕ × Bor (List ℕ)))
    → MatchOption r (HasNoDigitPair behind) (λ f. BeginsWithDigitPair behind f.0 f.1.now) → MatchOption r (HasNoByte text) (λ f. BeginsWithByte text f.0 f.1.now)
digits_next text behind is None none = λ byte rest h. none byte rest (digits_only h.piece behind byte rest (sym is ∙ h.text_is) h.spelled)
digits_next text behind is (Some f) h = digits_spelled text behind f.0 f.1.now is h

-- a text of which bytes were read is spelled by these and the bytes of the rest
pub record SpellsSoFar (word bytes rest : List ℕ) : Type 0 where
  pub joined : (all : List ℕ) → SpellsAll rest all → SpellsAll word (bytes ++ all)
  pub parted : (all : List ℕ) → SpellsAll word all → (others : List ℕ) × (all ≡ bytes ++ others) × SpellsAll rest others

pub spells_none : (word : List ℕ) → SpellsSoFar word [] word
spells_none word = record { joined = λ all h. h; parted = λ all h. (all, refl, h) }

first_other : (bytes rest behind : List ℕ) (b : ℕ) (all others : List ℕ) → BeginsWithByte rest b behind → all ≡ bytes ++ others → SpellsAll rest others
    → (more : List ℕ) × (all ≡ (bytes ++ b ∷ []) ++ more) × SpellsAll behind more
first_other bytes rest behind b all [] h is spells =
    absurd (omega (arith, byte_is_some rest b behind h, ap length spells))
first_other bytes rest behind b all (o ∷ os) h is spells =
    let same = same_byte rest b o behind spells.1 h (record { piece = spells.0; text_is = spells.2; spelled = spells.3 }) in
    (os, is ∙ ap (λ (c : ℕ). bytes ++ (c ∷ os)) (sym same.0) ∙ sym (append_assoc bytes (b ∷ []) os), subst (λ (t : List ℕ). SpellsAll t os) (sym same.1) spells.4)

-- one more byte is read
pub spells_more : (word bytes rest behind : List ℕ) (b : ℕ) → SpellsSoFar word bytes rest → BeginsWithByte rest b behind → SpellsSoFar word (bytes ++ b ∷ []) behind
spells_more word bytes rest behind b so_far h = record {
  joined = λ all spells. subst (λ (bs : List ℕ). SpellsAll word bs) (sym (append_assoc bytes (b ∷ []) all)) (so_far.joined (b ∷ all) (h.piece, behind, h.text_is, h.spelled, spells));
  parted = λ all spells. let o = so_far.parted all spells in first_other bytes rest behind b all o.0 h o.1 o.2;
}

-- a text whose rest spells no byte is no text
stuck : (rest others : List ℕ) → 0 < length rest → HasNoByte rest → SpellsAll rest others → ⊥
stuck rest [] some none spells = omega (arith, ap length spells)
stuck rest (o ∷ os) some none spells = none o spells.1 (record { piece = spells.0; text_is = spells.2; spelled = spells.3 })

pub unfit_where_stuck : (word bytes rest : List ℕ) → SpellsSoFar word bytes rest → 0 < length rest → HasNoByte rest → IsUnfit SomeText word
unfit_where_stuck word bytes rest so_far some none (PathGiven path) fits = fits
unfit_where_stuck word bytes rest so_far some none (NumberGiven n) fits = fits
unfit_where_stuck word bytes rest so_far some none (WordGiven w) fits = fits
unfit_where_stuck word bytes rest so_far some none (TextGiven all) fits =
    let o = so_far.parted all fits.spelled in
    stuck rest o.0 some none o.2

-- what nothing spells is no byte
nothing_spelled : (rest others : List ℕ) → length rest ≡ 0 → SpellsAll rest others → others ≡ []
nothing_spelled rest [] none spells = refl
nothing_spelled rest (o ∷ os) none spells =
    absurd (omega (arith, byte_is_some rest o spells.1 (record { piece = spells.0; text_is = spells.2; spelled = spells.3 })))

pub unfit_where_empty : (word bytes rest : List ℕ) → SpellsSoFar word bytes rest → length rest ≡ 0 → length bytes ≡ 0 → IsUnfit SomeText word
unfit_where_empty word bytes rest so_far over empty (PathGiven path) fits = fits
unfit_where_empty word bytes rest so_far over empty (NumberGiven n) fits = fits
unfit_where_empty word bytes rest so_far over empty (WordGiven w) fits = fits
unfit_where_empty word bytes rest so_far over empty (TextGiven all) fits =
    let o = so_far.parted all fits.spelled in
    let none : o.0 ≡ [] = nothing_spelled rest o.0 over o.2 in
    omega (arith, ap length o.1, length-append bytes o.0, ap length none, fits.some)

-- the bytes that were read are the text's where nothing follows
pub text_where_over : (word bytes rest : List ℕ) → SpellsSoFar word bytes rest → length rest ≡ 0 → 0 < length bytes → IsText word bytes
text_where_over word bytes rest so_far over some = record {
  some = some;
  spelled = subst (λ (bs : List ℕ). SpellsAll word bs) (append-nil bytes) (so_far.joined [] (nil_from_length rest over));
}
