-- The strings of a value, piece by piece.
use Rattle.std.proofs.Common.{◌≡◌, ◌≢◌, ℕ, suc, ◌-◌, ◌<◌, Bool, true, false, eqb, List, [], ◌∷◌, ◌++◌, length, take, refl, sym, ap, ◌∙◌, ◌⊎◌, inl, inr, arith, ne_eqb, append_assoc}
use Rattle.std.specs.List.{slice_split, onto_first}
use Rattle.std.proofs.lemmas.List.{append-nil}
use Rattle.std.proofs.lemmas.List.Splits.{slice_split-cons_yes, slice_split-cons_no, length-slice_split}
use Rattle.std.proofs.lemmas.Bool.{false≢true}
use Rattle.std.proofs.lemmas.Bool.Decides.{Decides-eqb}
use Rattle.hv_text.specs.Front.{IsFree}
use Rattle.hv_plan.specs.Regions.{strings_in}

abbrev is_zero : ℕ → Bool
is_zero b = eqb b 0

-- bytes without a zero are one piece
one_piece : (text : List ℕ) → IsFree 0 text → slice_split is_zero text ≡ text ∷ []
one_piece [] free = refl
one_piece (b ∷ text) free = slice_split-cons_no is_zero b text (ne_eqb b 0 free.0) ∙ ap (onto_first b) (one_piece text free.1)

-- the first piece ends at the first zero
first_piece : (piece rest : List ℕ) → IsFree 0 piece → slice_split is_zero (piece ++ 0 ∷ rest) ≡ piece ∷ slice_split is_zero rest
first_piece [] rest free = slice_split-cons_yes is_zero 0 rest refl
first_piece (b ∷ piece) rest free = slice_split-cons_no is_zero b (piece ++ 0 ∷ rest) (ne_eqb b 0 free.0) ∙ ap (onto_first b) (first_piece piece rest free.1)

all_but_last : (piece : List ℕ) (pieces : List (List ℕ)) → 0 < length pieces → take (length (piece ∷ pieces) - 1) (piece ∷ pieces) ≡ piece ∷ take (length pieces - 1) pieces
all_but_last piece [] some = absurd (omega arith)
all_but_last piece (next ∷ more) some =
    let all : suc (suc (length more)) - 1 ≡ suc (length more) = omega arith in
    let others : suc (length more) - 1 ≡ length more = omega arith in
    ap (λ (n : ℕ). take n (piece ∷ next ∷ more)) all ∙ ap (λ (n : ℕ). piece ∷ take n (next ∷ more)) (sym others)

-- the first string, and those behind it
pub one_string : (value text behind : List ℕ) → IsFree 0 text → value ≡ text ++ 0 ∷ behind → strings_in value ≡ text ∷ strings_in behind
one_string value text behind free is =
    let pieces : slice_split is_zero value ≡ text ∷ slice_split is_zero behind = ap (slice_split is_zero) is ∙ first_piece text behind free in
    ap (λ (ps : List (List ℕ)). take (length ps - 1) ps) pieces ∙ all_but_last text (slice_split is_zero behind) (omega (arith, length-slice_split is_zero behind))

-- a zero byte is there, or none
record HasZero (value : List ℕ) : Type 0 where
  word : List ℕ
  rest : List ℕ
  free : IsFree 0 word
  parts : value ≡ word ++ 0 ∷ rest

zero_more : (b : ℕ) (value : List ℕ) → b ≢ 0 → (IsFree 0 value ⊎ HasZero value) → IsFree 0 (b ∷ value) ⊎ HasZero (b ∷ value)
zero_more b value other (inl free) = inl (other, free)
zero_more b value other (inr has) = inr (record { word = b ∷ has.word; rest = has.rest; free = (other, has.free); parts = ap (λ (t : List ℕ). b ∷ t) has.parts })

zero_first : (test : Bool) (b : ℕ) (value : List ℕ) → eqb b 0 ≡ test → (IsFree 0 value ⊎ HasZero value) → IsFree 0 (b ∷ value) ⊎ HasZero (b ∷ value)
zero_first true b value is so = inr (record { word = []; rest = value; free = tt; parts = ap (λ (n : ℕ). n ∷ value) ((Decides-eqb b 0).0 is) })
zero_first false b value is so = zero_more b value (λ same. false≢true (sym is ∙ ap (λ (n : ℕ). eqb n 0) same)) so

zero_or_none : (value : List ℕ) → IsFree 0 value ⊎ HasZero value
zero_or_none [] = inl tt
zero_or_none (b ∷ value) = zero_first (eqb b 0) b value refl (zero_or_none value)

-- without a zero byte there is no string
pub no_string : (value : List ℕ) → ((word rest : List ℕ) → IsFree 0 word → value ≡ word ++ 0 ∷ rest → ⊥) → strings_in value ≡ []
no_string value none =
    elim (zero_or_none value) [
      | inl free ↦ ap (λ (ps : List (List ℕ)). take (length ps - 1) ps) (one_piece value free)
      | inr has ↦ absurd (none has.word has.rest has.free has.parts)
    ]

-- one more string was read
pub string_more : (value rest text behind : List ℕ) (strings new : List (List ℕ)) → strings ++ strings_in rest ≡ strings_in value → IsFree 0 text → rest ≡ text ++ 0 ∷ behind → new ≡ strings ++ text ∷ [] → new ++ strings_in behind ≡ strings_in value
string_more value rest text behind strings new so_far free is pushed =
    ap (λ (s : List (List ℕ)). s ++ strings_in behind) pushed ∙ (append_assoc strings (text ∷ []) (strings_in behind) ∙ (ap (λ (s : List (List ℕ)). strings ++ s) (sym (one_string rest text behind free is)) ∙ so_far))

-- all were read
pub strings_all : (value rest : List ℕ) (strings : List (List ℕ)) → strings ++ strings_in rest ≡ strings_in value → ((word end : List ℕ) → IsFree 0 word → rest ≡ word ++ 0 ∷ end → ⊥) → strings ≡ strings_in value
strings_all value rest strings so_far none = sym (append-nil strings) ∙ (ap (λ (s : List (List ℕ)). strings ++ s) (sym (no_string rest none)) ∙ so_far)
