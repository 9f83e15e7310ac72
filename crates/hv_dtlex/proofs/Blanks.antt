-- Blanks, one after the other.
use Rattle.std.proofs.Common.{◌≡◌, ℕ, zero, suc, ◌+◌, ◌<◌, ◌≤◌, List, [], ◌∷◌, length, drop, get_or, false, refl, sym, ap, subst, ◌∙◌, arith, inl, inr}
use Rattle.std.specs.Prelude.{Option, Some, None, codes, nat_eq}
use Rattle.std.specs.Option.{option_map}
use Rattle.std.specs.List.{starts_with}
use Rattle.std.proofs.lemmas.List.{length-drop, nil_from_length, drop_more}
use Rattle.std.proofs.lemmas.Bool.{cases_lt, cond-false}
use Rattle.hv_dtlex.specs.Blank.{close_at, blank_len, skipped, behind_blanks}

-- where no blank stands, nothing is skipped
pub skipped_none : (count : ℕ) (text : List ℕ) → blank_len text ≡ 0 → skipped count text ≡ text
skipped_none zero text none = refl
skipped_none (suc count) text none =
    ap (λ n. skipped count (drop n text)) none ∙ skipped_none count text none

-- as many blanks as bytes are enough
pub skipped_enough : (m n : ℕ) (text : List ℕ) → length text ≤ m → length text ≤ n → skipped m text ≡ skipped n text
skipped_enough zero n text small large =
    let empty : text ≡ [] = nil_from_length text (omega arith) in
    sym (skipped_none n text (ap blank_len empty))
skipped_enough (suc m) zero text small large =
    let empty : text ≡ [] = nil_from_length text (omega arith) in
    skipped_none (suc m) text (ap blank_len empty)
skipped_enough (suc m) (suc n) text small large = elim (cases_lt 0 (blank_len text)) [
  | inl some ↦ skipped_enough m n (drop (blank_len text) text) (omega (arith, length-drop (blank_len text) text)) (omega (arith, length-drop (blank_len text) text))
  | inr none ↦
      let settled : blank_len text ≡ 0 = omega arith in
      skipped_none (suc m) text settled ∙ sym (skipped_none (suc n) text settled)
]

-- one blank less
pub behind_one : (text : List ℕ) → 0 < blank_len text → behind_blanks (drop (blank_len text) text) ≡ behind_blanks text
behind_one [] some = refl
behind_one (b ∷ rest) some =
    skipped_enough (length (drop (blank_len (b ∷ rest)) (b ∷ rest))) (length rest) (drop (blank_len (b ∷ rest)) (b ∷ rest)) (omega arith) (omega (arith, length-drop (blank_len (b ∷ rest)) (b ∷ rest)))

-- a blank is passed
pub behind_passed : (text rest behind : List ℕ) (size : ℕ) → size ≡ blank_len rest → 0 < size → behind ≡ drop size rest → behind_blanks rest ≡ behind_blanks text → behind_blanks behind ≡ behind_blanks text
behind_passed text rest behind size len some is same =
    ap behind_blanks (is ∙ ap (λ (n : ℕ). drop n rest) len) ∙ behind_one rest (omega (arith, len)) ∙ same

-- where no blank stands, all are passed
pub behind_last : (text rest : List ℕ) (size : ℕ) → size ≡ blank_len rest → size ≤ 0 → behind_blanks rest ≡ behind_blanks text → rest ≡ behind_blanks text
behind_last text rest size len none same = sym (skipped_none (length rest) rest (omega (arith, len))) ∙ same

close_next : (b : ℕ) (rest : List ℕ) → starts_with nat_eq (b ∷ rest) (codes "*/") ≡ false → close_at (b ∷ rest) ≡ option_map (λ n. n + 1) (close_at rest)
close_next b rest apart = cond-false _ _ _ apart

close_shift : (at : ℕ) (o : Option ℕ) → option_map (λ n. at + 1 + n) o ≡ option_map (λ n. at + n) (option_map (λ n. n + 1) o)
close_shift at None = refl
close_shift at (Some n) = ap (λ (k : ℕ). Some k) (omega arith)

-- the end of a comment does not stand at an offset
pub close_step : (text behind : List ℕ) (at : ℕ) → at < length text → behind ≡ drop at text → starts_with nat_eq behind (codes "*/") ≡ false
    → option_map (λ n. at + n) (close_at (drop at text)) ≡ close_at text → option_map (λ n. at + 1 + n) (close_at (drop (at + 1) text)) ≡ close_at text
close_step text behind at lt is apart found =
    let here : drop at text ≡ get_or text at 0 ∷ drop (at + 1) text = drop_more text at 0 lt in
    let not_here : starts_with nat_eq (get_or text at 0 ∷ drop (at + 1) text) (codes "*/") ≡ false =
    subst (λ (t : List ℕ). starts_with nat_eq t (codes "*/") ≡ false) (is ∙ here) apart in
    let next : close_at (drop at text) ≡ option_map (λ n. n + 1) (close_at (drop (at + 1) text)) = ap close_at here ∙ close_next (get_or text at 0) (drop (at + 1) text) not_here in
    close_shift at (close_at (drop (at + 1) text)) ∙ ap (option_map (λ n. at + n)) (sym next) ∙ found
