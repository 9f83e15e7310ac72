-- Texts for each number of a range.
use Rattle.std.proofs.Common.{◌≡◌, ℕ, zero, suc, ◌+◌, List, [], ◌∷◌, ◌++◌, ap, ◌∙◌, sym, arith}
use Rattle.std.specs.List.{flat_map, range_with_len}
use Rattle.std.proofs.lemmas.List.{flat_map_more}

last_of : (from n at : ℕ) → from + n ≡ at → range_with_len from (suc n) ≡ range_with_len from n ++ at ∷ []
last_of from zero at e = let same : from ≡ at = omega arith in ap (λ (k : ℕ). k ∷ []) same
last_of from (suc n) at e = ap (λ (ks : List ℕ). from ∷ ks) (last_of (from + 1) n at (omega arith))

-- a range with one number more has that number behind the others
pub range_more : (from n at : ℕ) → from + n ≡ at → range_with_len from (n + 1) ≡ range_with_len from n ++ at ∷ []
range_more from n at e = let on : n + 1 ≡ suc n = omega arith in ap (range_with_len from) on ∙ last_of from n at e

-- the text of one number more stands behind those of the others
pub text_more : (text : ℕ → List ℕ) (to : List ℕ) (from n at : ℕ) → from + n ≡ at
    → (to ++ flat_map text (range_with_len from n)) ++ text at ≡ to ++ flat_map text (range_with_len from (n + 1))
text_more text to from n at e =
    flat_map_more text to (range_with_len from n) at ∙ ap (λ (ks : List ℕ). to ++ flat_map text ks) (sym (range_more from n at e))
