-- Texts in values.
use Rattle.std.proofs.Common.{◌≡◌, ℕ, suc, ◌+◌, Bool, true, false, not, cond, eqb, List, [], ◌∷◌, ◌++◌, length, take, refl, sym, ap, subst, ◌∙◌, arith, ne_eqb}
use Rattle.std.specs.Prelude.{Option, Some, None, Result, Ok, Err, if◌then◌else◌}
use Rattle.std.specs.List.{before_first, position_or_len}
use Rattle.std.specs.Option.{option_copied, option_and_then}
use Rattle.std.specs.Result.{result_ok}
use Rattle.std.specs.Cmp.Lexicographic.{pointwise}
use Rattle.std.proofs.lemmas.Bool.{false≢true}
use Rattle.std.proofs.lemmas.Slice.Eq.{bytes_eq-Decides}
use denote.Ref.{Bor}
use Rattle.hv_text.specs.Front.{IsFree}
use Rattle.hv_dtree.specs.Values.{GivesText, IsOneString}
use Rattle.hv_dtree.specs.declared.node.PropRefusal.{PropRefusal}
use Rattle.hv_dtree.specs.declared.node.PropRefusal.TheVariants.{NoProperty, BadForm}
use Rattle.hv_plan.specs.Properties.{text_in}

take_front : (xs ys : List ℕ) → take (length xs) (xs ++ ys) ≡ xs
take_front [] ys = refl
take_front (x ∷ xs) ys = ap (λ (t : List ℕ). x ∷ t) (take_front xs ys)

-- a text without zero bytes ends before the first one
front_len : (text rest : List ℕ) → IsFree 0 text → position_or_len (λ b. eqb b 0) (text ++ 0 ∷ rest) ≡ length text
front_len [] rest free = refl
front_len (b ∷ text) rest free =
    let other : eqb b 0 ≡ false = ne_eqb b 0 free.0 in
    rw other (omega (arith, front_len text rest free.1))

front_is : (text rest : List ℕ) → IsFree 0 text → before_first (λ b. eqb b 0) (text ++ 0 ∷ rest) ≡ text
front_is text rest free = ap (λ (n : ℕ). take n (text ++ 0 ∷ rest)) (front_len text rest free) ∙ take_front text (0 ∷ rest)

-- before the first zero byte there is none
free_one : (b n : ℕ) (value : List ℕ) → eqb b 0 ≡ false → IsFree 0 (take n value) → IsFree 0 (take (1 + n) (b ∷ value))
free_one b n value other free =
    let is : 1 + n ≡ suc n = omega arith in
    subst (λ (m : ℕ). IsFree 0 (take m (b ∷ value))) (sym is) ((λ same. false≢true (sym other ∙ ap (λ (m : ℕ). eqb m 0) same)), free)

free_both : (test : Bool) (b n : ℕ) (value : List ℕ) → eqb b 0 ≡ test → IsFree 0 (take n value) → IsFree 0 (take (cond (not test) (1 + n) 0) (b ∷ value))
free_both true b n value is free = tt
free_both false b n value is free = free_one b n value is free

front_free : (value : List ℕ) → IsFree 0 (before_first (λ b. eqb b 0) value)
front_free [] = tt
front_free (b ∷ value) = free_both (eqb b 0) b (position_or_len (λ b. eqb b 0) value) value refl (front_free value)

-- the text of a value that is one string
pub text_there : (value text : List ℕ) → IsOneString value text → text_in value ≡ Some text
text_there value text (free, is) =
    let front : before_first (λ b. eqb b 0) value ≡ text = ap (before_first (λ b. eqb b 0)) is ∙ front_is text [] free in
    let same : pointwise eqb value (before_first (λ b. eqb b 0) value ++ 0 ∷ []) ≡ true = (bytes_eq-Decides value (before_first (λ b. eqb b 0) value ++ 0 ∷ [])).1 (is ∙ ap (λ (t : List ℕ). t ++ 0 ∷ []) (sym front)) in
    rw same (ap Some front)

-- a value that is no such string
chosen_none : (test : Bool) (text : List ℕ) → (test ≡ true → ⊥) → (if test then Some text else None) ≡ None
chosen_none true text never = absurd (never refl)
chosen_none false text never = refl

pub no_text : (value : List ℕ) → ((text : List ℕ) → IsOneString value text → ⊥) → text_in value ≡ None
no_text value none =
    let text = before_first (λ b. eqb b 0) value in
    chosen_none (pointwise eqb value (text ++ 0 ∷ [])) text (λ same. none text (front_free value, (bytes_eq-Decides value (text ++ 0 ∷ [])).0 same))

pub text_is : (value : Option (List ℕ)) (result : Result (Bor (List ℕ)) PropRefusal) → GivesText value result → option_copied (result_ok result) ≡ option_and_then text_in value
text_is None (Ok text) gives = absurd (cc gives)
text_is None (Err refusal) gives = refl
text_is (Some value) (Ok text) gives = sym (text_there value text.now gives)
text_is (Some value) (Err NoProperty) gives = absurd gives
text_is (Some value) (Err BadForm) gives = sym (no_text value gives)
