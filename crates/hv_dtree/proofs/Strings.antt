-- Strings one after the other.
use Rattle.std.proofs.Common.{◌≡◌, ◌≢◌, ℕ, ◌+◌, ◌≤◌, List, [], ◌∷◌, ◌++◌, length, refl, sym, ap, ◌∙◌, arith, append_assoc}
use Rattle.std.proofs.lemmas.List.{append-nil, length_push}
use Rattle.std.specs.List.{AllByRecursion}
use Rattle.hv_text.specs.Front.{IsFree}
use Rattle.hv_text.proofs.Fronts.{same_front}
use Rattle.hv_dtree.specs.Values.{strings_text, HasStringAt, IsOneString}

-- so many strings were passed
pub record Passed (value : List ℕ) (count : ℕ) (rest : List ℕ) : Type 0 where
  pub before : List (List ℕ)
  pub size : length before ≡ count
  pub each : AllByRecursion (IsFree 0) before
  pub parts : value ≡ strings_text before ++ rest

pub passed_none : (value : List ℕ) → Passed value 0 value
passed_none value = record { before = []; size = refl; each = tt; parts = refl }

free_push : (before : List (List ℕ)) (text : List ℕ) → AllByRecursion (IsFree 0) before → IsFree 0 text → AllByRecursion (IsFree 0) (before ++ text ∷ [])
free_push [] text each free = (free, tt)
free_push (b ∷ before) text each free = (each.0, free_push before text each.1 free)

text_push : (before : List (List ℕ)) (text rest : List ℕ) → strings_text (before ++ text ∷ []) ++ rest ≡ strings_text before ++ (text ++ (0 ∷ rest))
text_push [] text rest = ap (λ (t : List ℕ). t ++ rest) (append-nil (text ++ 0 ∷ [])) ∙ append_assoc text (0 ∷ []) rest
text_push (b ∷ before) text rest =
    append_assoc (b ++ 0 ∷ []) (strings_text (before ++ text ∷ [])) rest ∙ ap (λ (t : List ℕ). (b ++ 0 ∷ []) ++ t) (text_push before text rest) ∙ sym (append_assoc (b ++ 0 ∷ []) (strings_text before) (text ++ (0 ∷ rest)))

-- one more was passed
pub passed_more : (value : List ℕ) (count : ℕ) (rest text behind : List ℕ) → Passed value count rest → IsFree 0 text → rest ≡ text ++ 0 ∷ behind → Passed value (count + 1) behind
passed_more value count rest text behind passed free is = record {
  before = passed.before ++ text ∷ [];
  size = length_push passed.before text ∙ ap (λ (n : ℕ). n + 1) passed.size;
  each = free_push passed.before text passed.each free;
  parts = passed.parts ∙ ap (λ (t : List ℕ). strings_text passed.before ++ t) is ∙ sym (text_push passed.before text behind);
}

-- the next string is there
pub string_here : (value : List ℕ) (count : ℕ) (rest text behind : List ℕ) → Passed value count rest → IsFree 0 text → rest ≡ text ++ 0 ∷ behind → HasStringAt value count text
string_here value count rest text behind passed free is = record {
  before = passed.before;
  rest = behind;
  count = passed.size;
  each = passed.each;
  free = free;
  parts = passed.parts ∙ ap (λ (t : List ℕ). strings_text passed.before ++ t) is;
}

word_same : (a b x y : List ℕ) → IsFree 0 a → IsFree 0 b → a ++ 0 ∷ x ≡ b ++ 0 ∷ y → (a ≡ b) × (x ≡ y)
word_same a b x y fa fb e =
    let both = same_front 0 a b (0 ∷ x) (0 ∷ y) fa fb refl refl e in
    let tails : x ≡ y = cc both.1 in
    (both.0, tails)

-- behind strings that a value begins with stands no less than behind more of them
none_more : (before others : List (List ℕ)) (rest text behind : List ℕ) → AllByRecursion (IsFree 0) before → AllByRecursion (IsFree 0) others → IsFree 0 text → length before ≤ length others
    → strings_text before ++ rest ≡ strings_text others ++ (text ++ (0 ∷ behind)) → ((word end : List ℕ) → IsFree 0 word → rest ≢ word ++ 0 ∷ end) → ⊥
none_more [] [] rest text behind each all free few e none = none text behind free e
none_more [] (o ∷ others) rest text behind each all free few e none =
    none o (strings_text others ++ (text ++ (0 ∷ behind))) all.0 (e ∙ append_assoc (o ++ 0 ∷ []) (strings_text others) (text ++ (0 ∷ behind)) ∙ append_assoc o (0 ∷ []) (strings_text others ++ (text ++ (0 ∷ behind))))
none_more (b ∷ before) [] rest text behind each all free few e none = absurd (omega arith)
none_more (b ∷ before) (o ∷ others) rest text behind each all free few e none =
    let left : strings_text (b ∷ before) ++ rest ≡ b ++ (0 ∷ (strings_text before ++ rest)) = append_assoc (b ++ 0 ∷ []) (strings_text before) rest ∙ append_assoc b (0 ∷ []) (strings_text before ++ rest) in
    let tail = text ++ (0 ∷ behind) in
    let right : strings_text (o ∷ others) ++ tail ≡ o ++ (0 ∷ (strings_text others ++ tail)) = append_assoc (o ++ 0 ∷ []) (strings_text others) tail ∙ append_assoc o (0 ∷ []) (strings_text others ++ tail) in
    let both = word_same b o (strings_text before ++ rest) (strings_text others ++ tail) each.0 all.0 (sym left ∙ e ∙ right) in
    none_more before others rest text behind each.1 all.1 free (omega arith) both.1 none

-- where no string is left, none stands at this place or a later one
pub no_string : (value : List ℕ) (count place : ℕ) (rest : List ℕ) → Passed value count rest → count ≤ place → ((word end : List ℕ) → IsFree 0 word → rest ≢ word ++ 0 ∷ end) → (text : List ℕ) → HasStringAt value place text → ⊥
no_string value count place rest passed few none text has =
    none_more passed.before has.before rest text has.rest passed.each has.each has.free (omega (arith, passed.size, has.count)) (sym passed.parts ∙ has.parts) none

-- a value with bytes behind its first string is not one string
pub not_one : (value text rest : List ℕ) → IsFree 0 text → value ≡ text ++ 0 ∷ rest → rest ≢ [] → (one : List ℕ) → IsOneString value one → ⊥
not_one value text rest free is some one both = some (word_same text one rest [] free both.0 (sym is ∙ both.1)).1
