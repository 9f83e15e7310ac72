-- Numbers and addresses in words.
use Rattle.std.proofs.Common.{◌≡◌, ◌≢◌, ℕ, ◌^◌, ◌<◌, true, false, not, List, length, sym, ap, ◌∙◌, arith}
use Rattle.std.specs.Prelude.{Result, Ok, Err, Some, SomeIff}
use Rattle.std.specs.Str.{bytes_eq}
use Rattle.std.specs.Str.Parse.{digits_value}
use Rattle.std.proofs.lemmas.Bool.{false≢true}
use Rattle.std.proofs.lemmas.Slice.Eq.{bytes_eq-Decides}
use Rattle.std.specs.Fmt.{decimal, digits}
use Rattle.std.proofs.lemmas.Fmt.{decimal_injective, digits_is_IsNumeral}
use Rattle.hv_text.specs.Number.{number_of, digits_front}
use Rattle.hv_text.specs.declared.number.NumberRefusal.{NumberRefusal}
use Rattle.hv_text.proofs.Numbers.{number_of-decimal, number_in_is, front_all}
use Rattle.hv_data.specs.Text.{address_text}
use Rattle.hv_data.specs.Written.{IsNumber}

-- a text that is read as its number
abbrev ReadsBack : (ℕ → List ℕ) → Type 0
ReadsBack shown = (n : ℕ) → n < 2 ^ 64 → number_of (shown n) ≡ Ok n

-- a word that gives no number is no number's
pub no_number_where_refused : (shown : ℕ → List ℕ) → ReadsBack shown → (word : List ℕ) (e : NumberRefusal) → number_of word ≡ Err e → (n : ℕ) → IsNumber n × (word ≡ shown n) → ⊥
no_number_where_refused shown back word refused is n h =
    let both : Err refused ≡ Ok n = sym is ∙ ap number_of h.1 ∙ back n h.0 in
    cc both

same_ok : (r : Result ℕ NumberRefusal) (m n : ℕ) → r ≡ Ok m → r ≡ Ok n → m ≡ n
same_ok r m n h k = cc (h, k)

-- a word that isn't the text of its number is no number's
pub no_number_where_other : (shown : ℕ → List ℕ) → ReadsBack shown → (word : List ℕ) (number : ℕ) → number_of word ≡ Ok number → shown number ≢ word → (n : ℕ) → IsNumber n × (word ≡ shown n) → ⊥
no_number_where_other shown back word number is other n h =
    let same : number ≡ n = same_ok (number_of word) number n is (ap number_of h.1 ∙ back n h.0) in
    other (ap shown same ∙ sym h.1)

pub decimal_back : ReadsBack decimal
decimal_back = number_of-decimal

-- a text of an address is read as its number
pub address_back : ReadsBack address_text
address_back n lt =
    let both = digits_is_IsNumeral 16 false (omega arith) (omega arith) n (omega arith) in
    let whole : digits_front 16 (digits 16 false n) ≡ length (digits 16 false n) = front_all 16 (digits 16 false n) both.0.1 in
    let value : SomeIff (Some n) (digits_value 16 (digits 16 false n) < 2 ^ 64) (digits_value 16 (digits 16 false n)) = (omega (arith, both.1), sym both.1) in
    sym (number_in_is 16 2 (digits 16 false n) (Some n) whole both.0.0 value)

-- two addresses with one text are one
pub same_address : (m n : ℕ) → m < 2 ^ 64 → n < 2 ^ 64 → address_text m ≡ address_text n → m ≡ n
same_address m n lt lt' e = same_ok (number_of (address_text m)) m n (address_back m lt) (ap number_of e ∙ address_back n lt')

pub same_number : (word : List ℕ) (m n : ℕ) → IsNumber m × (word ≡ decimal m) → IsNumber n × (word ≡ decimal n) → m ≡ n
same_number word m n h k = decimal_injective m n h.0 k.0 (sym h.1 ∙ k.1)

-- what a test of two texts says where they differ
pub differ : (xs ys : List ℕ) → true ≡ not (bytes_eq xs ys) → xs ≢ ys
differ xs ys h e = false≢true (sym (h ∙ ap not ((bytes_eq-Decides xs ys).1 e)))

pub differ_where_false : (xs ys : List ℕ) → false ≡ bytes_eq xs ys → xs ≢ ys
differ_where_false xs ys h e = false≢true (h ∙ (bytes_eq-Decides xs ys).1 e)
