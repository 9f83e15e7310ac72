-- Numbers and the names of registers.
use Rattle.std.proofs.Common.{◌≡◌, ◌≢◌, ℕ, zero, suc, ◌<◌, ◌≤◌, ◌+◌, ◌^◌, Bool, true, false, ◌&&◌, cond, eqb, ltb, List, [], ◌∷◌, ◌++◌, length, drop, get_or, Option, Some, None, Result, Ok, Err, refl, sym, ap, subst, ◌∙◌, arith, ltb-true}
use Rattle.std.specs.Prelude.{nat_eq, codes, ℤ, pos, neg_ℤ}
use Rattle.std.specs.Char.{digit_value}
use Rattle.std.specs.Fmt.{decimal}
use Rattle.std.specs.List.{starts_with}
use Rattle.std.specs.Option.{option_map}
use Rattle.std.specs.Str.Parse.{AllDigits, digits_value}
use Rattle.std.proofs.lemmas.Bool.{eqb-true, lt-ltb}
use Rattle.std.proofs.lemmas.Bool.Decides.{Decides-eqb}
use Rattle.std.proofs.lemmas.Fmt.{first_decimal, decimal_digit, decimal-digits_value}
use Rattle.std.proofs.lemmas.Slice.Eq.{starts_is}
use Rattle.std.proofs.lemmas.Str.Parse.{IsNumeralModel}
use Rattle.hv_text.proofs.Numbers.{each_digit, number_of-decimal}
use Rattle.hv_text.specs.Front.{IsFree}
use Rattle.hv_text.specs.Number.{digits_front, number_in, number_of}
use Rattle.hv_text.specs.declared.number.NumberRefusal.{NumberRefusal}
use Rattle.hv_text.specs.declared.number.NumberRefusal.TheVariants.{NotANumber, TooLarge}
use Rattle.hv_asm.specs.Operand.{within_word, number_value, register_text}

-- what follows from a number that was read
pub record IsNumber (radix : ℕ) (ds : List ℕ) (n : ℕ) : Type 0 where
  pub digits : AllDigits radix ds
  pub some : 0 < length ds
  pub value : digits_value radix ds ≡ n

-- the tests of a number that was read
record Passed (whole some : Bool) (v n : ℕ) : Type 0 where
  is_whole : whole ≡ true
  is_some : some ≡ true
  same : v ≡ n

-- a number was read where all of its tests hold
passed : (whole some small : Bool) (v n : ℕ) (e : NumberRefusal) → cond (whole && some) (cond small (Ok v) (Err TooLarge)) (Err e) ≡ Ok n → Passed whole some v n
passed true true true v n e h = record { is_whole = refl; is_some = refl; same = cc }
passed true true false v n e h = absurd (cc)
passed true false small v n e h = absurd (cc)
passed false some small v n e h = absurd (cc)

-- a number that was read has digits alone, and their value
pub number_in_gives : (radix start : ℕ) (ds : List ℕ) (n : ℕ) → number_in radix start ds ≡ Ok n → IsNumber radix ds n
number_in_gives radix start ds n h =
    let len = digits_front radix ds in
    let p = passed (eqb len (length ds)) (ltb 0 len) (ltb (digits_value radix ds) (2 ^ 64)) (digits_value radix ds) n (NotANumber (start + len)) h in
    let whole : len ≡ length ds = eqb-true len (length ds) p.is_whole in
    let some : 0 < len = ltb-true 0 len p.is_some in
    record { digits = each_digit radix ds whole; some = omega arith; value = p.same }

-- a byte that is no digit stands among no digits
pub digits_free : (radix other : ℕ) (ds : List ℕ) → radix ≤ digit_value other → AllDigits radix ds → IsFree other ds
digits_free radix other [] high each = tt
digits_free radix other (d ∷ ds) high each =
    ((λ is. omega (arith, each.0, ap digit_value is)), digits_free radix other ds high each.1)

-- what begins with a text
begins : (text needle : List ℕ) → starts_with nat_eq text needle ≡ true → text ≡ needle ++ drop (length needle) text
begins text needle is = (starts_is Decides-eqb text needle (starts_with nat_eq text needle) refl).0 is

-- a text of a number has no byte that is no hexadecimal digit, save the x
free_by_radix : (other : ℕ) (text : List ℕ) (n : ℕ) (hex : Bool) → 16 ≤ digit_value other → other ≢ 120 → (hex ≡ true → text ≡ 48 ∷ 120 ∷ drop 2 text) → cond hex (number_in 16 2 (drop 2 text)) (number_in 10 0 text) ≡ Ok n → IsFree other text
free_by_radix other text n true high apart front h =
    let rest : IsFree other (drop 2 text) = digits_free 16 other (drop 2 text) high (number_in_gives 16 2 (drop 2 text) n h).digits in
    let zero_apart : 48 ≢ other = λ is. omega (arith, ap digit_value is) in
    subst (IsFree other) (sym (front refl)) (zero_apart, ((λ is. apart (sym is)), rest))
free_by_radix other text n false high apart front h = digits_free 10 other text (omega arith) (number_in_gives 10 0 text n h).digits

-- so is the text of a number in either radix
pub number_free : (other : ℕ) (text : List ℕ) (n : ℕ) → 16 ≤ digit_value other → other ≢ 120 → number_of text ≡ Ok n → IsFree other text
number_free other text n high apart h =
    free_by_radix other text n (starts_with nat_eq text (48 ∷ 120 ∷ [])) high apart (begins text (48 ∷ 120 ∷ [])) h

-- a number that a word can hold was read
pub record WasRead (r : Result ℕ NumberRefusal) (n : ℕ) : Type 0 where
  pub read : r ≡ Ok n
  pub fits : n < 2 ^ 32

-- a number that was kept is below the bound
within_test : (m n : ℕ) (small : Bool) → ltb m (2 ^ 32) ≡ small → cond small (Some m) None ≡ Some n → WasRead (Ok m) n
within_test m n true is h = let same : m ≡ n = cc in record { read = ap Ok same; fits = subst (λ k. k < 2 ^ 32) same (ltb-true m (2 ^ 32) is) }
within_test m n false is h = absurd (cc)

-- a number that was kept was read and fits
pub within_gives : (r : Result ℕ NumberRefusal) (n : ℕ) → within_word r ≡ Some n → WasRead r n
within_gives (Ok m) n h = within_test m n (ltb m (2 ^ 32)) refl h
within_gives (Err e) n h = absurd (cc)

-- a value that was made of a number
pub from_map : {A : Type 0} (f : ℕ → A) (o : Option ℕ) (a : A) → option_map f o ≡ Some a → (n : ℕ) × (o ≡ Some n)
from_map f None a h = absurd (cc)
from_map f (Some n) a h = (n, refl)

-- the text of a value has no byte that is no hexadecimal digit, save the x and the minus
value_free_by : (other : ℕ) (text : List ℕ) (z : ℤ) (hex minus : Bool) → 16 ≤ digit_value other → other ≢ 120 → other ≢ 45 → (minus ≡ true → text ≡ 45 ∷ drop 1 text)
    → cond hex None (cond minus (option_map (λ n. neg_ℤ (pos n)) (within_word (number_of (drop 1 text)))) (option_map (λ n. pos n) (within_word (number_of text)))) ≡ Some z → IsFree other text
value_free_by other text z true minus high apart other_sign front h = absurd (cc)
value_free_by other text z false true high apart other_sign front h =
    let read = from_map (λ n. neg_ℤ (pos n)) (within_word (number_of (drop 1 text))) z h in
    let rest : IsFree other (drop 1 text) = number_free other (drop 1 text) read.0 high apart (within_gives (number_of (drop 1 text)) read.0 read.1).read in
    subst (IsFree other) (sym (front refl)) ((λ is. other_sign (sym is)), rest)
value_free_by other text z false false high apart other_sign front h =
    let read = from_map (λ n. pos n) (within_word (number_of text)) z h in
    number_free other text read.0 high apart (within_gives (number_of text) read.0 read.1).read

-- so is each text of a value
pub value_free : (other : ℕ) (text : List ℕ) (z : ℤ) → 16 ≤ digit_value other → other ≢ 120 → other ≢ 45 → number_value text ≡ Some z → IsFree other text
value_free other text z high apart other_sign h =
    value_free_by other text z (starts_with nat_eq text (codes "-0x")) (starts_with nat_eq text (codes "-")) high apart other_sign (begins text (codes "-")) h

-- the words of the kit for decimal digits
own : IsNumeralModel (AllDigits 10) (digits_value 10)
own = record { to = λ ds h. h; from = λ ds h. h; same = λ ds h. refl }

-- digits of a number with no zero in front are its decimal text
decimal_by_radix : (ds : List ℕ) (n : ℕ) (hex : Bool) → n < 2 ^ 32 → (hex ≡ true → ds ≡ 48 ∷ 120 ∷ drop 2 ds) → (get_or ds 0 0 ≡ 48 → length ds ≡ 1) → cond hex (number_in 16 2 (drop 2 ds)) (number_in 10 0 ds) ≡ Ok n → ds ≡ decimal n
decimal_by_radix ds n true small front plain h =
    let is : ds ≡ 48 ∷ 120 ∷ drop 2 ds = front refl in
    let one : length ds ≡ 1 = plain (ap (λ (t : List ℕ). get_or t 0 0) is) in
    absurd (omega (arith, ap length is, one))
decimal_by_radix ds n false small front plain h =
    let number = number_in_gives 10 0 ds n h in
    let same : decimal (digits_value 10 ds) ≡ ds = decimal-digits_value own ds number.digits number.some plain (omega (arith, number.value)) in
    sym same ∙ ap decimal number.value

-- so is each text of a number that has none
pub decimal_from_read : (ds : List ℕ) (n : ℕ) → n < 2 ^ 32 → (get_or ds 0 0 ≡ 48 → length ds ≡ 1) → number_of ds ≡ Ok n → ds ≡ decimal n
decimal_from_read ds n small plain h =
    decimal_by_radix ds n (starts_with nat_eq ds (48 ∷ 120 ∷ [])) small (begins ds (48 ∷ 120 ∷ [])) plain h

-- a decimal text begins with a zero only where it is the zero
pub decimal_plain : (n : ℕ) → n < 2 ^ 32 → get_or (decimal n) 0 0 ≡ 48 → length (decimal n) ≡ 1
decimal_plain zero small is = ap length (decimal_digit 0 (omega arith))
decimal_plain (suc n) small is = absurd (omega (arith, is, first_decimal (suc n) (omega arith) (omega arith)))

-- what stands behind the x of a register's name
pub same_digits : (text digits : List ℕ) (n : ℕ) → text ≡ codes "x" ++ digits → text ≡ register_text n → digits ≡ decimal n
same_digits text digits n is other = cc (is, other)

-- a number below 32 is read from its decimal text
pub register_read : (n : ℕ) → n < 32 → within_word (number_of (decimal n)) ≡ Some n
register_read n small =
    let fits : ltb n (2 ^ 32) ≡ true = lt-ltb n (2 ^ 32) (omega arith) in
    ap within_word (number_of-decimal n (omega arith)) ∙ rw fits refl

-- a number that is not below 32 is of no register
pub too_large : (text digits : List ℕ) (m n : ℕ) → text ≡ codes "x" ++ digits → within_word (number_of digits) ≡ Some m → 32 ≤ m → n < 32 → text ≡ register_text n → ⊥
too_large text digits m n is read large small other =
    let same = same_digits text digits n is other in
    let found = register_read n small in
    let again : Some m ≡ Some n = sym read ∙ ap (λ (ds : List ℕ). within_word (number_of ds)) same ∙ found in
    let equal : m ≡ n = cc in
    omega arith

-- where no number was read there is no register
pub not_read : (text digits : List ℕ) (n : ℕ) → text ≡ codes "x" ++ digits → within_word (number_of digits) ≡ None → n < 32 → text ≡ register_text n → ⊥
not_read text digits n is none small other =
    let same = same_digits text digits n is other in
    let found = register_read n small in
    let again : None ≡ Some n = sym none ∙ ap (λ (ds : List ℕ). within_word (number_of ds)) same ∙ found in
    absurd (cc)

-- a zero in front stands in no name
pub zero_in_front : (text digits : List ℕ) (n : ℕ) → text ≡ codes "x" ++ digits → 1 < length digits → get_or digits 0 0 ≡ 48 → n < 32 → text ≡ register_text n → ⊥
zero_in_front text digits n is long zero_first small other =
    let same = same_digits text digits n is other in
    let one : length (decimal n) ≡ 1 = decimal_plain n (omega arith) (ap (λ (ds : List ℕ). get_or ds 0 0) (sym same) ∙ zero_first) in
    omega (arith, ap length same)

-- the register of a number that was read
pub named_register : (text digits : List ℕ) (n : ℕ) → text ≡ codes "x" ++ digits → within_word (number_of digits) ≡ Some n → (get_or digits 0 0 ≡ 48 → length digits ≡ 1) → text ≡ register_text n
named_register text digits n is read plain =
    let was = within_gives (number_of digits) n read in
    is ∙ ap (λ (ds : List ℕ). codes "x" ++ ds) (decimal_from_read digits n was.fits plain was.read)

-- digits that were read are some
pub some_digits : (digits : List ℕ) (n : ℕ) → within_word (number_of digits) ≡ Some n → length digits ≤ 1 → length digits ≡ 1
some_digits [] n read short = absurd (cc)
some_digits (d ∷ digits) n read short = omega arith

-- what begins with an x is no number
pub no_register_value : (ds : List ℕ) (z : ℤ) → number_value (120 ∷ ds) ≡ Some z → ⊥
no_register_value ds z h =
    let read = from_map (λ n. pos n) (within_word (number_of (120 ∷ ds))) z h in
    let number = number_in_gives 10 0 (120 ∷ ds) read.0 (within_gives (number_of (120 ∷ ds)) read.0 read.1).read in
    omega (arith, number.digits.0)
