-- Bytes as pairs of hexadecimal digits.
use Rattle.std.proofs.Common.{◌≡◌, ◌≢◌, ℕ, ◌+◌, ◌*◌, ◌/◌, ◌%◌, ◌^◌, ◌<◌, false, List, [], ◌∷◌, ◌++◌, length, refl, sym, ap, ◌∙◌, inl, inr, arith, append_assoc}
use Rattle.std.specs.Prelude.{◌-◌, replicate, codes}
use Rattle.std.specs.Char.{digit_char, digit_value}
use Rattle.std.specs.List.{AllByRecursion}
use Rattle.std.specs.Fmt.{digits}
use Rattle.std.proofs.lemmas.Bool.{cases_lt}
use Rattle.std.proofs.lemmas.Fmt.{hex_one_digit, hex_two_digits}
use Rattle.std.proofs.lemmas.List.{append-nil}
use Rattle.std.proofs.lemmas.List.Concat.{flat_map-append}
use Rattle.std.proofs.lemmas.Str.{digit_value-digit_char}
use Rattle.hv_text.specs.Front.{IsFree}
use Rattle.hv_text.specs.Number.{padded_hex}
use Rattle.hv_text.proofs.Pairs.{pair_is}
use Rattle.hv_data.specs.Text.{hex_pairs, hex_text}
use Rattle.hv_data.specs.Written.{AreBytes}
use Rattle.hv_data.proofs.Foreign.{IsForeign, free_append, apart, hex_digit_is_name}

pub same_digit : (v w : ℕ) → v < 16 → w < 16 → digit_char v ≡ digit_char w → v ≡ w
same_digit v w lt lt' e =
    sym (digit_value-digit_char v (omega arith)) ∙ ap digit_value e ∙ digit_value-digit_char w (omega arith)

-- a pair in front
pub pair_in_front : (b h : ℕ) (t rest : List ℕ) → b < 2 ^ 8 → h ∷ t ≡ padded_hex b 2 ++ rest → (h ≡ digit_char (b / 16)) × (t ≡ digit_char (b % 16) ∷ rest)
pair_in_front b h t rest lt e =
    let whole : h ∷ t ≡ digit_char (b / 16) ∷ digit_char (b % 16) ∷ rest = e ∙ ap (λ (p : List ℕ). p ++ rest) (pair_is b lt) in
    (cc whole, cc whole)

-- two digits make a pair
pub pair_made : (h l : ℕ) → h < 16 → l < 16 → digit_char h ∷ digit_char l ∷ [] ≡ padded_hex (h * 16 + l) 2
pair_made h l lth ltl =
    let high : (h * 16 + l) / 16 ≡ h = omega arith in
    let low : (h * 16 + l) % 16 ≡ l = omega arith in
    sym (pair_is (h * 16 + l) (omega arith) ∙ rw (high, low) refl)

-- two digits in front make a pair there
pub pair_read : (text behind : List ℕ) (a b h l : ℕ) → text ≡ a ∷ b ∷ behind → h < 16 → l < 16 → a ≡ digit_char h → b ≡ digit_char l → text ≡ padded_hex (h * 16 + l) 2 ++ behind
pair_read text behind a b h l is lth ltl ha lb =
    let digits_are : a ∷ b ∷ behind ≡ digit_char h ∷ digit_char l ∷ behind = cc (ha, lb) in
    is ∙ digits_are ∙ ap (λ (p : List ℕ). p ++ behind) (pair_made h l lth ltl)

-- two bytes with one pair in front
same_pair : (a b : ℕ) (x y : List ℕ) → a < 2 ^ 8 → b < 2 ^ 8 → padded_hex a 2 ++ x ≡ padded_hex b 2 ++ y → (a ≡ b) × (x ≡ y)
same_pair a b x y lta ltb e =
    let whole : digit_char (a / 16) ∷ digit_char (a % 16) ∷ x ≡ digit_char (b / 16) ∷ digit_char (b % 16) ∷ y =
    ap (λ (p : List ℕ). p ++ x) (sym (pair_is a lta)) ∙ e ∙ ap (λ (p : List ℕ). p ++ y) (pair_is b ltb) in
    let high_chars : digit_char (a / 16) ≡ digit_char (b / 16) = cc whole in
    let low_chars : digit_char (a % 16) ≡ digit_char (b % 16) = cc whole in
    let high : a / 16 ≡ b / 16 = same_digit (a / 16) (b / 16) (omega arith) (omega arith) high_chars in
    let low : a % 16 ≡ b % 16 = same_digit (a % 16) (b % 16) (omega arith) (omega arith) low_chars in
    (omega arith, cc whole)

pair_some : (b : ℕ) (rest : List ℕ) → b < 2 ^ 8 → padded_hex b 2 ++ rest ≡ [] → ⊥
pair_some b rest lt e =
    let whole : digit_char (b / 16) ∷ digit_char (b % 16) ∷ rest ≡ [] = ap (λ (p : List ℕ). p ++ rest) (sym (pair_is b lt)) ∙ e in
    cc whole

-- what stands behind a pair is shorter
pub pair_shorter : (b : ℕ) (text behind : List ℕ) → b < 2 ^ 8 → text ≡ padded_hex b 2 ++ behind → length behind < length text
pair_shorter b text behind lt e =
    let whole : text ≡ digit_char (b / 16) ∷ digit_char (b % 16) ∷ behind = e ∙ ap (λ (p : List ℕ). p ++ behind) (pair_is b lt) in
    omega (arith, ap length whole)

-- the bytes so far are read from the front of the text
pub record ReadsPairs (text bytes rest : List ℕ) : Type 0 where
  pub parts : text ≡ hex_pairs bytes ++ rest
  pub each : AreBytes bytes

-- what holds of each element holds with one more
pub all_push : {A : Type 0} (good : A → Type 0) (xs : List A) (x : A) → AllByRecursion good xs → good x → AllByRecursion good (xs ++ x ∷ [])
all_push good [] x h k = (k, tt)
all_push good (y ∷ ys) x h k = (h.0, all_push good ys x h.1 k)

pairs_push : (bytes : List ℕ) (b : ℕ) (rest : List ℕ) → hex_pairs bytes ++ (padded_hex b 2 ++ rest) ≡ hex_pairs (bytes ++ b ∷ []) ++ rest
pairs_push bytes b rest =
    sym (ap (λ (t : List ℕ). t ++ rest) (flat_map-append (λ (x : ℕ). padded_hex x 2) bytes (b ∷ []) ∙ ap (λ (t : List ℕ). hex_pairs bytes ++ t) (append-nil (padded_hex b 2))) ∙ append_assoc (hex_pairs bytes) (padded_hex b 2) rest)

pub more_pairs : (text bytes rest behind : List ℕ) (b : ℕ) → ReadsPairs text bytes rest → b < 2 ^ 8 → rest ≡ padded_hex b 2 ++ behind → ReadsPairs text (bytes ++ b ∷ []) behind
more_pairs text bytes rest behind b so_far lt is = record {
  parts = so_far.parts ∙ ap (λ (t : List ℕ). hex_pairs bytes ++ t) is ∙ pairs_push bytes b behind;
  each = all_push (λ (x : ℕ). x < 2 ^ 8) bytes b so_far.each lt;
}

-- whatever bytes have the text begin with those so far
others_left : (bytes all rest : List ℕ) → AreBytes bytes → AreBytes all → hex_pairs all ≡ hex_pairs bytes ++ rest → (others : List ℕ) × (all ≡ bytes ++ others) × AreBytes others × (rest ≡ hex_pairs others)
others_left [] all rest h k e = (all, refl, k, sym e)
others_left (b ∷ bytes) [] rest h k e =
    absurd (pair_some b (hex_pairs bytes ++ rest) h.0 (sym (e ∙ append_assoc (padded_hex b 2) (hex_pairs bytes) rest)))
others_left (b ∷ bytes) (a ∷ all) rest h k e =
    let both = same_pair a b (hex_pairs all) (hex_pairs bytes ++ rest) k.0 h.0 (e ∙ append_assoc (padded_hex b 2) (hex_pairs bytes) rest) in
    let more = others_left bytes all rest h.1 k.1 both.1 in
    (more.0, cc (both.0, more.1), more.2, more.3)

-- a rest with no pair in front is that of no bytes
pub no_bytes_where_stuck : (text bytes rest : List ℕ) → ReadsPairs text bytes rest → 0 < length rest → text ≢ codes "-" → ((b : ℕ) (behind : List ℕ) → b < 2 ^ 8 → rest ≢ padded_hex b 2 ++ behind)
    → (all : List ℕ) → AreBytes all → text ≡ hex_text all → ⊥
no_bytes_where_stuck text bytes rest so_far some other stuck [] h e = other e
no_bytes_where_stuck text bytes rest so_far some other stuck (a ∷ all) h e =
    let more = others_left bytes (a ∷ all) rest so_far.each h (sym e ∙ so_far.parts) in
    stuck_others rest more.0 more.2 some stuck more.3
  where
    stuck_others : (rest others : List ℕ) → AreBytes others → 0 < length rest → ((b : ℕ) (behind : List ℕ) → b < 2 ^ 8 → rest ≢ padded_hex b 2 ++ behind) → rest ≡ hex_pairs others → ⊥
    stuck_others rest [] h some stuck e = omega (arith, ap length e)
    stuck_others rest (o ∷ others) h some stuck e = stuck o (hex_pairs others) h.0 e

-- no bytes have the empty text
pub no_bytes_where_empty : (text : List ℕ) → text ≡ [] → (all : List ℕ) → AreBytes all → text ≡ hex_text all → ⊥
no_bytes_where_empty text is [] h e = cc (is, e)
no_bytes_where_empty text is (a ∷ all) h e = pair_some a (hex_pairs all) h.0 (sym e ∙ is)

-- some bytes are written as their pairs
pub bytes_where_over : (text bytes : List ℕ) → ReadsPairs text bytes [] → 0 < length bytes → AreBytes bytes × (text ≡ hex_text bytes)
bytes_where_over text [] so_far some = absurd (omega arith)
bytes_where_over text (b ∷ bytes) so_far some = (so_far.each, so_far.parts ∙ append-nil (hex_pairs (b ∷ bytes)))

same_pairs : (one other : List ℕ) → AreBytes one → AreBytes other → hex_pairs one ≡ hex_pairs other → one ≡ other
same_pairs [] [] h k e = refl
same_pairs [] (b ∷ other) h k e = absurd (pair_some b (hex_pairs other) k.0 (sym e))
same_pairs (a ∷ one) [] h k e = absurd (pair_some a (hex_pairs one) h.0 e)
same_pairs (a ∷ one) (b ∷ other) h k e =
    let both = same_pair a b (hex_pairs one) (hex_pairs other) h.0 k.0 e in
    cc (both.0, same_pairs one other h.1 k.1 both.1)

no_hyphen : (b : ℕ) (rest : List ℕ) → b < 2 ^ 8 → padded_hex b 2 ++ rest ≢ 45 ∷ []
no_hyphen b rest lt e =
    let whole : digit_char (b / 16) ∷ digit_char (b % 16) ∷ rest ≡ 45 ∷ [] = ap (λ (p : List ℕ). p ++ rest) (sym (pair_is b lt)) ∙ e in
    cc whole

-- two lists of bytes with one text are one
pub same_bytes : (one other : List ℕ) → AreBytes one → AreBytes other → hex_text one ≡ hex_text other → one ≡ other
same_bytes [] [] h k e = refl
same_bytes [] (b ∷ other) h k e = absurd (no_hyphen b (hex_pairs other) k.0 (sym e))
same_bytes (a ∷ one) [] h k e = absurd (no_hyphen a (hex_pairs one) h.0 e)
same_bytes (a ∷ one) (b ∷ other) h k e = same_pairs (a ∷ one) (b ∷ other) h k e

pair_free : (d b : ℕ) → IsForeign d → b < 2 ^ 8 → IsFree d (padded_hex b 2)
pair_free d b out lt =
    rw (pair_is b lt) (apart d (digit_char (b / 16)) out (hex_digit_is_name (b / 16) (omega arith)), (apart d (digit_char (b % 16)) out (hex_digit_is_name (b % 16) (omega arith)), tt))

pairs_free : (d : ℕ) (bytes : List ℕ) → IsForeign d → AreBytes bytes → IsFree d (hex_pairs bytes)
pairs_free d [] out h = tt
pairs_free d (b ∷ bytes) out h = free_append d (padded_hex b 2) (hex_pairs bytes) (pair_free d b out h.0) (pairs_free d bytes out h.1)

pub hex_free : (d : ℕ) (bytes : List ℕ) → IsForeign d → AreBytes bytes → IsFree d (hex_text bytes)
hex_free d [] out h = (apart d 45 out (inr (inr (inr refl))), tt)
hex_free d (b ∷ bytes) out h = pairs_free d (b ∷ bytes) out h
