-- Words with several parts: generations and signal changes.
use Rattle.std.proofs.Common.{◌≡◌, ◌≢◌, ℕ, ◌^◌, ◌<◌, Bool, true, false, List, [], ◌∷◌, ◌++◌, refl, sym, ap, ◌∙◌, arith, append_assoc}
use Rattle.std.specs.Prelude.{codes, Option, Some, None, Result, Ok, Err, MatchResult}
use Rattle.std.specs.Char.{digit_char}
use Rattle.std.specs.Fmt.{decimal, digits}
use Rattle.std.specs.Str.Parse.{AllDigits}
use Rattle.std.proofs.lemmas.Fmt.{decimal_is_IsNumeral, decimal_injective, hex_one_digit}
use Rattle.std.proofs.lemmas.Str.Parse.{digit_from_value}
use Rattle.hv_text.specs.Front.{IsFree}
use Rattle.hv_text.proofs.Fronts.{same_front}
use Rattle.hv_kinds.specs.declared.changes.SignalChanges.{SignalChanges}
use Rattle.hv_kinds.specs.declared.generation.Generation.{Generation}
use Rattle.hv_data.specs.declared.refusal.WordRefusal.{WordRefusal}
use Rattle.hv_data.specs.declared.refusal.WordRefusal.TheVariants.{BadWord, Memory}
use Rattle.hv_data.specs.Text.{generation_text, changes_text, bit_text}
use Rattle.hv_data.specs.Written.{IsNumber, IsNumber8, IsGeneration, AreChanges}
use Rattle.hv_data.specs.Reading.{Because, Reads, IsWordOf}
use Rattle.hv_data.proofs.Pairs.{same_digit}

-- what holds for one reason holds for what follows from it
pub because_more : {P Q : Type 0} (e : WordRefusal) → (P → Q) → Because e P → Because e Q
because_more BadWord more h = more h
because_more (Memory e) more h = tt

low_free : (d : ℕ) (word : List ℕ) → d < 48 → AllDigits 10 word → IsFree d word
low_free d [] lt h = tt
low_free d (b ∷ word) lt h = let digit = digit_from_value b h.0 in ((λ e. omega (arith, digit)), low_free d word lt h.1)

-- no digit is a byte below the digits
pub decimal_without : (d n : ℕ) → d < 48 → n < 2 ^ 64 → IsFree d (decimal n)
decimal_without d n lt small = low_free d (decimal n) lt (decimal_is_IsNumeral n small).0.1

-- a slot and a birth with a dot between
abbrev dotted : Generation → List ℕ
dotted g = decimal g.slot ++ 46 ∷ decimal g.birth

pub generation_is : (g : Generation) → generation_text (Some g) ≡ 64 ∷ dotted g
generation_is g = ap (λ (t : List ℕ). 64 ∷ t) (append_assoc (decimal g.slot) (46 ∷ []) (decimal g.birth))

-- the two sides of the dot
pub sides : (slot birth : List ℕ) (g : Generation) → IsFree 46 slot → IsGeneration (Some g) → slot ++ 46 ∷ birth ≡ dotted g → (slot ≡ decimal g.slot) × (birth ≡ decimal g.birth)
sides slot birth g free h e =
    let both = same_front 46 slot (decimal g.slot) (46 ∷ birth) (46 ∷ decimal g.birth) free (decimal_without 46 g.slot (omega arith) (omega (arith, h.0))) refl refl e in
    (both.0, cc both.1)

-- a word behind whose sign no slot and birth stand is that of no generation
pub no_generation : (word numbers : List ℕ) → word ≡ 64 ∷ numbers → word ≢ codes "@-" → ((g : Generation) → IsGeneration (Some g) → numbers ≡ dotted g → ⊥)
    → (o : Option Generation) → IsWordOf IsGeneration generation_text word o → ⊥
no_generation word numbers is other none None h = other h.1
no_generation word numbers is other none (Some g) h =
    let whole : 64 ∷ numbers ≡ 64 ∷ dotted g = sym is ∙ h.1 ∙ generation_is g in
    none g h.0 (cc whole)

hyphen_first : (ds bs : List ℕ) → IsFree 45 ds → 45 ∷ [] ≡ ds ++ 46 ∷ bs → ⊥
hyphen_first [] bs free e = let head : ◌≡◌ {A = ℕ} 45 46 = cc e in omega (arith, head)
hyphen_first (d ∷ ds) bs free e = free.0 (cc e)

no_hyphen : (g : Generation) → IsGeneration (Some g) → codes "@-" ≡ 64 ∷ dotted g → ⊥
no_hyphen g h e = hyphen_first (decimal g.slot) (decimal g.birth) (decimal_without 45 g.slot (omega arith) (omega (arith, h.0))) (cc e)

abbrev born : ℕ → ℕ → Generation
born slot birth = record { slot = slot; birth = birth }

-- two generations with one word are one
pub same_generation : (one other : Option Generation) → IsGeneration one → IsGeneration other → generation_text one ≡ generation_text other → one ≡ other
same_generation None None h k e = refl
same_generation None (Some g) h k e = absurd (no_hyphen g k (e ∙ generation_is g))
same_generation (Some g) None h k e = absurd (no_hyphen g h (sym e ∙ generation_is g))
same_generation (Some g) (Some f) h k e =
    let whole : 64 ∷ dotted g ≡ 64 ∷ dotted f = sym (generation_is g) ∙ e ∙ generation_is f in
    let both = sides (decimal g.slot) (decimal g.birth) f (decimal_without 46 g.slot (omega arith) (omega (arith, h.0))) k (cc whole) in
    let slots : g.slot ≡ f.slot = decimal_injective g.slot f.slot (omega (arith, h.0)) (omega (arith, k.0)) both.0 in
    let births : g.birth ≡ f.birth = decimal_injective g.birth f.birth h.1 k.1 both.1 in
    ap (λ (n : ℕ). Some (born n g.birth)) slots ∙ ap (λ (n : ℕ). Some (born f.slot n)) births

-- signal changes by their parts
abbrev front_of : Bool → List ℕ → List ℕ
front_of line rest = 109 ∷ (bit_text line ++ 46 ∷ rest)

pub changes_are : (c : SignalChanges) → AreChanges c → changes_text c ≡ front_of c.line (digit_char c.pins ∷ [])
changes_are c lt = by_line c.line (hex_one_digit false c.pins lt)
  where
    by_line : (line : Bool) {t u : List ℕ} → t ≡ u → codes "m" ++ bit_text line ++ codes "." ++ t ≡ front_of line u
    by_line true e = ap (λ (t : List ℕ). 109 ∷ 49 ∷ 46 ∷ t) e
    by_line false e = ap (λ (t : List ℕ). 109 ∷ 48 ∷ 46 ∷ t) e

same_fronts : (a b : Bool) (x y : List ℕ) → front_of a x ≡ front_of b y → (a ≡ b) × (x ≡ y)
same_fronts true true x y e = (refl, cc e)
same_fronts false false x y e = (refl, cc e)
same_fronts true false x y e = let bits : ◌≡◌ {A = ℕ} 49 48 = cc e in absurd (omega (arith, bits))
same_fronts false true x y e = let bits : ◌≡◌ {A = ℕ} 48 49 = cc e in absurd (omega (arith, bits))

abbrev changed : Bool → ℕ → SignalChanges
changed line pins = record { line = line; pins = pins }

-- two signal changes with one word are one
pub same_changes : (c d : SignalChanges) → AreChanges c → AreChanges d → changes_text c ≡ changes_text d → c ≡ d
same_changes c d h k e =
    let both = same_fronts c.line d.line (digit_char c.pins ∷ []) (digit_char d.pins ∷ []) (sym (changes_are c h) ∙ e ∙ changes_are d k) in
    let pins : c.pins ≡ d.pins = same_digit c.pins d.pins h k (cc both.1) in
    ap (λ (line : Bool). changed line c.pins) both.0 ∙ ap (λ (p : ℕ). changed d.line p) pins

-- what the digits behind a front are read as is what the word is read as
pub changes_read : (line : Bool) (word digits : List ℕ) (r : Result SignalChanges WordRefusal) → word ≡ front_of line digits
    → MatchResult r (λ c. (c.line ≡ line) × (c.pins < 16) × (digits ≡ digit_char c.pins ∷ [])) (λ e. Because e ((p : ℕ) → p < 16 → digits ≢ digit_char p ∷ []))
    → Reads AreChanges changes_text word r
changes_read line word digits (Ok c) is h =
    (h.1, is ∙ ap (front_of line) h.2 ∙ ap (λ (b : Bool). front_of b (digit_char c.pins ∷ [])) (sym h.0) ∙ sym (changes_are c h.1))
changes_read line word digits (Err e) is h =
    because_more e (λ none c there. none c.pins there.0 (same_fronts line c.line digits (digit_char c.pins ∷ []) (sym is ∙ there.1 ∙ changes_are c there.0)).1) h

-- a text that is nowhere parted at a dot is no slot and birth
pub no_dot : (numbers : List ℕ) → ((slot birth : List ℕ) → IsFree 46 slot → numbers ≢ slot ++ 46 ∷ birth) → (g : Generation) → IsGeneration (Some g) → numbers ≡ dotted g → ⊥
no_dot numbers whole g h e = whole (decimal g.slot) (decimal g.birth) (decimal_without 46 g.slot (omega arith) (omega (arith, h.0))) e

pub no_slot : (numbers slot birth : List ℕ) → IsFree 46 slot → numbers ≡ slot ++ 46 ∷ birth → ((n : ℕ) → IsWordOf IsNumber8 decimal slot n → ⊥) → (g : Generation) → IsGeneration (Some g) → numbers ≡ dotted g → ⊥
no_slot numbers slot birth free is none g h e = none g.slot (h.0, (sides slot birth g free h (sym is ∙ e)).0)

pub no_birth : (numbers slot birth : List ℕ) → IsFree 46 slot → numbers ≡ slot ++ 46 ∷ birth → ((n : ℕ) → IsWordOf IsNumber decimal birth n → ⊥) → (g : Generation) → IsGeneration (Some g) → numbers ≡ dotted g → ⊥
no_birth numbers slot birth free is none g h e = none g.birth (h.1, (sides slot birth g free h (sym is ∙ e)).1)
