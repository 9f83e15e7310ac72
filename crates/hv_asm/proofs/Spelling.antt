-- A word spells one operand at most.
use Rattle.std.proofs.Common.{◌≡◌, ◌≢◌, ℕ, ◌<◌, List, [], ◌∷◌, ◌++◌, length, Option, Some, None, refl, sym, ap, subst, ◌∙◌, arith}
use Rattle.std.specs.Prelude.{codes, ℤ, pos}
use Rattle.std.specs.Fmt.{decimal}
use Rattle.std.proofs.lemmas.Fmt.{decimal_is_IsNumeral, decimal_injective}
use Rattle.hv_text.proofs.Fronts.{same_front, not_in}
use Rattle.hv_text.specs.Front.{IsFree}
use Rattle.hv_asm.specs.declared.operand.Operand.{Operand}
use Rattle.hv_asm.specs.declared.operand.Operand.TheVariants.{Register, Decimal, Hexadecimal, Based}
use Rattle.hv_asm.specs.declared.operand.Operands.{Operands}
use Rattle.hv_asm.specs.declared.operand.Operands.TheVariants.{Nothing, One, Two, Three}
use Rattle.hv_asm.specs.Operand.{number_value, register_text, Spells, AreSpelled}
use Rattle.hv_asm.specs.Reading.{HasRegisters, HaveRegisters, IsBeforeComma, as_read, all_as_read}
use Rattle.hv_asm.proofs.Numbers.{digits_free, value_free, no_register_value}

-- the name of a register has no parenthesis
pub register_free : (n : ℕ) → n < 32 → IsFree 40 (register_text n)
register_free n small =
    ((λ is. omega (arith, is)), digits_free 10 40 (decimal n) (omega arith) (decimal_is_IsNumeral n (omega arith)).0.1)

-- so has a number
pub number_free_40 : (text : List ℕ) (z : ℤ) → number_value text ≡ Some z → IsFree 40 text
number_free_40 text z h = value_free 40 text z (omega arith) (λ is. omega (arith, is)) (λ is. omega (arith, is)) h

-- two registers with one name are one
pub same_register : (m n : ℕ) → m < 32 → n < 32 → register_text m ≡ register_text n → m ≡ n
same_register m n small other is = decimal_injective m n (omega arith) (omega arith) (cc)

-- lists that end alike begin alike
pub same_before : (a b : List ℕ) (c : ℕ) → a ++ c ∷ [] ≡ b ++ c ∷ [] → a ≡ b
same_before [] [] c is = refl
same_before [] (y ∷ []) c is = absurd (omega (arith, ap length is))
same_before [] (y ∷ z ∷ b) c is = absurd (omega (arith, ap length is))
same_before (x ∷ []) [] c is = absurd (omega (arith, ap length is))
same_before (x ∷ w ∷ a) [] c is = absurd (omega (arith, ap length is))
same_before (x ∷ a) (y ∷ b) c is =
    let tails : a ++ c ∷ [] ≡ b ++ c ∷ [] = cc in
    let same : a ≡ b = same_before a b c tails in
    cc

-- an operand with this front and this behind its parenthesis
abbrev pub IsBasedAt : Operand → List ℕ → List ℕ → Type 0
IsBasedAt (Register number) front behind = ⊥
IsBasedAt (Decimal value) front behind = ⊥
IsBasedAt (Hexadecimal value) front behind = ⊥
IsBasedAt (Based offset base) front behind = (behind ≡ register_text base ++ codes ")") × (number_value front ≡ Some offset)

-- a text with a parenthesis spells an offset from a register alone
pub only_based : (text front behind : List ℕ) (o : Operand) → IsFree 40 front → text ≡ front ++ 40 ∷ behind → HasRegisters o → Spells o text → IsBasedAt o front behind
only_based text front behind (Register n) free is small spelled =
    not_in 40 text front behind (subst (IsFree 40) (sym spelled) (register_free n small)) is
only_based text front behind (Decimal z) free is small spelled = not_in 40 text front behind (number_free_40 text z spelled) is
only_based text front behind (Hexadecimal v) free is small spelled = not_in 40 text front behind (number_free_40 text (pos v) spelled) is
only_based text front behind (Based z n) free is small spelled =
    let other = spelled.0 in
    let both = same_front 40 front other (40 ∷ behind) (40 ∷ (register_text n ++ codes ")")) free (number_free_40 other z spelled.2) refl refl (sym is ∙ spelled.1) in
    let rest : behind ≡ register_text n ++ codes ")" = let e = both.1 in cc in
    (rest, ap number_value both.0 ∙ spelled.2)

-- where no parenthesis ends the text
pub not_closed : (front behind : List ℕ) (o : Operand) → ((name : List ℕ) → behind ≢ name ++ codes ")") → IsBasedAt o front behind → ⊥
not_closed front behind (Register n) none is = is
not_closed front behind (Decimal z) none is = is
not_closed front behind (Hexadecimal v) none is = is
not_closed front behind (Based z n) none is = none (register_text n) is.0

-- where no register stands in the parentheses
pub no_base : (front behind name : List ℕ) (o : Operand) → behind ≡ name ++ codes ")" → ((n : ℕ) → n < 32 → name ≢ register_text n) → HasRegisters o → IsBasedAt o front behind → ⊥
no_base front behind name (Register n) closed none small is = is
no_base front behind name (Decimal z) closed none small is = is
no_base front behind name (Hexadecimal v) closed none small is = is
no_base front behind name (Based z n) closed none small is = none n small (same_before name (register_text n) 41 (sym closed ∙ is.0))

-- where no number stands before them
pub no_offset : (front behind : List ℕ) (o : Operand) → number_value front ≡ None → IsBasedAt o front behind → ⊥
no_offset front behind (Register n) none is = is
no_offset front behind (Decimal z) none is = is
no_offset front behind (Hexadecimal v) none is = is
no_offset front behind (Based z n) none is = let e = is.1 in absurd (cc)

-- where both stand there
pub is_based : (front behind name : List ℕ) (o : Operand) (z : ℤ) (n : ℕ) → behind ≡ name ++ codes ")" → n < 32 → name ≡ register_text n → number_value front ≡ Some z → HasRegisters o → IsBasedAt o front behind → Some (Based z n) ≡ Some (as_read o)
is_based front behind name (Register m) z n closed small named value other is = absurd is
is_based front behind name (Decimal y) z n closed small named value other is = absurd is
is_based front behind name (Hexadecimal v) z n closed small named value other is = absurd is
is_based front behind name (Based y m) z n closed small named value other is =
    let base : n ≡ m = same_register n m small other (sym named ∙ same_before name (register_text m) 41 (sym closed ∙ is.0)) in
    let offset : z ≡ y = let e = is.1 in cc in
    cc

-- a text without a parenthesis spells no offset from a register
not_based : (text front : List ℕ) (z : ℤ) (n : ℕ) → ((word rest : List ℕ) → IsFree 40 word → text ≢ word ++ 40 ∷ rest) → number_value front ≡ Some z → text ≡ front ++ 40 ∷ (register_text n ++ codes ")") → ⊥
not_based text front z n none value is = none front (register_text n ++ codes ")") (number_free_40 front z value) is

-- a register's name spells no other operand
pub is_register : (text : List ℕ) (o : Operand) (n : ℕ) → ((word rest : List ℕ) → IsFree 40 word → text ≢ word ++ 40 ∷ rest) → n < 32 → text ≡ register_text n → HasRegisters o → Spells o text → Some (Register n) ≡ Some (as_read o)
is_register text (Register m) n none small named other is =
    let same : n ≡ m = same_register n m small other (sym named ∙ is) in cc
is_register text (Decimal z) n none small named other is = absurd (no_register_value (decimal n) z (ap number_value (sym named) ∙ is))
is_register text (Hexadecimal v) n none small named other is = absurd (no_register_value (decimal n) (pos v) (ap number_value (sym named) ∙ is))
is_register text (Based z m) n none small named other is = absurd (not_based text is.0 z m none is.2 is.1)

-- a number spells no other operand
pub is_number : (text : List ℕ) (o : Operand) (z : ℤ) → ((word rest : List ℕ) → IsFree 40 word → text ≢ word ++ 40 ∷ rest) → ((n : ℕ) → n < 32 → text ≢ register_text n) → number_value text ≡ Some z → HasRegisters o → Spells o text → Some (Decimal z) ≡ Some (as_read o)
is_number text (Register m) z none unnamed value other is = absurd (unnamed m other is)
is_number text (Decimal y) z none unnamed value other is = let same : z ≡ y = cc in cc
is_number text (Hexadecimal v) z none unnamed value other is = let same : z ≡ pos v = cc in cc
is_number text (Based y m) z none unnamed value other is = absurd (not_based text is.0 y m none is.2 is.1)

-- another text spells none
pub is_none : (text : List ℕ) (o : Operand) → ((word rest : List ℕ) → IsFree 40 word → text ≢ word ++ 40 ∷ rest) → ((n : ℕ) → n < 32 → text ≢ register_text n) → number_value text ≡ None → HasRegisters o → Spells o text → ⊥
is_none text (Register m) none unnamed value other is = unnamed m other is
is_none text (Decimal y) none unnamed value other is = absurd (cc)
is_none text (Hexadecimal v) none unnamed value other is = absurd (cc)
is_none text (Based y m) none unnamed value other is = not_based text is.0 y m none is.2 is.1

-- an operand is the one that a word spells
abbrev pub IsExact : (Operand → List ℕ → Type 0) → List ℕ → Option Operand → Type 0
IsExact Spelled word found = (o : Operand) → HasRegisters o → Spelled o word → found ≡ Some (as_read o)

-- two words spell their operands alone
pub two_are : (ws : List (List ℕ)) (first second : List ℕ) (a b : Operand) → ws ≡ first ∷ second ∷ [] → IsExact IsBeforeComma first (Some a) → IsExact Spells second (Some b)
    → (os : Operands) → HaveRegisters os → AreSpelled os ws → Some (Two a b) ≡ Some (all_as_read os)
two_are ws first second a b is one two Nothing fits spelled = absurd (cc)
two_are ws first second a b is one two (One o) fits spelled = let e = spelled.1 in absurd (cc)
two_are ws first second a b is one two (Two o p) fits spelled =
    let e = spelled.2 in
    let first_is : first ≡ spelled.0 ++ codes "," = cc in
    let second_is : second ≡ spelled.1 = cc in
    let x : Some a ≡ Some (as_read o) = one o fits.0 (spelled.0, first_is, spelled.3) in
    let y : Some b ≡ Some (as_read p) = two p fits.1 (subst (Spells p) (sym second_is) spelled.4) in
    cc
two_are ws first second a b is one two (Three o p q) fits spelled = let e = spelled.3 in absurd (cc)

-- and so do three
pub three_are : (ws : List (List ℕ)) (first second third : List ℕ) (a b c : Operand) → ws ≡ first ∷ second ∷ third ∷ [] → IsExact IsBeforeComma first (Some a) → IsExact IsBeforeComma second (Some b) → IsExact Spells third (Some c)
    → (os : Operands) → HaveRegisters os → AreSpelled os ws → Some (Three a b c) ≡ Some (all_as_read os)
three_are ws first second third a b c is one two three Nothing fits spelled = absurd (cc)
three_are ws first second third a b c is one two three (One o) fits spelled = let e = spelled.1 in absurd (cc)
three_are ws first second third a b c is one two three (Two o p) fits spelled = let e = spelled.2 in absurd (cc)
three_are ws first second third a b c is one two three (Three o p q) fits spelled =
    let e = spelled.3 in
    let first_is : first ≡ spelled.0 ++ codes "," = cc in
    let second_is : second ≡ spelled.1 ++ codes "," = cc in
    let third_is : third ≡ spelled.2 = cc in
    let x : Some a ≡ Some (as_read o) = one o fits.0 (spelled.0, first_is, spelled.4) in
    let y : Some b ≡ Some (as_read p) = two p fits.1 (spelled.1, second_is, spelled.5) in
    let z : Some c ≡ Some (as_read q) = three q fits.2 (subst (Spells q) (sym third_is) spelled.6) in
    cc

-- where the second of three words or more spells nothing
pub no_second : (ws rest : List (List ℕ)) (first second third : List ℕ) → ws ≡ first ∷ second ∷ third ∷ rest → IsExact IsBeforeComma second None
    → (os : Operands) → HaveRegisters os → AreSpelled os ws → ⊥
no_second ws rest first second third is none Nothing fits spelled = absurd (cc)
no_second ws rest first second third is none (One o) fits spelled = let e = spelled.1 in absurd (cc)
no_second ws rest first second third is none (Two o p) fits spelled = let e = spelled.2 in absurd (cc)
no_second ws rest first second third is none (Three o p q) fits spelled =
    let e = spelled.3 in
    let second_is : second ≡ spelled.1 ++ codes "," = cc in
    let x : None ≡ Some (as_read p) = none p fits.1 (spelled.1, second_is, spelled.5) in
    absurd (cc)

-- where the last of three words spells nothing
pub no_third : (ws : List (List ℕ)) (first second third : List ℕ) → ws ≡ first ∷ second ∷ third ∷ [] → IsExact Spells third None
    → (os : Operands) → HaveRegisters os → AreSpelled os ws → ⊥
no_third ws first second third is none Nothing fits spelled = absurd (cc)
no_third ws first second third is none (One o) fits spelled = let e = spelled.1 in absurd (cc)
no_third ws first second third is none (Two o p) fits spelled = let e = spelled.2 in absurd (cc)
no_third ws first second third is none (Three o p q) fits spelled =
    let e = spelled.3 in
    let third_is : third ≡ spelled.2 = cc in
    let x : None ≡ Some (as_read q) = none q fits.2 (subst (Spells q) (sym third_is) spelled.6) in
    absurd (cc)
