-- The line that is printed for a word stands for the word.
use Rattle.std.proofs.Common.{◌≡◌, ℕ, zero, suc, ◌-◌, ◌<◌, ◌≤◌, ◌^◌, Bool, true, false, not, ◌&&◌, eqb, ltb, List, [], ◌∷◌, ◌++◌, length, take, get_or, Option, Some, None, Ok, refl, sym, ap, subst, ◌∙◌, arith, inl, inr, ltb-true, ne_eqb, take_all, length-append}
use Rattle.std.specs.Prelude.{nat_eq, codes, ℤ, pos, negsuc, unsigned_abs, replicate, ⊤, IfSome}
use Rattle.std.specs.Char.{digit_value}
use Rattle.std.specs.Fmt.{decimal, signed_decimal, digits}
use Rattle.std.specs.List.{AllByRecursion, join_with_byte, prefix_len, starts_with}
use Rattle.std.specs.Option.{option_map}
use Rattle.std.specs.Str.Parse.{AllDigits, digits_value}
use Rattle.std.proofs.lemmas.Bool.{lt-ltb}
use Rattle.std.proofs.lemmas.Fmt.{decimal_is_IsNumeral, digits_is_IsNumeral, decimal_nonempty}
use Rattle.std.proofs.lemmas.Int.{ints}
use Rattle.std.proofs.lemmas.List.{append-nil}
use Rattle.hv_exec.specs.Fields.{IsSigned, IsOffset, IsWellFormed}
use Rattle.hv_exec.specs.declared.inst.Inst.{Inst}
use Rattle.hv_exec.specs.declared.inst.Inst.TheVariants.{Lui, Auipc, Jal, Jalr, Lb, Lh, Lw, Ld, Lbu, Lhu, Lwu, Sb, Sh, Sw, Sd, Beq, Bne, Blt, Bge, Bltu, Bgeu, Addi, Slti, Sltiu, Xori, Ori, Andi, Addiw, Slli, Srli, Srai, Slliw, Srliw, Sraiw, Add, Sub, Sll, Slt, Sltu, Xor, Srl, Sra, Or, And, Mul, Mulh, Mulhsu, Mulhu, Div, Divu, Rem, Remu, Addw, Subw, Sllw, Srlw, Sraw, Mulw, Divw, Divuw, Remw, Remuw, Fence, FenceI, Ecall, Ebreak, Mret, Wfi, Csrrw, Csrrs, Csrrc, Csrrwi, Csrrsi, Csrrci}
use Rattle.hv_isa.specs.Table.{decoded}
use Rattle.hv_text.proofs.Numbers.{number_in_is, front_all, number_of-decimal}
use Rattle.hv_text.specs.Number.{number_in, number_of, padded_hex}
use Rattle.hv_asm.specs.declared.operand.Operand.{Operand}
use Rattle.hv_asm.specs.declared.operand.Operand.TheVariants.{Register, Decimal, Hexadecimal, Based}
use Rattle.hv_asm.specs.declared.operand.Operands.{Operands}
use Rattle.hv_asm.specs.declared.operand.Operands.TheVariants.{Nothing, One, Two, Three}
use Rattle.hv_asm.specs.Line.{is_blank, words, without_comment, IsSpelled, StandsFor, text_of, assembler_text}
use Rattle.hv_asm.specs.Operand.{within_word, number_value, register_text, operand_text, operand_words, Spells, AreSpelled}
use Rattle.hv_asm.specs.Reading.{HasNoBlanks}
use Rattle.hv_asm.specs.Syntax.{Syntax, syntax_of, syntax_text, literal}
use Rattle.hv_asm.proofs.Table.{begins_with_letter}
use Rattle.hv_asm.proofs.Words.{words-blank, first_word}

-- a byte is no blank and begins no comment
abbrev is_plain : ℕ → Bool
is_plain b = not (is_blank b) && not (eqb b 35)

-- so is each
abbrev ArePlain : List ℕ → Type 0
ArePlain text = AllByRecursion (λ b. is_plain b ≡ true) text

-- a word of plain bytes
record IsPlainWord (text : List ℕ) : Type 0 where
  some : 0 < length text
  plain : ArePlain text

-- plain texts one behind the other are plain
plain_append : (a b : List ℕ) → ArePlain a → ArePlain b → ArePlain (a ++ b)
plain_append [] b x y = y
plain_append (c ∷ a) b x y = (x.0, plain_append a b x.1 y)

-- a digit is plain
plain_digit : (d : ℕ) → digit_value d < 16 → is_plain d ≡ true
plain_digit d digit =
    let space : eqb d 32 ≡ false = ne_eqb d 32 (λ is. omega (arith, ap digit_value is)) in
    let tab : eqb d 9 ≡ false = ne_eqb d 9 (λ is. omega (arith, ap digit_value is)) in
    let comment : eqb d 35 ≡ false = ne_eqb d 35 (λ is. omega (arith, ap digit_value is)) in
    rw (space, tab, comment) refl

-- digits are plain
plain_digits : (radix : ℕ) (ds : List ℕ) → radix ≤ 16 → AllDigits radix ds → ArePlain ds
plain_digits radix [] small each = tt
plain_digits radix (d ∷ ds) small each = (plain_digit d (omega (arith, each.0)), plain_digits radix ds small each.1)

-- numbers are words of plain bytes
decimal_plain_word : (n : ℕ) → n < 2 ^ 64 → IsPlainWord (decimal n)
decimal_plain_word n small = record { some = decimal_nonempty n small; plain = plain_digits 10 (decimal n) (omega arith) (decimal_is_IsNumeral n small).0.1 }

-- so are signed ones
signed_plain_word : (z : ℤ) → unsigned_abs z < 2 ^ 32 → IsPlainWord (signed_decimal z)
signed_plain_word (pos n) small = decimal_plain_word n (omega arith)
signed_plain_word (negsuc n) small = record { some = omega arith; plain = (refl, (decimal_plain_word (suc n) (omega arith)).plain) }

-- the digits of a number are its
record HasDigits (ds : List ℕ) (n : ℕ) : Type 0 where
  some : 0 < length ds
  each : AllDigits 16 ds
  value : digits_value 16 ds ≡ n

-- hexadecimal digits are those of their number
hex_digits : (n : ℕ) → n < 2 ^ 32 → HasDigits (digits 16 false n) n
hex_digits n small =
    let d = digits_is_IsNumeral 16 false (omega arith) (omega arith) n (omega arith) in
    record { some = d.0.0; each = d.0.1; value = d.1 }

-- values of operands are within a word
abbrev IsSmall : Operand → Type 0
IsSmall (Register number) = number < 32
IsSmall (Decimal value) = unsigned_abs value < 2 ^ 32
IsSmall (Hexadecimal value) = value < 2 ^ 32
IsSmall (Based offset base) = (unsigned_abs offset < 2 ^ 32) × (base < 32)

-- the same of each operand
abbrev AreSmall : Operands → Type 0
AreSmall Nothing = ⊤
AreSmall (One a) = IsSmall a
AreSmall (Two a b) = IsSmall a × IsSmall b
AreSmall (Three a b c) = IsSmall a × IsSmall b × IsSmall c

-- the name of a register is plain
register_plain : (n : ℕ) → n < 32 → ArePlain (register_text n)
register_plain n small = (refl, (decimal_plain_word n (omega arith)).plain)

-- what is printed for an operand is a word
operand_plain : (o : Operand) → IsSmall o → IsPlainWord (operand_text o)
operand_plain (Register n) small = record { some = omega arith; plain = register_plain n small }
operand_plain (Decimal z) small = signed_plain_word z small
operand_plain (Hexadecimal v) small = record { some = omega arith; plain = (refl, (refl, plain_digits 16 (digits 16 false v) (omega arith) (hex_digits v small).each)) }
operand_plain (Based z n) small =
    let front = signed_plain_word z small.0 in
    let behind : ArePlain (40 ∷ (register_text n ++ codes ")")) = (refl, plain_append (register_text n) (codes ")") (register_plain n small.1) (refl, tt)) in
    record {
      some = omega (arith, front.some, length-append (signed_decimal z) (40 ∷ (register_text n ++ codes ")")));
      plain = plain_append (signed_decimal z) (40 ∷ (register_text n ++ codes ")")) front.plain behind;
    }

-- a word and a comma are a word
with_comma : (w : List ℕ) → IsPlainWord w → IsPlainWord (w ++ codes ",")
with_comma w h = record { some = omega (arith, h.some, length-append w (codes ",")); plain = plain_append w (codes ",") h.plain (refl, tt) }

-- so are all words of operands
operand_words_plain : (os : Operands) → AreSmall os → AllByRecursion IsPlainWord (operand_words os)
operand_words_plain Nothing small = tt
operand_words_plain (One a) small = (operand_plain a small, tt)
operand_words_plain (Two a b) small = (with_comma (operand_text a) (operand_plain a small.0), (operand_plain b small.1, tt))
operand_words_plain (Three a b c) small =
    (with_comma (operand_text a) (operand_plain a small.0), (with_comma (operand_text b) (operand_plain b small.1), (operand_plain c small.2, tt)))

-- plain bytes have no blanks
not_plain : (blank comment : Bool) → (not blank && not comment) ≡ true → (blank ≡ false) × (comment ≡ false)
not_plain true comment h = absurd (cc)
not_plain false true h = absurd (cc)
not_plain false false h = (refl, refl)

-- a plain text has no blanks
no_blanks : (text : List ℕ) → ArePlain text → HasNoBlanks text
no_blanks [] h = tt
no_blanks (b ∷ text) h = ((not_plain (is_blank b) (eqb b 35) h.0).0, no_blanks text h.1)

-- the words of joined words
words_joined : (ws : List (List ℕ)) → AllByRecursion IsPlainWord ws → words (join_with_byte 32 ws) ≡ ws
words_joined [] h = refl
words_joined (w ∷ []) h =
    ap words (sym (append-nil w)) ∙ first_word w [] h.0.some (no_blanks w h.0.plain) tt
words_joined (w ∷ v ∷ ws) h =
    first_word w (32 ∷ join_with_byte 32 (v ∷ ws)) h.0.some (no_blanks w h.0.plain) refl
    ∙ ap (λ (rest : List (List ℕ)). w ∷ rest) (words-blank 32 (join_with_byte 32 (v ∷ ws)) refl ∙ words_joined (v ∷ ws) h.1)

-- bytes that begin no comment
abbrev HasNoComment : List ℕ → Type 0
HasNoComment text = AllByRecursion (λ b. eqb b 35 ≡ false) text

-- texts without comments one behind the other have none
comment_append : (a b : List ℕ) → HasNoComment a → HasNoComment b → HasNoComment (a ++ b)
comment_append [] b x y = y
comment_append (c ∷ a) b x y = (x.0, comment_append a b x.1 y)

-- a plain text has no comment
no_comment : (text : List ℕ) → ArePlain text → HasNoComment text
no_comment [] h = tt
no_comment (b ∷ text) h = ((not_plain (is_blank b) (eqb b 35) h.0).1, no_comment text h.1)

-- joined plain words have none
joined_no_comment : (ws : List (List ℕ)) → AllByRecursion IsPlainWord ws → HasNoComment (join_with_byte 32 ws)
joined_no_comment [] h = tt
joined_no_comment (w ∷ []) h = no_comment w h.0.plain
joined_no_comment (w ∷ v ∷ ws) h =
    comment_append w (32 ∷ join_with_byte 32 (v ∷ ws)) (no_comment w h.0.plain) (refl, joined_no_comment (v ∷ ws) h.1)

-- a text without comment ends before its first one
whole_front : (text : List ℕ) → HasNoComment text → prefix_len (λ b. not (eqb b 35)) text ≡ length text
whole_front [] h = refl
whole_front (b ∷ text) h = let here : eqb b 35 ≡ false = h.0 in rw here (omega (arith, whole_front text h.1))

-- a line without comment is as it is
uncommented : (text : List ℕ) → HasNoComment text → without_comment text ≡ text
uncommented text h = ap (λ (n : ℕ). take n text) (whole_front text h) ∙ take_all (length text) text (omega arith)

-- the words of a printed line
printed_words : (ws : List (List ℕ)) → AllByRecursion IsPlainWord ws → words (without_comment (join_with_byte 32 ws)) ≡ ws
printed_words ws h = ap words (uncommented (join_with_byte 32 ws) (joined_no_comment ws h)) ∙ words_joined ws h

-- decimal digits begin with no sign
and_false : (b : Bool) → (b && false) ≡ false
and_false true = refl
and_false false = refl

-- decimal digits begin with no text that begins with a sign
no_sign : (ds rest : List ℕ) → AllDigits 10 ds → starts_with nat_eq ds (45 ∷ rest) ≡ false
no_sign [] rest each = refl
no_sign (d ∷ ds) rest each = let apart : eqb 45 d ≡ false = ne_eqb 45 d (λ is. omega (arith, each.0, ap digit_value is)) in rw apart refl

-- and with no 0x behind one
no_signed_hex : (ds : List ℕ) → AllDigits 10 ds → starts_with nat_eq (45 ∷ ds) (codes "-0x") ≡ false
no_signed_hex [] each = refl
no_signed_hex (d ∷ []) each = and_false (eqb 48 d)
no_signed_hex (d ∷ e ∷ ds) each =
    let apart : eqb 120 e ≡ false = ne_eqb 120 e (λ is. omega (arith, each.1.0, ap digit_value is)) in
    rw apart (and_false (eqb 48 d))

-- a number within a word is read
small_read : (n : ℕ) → n < 2 ^ 32 → within_word (Ok n) ≡ Some n
small_read n small = let fits : ltb n (2 ^ 32) ≡ true = lt-ltb n (2 ^ 32) small in rw fits refl

-- so is a decimal text
decimal_read : (n : ℕ) → n < 2 ^ 32 → within_word (number_of (decimal n)) ≡ Some n
decimal_read n small = ap within_word (number_of-decimal n (omega arith)) ∙ small_read n small

-- a printed signed number has its value
signed_read : (z : ℤ) → unsigned_abs z < 2 ^ 32 → number_value (signed_decimal z) ≡ Some z
signed_read (pos n) small =
    let each : AllDigits 10 (decimal n) = (decimal_is_IsNumeral n (omega arith)).0.1 in
    let hex : starts_with nat_eq (decimal n) (codes "-0x") ≡ false = no_sign (decimal n) (codes "0x") each in
    let minus : starts_with nat_eq (decimal n) (codes "-") ≡ false = no_sign (decimal n) [] each in
    let read : within_word (number_of (decimal n)) ≡ Some n = decimal_read n small in
    rw (hex, minus, read) refl
signed_read (negsuc n) small =
    let each : AllDigits 10 (decimal (suc n)) = (decimal_is_IsNumeral (suc n) (omega arith)).0.1 in
    let hex : starts_with nat_eq (45 ∷ decimal (suc n)) (codes "-0x") ≡ false = no_signed_hex (decimal (suc n)) each in
    let read : within_word (number_of (decimal (suc n))) ≡ Some (suc n) = decimal_read (suc n) (omega arith) in
    let again = rw hex at read in
    rw (hex, again) refl

-- so are hexadecimal digits
hex_read : (ds : List ℕ) (n : ℕ) → HasDigits ds n → n < 2 ^ 32 → number_value (48 ∷ 120 ∷ ds) ≡ Some (pos n)
hex_read ds n h small =
    let number : number_in 16 2 ds ≡ Ok n = sym (number_in_is 16 2 ds (Some n) (front_all 16 ds h.each) h.some (omega (arith, h.value), sym h.value)) in
    ap (λ r. option_map (λ m. pos m) (within_word r)) number ∙ ap (λ r. option_map (λ m. pos m) r) (small_read n small)

-- what is printed for an operand spells it
printed_spells : (o : Operand) → IsSmall o → Spells o (operand_text o)
printed_spells (Register n) small = refl
printed_spells (Decimal z) small = signed_read z small
printed_spells (Hexadecimal v) small = hex_read (digits 16 false v) v (hex_digits v small) small
printed_spells (Based z n) small = (signed_decimal z, refl, signed_read z small.0)

-- so do the words of operands
printed_spell : (os : Operands) → AreSmall os → AreSpelled os (operand_words os)
printed_spell Nothing small = refl
printed_spell (One a) small = (operand_text a, refl, printed_spells a small)
printed_spell (Two a b) small = (operand_text a, operand_text b, refl, printed_spells a small.0, printed_spells b small.1)
printed_spell (Three a b c) small = (operand_text a, operand_text b, operand_text c, refl, printed_spells a small.0, printed_spells b small.1, printed_spells c small.2)

-- a printed line spells its syntax
printed_syntax : (s : Syntax) → IsPlainWord s.name → AreSmall s.operands → IsSpelled s (words (without_comment (syntax_text s)))
printed_syntax s name small = record {
  behind = operand_words s.operands;
  words_are = printed_words (s.name ∷ operand_words s.operands) (name, operand_words_plain s.operands small);
  spelled = printed_spell s.operands small;
}

-- zeros in front of digits
zeros_first : (count : ℕ) (ds : List ℕ) (n : ℕ) → HasDigits ds n → HasDigits (replicate count 48 ++ ds) n
zeros_first zero ds n h = h
zeros_first (suc count) ds n h =
    let more = zeros_first count ds n h in
    record { some = omega arith; each = (omega arith, more.each); value = more.value }

-- padded digits are those of their number
padded_digits : (n : ℕ) → n < 2 ^ 32 → HasDigits (padded_hex n 8) n
padded_digits n small = zeros_first (8 - length (digits 16 false n)) (digits 16 false n) n (hex_digits n small)

-- the line of a word that is no instruction spells it by its number
printed_literal : (word : ℕ) → word < 2 ^ 32 → IsSpelled (literal word) (words (without_comment (codes ".word 0x" ++ padded_hex word 8)))
printed_literal word small =
    let h = padded_digits word small in
    let number = 48 ∷ 120 ∷ padded_hex word 8 in
    let name_plain : IsPlainWord (codes ".word") = record { some = omega arith; plain = (refl, (refl, (refl, (refl, (refl, tt))))) } in
    let number_plain : IsPlainWord number = record { some = omega arith; plain = (refl, (refl, plain_digits 16 (padded_hex word 8) (omega arith) h.each)) } in
    record {
      behind = number ∷ [];
      words_are = printed_words (codes ".word" ∷ number ∷ []) (name_plain, (number_plain, tt));
      spelled = (number, refl, hex_read (padded_hex word 8) word h small);
    }

-- the values of an instruction's operands are within a word
signed_small : (z : ℤ) → IsSigned 12 z → unsigned_abs z < 2 ^ 32
signed_small z h = grind (arith, ints)

-- so has a branch
branch_small : (z : ℤ) → IsOffset 13 z → unsigned_abs z < 2 ^ 32
branch_small z h = grind (arith, ints)

-- so has a jump
jump_small : (z : ℤ) → IsOffset 21 z → unsigned_abs z < 2 ^ 32
jump_small z h = grind (arith, ints)

values_small : (i : Inst) → IsWellFormed i → AreSmall (syntax_of i).operands
unfolding IsWellFormed
values_small Ecall h = tt
values_small Ebreak h = tt
values_small Mret h = tt
values_small Wfi h = tt
values_small (Add d s t) h = (h.first_fits, h.second_fits, h.third_fits)
values_small (Sub d s t) h = (h.first_fits, h.second_fits, h.third_fits)
values_small (Sll d s t) h = (h.first_fits, h.second_fits, h.third_fits)
values_small (Slt d s t) h = (h.first_fits, h.second_fits, h.third_fits)
values_small (Sltu d s t) h = (h.first_fits, h.second_fits, h.third_fits)
values_small (Xor d s t) h = (h.first_fits, h.second_fits, h.third_fits)
values_small (Srl d s t) h = (h.first_fits, h.second_fits, h.third_fits)
values_small (Sra d s t) h = (h.first_fits, h.second_fits, h.third_fits)
values_small (Or d s t) h = (h.first_fits, h.second_fits, h.third_fits)
values_small (And d s t) h = (h.first_fits, h.second_fits, h.third_fits)
values_small (Mul d s t) h = (h.first_fits, h.second_fits, h.third_fits)
values_small (Mulh d s t) h = (h.first_fits, h.second_fits, h.third_fits)
values_small (Mulhsu d s t) h = (h.first_fits, h.second_fits, h.third_fits)
values_small (Mulhu d s t) h = (h.first_fits, h.second_fits, h.third_fits)
values_small (Div d s t) h = (h.first_fits, h.second_fits, h.third_fits)
values_small (Divu d s t) h = (h.first_fits, h.second_fits, h.third_fits)
values_small (Rem d s t) h = (h.first_fits, h.second_fits, h.third_fits)
values_small (Remu d s t) h = (h.first_fits, h.second_fits, h.third_fits)
values_small (Addw d s t) h = (h.first_fits, h.second_fits, h.third_fits)
values_small (Subw d s t) h = (h.first_fits, h.second_fits, h.third_fits)
values_small (Sllw d s t) h = (h.first_fits, h.second_fits, h.third_fits)
values_small (Srlw d s t) h = (h.first_fits, h.second_fits, h.third_fits)
values_small (Sraw d s t) h = (h.first_fits, h.second_fits, h.third_fits)
values_small (Mulw d s t) h = (h.first_fits, h.second_fits, h.third_fits)
values_small (Divw d s t) h = (h.first_fits, h.second_fits, h.third_fits)
values_small (Divuw d s t) h = (h.first_fits, h.second_fits, h.third_fits)
values_small (Remw d s t) h = (h.first_fits, h.second_fits, h.third_fits)
values_small (Remuw d s t) h = (h.first_fits, h.second_fits, h.third_fits)
values_small (Addi d s z) h = (h.first_fits, h.second_fits, signed_small z h.immediate_fits)
values_small (Slti d s z) h = (h.first_fits, h.second_fits, signed_small z h.immediate_fits)
values_small (Sltiu d s z) h = (h.first_fits, h.second_fits, signed_small z h.immediate_fits)
values_small (Xori d s z) h = (h.first_fits, h.second_fits, signed_small z h.immediate_fits)
values_small (Ori d s z) h = (h.first_fits, h.second_fits, signed_small z h.immediate_fits)
values_small (Andi d s z) h = (h.first_fits, h.second_fits, signed_small z h.immediate_fits)
values_small (Addiw d s z) h = (h.first_fits, h.second_fits, signed_small z h.immediate_fits)
values_small (Beq s t z) h = (h.0, h.1, branch_small z h.2)
values_small (Bne s t z) h = (h.0, h.1, branch_small z h.2)
values_small (Blt s t z) h = (h.0, h.1, branch_small z h.2)
values_small (Bge s t z) h = (h.0, h.1, branch_small z h.2)
values_small (Bltu s t z) h = (h.0, h.1, branch_small z h.2)
values_small (Bgeu s t z) h = (h.0, h.1, branch_small z h.2)
values_small (Slli d s by) h = (h.first_fits, h.second_fits, omega (arith, h.third_fits))
values_small (Srli d s by) h = (h.first_fits, h.second_fits, omega (arith, h.third_fits))
values_small (Srai d s by) h = (h.first_fits, h.second_fits, omega (arith, h.third_fits))
values_small (Slliw d s by) h = (h.first_fits, h.second_fits, omega (arith, h.third_fits))
values_small (Srliw d s by) h = (h.first_fits, h.second_fits, omega (arith, h.third_fits))
values_small (Sraiw d s by) h = (h.first_fits, h.second_fits, omega (arith, h.third_fits))
values_small (Jalr d s z) h = (h.first_fits, (signed_small z h.immediate_fits, h.second_fits))
values_small (Lb d s z) h = (h.first_fits, (signed_small z h.immediate_fits, h.second_fits))
values_small (Lh d s z) h = (h.first_fits, (signed_small z h.immediate_fits, h.second_fits))
values_small (Lw d s z) h = (h.first_fits, (signed_small z h.immediate_fits, h.second_fits))
values_small (Ld d s z) h = (h.first_fits, (signed_small z h.immediate_fits, h.second_fits))
values_small (Lbu d s z) h = (h.first_fits, (signed_small z h.immediate_fits, h.second_fits))
values_small (Lhu d s z) h = (h.first_fits, (signed_small z h.immediate_fits, h.second_fits))
values_small (Lwu d s z) h = (h.first_fits, (signed_small z h.immediate_fits, h.second_fits))
values_small (Sb s t z) h = (h.second_fits, (signed_small z h.immediate_fits, h.first_fits))
values_small (Sh s t z) h = (h.second_fits, (signed_small z h.immediate_fits, h.first_fits))
values_small (Sw s t z) h = (h.second_fits, (signed_small z h.immediate_fits, h.first_fits))
values_small (Sd s t z) h = (h.second_fits, (signed_small z h.immediate_fits, h.first_fits))
values_small (Jal d z) h = (h.0, jump_small z h.1)
values_small (Lui d imm) h = (h.0, omega (arith, h.1))
values_small (Auipc d imm) h = (h.0, omega (arith, h.1))
values_small (Csrrw d s csr) h = (h.first_fits, omega (arith, h.third_fits), h.second_fits)
values_small (Csrrs d s csr) h = (h.first_fits, omega (arith, h.third_fits), h.second_fits)
values_small (Csrrc d s csr) h = (h.first_fits, omega (arith, h.third_fits), h.second_fits)
values_small (Csrrwi d imm csr) h = (h.first_fits, omega (arith, h.third_fits), omega (arith, h.second_fits))
values_small (Csrrsi d imm csr) h = (h.first_fits, omega (arith, h.third_fits), omega (arith, h.second_fits))
values_small (Csrrci d imm csr) h = (h.first_fits, omega (arith, h.third_fits), omega (arith, h.second_fits))
values_small (Fence d s fields) h = (omega (arith, h.third_fits), h.second_fits, h.first_fits)
values_small (FenceI d s fields) h = (omega (arith, h.third_fits), h.second_fits, h.first_fits)

-- the names are plain
name_bytes_plain : (i : Inst) → ArePlain (syntax_of i).name
name_bytes_plain (Lui a b) = (refl, (refl, (refl, tt)))
name_bytes_plain (Auipc a b) = (refl, (refl, (refl, (refl, (refl, tt)))))
name_bytes_plain (Jal a b) = (refl, (refl, (refl, tt)))
name_bytes_plain (Jalr a b c) = (refl, (refl, (refl, (refl, tt))))
name_bytes_plain (Lb a b c) = (refl, (refl, tt))
name_bytes_plain (Lh a b c) = (refl, (refl, tt))
name_bytes_plain (Lw a b c) = (refl, (refl, tt))
name_bytes_plain (Ld a b c) = (refl, (refl, tt))
name_bytes_plain (Lbu a b c) = (refl, (refl, (refl, tt)))
name_bytes_plain (Lhu a b c) = (refl, (refl, (refl, tt)))
name_bytes_plain (Lwu a b c) = (refl, (refl, (refl, tt)))
name_bytes_plain (Sb a b c) = (refl, (refl, tt))
name_bytes_plain (Sh a b c) = (refl, (refl, tt))
name_bytes_plain (Sw a b c) = (refl, (refl, tt))
name_bytes_plain (Sd a b c) = (refl, (refl, tt))
name_bytes_plain (Beq a b c) = (refl, (refl, (refl, tt)))
name_bytes_plain (Bne a b c) = (refl, (refl, (refl, tt)))
name_bytes_plain (Blt a b c) = (refl, (refl, (refl, tt)))
name_bytes_plain (Bge a b c) = (refl, (refl, (refl, tt)))
name_bytes_plain (Bltu a b c) = (refl, (refl, (refl, (refl, tt))))
name_bytes_plain (Bgeu a b c) = (refl, (refl, (refl, (refl, tt))))
name_bytes_plain (Addi a b c) = (refl, (refl, (refl, (refl, tt))))
name_bytes_plain (Slti a b c) = (refl, (refl, (refl, (refl, tt))))
name_bytes_plain (Sltiu a b c) = (refl, (refl, (refl, (refl, (refl, tt)))))
name_bytes_plain (Xori a b c) = (refl, (refl, (refl, (refl, tt))))
name_bytes_plain (Ori a b c) = (refl, (refl, (refl, tt)))
name_bytes_plain (Andi a b c) = (refl, (refl, (refl, (refl, tt))))
name_bytes_plain (Addiw a b c) = (refl, (refl, (refl, (refl, (refl, tt)))))
name_bytes_plain (Slli a b c) = (refl, (refl, (refl, (refl, tt))))
name_bytes_plain (Srli a b c) = (refl, (refl, (refl, (refl, tt))))
name_bytes_plain (Srai a b c) = (refl, (refl, (refl, (refl, tt))))
name_bytes_plain (Slliw a b c) = (refl, (refl, (refl, (refl, (refl, tt)))))
name_bytes_plain (Srliw a b c) = (refl, (refl, (refl, (refl, (refl, tt)))))
name_bytes_plain (Sraiw a b c) = (refl, (refl, (refl, (refl, (refl, tt)))))
name_bytes_plain (Add a b c) = (refl, (refl, (refl, tt)))
name_bytes_plain (Sub a b c) = (refl, (refl, (refl, tt)))
name_bytes_plain (Sll a b c) = (refl, (refl, (refl, tt)))
name_bytes_plain (Slt a b c) = (refl, (refl, (refl, tt)))
name_bytes_plain (Sltu a b c) = (refl, (refl, (refl, (refl, tt))))
name_bytes_plain (Xor a b c) = (refl, (refl, (refl, tt)))
name_bytes_plain (Srl a b c) = (refl, (refl, (refl, tt)))
name_bytes_plain (Sra a b c) = (refl, (refl, (refl, tt)))
name_bytes_plain (Or a b c) = (refl, (refl, tt))
name_bytes_plain (And a b c) = (refl, (refl, (refl, tt)))
name_bytes_plain (Mul a b c) = (refl, (refl, (refl, tt)))
name_bytes_plain (Mulh a b c) = (refl, (refl, (refl, (refl, tt))))
name_bytes_plain (Mulhsu a b c) = (refl, (refl, (refl, (refl, (refl, (refl, tt))))))
name_bytes_plain (Mulhu a b c) = (refl, (refl, (refl, (refl, (refl, tt)))))
name_bytes_plain (Div a b c) = (refl, (refl, (refl, tt)))
name_bytes_plain (Divu a b c) = (refl, (refl, (refl, (refl, tt))))
name_bytes_plain (Rem a b c) = (refl, (refl, (refl, tt)))
name_bytes_plain (Remu a b c) = (refl, (refl, (refl, (refl, tt))))
name_bytes_plain (Addw a b c) = (refl, (refl, (refl, (refl, tt))))
name_bytes_plain (Subw a b c) = (refl, (refl, (refl, (refl, tt))))
name_bytes_plain (Sllw a b c) = (refl, (refl, (refl, (refl, tt))))
name_bytes_plain (Srlw a b c) = (refl, (refl, (refl, (refl, tt))))
name_bytes_plain (Sraw a b c) = (refl, (refl, (refl, (refl, tt))))
name_bytes_plain (Mulw a b c) = (refl, (refl, (refl, (refl, tt))))
name_bytes_plain (Divw a b c) = (refl, (refl, (refl, (refl, tt))))
name_bytes_plain (Divuw a b c) = (refl, (refl, (refl, (refl, (refl, tt)))))
name_bytes_plain (Remw a b c) = (refl, (refl, (refl, (refl, tt))))
name_bytes_plain (Remuw a b c) = (refl, (refl, (refl, (refl, (refl, tt)))))
name_bytes_plain (Fence a b c) = (refl, (refl, (refl, (refl, (refl, tt)))))
name_bytes_plain (FenceI a b c) = (refl, (refl, (refl, (refl, (refl, (refl, (refl, tt)))))))
name_bytes_plain Ecall = (refl, (refl, (refl, (refl, (refl, tt)))))
name_bytes_plain Ebreak = (refl, (refl, (refl, (refl, (refl, (refl, tt))))))
name_bytes_plain Mret = (refl, (refl, (refl, (refl, tt))))
name_bytes_plain Wfi = (refl, (refl, (refl, tt)))
name_bytes_plain (Csrrw a b c) = (refl, (refl, (refl, (refl, (refl, tt)))))
name_bytes_plain (Csrrs a b c) = (refl, (refl, (refl, (refl, (refl, tt)))))
name_bytes_plain (Csrrc a b c) = (refl, (refl, (refl, (refl, (refl, tt)))))
name_bytes_plain (Csrrwi a b c) = (refl, (refl, (refl, (refl, (refl, (refl, tt))))))
name_bytes_plain (Csrrsi a b c) = (refl, (refl, (refl, (refl, (refl, (refl, tt))))))
name_bytes_plain (Csrrci a b c) = (refl, (refl, (refl, (refl, (refl, (refl, tt))))))

-- a text with a first byte has bytes
some_first : (text : List ℕ) → 46 < get_or text 0 0 → 0 < length text
some_first [] h = absurd (omega arith)
some_first (b ∷ text) h = omega arith

-- the names are plain words
name_plain : (i : Inst) → IsPlainWord (syntax_of i).name
name_plain i = record { some = some_first (syntax_of i).name (ltb-true 46 (get_or (syntax_of i).name 0 0) (begins_with_letter i)); plain = name_bytes_plain i }

-- the line of a word stands for it
stands_as : (word : ℕ) (decoding : Option Inst) → word < 2 ^ 32 → decoded word ≡ decoding → IfSome decoding (λ i. IsWellFormed i) → StandsFor (text_of word decoding) word
stands_as word None small is fit = record { fits = small; spelled = inr (printed_literal word small) }
stands_as word (Some inst) small is fit = record {
  fits = small;
  spelled = inl (record { inst = inst; well_formed = fit; decodes = is; spelled = printed_syntax (syntax_of inst) (name_plain inst) (values_small inst fit) });
}

-- the printed line stands for its word
pub text_stands : (word : ℕ) (decoding : Option Inst) → word < 2 ^ 32 → decoding ≡ decoded word → IfSome decoding (λ i. IsWellFormed i) → StandsFor (assembler_text word) word
text_stands word decoding small is fit = subst (λ (o : Option Inst). StandsFor (text_of word o) word) is (stands_as word decoding small (sym is) fit)
