-- The image that the function gives of a text is that which the text assembles to.
use Rattle.std.proofs.Common.{◌≡◌, ℕ, zero, suc, ◌-◌, ◌<◌, ◌≢◌, nat_eq, Bool, true, false, List, [], ◌∷◌, ◌++◌, length, take, Option, Some, None, refl, sym, ap, subst, ◌∙◌, arith, inl, inr, length-append}
use Rattle.std.specs.Prelude.{codes, ℤ, pos, if◌then◌else◌}
use Rattle.std.specs.Cmp.Lexicographic.{pointwise}
use Rattle.std.specs.List.{flat_map}
use Rattle.std.specs.Option.{option_or, option_map, option_and_then}
use Rattle.std.specs.Fmt.{decimal}
use Rattle.std.proofs.lemmas.Bool.Decides.{nat_tests}
use Rattle.std.proofs.lemmas.Slice.Eq.{bytes_eq-Decides}
use Rattle.hv_exec.specs.declared.inst.Inst.{Inst}
use Rattle.hv_isa.specs.Encoding.{encoded}
use Rattle.hv_isa.proofs.Words.{decoded-inverts}
use Rattle.hv_text.proofs.Fronts.{not_in}
use Rattle.hv_text.specs.Front.{IsFree}
use Rattle.hv_text.specs.Lines.{script_lines}
use Rattle.hv_asm.specs.declared.operand.Operand.{Operand}
use Rattle.hv_asm.specs.declared.operand.Operand.TheVariants.{Register, Decimal, Hexadecimal, Based}
use Rattle.hv_asm.specs.declared.operand.Operands.{Operands}
use Rattle.hv_asm.specs.declared.operand.Operands.TheVariants.{Nothing, One, Two, Three}
use Rattle.hv_asm.specs.Assembly.{AllGive, answer_bytes, IsAssembled}
use Rattle.hv_asm.specs.Image.{register_below, before_base, based_operand, operand_read, before_comma, operands_read, two_operands, three_operands, numbered_word, word_named, word_given, line_bytes, image_of}
use Rattle.hv_asm.specs.Line.{words, without_comment, SpellWord, Give}
use Rattle.hv_asm.specs.Operand.{number_value, register_text, based_text, Spells}
use Rattle.hv_asm.specs.Reading.{HasRegisters, as_read, IsWordOf}
use Rattle.hv_asm.specs.Forms.{instruction_of}
use Rattle.hv_asm.proofs.Lines.{IsExactly, found, word_read, some_words}
use Rattle.hv_asm.proofs.Numbers.{no_register_value}
use Rattle.hv_asm.proofs.Spelling.{register_free, number_free_40, same_register, same_before}
use Rattle.hv_asm.proofs.Table.{not_literal}

-- the test of equal texts
same_text : (a b : List ℕ) → a ≡ b → pointwise nat_eq a b ≡ true
same_text a b is = (bytes_eq-Decides a b).1 is

-- no two numbers below a bound have one form
abbrev AreApart : ℕ → (ℕ → List ℕ) → Type 0
AreApart bound form = (a b : ℕ) → a < bound → b < bound → form a ≡ form b → a ≡ b

-- one step of the search for a register by its form
found_or_below : (k n : ℕ) (form : ℕ → List ℕ) (text : List ℕ) (below : Option ℕ) (test : Bool) → pointwise nat_eq text (form k) ≡ test → AreApart (suc k) form → n < suc k → text ≡ form n
    → (n < k → below ≡ Some n) → if◌then◌else◌ test (Some k) below ≡ Some n
found_or_below k n form text below true same_here apart small is later =
    let same : text ≡ form k = (bytes_eq-Decides text (form k)).0 same_here in
    ap Some (apart k n (omega arith) small (sym same ∙ is))
found_or_below k n form text below false differs apart small is later =
    later (not_last k n small (λ e. let same_here = same_text text (form k) (is ∙ ap form (sym (sym e))) in absurd (cc (differs, same_here))))
  where
    not_last : (k n : ℕ) → n < suc k → (n ≡ k → ⊥) → n < k
    not_last k n small other = omega (arith, small, other)

-- a register is found by its form
register_found : (bound n : ℕ) (form : ℕ → List ℕ) (text : List ℕ) → AreApart bound form → n < bound → text ≡ form n → register_below bound form text ≡ Some n
unfolding register_below
register_found zero n form text apart small is = absurd (omega (arith, small))
register_found (suc k) n form text apart small is =
    found_or_below k n form text (register_below k form text) (pointwise nat_eq text (form k)) refl apart small is
    (λ less. register_found k n form text (λ a b x y same. apart a b (omega (arith, x)) (omega (arith, y)) same) less is)

-- registers have names apart
names_apart : AreApart 32 register_text
names_apart a b x y same = same_register a b x y same

-- and so have offsets from registers
after_front : (front a b : List ℕ) → front ++ a ≡ front ++ b → a ≡ b
after_front [] a b is = is
after_front (c ∷ front) a b is = after_front front a b (cc)

bases_apart : (front : List ℕ) → AreApart 32 (based_text front)
bases_apart front a b x y same =
    let behind : 40 ∷ (register_text a ++ 41 ∷ []) ≡ 40 ∷ (register_text b ++ 41 ∷ []) = after_front front _ _ same in
    let closed : register_text a ++ 41 ∷ [] ≡ register_text b ++ 41 ∷ [] = cc in
    same_register a b x y (same_before (register_text a) (register_text b) 41 closed)

-- a text with a parenthesis is cut there
cut_at_base : (front behind : List ℕ) → IsFree 40 front → before_base (front ++ 40 ∷ behind) ≡ front
cut_at_base [] behind free = refl
cut_at_base (c ∷ front) behind free = keeps c (front ++ 40 ∷ behind) front free.0 (cut_at_base front behind free.1)
  where
    keeps : (c : ℕ) (text front : List ℕ) → c ≢ 40 → before_base text ≡ front → before_base (c ∷ text) ≡ c ∷ front
    keeps c text front other is = grind (arith, nat_tests, other, is)

-- a text without one is not cut
uncut : (text : List ℕ) → IsFree 40 text → before_base text ≡ text
uncut [] free = refl
uncut (c ∷ text) free = keeps c text free.0 (uncut text free.1)
  where
    keeps : (c : ℕ) (text : List ℕ) → c ≢ 40 → before_base text ≡ text → before_base (c ∷ text) ≡ c ∷ text
    keeps c text other is = grind (arith, nat_tests, other, is)

-- what is never some is none
none_of : {A : Type 0} (o : Option A) → ((a : A) → o ≡ Some a → ⊥) → o ≡ None
none_of None never = refl
none_of (Some a) never = absurd (never a refl)

-- a text that is no number is read as an offset from a register or as a register
unnumbered : (text : List ℕ) → number_value text ≡ None
    → operand_read text ≡ option_or (based_operand (before_base text) text) (option_map (λ n. Register n) (register_below 32 register_text text))
unfolding operand_read
unnumbered text none = ap (λ (v : Option ℤ). option_or (option_map (λ z. Decimal z) v) (option_or (based_operand (before_base text) text) (option_map (λ n. Register n) (register_below 32 register_text text)))) none

-- a number is read
number_read : (text : List ℕ) (z : ℤ) → number_value text ≡ Some z → operand_read text ≡ Some (Decimal z)
unfolding operand_read
number_read text z is = ap (λ (v : Option ℤ). option_or (option_map (λ z. Decimal z) v) (option_or (based_operand (before_base text) text) (option_map (λ n. Register n) (register_below 32 register_text text)))) is

-- a register is no number
register_none : (n : ℕ) → number_value (register_text n) ≡ None
register_none n = none_of (number_value (register_text n)) (λ z is. no_register_value (decimal n) z is)

-- a register is read
register_is_read : (text : List ℕ) (n : ℕ) → n < 32 → text ≡ register_text n → operand_read text ≡ Some (Register n)
register_is_read text n small is =
    let none : number_value text ≡ None = ap number_value is ∙ register_none n in
    let cut : before_base text ≡ text = uncut text (subst (IsFree 40) (sym is) (register_free n small)) in
    let unbased : based_operand (before_base text) text ≡ None =
    ap (λ (v : Option ℤ). option_and_then (λ (offset : ℤ). option_map (λ base. Based offset base) (register_below 32 (based_text (before_base text)) text)) v) (ap number_value cut ∙ none) in
    unnumbered text none
    ∙ ap (λ (o : Option Operand). option_or o (option_map (λ n. Register n) (register_below 32 register_text text))) unbased
    ∙ ap (λ (o : Option ℕ). option_map (λ n. Register n) o) (register_found 32 n register_text text names_apart small is)

-- an offset from a register is read
based_is_read : (text front : List ℕ) (z : ℤ) (n : ℕ) → n < 32 → text ≡ based_text front n → number_value front ≡ Some z → operand_read text ≡ Some (Based z n)
based_is_read text front z n small is value =
    let none : number_value text ≡ None = none_of (number_value text) (λ v some. not_in 40 text front (register_text n ++ codes ")") (number_free_40 text v some) is) in
    let cut : before_base text ≡ front = ap before_base is ∙ cut_at_base front (register_text n ++ codes ")") (number_free_40 front z value) in
    let based : based_operand (before_base text) text ≡ Some (Based z n) =
    ap (λ (f : List ℕ). based_operand f text) cut
    ∙ ap (λ (v : Option ℤ). option_and_then (λ (offset : ℤ). option_map (λ base. Based offset base) (register_below 32 (based_text front) text)) v) value
    ∙ ap (λ (o : Option ℕ). option_map (λ base. Based z base) o) (register_found 32 n (based_text front) text (bases_apart front) small is) in
    unnumbered text none ∙ ap (λ (o : Option Operand). option_or o (option_map (λ n. Register n) (register_below 32 register_text text))) based

-- a spelled operand is read
operand_is_read : (o : Operand) (text : List ℕ) → HasRegisters o → Spells o text → operand_read text ≡ Some (as_read o)
operand_is_read (Register n) text small is = register_is_read text n small is
operand_is_read (Decimal z) text small is = number_read text z is
operand_is_read (Hexadecimal v) text small is = number_read text (pos v) is
operand_is_read (Based z n) text small is = based_is_read text is.0 z n small is.1 is.2

-- what stands before a comma
without_last : (text : List ℕ) (c : ℕ) → take (length (text ++ c ∷ []) - 1) (text ++ c ∷ []) ≡ text
without_last text c =
    let len : length (text ++ c ∷ []) - 1 ≡ length text = let both = length-append text (c ∷ []) in omega (arith, both) in
    ap (λ (n : ℕ). take n (text ++ c ∷ [])) len ∙ take_front text (c ∷ [])
  where
    take_front : (a b : List ℕ) → take (length a) (a ++ b) ≡ a
    take_front [] b = refl
    take_front (x ∷ a) b = ap (λ (t : List ℕ). x ∷ t) (take_front a b)

-- a spelled operand before a comma is read
comma_is_read : (o : Operand) (text : List ℕ) → HasRegisters o → Spells o text → before_comma (text ++ codes ",") ≡ Some (as_read o)
comma_is_read o text small is = ap operand_read (without_last text 44) ∙ operand_is_read o text small is

-- spelled operands are read
operands_are_read : (rest : List (List ℕ)) → IsExactly rest (operands_read rest)
operands_are_read rest Nothing small is = ap operands_read is
operands_are_read rest (One a) small is = ap operands_read is.1 ∙ ap (λ (o : Option Operand). option_map (λ o. One o) o) (operand_is_read a is.0 small is.2)
operands_are_read rest (Two a b) small is =
    let first = comma_is_read a is.0 small.0 is.3 in
    let second = operand_is_read b is.1 small.1 is.4 in
    ap operands_read is.2 ∙ (λ i. two_operands (first i) (second i))
operands_are_read rest (Three a b c) small is =
    let first = comma_is_read a is.0 small.0 is.4 in
    let second = comma_is_read b is.1 small.1 is.5 in
    let third = operand_is_read c is.2 small.2 is.6 in
    ap operands_read is.3 ∙ (λ i. three_operands (first i) (second i) (third i))

-- the word of a name and operands is given
named_word : (name : List ℕ) (os : Operands) (word : ℕ) → IsWordOf name os word → word_named name os ≡ Some word
unfolding word_named
named_word name os word h = elim h.spelled [
  | inl i ↦
      let unnamed : pointwise nat_eq name (codes ".word") ≡ false = no_literal name (λ is. not_literal i.inst (i.syntax.name_is ∙ is)) in
      ap (λ (b : Bool). if b then numbered_word os else option_map (λ inst. encoded inst) (instruction_of name os)) unnamed
      ∙ ap (λ (o : Option Inst). option_map (λ inst. encoded inst) o) (found name os i.inst i.syntax)
      ∙ ap Some (decoded-inverts word h.fits i.inst i.decodes)
  | inr l ↦
      ap (λ (b : Bool). if b then numbered_word os else option_map (λ inst. encoded inst) (instruction_of name os)) (same_text name (codes ".word") (sym l.name_is))
      ∙ ap numbered_word (sym l.operands_are)
]
  where
    no_literal : (name : List ℕ) → (name ≡ codes ".word" → ⊥) → pointwise nat_eq name (codes ".word") ≡ false
    no_literal name other = by_test (pointwise nat_eq name (codes ".word")) refl
      where
        by_test : (test : Bool) → pointwise nat_eq name (codes ".word") ≡ test → test ≡ false
        by_test true same_here = absurd (other ((bytes_eq-Decides name (codes ".word")).0 same_here))
        by_test false differs = refl

-- the word that words spell is given
spelled_word : (ws : List (List ℕ)) (word : ℕ) → SpellWord ws word → word_given ws ≡ Some word
spelled_word [] word h = absurd (some_words [] word refl h)
spelled_word (name ∷ rest) word h =
    let r = word_read (name ∷ rest) rest name (operands_read rest) word refl (operands_are_read rest) h in
    ap (λ (o : Option Operands). option_and_then (word_named name) o) r.1 ∙ named_word name r.0 word r.2

-- so is what words give
given_word : (ws : List (List ℕ)) (answer : Option ℕ) → Give ws answer → word_given ws ≡ answer
given_word ws None none = ap word_given none
given_word ws (Some word) h = spelled_word ws word h

-- the bytes of lines are those of their answers
all_bytes : (lines : List (List ℕ)) (answers : List (Option ℕ)) → AllGive lines answers → flat_map answer_bytes answers ≡ flat_map line_bytes lines
all_bytes [] [] each = refl
all_bytes [] (a ∷ answers) each = absurd each
all_bytes (l ∷ lines) [] each = absurd each
all_bytes (l ∷ lines) (a ∷ answers) each =
    let head : answer_bytes a ≡ line_bytes l = ap answer_bytes (sym (given_word (words (without_comment l)) a each.0)) in
    let tail = all_bytes lines answers each.1 in
    (λ i. head i ++ tail i)

-- a text assembles to its image
pub image_is : (text bytes : List ℕ) → IsAssembled text bytes → bytes ≡ image_of text
image_is text bytes h = h.bytes_are ∙ all_bytes (script_lines text) h.answers h.each
