-- A line stands for one word at most.
use Rattle.std.proofs.Common.{◌≡◌, ◌≢◌, ℕ, ◌<◌, List, ◌∷◌, ◌++◌, Option, Some, None, refl, sym, ap, subst, ◌∙◌, inl, inr}
use Rattle.std.specs.Prelude.{codes, pos, ℤ}
use Rattle.hv_isa.proofs.Words.{decoded-once}
use Rattle.hv_text.proofs.Fronts.{not_in}
use Rattle.hv_text.specs.Front.{IsFree}
use Rattle.hv_asm.specs.declared.operand.Operand.{Operand}
use Rattle.hv_asm.specs.declared.operand.Operand.TheVariants.{Register, Decimal, Hexadecimal, Based}
use Rattle.hv_asm.specs.declared.operand.Operands.{Operands}
use Rattle.hv_asm.specs.declared.operand.Operands.TheVariants.{Nothing, One, Two, Three}
use Rattle.hv_asm.specs.Line.{words, without_comment, IsSpelled, SpellWord, Give, Gives}
use Rattle.hv_asm.specs.Operand.{number_value, register_text, Spells, AreSpelled}
use Rattle.hv_asm.specs.Reading.{HasRegisters, HaveRegisters, IsBeforeComma, as_read, all_as_read, IsWordOf}
use Rattle.hv_asm.specs.Syntax.{Syntax, syntax_of, literal}
use Rattle.hv_asm.proofs.Lines.{found, word_read, some_words}
use Rattle.hv_asm.proofs.Numbers.{no_register_value}
use Rattle.hv_asm.proofs.Spelling.{register_free, number_free_40, only_based, is_based, is_register, is_number, same_before, two_are, three_are, IsExact}
use Rattle.hv_asm.proofs.Table.{not_literal, fit_fields}

-- a text that is free of parentheses
unopened : (text : List ℕ) → IsFree 40 text → (word rest : List ℕ) → IsFree 40 word → text ≢ word ++ 40 ∷ rest
unopened text free word rest other is = not_in 40 text word rest free is

-- a number is no register's name
unnamed : (text : List ℕ) (z : ℤ) → number_value text ≡ Some z → (n : ℕ) → n < 32 → text ≢ register_text n
unnamed text z value n small is = let e = ap number_value (sym is) ∙ value in no_register_value _ z e

-- a text that spells an operand spells no other
spells_exactly : (p : Operand) (text : List ℕ) → HasRegisters p → Spells p text → IsExact Spells text (Some (as_read p))
spells_exactly (Register n) text small is o other spelled =
    is_register text o n (unopened text (subst (IsFree 40) (sym is) (register_free n small))) small is other spelled
spells_exactly (Decimal z) text small is o other spelled =
    is_number text o z (unopened text (number_free_40 text z is)) (unnamed text z is) is other spelled
spells_exactly (Hexadecimal v) text small is o other spelled =
    is_number text o (pos v) (unopened text (number_free_40 text (pos v) is)) (unnamed text (pos v) is) is other spelled
spells_exactly (Based z n) text small is o other spelled =
    let front = is.0 in
    let behind = register_text n ++ codes ")" in
    is_based front behind (register_text n) o z n refl small refl is.2 other
    (only_based text front behind o (number_free_40 front z is.2) is.1 other spelled)

-- and so it is before a comma
comma_exactly : (p : Operand) (word text : List ℕ) → word ≡ text ++ codes "," → HasRegisters p → Spells p text → IsExact IsBeforeComma word (Some (as_read p))
comma_exactly p word text is small spelled o other h =
    let same : h.0 ≡ text = same_before h.0 text 44 (sym h.1 ∙ is) in
    spells_exactly p text small spelled o other (subst (λ (t : List ℕ). Spells o t) same h.2)

-- words that spell operands spell no others
exactly : (p : Operands) (ws : List (List ℕ)) → HaveRegisters p → AreSpelled p ws → (o : Operands) → HaveRegisters o → AreSpelled o ws → Some (all_as_read p) ≡ Some (all_as_read o)
exactly Nothing ws small is Nothing other h = refl
exactly Nothing ws small is (One o) other h = let e = h.1 in absurd (cc)
exactly Nothing ws small is (Two o p) other h = let e = h.2 in absurd (cc)
exactly Nothing ws small is (Three o p q) other h = let e = h.3 in absurd (cc)
exactly (One a) ws small is Nothing other h = let e = is.1 in absurd (cc)
exactly (One a) ws small is (One o) other h =
    let e = is.1 in
    let f = h.1 in
    let same : h.0 ≡ is.0 = cc in
    let one : Some (as_read a) ≡ Some (as_read o) = spells_exactly a is.0 small is.2 o other (subst (λ (t : List ℕ). Spells o t) same h.2) in
    cc
exactly (One a) ws small is (Two o p) other h = let e = is.1 in let f = h.2 in absurd (cc)
exactly (One a) ws small is (Three o p q) other h = let e = is.1 in let f = h.3 in absurd (cc)
exactly (Two a b) ws small is o other h =
    two_are ws (is.0 ++ codes ",") is.1 (as_read a) (as_read b) is.2 (comma_exactly a (is.0 ++ codes ",") is.0 refl small.0 is.3) (spells_exactly b is.1 small.1 is.4) o other h
exactly (Three a b c) ws small is o other h =
    three_are ws (is.0 ++ codes ",") (is.1 ++ codes ",") is.2 (as_read a) (as_read b) (as_read c) is.3
    (comma_exactly a (is.0 ++ codes ",") is.0 refl small.0 is.4) (comma_exactly b (is.1 ++ codes ",") is.1 refl small.1 is.5) (spells_exactly c is.2 small.2 is.6) o other h

-- a name and operands are those of one word
one_word : (name : List ℕ) (os : Operands) (v w : ℕ) → IsWordOf name os v → IsWordOf name os w → v ≡ w
one_word name os v w x y = elim x.spelled [
  | inl i ↦ elim y.spelled [
    | inl j ↦
        let same : Some i.inst ≡ Some j.inst = sym (found name os i.inst i.syntax) ∙ found name os j.inst j.syntax in
        decoded-once v w x.fits y.fits j.inst (i.decodes ∙ same) j.decodes
    | inr l ↦ absurd (not_literal i.inst (i.syntax.name_is ∙ sym l.name_is))
  ]
  | inr k ↦ elim y.spelled [
    | inl j ↦ absurd (not_literal j.inst (j.syntax.name_is ∙ sym k.name_is))
    | inr l ↦
        let same : One (Decimal (pos v)) ≡ One (Decimal (pos w)) = k.operands_are ∙ sym l.operands_are in
        cc
  ]
]

-- words of a syntax spell a word that its name and operands are those of
word_of_syntax : (s : Syntax) (ws : List (List ℕ)) (w : ℕ) → HaveRegisters s.operands → IsSpelled s ws → SpellWord ws w → IsWordOf s.name (all_as_read s.operands) w
word_of_syntax s ws w small is h =
    let r = word_read ws is.behind s.name (Some (all_as_read s.operands)) w is.words_are (exactly s.operands is.behind small is.spelled) h in
    let e = r.1 in
    let same : r.0 ≡ all_as_read s.operands = cc in
    subst (λ (o : Operands). IsWordOf s.name o w) same r.2

-- the syntax that words have
record HasSome (ws : List (List ℕ)) : Type 0 where
  syntax : Syntax
  small : HaveRegisters syntax.operands
  is : IsSpelled syntax ws

-- words that spell a word have its syntax
some_syntax : (ws : List (List ℕ)) (w : ℕ) → SpellWord ws w → HasSome ws
some_syntax ws w h = elim h.spelled [
  | inl i ↦ record { syntax = syntax_of i.inst; small = fit_fields i.inst i.well_formed; is = i.spelled }
  | inr l ↦ record { syntax = literal w; small = tt; is = l }
]

-- a line gives one answer at most
give_once : (ws : List (List ℕ)) (a b : Option ℕ) → Give ws a → Give ws b → a ≡ b
give_once ws None None x y = refl
give_once ws None (Some w) x y = absurd (some_words ws w x y)
give_once ws (Some v) None x y = absurd (some_words ws v y x)
give_once ws (Some v) (Some w) x y =
    let s = some_syntax ws v x in
    ap Some (one_word s.syntax.name (all_as_read s.syntax.operands) v w (word_of_syntax s.syntax ws v s.small s.is x) (word_of_syntax s.syntax ws w s.small s.is y))

-- so a line gives one answer
pub gives_once : (line : List ℕ) (a b : Option ℕ) → Gives line a → Gives line b → a ≡ b
gives_once line a b x y = give_once (words (without_comment line)) a b x y
