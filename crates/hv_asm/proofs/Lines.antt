-- The word of a line: it is one at most.
use Rattle.std.proofs.Common.{◌≡◌, ℕ, ◌<◌, ◌^◌, false, List, [], ◌∷◌, Option, Some, None, refl, sym, ap, subst, ◌∙◌, inl, inr}
use Rattle.std.specs.Prelude.{codes, nat_eq, ◌↔◌, Result, Ok, Err, IfOk, IsErr}
use Rattle.std.specs.Cmp.Lexicographic.{pointwise}
use Rattle.std.proofs.lemmas.Slice.Eq.{bytes_eq-Decides}
use Rattle.hv_exec.specs.declared.inst.Inst.{Inst}
use Rattle.hv_isa.specs.Table.{decoded}
use Rattle.hv_asm.specs.declared.operand.Operand.{Operand}
use Rattle.hv_asm.specs.declared.operand.Operand.TheVariants.{Register, Decimal, Hexadecimal, Based}
use Rattle.hv_asm.specs.declared.operand.Operands.{Operands}
use Rattle.hv_asm.specs.declared.operand.Operands.TheVariants.{Nothing, One, Two, Three}
use Rattle.hv_asm.specs.Line.{IsSpelled, SpellWord, Give}
use Rattle.hv_asm.specs.Operand.{Spells, AreSpelled}
use Rattle.hv_asm.specs.Reading.{HaveRegisters, as_read, all_as_read, HasSyntax, IsWordOf}
use Rattle.hv_asm.specs.Forms.{instruction_of}
use Rattle.hv_asm.specs.Syntax.{Syntax, syntax_of, literal}
use Rattle.hv_asm.proofs.Table.{complete, fit_fields}

-- an instruction is found by its name and operands
pub found : (name : List ℕ) (os : Operands) (i : Inst) → HasSyntax i name os → instruction_of name os ≡ Some i
found name os i h = (λ j. instruction_of (sym h.name_is j) (sym h.operands_are j)) ∙ complete i h.well_formed

-- the test of a name that isn't this one
not_named : (name : List ℕ) → pointwise nat_eq name (codes ".word") ≡ false → name ≡ codes ".word" → ⊥
not_named name other is = let same = (bytes_eq-Decides name (codes ".word")).1 is in absurd (cc (other, same))

-- the word of an instruction is the only one of its name and operands
pub only_word : (name : List ℕ) (os : Operands) (i : Inst) (word other : ℕ) → pointwise nat_eq name (codes ".word") ≡ false → instruction_of name os ≡ Some i
    → ((w : ℕ) → w < 2 ^ 32 → decoded w ≡ Some i → w ≡ word) → IsWordOf name os other → Some word ≡ Some other
only_word name os i word other unnamed is only h = elim h.spelled [
  | inl instruction ↦
      let again = found name os instruction.inst instruction.syntax in
      let same : Some instruction.inst ≡ Some i = sym again ∙ is in
      ap Some (sym (only other h.fits (instruction.decodes ∙ same)))
  | inr literal ↦ absurd (not_named name unnamed (sym literal.name_is))
]

-- where no instruction has the name and operands
pub no_word : (name : List ℕ) (os : Operands) (other : ℕ) → pointwise nat_eq name (codes ".word") ≡ false → instruction_of name os ≡ None → IsWordOf name os other → ⊥
no_word name os other unnamed none h = elim h.spelled [
  | inl instruction ↦ let again = found name os instruction.inst instruction.syntax in absurd (cc)
  | inr literal ↦ not_named name unnamed (sym literal.name_is)
]

-- an operand that is read as another is spelled like it
spelled_as_read : (o : Operand) (text : List ℕ) → Spells (as_read o) text → Spells o text
spelled_as_read (Register n) text h = h
spelled_as_read (Decimal z) text h = h
spelled_as_read (Hexadecimal v) text h = h
spelled_as_read (Based z n) text h = h

-- and so are all
all_spelled_as_read : (os : Operands) (ws : List (List ℕ)) → AreSpelled (all_as_read os) ws → AreSpelled os ws
all_spelled_as_read Nothing ws h = h
all_spelled_as_read (One a) ws h = (h.0, h.1, spelled_as_read a h.0 h.2)
all_spelled_as_read (Two a b) ws h = (h.0, h.1, h.2, spelled_as_read a h.0 h.3, spelled_as_read b h.1 h.4)
all_spelled_as_read (Three a b c) ws h = (h.0, h.1, h.2, h.3, spelled_as_read a h.0 h.4, spelled_as_read b h.1 h.5, spelled_as_read c h.2 h.6)

-- a name and operands in the order of their words
spelled_syntax : (s : Syntax) (ws rest : List (List ℕ)) (name : List ℕ) (os : Operands) → ws ≡ name ∷ rest → AreSpelled os rest → s.name ≡ name → all_as_read s.operands ≡ os → IsSpelled s ws
spelled_syntax s ws rest name os parted spelled name_is operands_are = record {
  behind = rest;
  words_are = parted ∙ ap (λ (n : List ℕ). n ∷ rest) (sym name_is);
  spelled = all_spelled_as_read s.operands rest (subst (λ (o : Operands). AreSpelled o rest) (sym operands_are) spelled);
}

-- words spell the word of their name and operands
pub spell_word : (ws rest : List (List ℕ)) (name : List ℕ) (os : Operands) (word : ℕ) → ws ≡ name ∷ rest → AreSpelled os rest → IsWordOf name os word → SpellWord ws word
spell_word ws rest name os word parted spelled h = record {
  fits = h.fits;
  spelled = elim h.spelled [
    | inl i ↦ inl (record {
      inst = i.inst;
      well_formed = i.syntax.well_formed;
      decodes = i.decodes;
      spelled = spelled_syntax (syntax_of i.inst) ws rest name os parted spelled i.syntax.name_is i.syntax.operands_are;
    })
    | inr l ↦ inr (spelled_syntax (literal word) ws rest name os parted spelled l.name_is l.operands_are)
  ];
}

-- what was read as operands
abbrev pub IsExactly : List (List ℕ) → Option Operands → Type 0
IsExactly rest found = (os : Operands) → HaveRegisters os → AreSpelled os rest → found ≡ Some (all_as_read os)

-- a name and a syntax's operands, as they were read
record ReadAs (s : Syntax) (name : List ℕ) (found : Option Operands) : Type 0 where
  name_is : s.name ≡ name
  operands_are : found ≡ Some (all_as_read s.operands)

-- a spelled syntax is read by its name and operands
read_as : (s : Syntax) (ws rest : List (List ℕ)) (name : List ℕ) (found : Option Operands) → ws ≡ name ∷ rest → IsExactly rest found → HaveRegisters s.operands → IsSpelled s ws → ReadAs s name found
read_as s ws rest name found parted exact fit h =
    let both : s.name ∷ h.behind ≡ name ∷ rest = sym h.words_are ∙ parted in
    let name_is : s.name ≡ name = cc in
    let rest_is : h.behind ≡ rest = cc in
    record { name_is = name_is; operands_are = exact s.operands fit (subst (λ (r : List (List ℕ)). AreSpelled s.operands r) rest_is h.spelled) }

-- words that spell a word have a name and operands of the word
pub word_read : (ws rest : List (List ℕ)) (name : List ℕ) (found : Option Operands) (word : ℕ) → ws ≡ name ∷ rest → IsExactly rest found → SpellWord ws word → (os : Operands) × (found ≡ Some os) × IsWordOf name os word
word_read ws rest name found word parted exact h = elim h.spelled [
  | inl i ↦
      let r = read_as (syntax_of i.inst) ws rest name found parted exact (fit_fields i.inst i.well_formed) i.spelled in (
        all_as_read (syntax_of i.inst).operands,
        r.operands_are,
        record {
          fits = h.fits;
          spelled = inl (record { inst = i.inst; decodes = i.decodes; syntax = record { well_formed = i.well_formed; name_is = r.name_is; operands_are = refl } });
        },
      )
  | inr l ↦
      let r = read_as (literal word) ws rest name found parted exact tt l in
      (all_as_read (literal word).operands, r.operands_are, record { fits = h.fits; spelled = inr (record { name_is = r.name_is; operands_are = refl }) })
]

-- no words spell a word
pub some_words : (ws : List (List ℕ)) (word : ℕ) → ws ≡ [] → SpellWord ws word → ⊥
some_words ws word none h = elim h.spelled [
  | inl i ↦ let e = i.spelled.words_are in absurd (cc)
  | inr l ↦ let e = l.words_are in absurd (cc)
]

-- without words none is given
pub none_given : (ws : List (List ℕ)) → ws ≡ [] → (answer : Option ℕ) → Give ws answer → None ≡ answer
none_given ws none None h = refl
none_given ws none (Some word) h = absurd (some_words ws word none h)

-- words whose operands don't fit give nothing
pub nothing_given : (ws rest : List (List ℕ)) (name : List ℕ) → ws ≡ name ∷ rest → IsExactly rest None → (answer : Option ℕ) → Give ws answer → ⊥
nothing_given ws rest name parted exact None h = absurd (cc)
nothing_given ws rest name parted exact (Some word) h = let r = word_read ws rest name None word parted exact h in let e = r.1 in absurd (cc)

-- what words with these operands give
pub word_given : (ws rest : List (List ℕ)) (name : List ℕ) (os : Operands) (found : Option ℕ) → ws ≡ name ∷ rest → IsExactly rest (Some os) → ((word : ℕ) → IsWordOf name os word → found ≡ Some word)
    → (answer : Option ℕ) → Give ws answer → (word : ℕ) × (answer ≡ Some word) × (found ≡ Some word)
word_given ws rest name os found parted exact only None h = absurd (cc)
word_given ws rest name os found parted exact only (Some word) h =
    let r = word_read ws rest name (Some os) word parted exact h in
    let e = r.1 in
    let same : r.0 ≡ os = cc in
    (word, refl, only word (subst (λ (o : Operands). IsWordOf name o word) same r.2))

-- a line is refused exactly where it gives nothing
pub refused_exactly : {E : Type 0} (r : Result (Option ℕ) E) (P : Option ℕ → Type 0) → IfOk r P → ((answer : Option ℕ) → P answer → r ≡ Ok answer) → IsErr r ↔ ((answer : Option ℕ) → P answer → ⊥)
refused_exactly (Ok a) P given exact = ((λ is. absurd (cc)), λ none. absurd (none a given))
refused_exactly (Err e) P given exact = ((λ is answer given. let same = exact answer given in absurd (cc)), λ none. refl)
