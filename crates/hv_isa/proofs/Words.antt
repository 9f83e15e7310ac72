-- Each word that is read as an instruction is the word that the instruction's fields add up to, so it is the only one.
-- Below, o, f and g are values of opcode, funct3 and funct7 (or funct6), and d, s and t those of rd, rs1 and rs2.
use Rattle.std.proofs.Common.{◌≡◌, ℕ, ◌+◌, ◌*◌, ◌%◌, ◌^◌, ◌<◌, Bool, true, false, List, [], ◌∷◌, Option, Some, refl, subst, arith, sym, ap, ◌∙◌, nat_eq}
use Rattle.std.specs.Prelude.{if◌then◌else◌}
use Rattle.std.proofs.lemmas.Bool.Decides.{nat_tests}
use Rattle.hv_exec.specs.Numbers.{modulo, signed}
use Rattle.hv_exec.specs.declared.inst.Inst.{Inst}
use Rattle.hv_exec.specs.declared.functs.TheConstants.{ADD, ALTERNATE, AND, ARITHMETIC, BASE, BEQ, BGE, BGEU, BLT, BLTU, BNE, CSRRC, CSRRCI, CSRRS, CSRRSI, CSRRW, CSRRWI, DIV, DIVU, FENCE, FENCE_I, JALR_FUNCT3, LB, LBU, LD, LH, LHU, LOGICAL, LW, LWU, MUL, MULDIV, MULH, MULHSU, MULHU, OR, REM, REMU, SB, SD, SH, SLL, SLT, SLTU, SRA, SRL, SUB, SW, XOR}
use Rattle.hv_exec.specs.declared.opcodes.TheConstants.{AUIPC, BRANCH, EBREAK, ECALL, JAL, JALR, LOAD, LUI, MISC_MEM, MRET, OP, OP_32, OP_IMM, OP_IMM_32, STORE, SYSTEM, WFI}
use Rattle.hv_isa.specs.Encoding.{r_form, long_form, field_form, i_form, u_form, s_sum, s_form, b_sum, b_form, j_sum, j_form, encoded}
use Rattle.hv_isa.specs.Formats.{bits, rd, rs1, rs2, i_immediate, s_immediate, b_immediate, j_immediate}
use Rattle.hv_isa.specs.Table.{Fixed, Row, Group, funct3, funct6, funct7, whole, groups, fits, by_rows, rows_of, decoded, lui_rows, auipc_rows, jal_rows, jalr_rows, branch_rows, load_rows, store_rows, immediate_rows, immediate_word_rows, register_rows, register_word_rows, fence_rows, system_rows}

-- a number of k bits is the modulus of its signed reading
modulo-signed_12 : (n : ℕ) → n < 2 ^ 12 → modulo 12 (signed 12 n) ≡ n
modulo-signed_12 n h = grind (arith, nat_tests)

-- the same at 13 bits
modulo-signed_13 : (n : ℕ) → n < 2 ^ 13 → modulo 13 (signed 13 n) ≡ n
modulo-signed_13 n h = grind (arith, nat_tests)

-- the same at 21 bits
modulo-signed_21 : (n : ℕ) → n < 2 ^ 21 → modulo 21 (signed 21 n) ≡ n
modulo-signed_21 n h = grind (arith, nat_tests)

-- a word that fits one fixed field has its value
fits-one : (w : ℕ) (a : Fixed) → fits w (a ∷ []) ≡ true → bits w a.low a.width ≡ a.value
fits-one w a h = grind (arith, nat_tests)

-- a word has the values of two fixed fields
record HasBoth (w : ℕ) (a b : Fixed) : Type 0 where
  has_first : bits w a.low a.width ≡ a.value
  has_second : bits w b.low b.width ≡ b.value

-- a word that fits two fixed fields has both values
fits-two : (w : ℕ) (a b : Fixed) → fits w (a ∷ b ∷ []) ≡ true → HasBoth w a b
fits-two w a b h = record { has_first = grind (arith, nat_tests); has_second = grind (arith, nat_tests) }

-- a word of the register format is what its fields add up to
r_inverts : (o f g w : ℕ) → w < 2 ^ 32 → w % 2 ^ 7 ≡ o → fits w (funct7 g ∷ funct3 f ∷ []) ≡ true → r_form o f g (rd w) (rs1 w) (rs2 w) ≡ w
unfolding r_form
r_inverts o f g w below op fit = let b = fits-two w (funct7 g) (funct3 f) fit in omega arith

-- the same of a shift by five bits
short_inverts : (o f g w : ℕ) → w < 2 ^ 32 → w % 2 ^ 7 ≡ o → fits w (funct3 f ∷ funct7 g ∷ []) ≡ true → r_form o f g (rd w) (rs1 w) (rs2 w) ≡ w
unfolding r_form
short_inverts o f g w below op fit = let b = fits-two w (funct3 f) (funct7 g) fit in omega arith

-- the same of a shift by six bits
long_inverts : (o f g w : ℕ) → w < 2 ^ 32 → w % 2 ^ 7 ≡ o → fits w (funct3 f ∷ funct6 g ∷ []) ≡ true → long_form o f g (rd w) (rs1 w) (bits w 20 6) ≡ w
unfolding long_form
long_inverts o f g w below op fit = let b = fits-two w (funct3 f) (funct6 g) fit in omega arith

-- the same of a field at the top
field_inverts : (o f w : ℕ) → w < 2 ^ 32 → w % 2 ^ 7 ≡ o → fits w (funct3 f ∷ []) ≡ true → field_form o f (rd w) (rs1 w) (bits w 20 12) ≡ w
unfolding field_form
field_inverts o f w below op fit = let b = fits-one w (funct3 f) fit in omega arith

-- the same of an immediate at the top
i_inverts : (o f w : ℕ) → w < 2 ^ 32 → w % 2 ^ 7 ≡ o → fits w (funct3 f ∷ []) ≡ true → i_form o f (rd w) (rs1 w) (i_immediate w) ≡ w
i_inverts o f w below op fit =
    ap (λ n. field_form o f (rd w) (rs1 w) n) (modulo-signed_12 (bits w 20 12) (omega arith)) ∙ field_inverts o f w below op fit

-- the same of the upper twenty bits
u_inverts : (o w : ℕ) → w < 2 ^ 32 → w % 2 ^ 7 ≡ o → fits w [] ≡ true → u_form o (rd w) (bits w 12 20) ≡ w
unfolding u_form
u_inverts o w below op fit = omega arith

-- the fields of a store add up to its word
s_adds : (o f w : ℕ) → w < 2 ^ 32 → w % 2 ^ 7 ≡ o → bits w 12 3 ≡ f → s_sum o f (rs1 w) (rs2 w) (bits w 25 7 * 2 ^ 5 + bits w 7 5) ≡ w
unfolding s_sum
s_adds o f w below op here = omega arith

-- so a word of the store format is what its fields add up to
s_inverts : (o f w : ℕ) → w < 2 ^ 32 → w % 2 ^ 7 ≡ o → fits w (funct3 f ∷ []) ≡ true → s_form o f (rs1 w) (rs2 w) (s_immediate w) ≡ w
s_inverts o f w below op fit =
    ap (λ n. s_sum o f (rs1 w) (rs2 w) n) (modulo-signed_12 (bits w 25 7 * 2 ^ 5 + bits w 7 5) (omega arith)) ∙ s_adds o f w below op (fits-one w (funct3 f) fit)

-- the bits of an offset of a branch
abbrev b_bits : ℕ → ℕ
b_bits w = bits w 31 1 * 2 ^ 12 + bits w 7 1 * 2 ^ 11 + bits w 25 6 * 2 ^ 5 + bits w 8 4 * 2

-- the fields of a branch add up to its word
b_adds : (o f w : ℕ) → w < 2 ^ 32 → w % 2 ^ 7 ≡ o → bits w 12 3 ≡ f → b_sum o f (rs1 w) (rs2 w) (b_bits w) ≡ w
unfolding b_sum
b_adds o f w below op here = omega arith

-- so a word of the branch format is what its fields add up to
b_inverts : (o f w : ℕ) → w < 2 ^ 32 → w % 2 ^ 7 ≡ o → fits w (funct3 f ∷ []) ≡ true → b_form o f (rs1 w) (rs2 w) (b_immediate w) ≡ w
b_inverts o f w below op fit =
    ap (λ n. b_sum o f (rs1 w) (rs2 w) n) (modulo-signed_13 (b_bits w) (omega arith)) ∙ b_adds o f w below op (fits-one w (funct3 f) fit)

-- the bits of an offset of a jump
abbrev j_bits : ℕ → ℕ
j_bits w = bits w 31 1 * 2 ^ 20 + bits w 12 8 * 2 ^ 12 + bits w 20 1 * 2 ^ 11 + bits w 21 10 * 2

-- the fields of a jump add up to its word
j_adds : (o w : ℕ) → w < 2 ^ 32 → w % 2 ^ 7 ≡ o → j_sum o (rd w) (j_bits w) ≡ w
unfolding j_sum
j_adds o w below op = omega arith

-- so a word of the jump format is what its fields add up to
j_inverts : (o w : ℕ) → w < 2 ^ 32 → w % 2 ^ 7 ≡ o → fits w [] ≡ true → j_form o (rd w) (j_immediate w) ≡ w
j_inverts o w below op fit =
    ap (λ n. j_sum o (rd w) n) (modulo-signed_21 (j_bits w) (omega arith)) ∙ j_adds o w below op

-- a word whose bits are all fixed is that word
whole_inverts : (v w : ℕ) → w < 2 ^ 32 → w % 2 ^ 7 ≡ v % 2 ^ 7 → fits w (whole v ∷ []) ≡ true → v ≡ w
whole_inverts v w below op fit = let b = fits-one w (whole v) fit in omega arith

-- a word of the row is what its fields add up to
abbrev Inverts : ℕ → Row → Type 0
Inverts o r = (w : ℕ) → w < 2 ^ 32 → w % 2 ^ 7 ≡ o → fits w r.fixed ≡ true → encoded (r.read w) ≡ w

-- each word of these rows is what its fields add up to
abbrev AllInvert : ℕ → List Row → Type 0
AllInvert o [] = Unit {0}
AllInvert o (r ∷ rs) = Inverts o r × AllInvert o rs

-- each word of these groups is what its fields add up to
abbrev AllGroupsInvert : List Group → Type 0
AllGroupsInvert [] = Unit {0}
AllGroupsInvert (g ∷ gs) = AllInvert g.opcode g.rows × AllGroupsInvert gs

-- a row that fits gives the instruction, and else the rows behind it do
chosen : (o : ℕ) (r : Row) (w : ℕ) (i : Inst) (other : Option Inst) → Inverts o r → w < 2 ^ 32 → w % 2 ^ 7 ≡ o → (other ≡ Some i → encoded i ≡ w) → (test : Bool) → fits w r.fixed ≡ test → (if test then Some (r.read w) else other) ≡ Some i → encoded i ≡ w
chosen o r w i other p below op rest true fit h =
    let same : r.read w ≡ i = cc in
    let P : Inst → Type 0 = λ j. encoded j ≡ w in
    subst P same (p w below op fit)
chosen o r w i other p below op rest false fit h = rest h

-- a word that the rows read is what its fields add up to
by_rows-inverts : (o : ℕ) (rows : List Row) → AllInvert o rows → (w : ℕ) → w < 2 ^ 32 → w % 2 ^ 7 ≡ o → (i : Inst) → by_rows w rows ≡ Some i → encoded i ≡ w
by_rows-inverts o [] all w below op i h = cc
by_rows-inverts o (r ∷ rs) all w below op i h =
    chosen o r w i (by_rows w rs) all.0 below op (by_rows-inverts o rs all.1 w below op i) (fits w r.fixed) refl h

-- a group of the opcode gives the rows, and else the groups behind it do
picked : (g : Group) (rows : List Row) (w : ℕ) (i : Inst) → AllInvert g.opcode g.rows → w < 2 ^ 32 → (by_rows w rows ≡ Some i → encoded i ≡ w) → (test : Bool) → nat_eq (w % 2 ^ 7) g.opcode ≡ test → by_rows w (if test then g.rows else rows) ≡ Some i → encoded i ≡ w
picked g rows w i all below rest true same h =
    let op : w % 2 ^ 7 ≡ g.opcode = grind (arith, nat_tests) in
    by_rows-inverts g.opcode g.rows all w below op i h
picked g rows w i all below rest false same h = rest h

-- a word that the groups read is what its fields add up to
rows_of-inverts : (gs : List Group) → AllGroupsInvert gs → (w : ℕ) → w < 2 ^ 32 → (i : Inst) → by_rows w (rows_of (w % 2 ^ 7) gs) ≡ Some i → encoded i ≡ w
rows_of-inverts [] all w below i h = cc
rows_of-inverts (g ∷ gs) all w below i h =
    picked g (rows_of (w % 2 ^ 7) gs) w i all.0 below (rows_of-inverts gs all.1 w below i) (nat_eq (w % 2 ^ 7) g.opcode) refl h

-- each word of lui_rows is what its fields add up to
lui_rows-invert : AllInvert LUI lui_rows
lui_rows-invert =
    (u_inverts LUI, tt)

-- each word of auipc_rows is what its fields add up to
auipc_rows-invert : AllInvert AUIPC auipc_rows
auipc_rows-invert =
    (u_inverts AUIPC, tt)

-- each word of jal_rows is what its fields add up to
jal_rows-invert : AllInvert JAL jal_rows
jal_rows-invert =
    (j_inverts JAL, tt)

-- each word of jalr_rows is what its fields add up to
jalr_rows-invert : AllInvert JALR jalr_rows
jalr_rows-invert =
    (i_inverts JALR JALR_FUNCT3, tt)

-- each word of branch_rows is what its fields add up to
branch_rows-invert : AllInvert BRANCH branch_rows
branch_rows-invert =
    (b_inverts BRANCH BEQ, (b_inverts BRANCH BNE, (b_inverts BRANCH BLT, (b_inverts BRANCH BGE, (b_inverts BRANCH BLTU, (b_inverts BRANCH BGEU, tt))))))

-- each word of load_rows is what its fields add up to
load_rows-invert : AllInvert LOAD load_rows
load_rows-invert =
    (i_inverts LOAD LB, (i_inverts LOAD LH, (i_inverts LOAD LW, (i_inverts LOAD LD, (i_inverts LOAD LBU, (i_inverts LOAD LHU, (i_inverts LOAD LWU, tt)))))))

-- each word of store_rows is what its fields add up to
store_rows-invert : AllInvert STORE store_rows
store_rows-invert =
    (s_inverts STORE SB, (s_inverts STORE SH, (s_inverts STORE SW, (s_inverts STORE SD, tt))))

-- each word of immediate_rows is what its fields add up to
immediate_rows-invert : AllInvert OP_IMM immediate_rows
immediate_rows-invert =
    (i_inverts OP_IMM ADD, (i_inverts OP_IMM SLT, (i_inverts OP_IMM SLTU, (i_inverts OP_IMM XOR, (i_inverts OP_IMM OR, (i_inverts OP_IMM AND, (long_inverts OP_IMM SLL LOGICAL, (long_inverts OP_IMM SRL LOGICAL, (long_inverts OP_IMM SRA ARITHMETIC, tt)))))))))

-- each word of immediate_word_rows is what its fields add up to
immediate_word_rows-invert : AllInvert OP_IMM_32 immediate_word_rows
immediate_word_rows-invert =
    (i_inverts OP_IMM_32 ADD, (short_inverts OP_IMM_32 SLL BASE, (short_inverts OP_IMM_32 SRL BASE, (short_inverts OP_IMM_32 SRA ALTERNATE, tt))))

-- each word of register_rows is what its fields add up to
register_rows-invert : AllInvert OP register_rows
register_rows-invert =
    (r_inverts OP ADD BASE, (r_inverts OP SLL BASE, (r_inverts OP SLT BASE, (r_inverts OP SLTU BASE, (r_inverts OP XOR BASE, (r_inverts OP SRL BASE, (r_inverts OP OR BASE, (r_inverts OP AND BASE, (r_inverts OP SUB ALTERNATE, (r_inverts OP SRA ALTERNATE, (r_inverts OP MUL MULDIV, (r_inverts OP MULH MULDIV, (r_inverts OP MULHSU MULDIV, (r_inverts OP MULHU MULDIV, (r_inverts OP DIV MULDIV, (r_inverts OP DIVU MULDIV, (r_inverts OP REM MULDIV, (r_inverts OP REMU MULDIV, tt))))))))))))))))))

-- each word of register_word_rows is what its fields add up to
register_word_rows-invert : AllInvert OP_32 register_word_rows
register_word_rows-invert =
    (r_inverts OP_32 ADD BASE, (r_inverts OP_32 SLL BASE, (r_inverts OP_32 SRL BASE, (r_inverts OP_32 SUB ALTERNATE, (r_inverts OP_32 SRA ALTERNATE, (r_inverts OP_32 MUL MULDIV, (r_inverts OP_32 DIV MULDIV, (r_inverts OP_32 DIVU MULDIV, (r_inverts OP_32 REM MULDIV, (r_inverts OP_32 REMU MULDIV, tt))))))))))

-- each word of fence_rows is what its fields add up to
fence_rows-invert : AllInvert MISC_MEM fence_rows
fence_rows-invert =
    (field_inverts MISC_MEM FENCE, (field_inverts MISC_MEM FENCE_I, tt))

-- each word of system_rows is what its fields add up to
system_rows-invert : AllInvert SYSTEM system_rows
system_rows-invert =
    (field_inverts SYSTEM CSRRW, (field_inverts SYSTEM CSRRS, (field_inverts SYSTEM CSRRC, (field_inverts SYSTEM CSRRWI, (field_inverts SYSTEM CSRRSI, (field_inverts SYSTEM CSRRCI, (whole_inverts ECALL, (whole_inverts EBREAK, (whole_inverts MRET, (whole_inverts WFI, tt))))))))))

-- so it is for the whole table
groups-invert : AllGroupsInvert groups
groups-invert = (lui_rows-invert, (auipc_rows-invert, (jal_rows-invert, (jalr_rows-invert, (branch_rows-invert, (load_rows-invert, (store_rows-invert, (immediate_rows-invert, (immediate_word_rows-invert, (register_rows-invert, (register_word_rows-invert, (fence_rows-invert, (system_rows-invert, tt)))))))))))))

-- a word that is read as an instruction is what the fields of the instruction add up to
pub decoded-inverts : (w : ℕ) → w < 2 ^ 32 → (i : Inst) → decoded w ≡ Some i → encoded i ≡ w
unfolding decoded
decoded-inverts w below i h = rows_of-inverts groups groups-invert w below i h

-- two words that are the same instruction are one
pub decoded-once : (v w : ℕ) → v < 2 ^ 32 → w < 2 ^ 32 → (i : Inst) → decoded v ≡ Some i → decoded w ≡ Some i → v ≡ w
decoded-once v w v_fits w_fits i v_is w_is = sym (decoded-inverts v v_fits i v_is) ∙ decoded-inverts w w_fits i w_is
