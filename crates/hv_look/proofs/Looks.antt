-- Looks and their words.
use Rattle.std.proofs.Common.{◌≡◌, ℕ, ◌<◌, ◌≤◌, ◌^◌, List, [], ◌∷◌, ◌++◌, length, refl, sym, ap, ◌∙◌, arith, length-append}
use Rattle.std.specs.Fmt.{decimal}
use Rattle.hv_kinds.specs.declared.state.State.{State}
use Rattle.hv_data.specs.Text.{state_text}
use Rattle.hv_data.specs.Written.{IsNumber}
use Rattle.hv_data.specs.Reading.{AreWordsOf, BeginWith}
use Rattle.hv_data.specs.Data.{Number, Number8, StateOf, HaveNoSpace}
use Rattle.hv_data.proofs.DataLemmas.{same_data, data_free}
use Rattle.hv_look.specs.declared.look.Csrs.{Csrs}
use Rattle.hv_look.specs.declared.look.Registers.{Registers}
use Rattle.hv_look.specs.declared.look.Look.{Look}
use Rattle.hv_look.specs.Look.{csr_values, register_values, values_words, registers_words, sliced_words, look_words, AreNumbers, IsRegisters, IsSliced, IsLook}
use Rattle.hv_look.proofs.Values.{same_values, values_free}

-- two fronts of one length and what stands behind them
same_fronts : (a b x y : List ℕ) → length a ≡ length b → a ++ x ≡ b ++ y → (a ≡ b) × (x ≡ y)
same_fronts [] [] x y len e = (refl, e)
same_fronts [] (c ∷ b) x y len e = absurd (omega arith)
same_fronts (c ∷ a) [] x y len e = absurd (omega arith)
same_fronts (c ∷ a) (d ∷ b) x y len e =
    let heads : c ≡ d = cc e in
    let tails : a ++ x ≡ b ++ y = cc e in
    let both = same_fronts a b x y (omega arith) tails in
    (cc (heads, both.0), both.1)

csrs_back : List ℕ → Csrs → Csrs
csrs_back (a ∷ b ∷ c ∷ d ∷ e ∷ f ∷ g ∷ []) other = record { mstatus = a; mie = b; mtvec = c; mscratch = d; mepc = e; mcause = f; mtval = g }
csrs_back _ other = other

csrs_found : (c other : Csrs) → csrs_back (csr_values c) other ≡ c
unfolding csrs_back
csrs_found c other = refl

same_csrs : (c d : Csrs) → csr_values c ≡ csr_values d → c ≡ d
same_csrs c d e = sym (csrs_found c c) ∙ ap (λ (vs : List ℕ). csrs_back vs c) e ∙ csrs_found d c

registers_made : ℕ → List ℕ → Csrs → Registers
registers_made pc x csrs = record { pc = pc; x = x; csrs = csrs }

registers_whole : (r : Registers) → registers_made r.pc r.x r.csrs ≡ r
unfolding registers_made
registers_whole r = refl

same_registers : (r q : Registers) → IsRegisters r → IsRegisters q → registers_words r ≡ registers_words q → r ≡ q
same_registers r q h k e =
    let values : register_values r ≡ register_values q = same_values (register_values r) (register_values q) h.1 k.1 e in
    let pcs : r.pc ≡ q.pc = cc values in
    let rests : r.x ++ csr_values r.csrs ≡ q.x ++ csr_values q.csrs = cc values in
    let both = same_fronts r.x q.x (csr_values r.csrs) (csr_values q.csrs) (omega (arith, h.0, k.0)) rests in
    let csrs : r.csrs ≡ q.csrs = same_csrs r.csrs q.csrs both.1 in
    let xs : r.x ≡ q.x = both.0 in
    let made : registers_made r.pc r.x r.csrs ≡ registers_made q.pc q.x q.csrs = cc (pcs, xs, csrs) in
    sym (registers_whole r) ∙ made ∙ registers_whole q

look_made : State → ℕ → ℕ → Registers → Look
look_made state priority slice registers = record { state = state; priority = priority; slice = slice; registers = registers }

look_whole : (l : Look) → look_made l.state l.priority l.slice l.registers ≡ l
unfolding look_made
look_whole l = refl

-- two looks with the same words are one
pub same_look : (l m : Look) → IsLook l → IsLook m → look_words l ≡ look_words m → l ≡ m
same_look l m h k e =
    let both = same_data (StateOf l.state ∷ Number8 l.priority ∷ Number l.slice ∷ []) (StateOf m.state ∷ Number8 m.priority ∷ Number m.slice ∷ []) (registers_words l.registers) (registers_words m.registers) refl
    (h.0, (h.1, (omega (arith, h.2.0), tt))) (k.0, (k.1, (omega (arith, k.2.0), tt))) e in
    let states : l.state ≡ m.state = cc both.same_data in
    let priorities : l.priority ≡ m.priority = cc both.same_data in
    let slices : l.slice ≡ m.slice = cc both.same_data in
    let registers : l.registers ≡ m.registers = same_registers l.registers m.registers h.2.1 k.2.1 both.same_rest in
    let made : look_made l.state l.priority l.slice l.registers ≡ look_made m.state m.priority m.slice m.registers = cc (states, priorities, slices, registers) in
    sym (look_whole l) ∙ made ∙ look_whole m

-- no word of a look has a space
pub look_free : (l : Look) → IsLook l → HaveNoSpace (look_words l)
look_free l h =
    let heads = data_free (StateOf l.state ∷ Number8 l.priority ∷ Number l.slice ∷ []) (h.0, (h.1, (omega (arith, h.2.0), tt))) in
    (heads.0, (heads.1.0, (heads.1.1.0, values_free (register_values l.registers) h.2.1.1)))

-- values of another number or form are no registers
pub no_registers : (words : List (List ℕ)) (values : List ℕ) → AreWordsOf AreNumbers values_words words values → ((r : Registers) → length r.x ≡ 31 → values ≡ register_values r → ⊥) → (r : Registers) → AreWordsOf IsRegisters registers_words words r → ⊥
no_registers words values is none r h = none r h.0.0 (same_values values (register_values r) is.0 h.0.1 (sym is.1 ∙ h.1))

-- a slice of more than 32 bits is none
pub no_long_slice : (words rest : List (List ℕ)) (slice : ℕ) → BeginWith IsNumber decimal words slice rest → 2 ^ 32 ≤ slice → (both : ℕ × Registers) → AreWordsOf IsSliced sliced_words words both → ⊥
no_long_slice words rest slice is long both h =
    let same = (same_data (Number slice ∷ []) (Number both.0 ∷ []) rest (registers_words both.1) refl (is.0, tt) (omega (arith, h.0.0), tt) (sym is.1 ∙ h.1)).same_data in
    let one : slice ≡ both.0 = cc same in
    omega (arith, h.0.0)

-- where values are too few, they are no registers'
pub too_few : (values rest : List ℕ) (pc : ℕ) → values ≡ pc ∷ rest → length rest < 31 → (r : Registers) → length r.x ≡ 31 → values ≡ register_values r → ⊥
too_few values rest pc is few r len e =
    let rests : rest ≡ r.x ++ csr_values r.csrs = cc (is, e) in
    omega (arith, ap length rests, length-append r.x (csr_values r.csrs))

-- where the last are no seven, they are no registers'
pub no_last : (values rest front back : List ℕ) (pc : ℕ) → values ≡ pc ∷ rest → rest ≡ front ++ back → length front ≡ 31 → ((c : Csrs) → back ≡ csr_values c → ⊥) → (r : Registers) → length r.x ≡ 31 → values ≡ register_values r → ⊥
no_last values rest front back pc is parts len none r long e =
    let rests : rest ≡ r.x ++ csr_values r.csrs = cc (is, e) in
    let both = same_fronts front r.x back (csr_values r.csrs) (omega (arith, len, long)) (sym parts ∙ rests) in
    none r.csrs both.1

pub no_values : (words : List (List ℕ)) → ((values : List ℕ) → AreWordsOf AreNumbers values_words words values → ⊥) → (r : Registers) → AreWordsOf IsRegisters registers_words words r → ⊥
no_values words none r h = none (register_values r) (h.0.1, h.1)

-- where no slice and registers stand behind the first two words, the words are no look's
pub no_sliced : (words one rest : List (List ℕ)) (state : State) (priority : ℕ) → words ≡ state_text state ∷ one → one ≡ decimal priority ∷ rest → ((both : ℕ × Registers) → AreWordsOf IsSliced sliced_words rest both → ⊥) → (l : Look) → AreWordsOf IsLook look_words words l → ⊥
no_sliced words one rest state priority is there none l h =
    let both : state_text state ∷ decimal priority ∷ rest ≡ look_words l = ap (λ (ws : List (List ℕ)). state_text state ∷ ws) (sym there) ∙ sym is ∙ h.1 in
    none (l.slice, l.registers) (h.0.2, cc both)
