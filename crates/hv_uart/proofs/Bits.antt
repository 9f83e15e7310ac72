-- What a test for a flag says of a bit.
use Rattle.std.proofs.Common.{◌≡◌, ℕ, ◌*◌, ◌/◌, ◌%◌, ◌^◌, ◌<◌, ◌∙◌, zero, suc, ap, sym, arith}
use Rattle.std.specs.Prelude.{true, false, ◌==◌, bit_and, if◌then◌else◌}
use Rattle.std.proofs.lemmas.Nat.{pow_pos}
use Rattle.std.proofs.lemmas.Nat.Bits.{and_pow}
use Rattle.std.proofs.lemmas.Bool.{eq-eqb, ne_eqb, eqb-true, eqb-false}
use Rattle.hv_emu.specs.Registers.{is_set}
use Rattle.hv_emu.specs.Uart.{trigger_of}

-- a multiple of a power by a bit is the power where the bit is 1
times-same : (bit power : ℕ) → bit < 2 → 0 < power → (bit * power == power) ≡ (bit == 1)
times-same zero power below some = ne_eqb (zero * power) power (λ e. omega arith)
times-same (suc zero) power below some = eq-eqb (suc zero * power) power (omega arith)
times-same (suc (suc more)) power below some = absurd (omega arith)

-- a word has the flag of a bit where the bit is set
pub has-flag : (word k : ℕ) → (bit_and word (2 ^ k) == 2 ^ k) ≡ is_set word k
has-flag word k =
    ap (λ masked. masked == 2 ^ k) (and_pow word k) ∙ times-same (word / 2 ^ k % 2) (2 ^ k) (omega arith) (pow_pos k)

-- the trigger level by the number in its two bits
abbrev level : ℕ → ℕ
level bits = if bits == 0 then 1 else if bits == 1 then 4 else if bits == 2 then 8 else 14

-- the high bit is set
high-set : (word : ℕ) → true ≡ (bit_and word 128 == 128) → word / 128 % 2 ≡ 1
high-set word has = eqb-true (word / 128 % 2) 1 (sym (has-flag word 7) ∙ sym has)

-- the trigger level is 14 where both bits are set
pub trigger-14 : (word : ℕ) → true ≡ (bit_and word 128 == 128) → true ≡ (bit_and word 64 == 64) → 14 ≡ trigger_of word
trigger-14 word high low =
    let one : word / 128 % 2 ≡ 1 = high-set word high in
    let other : word / 64 % 2 ≡ 1 = eqb-true (word / 64 % 2) 1 (sym (has-flag word 6) ∙ sym low) in
    let bits : 3 ≡ word / 64 % 4 = omega arith in
    ap level bits

-- the trigger level is 8 where the high bit alone is set
pub trigger-8 : (word : ℕ) → true ≡ (bit_and word 128 == 128) → false ≡ (bit_and word 64 == 64) → 8 ≡ trigger_of word
trigger-8 word high low =
    let one : word / 128 % 2 ≡ 1 = high-set word high in
    let clear : word / 64 % 2 ≡ 1 → ⊥ = eqb-false (word / 64 % 2) 1 (sym (has-flag word 6) ∙ sym low) in
    let bits : 2 ≡ word / 64 % 4 = omega arith in
    ap level bits
