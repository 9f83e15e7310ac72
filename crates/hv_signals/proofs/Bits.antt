-- The number of a few bits fits a byte.
use Rattle.std.proofs.Common.{◌≡◌, suc, ◌*◌, ◌^◌, ◌<◌, ◌≤◌, Bool, true, false, List, [], ◌∷◌, length, pow-suc, arith}
use Rattle.std.proofs.Math.Pow.{pow_mono}
use Rattle.hv_kinds.specs.declared.pins.Pins.{Pins}
use Rattle.hv_rules.specs.Body.{number_of_bits}
use Rattle.hv_signals.specs.Signals.{turned}

bits_fit : (bits : List Bool) → number_of_bits bits < 2 ^ length bits
bits_fit [] = omega arith
bits_fit (true ∷ bits) = let more : 2 ^ suc (length bits) ≡ 2 ^ length bits * 2 = pow-suc 2 (length bits) in omega (arith, more, bits_fit bits)
bits_fit (false ∷ bits) = let more : 2 ^ suc (length bits) ≡ 2 ^ length bits * 2 = pow-suc 2 (length bits) in omega (arith, more, bits_fit bits)

no_more : (before after : List Pins) → length (turned before after) ≤ length before
no_more [] after = omega arith
no_more (one ∷ before) [] = omega arith
no_more (one ∷ before) (other ∷ after) = omega (arith, no_more before after)

-- the pins of at most eight VCPUs have so many bits
pub turned_fits : (before after : List Pins) → length before ≤ 8 → number_of_bits (turned before after) < 2 ^ 8
turned_fits before after few =
    let le : length (turned before after) ≤ 8 = omega (arith, no_more before after) in
    let most : 2 ^ length (turned before after) ≤ 2 ^ 8 = pow_mono {i = length (turned before after)} {j = 8} le in
    omega (arith, most, bits_fit (turned before after))
