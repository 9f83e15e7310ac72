-- The number that bytes hold, byte by byte.
use Rattle.std.proofs.Common.{◌≡◌, ℕ, ◌+◌, ◌*◌, ◌^◌, ◌<◌, ◌≤◌, List, [], ◌∷◌, ◌++◌, length, take, get_or, lit<, refl, ap, ◌∙◌, arith}
use Rattle.std.proofs.Math.Nat.{pow-le-pow_right}
use Rattle.std.proofs.lemmas.Grind.{pow_more}
use Rattle.std.proofs.lemmas.List.{take_more}
use Rattle.std.specs.List.{fold}
use Rattle.hv_dtree.specs.Nodes.{big_endian}

fold_push : (n : ℕ) (bytes : List ℕ) (byte : ℕ) → fold (λ v b. v * 256 + b) n (bytes ++ byte ∷ []) ≡ fold (λ v b. v * 256 + b) n bytes * 256 + byte
fold_push n [] byte = refl
fold_push n (b ∷ bytes) byte = fold_push (n * 256 + b) bytes byte

-- one more byte
pub big_endian_more : (bytes : List ℕ) (at : ℕ) → at < length bytes → big_endian (take (at + 1) bytes) ≡ big_endian (take at bytes) * 256 + get_or bytes at 0
big_endian_more bytes at lt = ap big_endian (take_more bytes at 0 lt) ∙ fold_push 0 (take at bytes) (get_or bytes at 0)

-- with one more byte the number is below the next power
pub below_more : (value at byte : ℕ) → value < 256 ^ at → byte < 256 → value * 256 + byte < 256 ^ (at + 1)
below_more value at byte small bound = omega (arith, pow_more 256 at)

-- eight bytes hold 64 bits
pub room : (value at byte : ℕ) → value < 256 ^ at → at < 8 → byte < 256 → value * 256 + byte < 2 ^ 64
room value at byte small few bound =
    let power : 256 ^ (at + 1) ≤ 256 ^ 8 = pow-le-pow_right (lit< tt) {i = at + 1} {j = 8} (omega arith) in
    omega (arith, below_more value at byte small bound, power)
