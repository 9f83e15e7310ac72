-- Memory, a list of bytes by their offsets.
use Rattle.std.specs.Prelude.{ℕ, ◌+◌, List, ◌++◌, length, take, drop}
use Rattle.byteorder.specs.Endian.{little_number, little_bytes}

-- The bytes from an offset on, so many of them, as one number: the lowest byte stands first.
abbrev pub number_at : (bytes : List ℕ) → (offset size : ℕ) → ℕ
number_at bytes offset size = little_number size (drop offset bytes)

-- Other bytes are written from an offset on.
abbrev pub with_bytes : (bytes : List ℕ) → (offset : ℕ) → (others : List ℕ) → List ℕ
with_bytes bytes offset others = take offset bytes ++ others ++ drop (offset + length others) bytes

-- A number is written from an offset on, in so many bytes, the lowest one first.
abbrev pub with_number : (bytes : List ℕ) → (offset size value : ℕ) → List ℕ
with_number bytes offset size value = with_bytes bytes offset (little_bytes size value)
