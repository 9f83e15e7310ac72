-- Numbers as text.
use Rattle.std.specs.Prelude.{ℕ, ◌+◌, ◌-◌, ◌^◌, List, [], ◌∷◌, ◌++◌, length, drop, replicate, false, ◌&&◌, ◌==◌, nat_eq, nat_lt, if◌then◌else◌, Result, Ok, Err}
use Rattle.std.specs.Char.{is_digit}
use Rattle.std.specs.List.{prefix_len, starts_with}
use Rattle.std.specs.Str.Parse.{digits_value}
use Rattle.std.specs.Fmt.{digits}
use Rattle.hv_text.specs.declared.number.NumberRefusal.{NumberRefusal}
use Rattle.hv_text.specs.declared.number.NumberRefusal.TheVariants.{NotANumber, TooLarge}

-- how many digits of the radix the text begins with
abbrev pub digits_front : ℕ → List ℕ → ℕ
digits_front radix ds = prefix_len (λ c. is_digit c radix) ds

-- the value of one or more digits that begin at an offset, or that it passes 64 bits,
-- or else the offset of the first byte that is no digit, which may be the end
abbrev pub number_in : ℕ → ℕ → List ℕ → Result ℕ NumberRefusal
number_in radix start ds =
    let len = digits_front radix ds in
    if (len == length ds) && nat_lt 0 len
    then (if nat_lt (digits_value radix ds) (2 ^ 64) then Ok (digits_value radix ds) else Err TooLarge)
    else Err (NotANumber (start + len))

-- decimal digits, or `0x` and hexadecimal digits of either case
abbrev pub number_of : List ℕ → Result ℕ NumberRefusal
number_of text = if starts_with nat_eq text (48 ∷ 120 ∷ []) then number_in 16 2 (drop 2 text) else number_in 10 0 text

-- hexadecimal digits in lower case, with zeros before them up to this width
abbrev pub padded_hex : ℕ → ℕ → List ℕ
padded_hex value width = replicate (width - length (digits 16 false value)) 48 ++ digits 16 false value
