-- Numbers and strings of device tree source.
use Rattle.std.specs.Prelude.{ℕ, zero, suc, ◌+◌, ◌^◌, List, [], ◌∷◌, length, drop, take, ◌&&◌, ◌==◌, nat_eq, nat_lt, if◌then◌else◌, Option, Some, None, codes}
use Rattle.std.specs.Char.{is_digit}
use Rattle.std.specs.Option.{option_map, option_and_then, option_map_or}
use Rattle.std.specs.List.{take_while, starts_with}
use Rattle.std.specs.Str.Parse.{digits_value}
use Rattle.hv_text.specs.Number.{digits_front}

-- the digits of a radix in front, of which at most so many are taken
abbrev pub front_digits : ℕ → ℕ → List ℕ → List ℕ
front_digits radix most text = take_while (λ c. is_digit c radix) (take most text)

-- the value of one or more digits, where a cell of 32 bits holds it
unfoldable pub cell_of : ℕ → List ℕ → Option ℕ
cell_of radix digits =
    if nat_lt 0 (length digits) && ((digits_front radix digits == length digits) && nat_lt (digits_value radix digits) (2 ^ 32))
    then Some (digits_value radix digits) else None

-- the value of a number: hexadecimal behind `0x`, octal behind another `0`, decimal else
unfoldable pub value_of_number : List ℕ → Option ℕ
value_of_number text =
    if starts_with nat_eq text (codes "0x") then cell_of 16 (drop 2 text)
    else (if starts_with nat_eq text (codes "0") then cell_of 8 text else cell_of 10 text)

-- the byte that an escaped letter stands for
abbrev pub escaped : ℕ → ℕ
escaped letter =
    if letter == 97 then 7 else (if letter == 98 then 8 else (if letter == 116 then 9 else (if letter == 110 then 10
    else (if letter == 118 then 11 else (if letter == 102 then 12 else (if letter == 114 then 13 else letter))))))

-- the byte that digits spell behind so many bytes of an escape, and how long the escape is
unfoldable pub digits_escape : ℕ → ℕ → List ℕ → Option (ℕ × ℕ)
digits_escape before radix digits =
    if nat_lt 0 (length digits) && nat_lt (digits_value radix digits) 256
    then Some (digits_value radix digits, before + length digits) else None

-- what a backslash and these bytes stand for, and how long that escape is
unfoldable pub escape : List ℕ → Option (ℕ × ℕ)
escape [] = None
escape (b ∷ rest) =
    if is_digit b 8 then digits_escape 1 8 (front_digits 8 3 (b ∷ rest))
    else (if b == 120 then digits_escape 2 16 (front_digits 16 2 rest) else Some (escaped b, 2))

-- the byte that the first piece of a string stands for, and how long the piece is
unfoldable pub piece : List ℕ → Option (ℕ × ℕ)
piece [] = None
piece (b ∷ rest) = if b == 92 then escape rest else Some (b, 1)

-- how long pieces and the quote behind them are, where there are fewer pieces than so many
abbrev pub closed_len : ℕ → List ℕ → Option ℕ
closed_len zero text = None
closed_len (suc count) text =
    if starts_with nat_eq text (codes "\"") then Some 1
    else option_and_then (λ p. option_map (λ len. p.1 + len) (closed_len count (drop p.1 text))) (piece text)

-- how long a string is behind its first quote, where it has an end: it has no more pieces than bytes
abbrev pub string_len : List ℕ → Option ℕ
string_len text = closed_len (suc (length text)) text

-- the bytes that pieces spell up to a quote, where there are fewer pieces than so many
abbrev pub spelled : ℕ → List ℕ → List ℕ
spelled zero text = []
spelled (suc count) text =
    if starts_with nat_eq text (codes "\"") then []
    else option_map_or (λ p. p.0 ∷ spelled count (drop p.1 text)) (piece text) []

-- the bytes that a string spells, of which this text stands behind its first quote
abbrev pub string_bytes : List ℕ → List ℕ
string_bytes text = spelled (suc (length text)) text
