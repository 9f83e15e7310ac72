-- The program of the generated guests.
use Rattle.std.specs.Prelude.{ℕ, List, ◌++◌, ◌%◌, codes}
use Rattle.std.specs.Fmt.{decimal}
use Rattle.std.specs.List.{flat_map, range_with_len}
use Rattle.hv_gen.specs.Line.{line}
use Rattle.hv_gen.specs.Numbers.{number_at}

-- the line that adds what is left of a number by 2048, the bound of a positive immediate
abbrev pub addition_line : ℕ → List ℕ
addition_line number = line (codes "addi x5, x5, " ++ decimal (number % 2048))

-- the line that adds the number so many places behind the first
abbrev pub addition_at : ℕ → ℕ → List ℕ
addition_at first place = addition_line (number_at first place)

-- the lines that send a `G` to the serial port, and wait
abbrev pub print_lines : List ℕ
print_lines =
    line (codes "lui x6, 0x10000") ++ line (codes "addi x7, x0, 71") ++
    line (codes "sb x7, 0(x6)") ++ line (codes "wfi")

-- the source of a program that adds so many numbers behind the first, and then prints
unfoldable pub program_text : ℕ → ℕ → List ℕ
program_text first count = flat_map (addition_at first) (range_with_len 1 count) ++ print_lines
