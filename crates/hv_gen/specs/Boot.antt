-- The boot script of the generated guests.
use Rattle.std.specs.Prelude.{ℕ, List, ◌++◌, codes}
use Rattle.std.specs.Fmt.{decimal}
use Rattle.std.specs.List.{flat_map, range_with_len}
use Rattle.hv_gen.specs.Line.{line}

-- the line that makes a guest
unfoldable pub create_line : ℕ → List ℕ
create_line guest = line (codes "guest create g" ++ decimal guest)

-- the line that loads the program where its VCPUs begin
unfoldable pub load_line : ℕ → List ℕ
load_line guest = line (codes "vfs guest_load g" ++ decimal guest ++ codes " /p.bin 0x80000000")

-- the line that makes its VCPUs ready
unfoldable pub kick_line : ℕ → List ℕ
kick_line guest = line (codes "guest kick g" ++ decimal guest)

-- the lines that start a guest
abbrev pub start_lines : ℕ → List ℕ
start_lines guest = create_line guest ++ load_line guest ++ kick_line guest

-- the script: it assembles the program, starts each guest, and starts the VCPU that no guest has
unfoldable pub boot_text : ℕ → List ℕ
boot_text guests =
    line (codes "vfs asm /p.s /p.bin") ++ flat_map start_lines (range_with_len 0 guests) ++ line (codes "vcpu kick 0")
