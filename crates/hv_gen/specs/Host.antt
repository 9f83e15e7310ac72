-- The host tree of the generated guests.
use Rattle.std.specs.Prelude.{ℕ, List, ◌++◌, codes}
use Rattle.std.specs.Fmt.{decimal}
use Rattle.std.specs.List.{flat_map, range_with_len}
use Rattle.hv_gen.specs.Line.{line}

-- two VCPUs that begin at the RAM's first address
unfoldable pub vcpus_text : List ℕ
vcpus_text = codes "vcpus { v0 { start_pc = <0x80000000>; }; v1 { start_pc = <0x80000000>; }; };"

-- a RAM of 64 KiB
unfoldable pub ram_text : List ℕ
ram_text =
    codes "ram { manifest_type = \"virtual\"; address_type = \"memory\"; " ++
    codes "guest_physical_addr = <0x80000000>; physical_size = <0x10000>; device_type = \"ram\"; };"

-- a serial port
unfoldable pub serial_port_text : List ℕ
serial_port_text =
    codes "uart { manifest_type = \"virtual\"; address_type = \"memory\"; " ++
    codes "guest_physical_addr = <0x10000000>; physical_size = <8>; compatible = \"ns16550\"; };"

-- the line of a guest, whose name has its number
abbrev pub guest_line : ℕ → List ℕ
guest_line guest =
    line
    (codes "g" ++ decimal guest ++ codes " { " ++ vcpus_text ++
    codes " aspace { " ++ ram_text ++ codes " " ++ serial_port_text ++ codes " }; };")

-- the source of the host tree with so many guests
unfoldable pub host_text : ℕ → List ℕ
host_text guests =
    line (codes "/dts-v1/;") ++ line (codes "/ {") ++ line (codes "guests {") ++
    flat_map guest_line (range_with_len 0 guests) ++ line (codes "};") ++ line (codes "};")
