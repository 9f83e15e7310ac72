-- The files that are made of a number.
use Rattle.std.specs.Prelude.{ℕ, ◌+◌, ◌%◌, List, [], ◌∷◌, codes}
use Rattle.hv_bundle.specs.declared.file.File.{File}
use Rattle.hv_gen.specs.Host.{host_text}
use Rattle.hv_gen.specs.Program.{program_text}
use Rattle.hv_gen.specs.Boot.{boot_text}

-- a file of this name, in no folder
abbrev pub file_named : List ℕ → List ℕ → File
file_named name bytes = record { path = name ∷ []; bytes = bytes }

-- how many guests there are
abbrev pub guests_of : ℕ → ℕ
guests_of number = 1 + number % 8

-- how many numbers the program adds
abbrev pub additions_of : ℕ → ℕ
additions_of number = 100 + number % 1000

-- the host tree, the program and the boot script
unfoldable pub generated_files : ℕ → List File
generated_files number =
    file_named (codes "host.dts") (host_text (guests_of number)) ∷
    file_named (codes "p.s") (program_text number (additions_of number)) ∷
    file_named (codes "boot.xscript") (boot_text (guests_of number)) ∷ []
