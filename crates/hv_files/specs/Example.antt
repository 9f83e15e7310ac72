-- A map with one file at the root and one in a folder.
use Rattle.std.specs.Prelude.{[], ◌∷◌, codes}
use Rattle.hv_files.specs.FileMap.{Path, FileMap, Folder, Holds, load_files}

abbrev pub hello : Path
hello = codes "hello" ∷ []

abbrev pub d : Path
d = codes "d" ∷ []

abbrev pub d_x : Path
d_x = codes "d" ∷ codes "x" ∷ []

-- /hello holds "hi", and /d/x holds nothing
abbrev pub files : FileMap
files = load_files ((hello, codes "hi") ∷ (d_x, []) ∷ [])

-- the same, entry by entry
abbrev pub entries : FileMap
entries = (d, Folder) ∷ (d_x, Holds []) ∷ (hello, Holds (codes "hi")) ∷ []
