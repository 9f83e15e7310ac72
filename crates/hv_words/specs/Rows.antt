-- The rows by their names.
use Rattle.std.specs.Prelude.{◌≡◌, ℕ, nat_eq, Bool, if◌then◌else◌, List, [], ◌∷◌, codes, Option, Some, None}
use Rattle.std.specs.Cmp.Lexicographic.{pointwise}
use Rattle.hv_words.specs.Commands.{Row, AnyPath, NamedPath, SomeText, RestCount}
use Rattle.hv_words.specs.declared.row.RowName.{RowName}
use Rattle.hv_words.specs.declared.row.RowName.TheVariants.{VfsLs, VfsCat, VfsDts, VfsMkdir, VfsRm, VfsWrite, VfsAsm, VfsRun, TermRest}

-- the row of a name
abbrev pub row_named : RowName → Row
row_named VfsLs = record { family = codes "vfs"; name = codes "ls"; kinds = AnyPath ∷ [] }
row_named VfsCat = record { family = codes "vfs"; name = codes "cat"; kinds = AnyPath ∷ [] }
row_named VfsDts = record { family = codes "vfs"; name = codes "dts"; kinds = AnyPath ∷ [] }
row_named VfsMkdir = record { family = codes "vfs"; name = codes "mkdir"; kinds = NamedPath ∷ [] }
row_named VfsRm = record { family = codes "vfs"; name = codes "rm"; kinds = NamedPath ∷ [] }
row_named VfsWrite = record { family = codes "vfs"; name = codes "write"; kinds = NamedPath ∷ SomeText ∷ [] }
row_named VfsAsm = record { family = codes "vfs"; name = codes "asm"; kinds = AnyPath ∷ NamedPath ∷ [] }
row_named VfsRun = record { family = codes "vfs"; name = codes "run"; kinds = AnyPath ∷ [] }
row_named TermRest = record { family = codes "term"; name = codes "rest"; kinds = RestCount ∷ [] }

-- a row has these first two words
pub record HasWords (row : RowName) (family name : List ℕ) : Type 0 where
  pub family_is : family ≡ (row_named row).family
  pub name_is : name ≡ (row_named row).name

-- whether a word is another
abbrev pub is_word : List ℕ → List ℕ → Bool
is_word word other = pointwise nat_eq word other

-- the row of files with a name
abbrev pub file_row : List ℕ → Option RowName
file_row name =
    if is_word name (codes "ls") then Some VfsLs else (
    if is_word name (codes "cat") then Some VfsCat else (
    if is_word name (codes "dts") then Some VfsDts else (
    if is_word name (codes "mkdir") then Some VfsMkdir else (
    if is_word name (codes "rm") then Some VfsRm else (
    if is_word name (codes "write") then Some VfsWrite else (
    if is_word name (codes "asm") then Some VfsAsm else (
    if is_word name (codes "run") then Some VfsRun else None)))))))

-- the row of terminals with a name
abbrev pub rest_row : List ℕ → Option RowName
rest_row name = if is_word name (codes "rest") then Some TermRest else None

-- the row with these first two words
abbrev pub row_with : List ℕ → List ℕ → Option RowName
row_with family name =
    if is_word family (codes "vfs") then file_row name else (
    if is_word family (codes "term") then rest_row name else None)
