-- What a file tree keeps of its map, and what lies in a folder.
use Rattle.std.specs.Prelude.{◌≡◌, ◌≢◌, ℕ, Some, None, IsSome, IsTrue, List, [], ◌∷◌, ◌++◌, filter}
use Rattle.std.specs.FinMap.{find, is_sorted}
use Rattle.std.specs.Ordering.{is_le}
use Rattle.hv_files.specs.FileMap.{Path, FileMap, Folder, path_cmp, node_at}

-- the paths rise, the root has no entry, and each front of a path with an entry is a folder
pub record IsTree (m : FileMap) : Type 0 where
  pub sorted : IsTrue (is_sorted path_cmp m)
  pub rooted : find path_cmp [] m ≡ None
  pub closed : (front : Path) (name : List ℕ) (rest : Path) → IsSome (find path_cmp (front ++ name ∷ rest) m) → node_at m front ≡ Some Folder

-- the entries from a path on
abbrev pub from_on : Path → FileMap → FileMap
from_on cursor m = filter (λ e. is_le (path_cmp cursor e.0)) m

-- the path is that of an entry directly in the folder
abbrev pub IsIn : Path → Path → Type 0
IsIn folder path = (name : List ℕ) × (path ≡ folder ++ name ∷ [])

-- the path begins with the folder and this name
abbrev pub GoesThrough : Path → List ℕ → Path → Type 0
GoesThrough folder name path = (rest : Path) × (path ≡ folder ++ name ∷ rest)

-- a node may be put at the path: each front of it is a folder, and it is none itself
pub record IsOpen (m : FileMap) (path : Path) : Type 0 where
  pub fronts : (front : Path) (name : List ℕ) (rest : Path) → path ≡ front ++ name ∷ rest → node_at m front ≡ Some Folder
  pub no_folder : node_at m path ≢ Some Folder

-- nothing lies below the path
abbrev pub IsLeaf : FileMap → Path → Type 0
IsLeaf m path = (name : List ℕ) (rest : Path) → IsSome (find path_cmp (path ++ name ∷ rest) m) → ⊥
