-- What a run of a bundle begins with.
use Rattle.std.specs.Prelude.{◌≡◌, ℕ, List, [], ◌∷◌, Result, Ok, Err, Option, Some, None, codes}
use Rattle.hv_bundle.specs.declared.file.File.{File}
use Rattle.hv_bundle.specs.Bundle.{IsBundle}
use Rattle.hv_files.specs.FileMap.{Path, FileMap, read_file}
use Rattle.hv_files.specs.declared.refusal.FileRefusal.{FileRefusal}
use Rattle.hv_host.specs.Boards.{Says}
use Rattle.hv_host.specs.declared.board.Board.{Board}
use Rattle.hv_model.specs.declared.opening.Opening.{Opening}
use Rattle.hv_model.specs.Files.{load_files}

-- a file's bytes, or nothing where there is no such file
abbrev pub bytes_or_none : Result (List ℕ) FileRefusal → List ℕ
bytes_or_none (Ok bytes) = bytes
bytes_or_none (Err why) = []

-- a script is the file of this name in the root, and empty where there is none
unfoldable pub script_of : FileMap → List ℕ → List ℕ
script_of m name = bytes_or_none (read_file m (name ∷ []))

-- the boot script, and then the scripts of the terminals by number
abbrev pub scripts_of : FileMap → List (List ℕ)
scripts_of m =
    script_of m (codes "boot.xscript")
    ∷ script_of m (codes "term0.xscript")
    ∷ script_of m (codes "term1.xscript")
    ∷ script_of m (codes "term2.xscript")
    ∷ script_of m (codes "term3.xscript")
    ∷ []

-- a file's bytes, where it is there
abbrev pub found : Result (List ℕ) FileRefusal → Option (List ℕ)
found (Ok bytes) = Some bytes
found (Err why) = None

-- the path of the host tree, and its text, where it is there
abbrev pub host_path : Path
host_path = codes "host.dts" ∷ []

abbrev pub host_text : List File → Option (List ℕ)
host_text files = found (read_file (load_files files) host_path)

-- the host tree of these files, or that there is none, says this board
abbrev pub HaveBoard : List File → Board → Type 0
HaveBoard files board = Says (host_text files) (Ok board)

-- an opening has the harts, the areas and the plans of a board
pub record IsOnBoard (o : Opening) (board : Board) : Type 0 where
  pub harts : o.harts ≡ board.host.harts
  pub areas : o.areas ≡ board.host.areas.items
  pub plans : o.plans ≡ board.plans.items

-- a run of these files begins with no turns, the files, the scripts among them, and what the board has
pub record IsOpeningOf (files : List File) (o : Opening) : Type 0 where
  pub files_are : o.files ≡ files
  pub turns : o.turns ≡ 0
  pub scripts : o.scripts ≡ scripts_of (load_files files)
  pub board : Board
  pub says : HaveBoard files board
  pub on_board : IsOnBoard o board

-- the bytes are a bundle, and this is what a run of its files begins with
pub record IsOpening (bytes : List ℕ) (o : Opening) : Type 0 where
  pub bundle : IsBundle bytes o.files
  pub start : IsOpeningOf o.files o
