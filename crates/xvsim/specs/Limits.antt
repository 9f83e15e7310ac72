-- How much a bundle may have.
use Rattle.std.specs.Prelude.{◌≡◌, ℕ, ◌<◌, ◌≤◌, max, List, [], ◌∷◌, length, map, Err}
use Rattle.hv_kinds.specs.declared.limit.LimitName.{LimitName}
use Rattle.hv_text.specs.declared.limits.TheConstants.{MOST_LINES}
use Rattle.xvsim.specs.declared.limits.TheConstants.{MOST_BYTES, MOST_FILES, MOST_NAMES}
use Rattle.hv_kinds.specs.declared.limit.LimitName.TheVariants as limit
use Rattle.hv_bundle.specs.declared.file.File.{File}
use Rattle.hv_bundle.specs.Bundle.{IsBundle}
use Rattle.hv_host.specs.declared.board.Board.{Board}
use Rattle.hv_host.specs.declared.refusal.BoardRefusal.TheVariants as board
use Rattle.hv_host.specs.Boards.{Says}
use Rattle.hv_model.specs.Origin.{terminals}
use Rattle.hv_model.specs.Files.{load_files}
use Rattle.hv_model.specs.Legal.{lines_among}
use Rattle.xvsim.specs.Opening.{scripts_of, host_text, HaveBoard}

-- the greatest of some numbers, and 0 of none
abbrev pub greatest : List ℕ → ℕ
greatest [] = 0
greatest (n ∷ ns) = max n (greatest ns)

-- how many names the longest path has
abbrev pub depth_of : List File → ℕ
depth_of files = greatest (map (λ (f : File). length f.path) files)

-- how many lines the scripts of a terminal have at the start
unfoldable pub lines_of : List File → ℕ → ℕ
lines_of files t = lines_among (scripts_of (load_files files)) t

-- how many lines the terminal with the most of them has at the start
abbrev pub greatest_lines : List File → ℕ
greatest_lines files = greatest (map (lines_of files) terminals)

-- the files pass no limit
pub record AreWithinLimits (files : List File) : Type 0 where
  pub few : length files ≤ MOST_FILES
  pub shallow : depth_of files ≤ MOST_NAMES
  pub short : greatest_lines files ≤ MOST_LINES

-- of the limits that the files pass by themselves, this is the first one, with the number that passes it
abbrev pub PassesOwnLimit : List File → LimitName → ℕ → Type 0
PassesOwnLimit files limit.Files number = (number ≡ length files) × (MOST_FILES < number)
PassesOwnLimit files limit.Depth number = (length files ≤ MOST_FILES) × (number ≡ depth_of files) × (MOST_NAMES < number)
PassesOwnLimit files limit.Lines number =
    (length files ≤ MOST_FILES) × (depth_of files ≤ MOST_NAMES) × (number ≡ greatest_lines files) × (MOST_LINES < number)
PassesOwnLimit files _ number = ⊥

-- the same, and where they pass none, of those that their host tree passes
pub data PassesLimit (files : List File) (name : LimitName) (number : ℕ) : Type 0 where
  own : PassesOwnLimit files name number → PassesLimit files name number
  host : AreWithinLimits files → Says (host_text files) (Err (board.Limit name number)) → PassesLimit files name number

-- the bytes are few enough, and the bundle of these files
pub record IsInput (bytes : List ℕ) (files : List File) : Type 0 where
  pub size : length bytes ≤ MOST_BYTES
  pub bundle : IsBundle bytes files

-- the files are within the limits, and have a board
pub record AreGood (files : List File) : Type 0 where
  pub within : AreWithinLimits files
  pub board : Board
  pub says : HaveBoard files board
