-- Where the command lines of a script begin.
use Rattle.std.specs.Prelude.{◌≡◌, ℕ, ◌≤◌, false, List, ◌∷◌, length, drop}
use Rattle.hv_text.specs.Lines.{script_lines}
use Rattle.hv_words.specs.Words.{is_skipped}

-- a command line begins at an offset of a script, or the script ends there
pub record IsCommandOffset (script : List ℕ) (offset : ℕ) : Type 0 where
  pub within : offset ≤ length script
  pub first : (line : List ℕ) (more : List (List ℕ)) → script_lines (drop offset script) ≡ line ∷ more → is_skipped line ≡ false
