-- The lines of a script.
use Rattle.std.specs.Prelude.{◌≡◌, ℕ, ◌<◌, ◌≤◌, ◌==◌, List, ◌∷◌, length, drop, slice_range}
use Rattle.std.specs.List.{after_first}
use Rattle.std.specs.Str.Lines.{lines}

-- The lines of a script: a text is cut behind each line feed. Of each piece the line feed and one carriage return
-- before it are left out. What stands behind the last line feed is a line too, and keeps its carriage return, unless it
-- is empty.
abbrev pub script_lines : List ℕ → List (List ℕ)
script_lines text = lines text

-- what follows the first line feed, or nothing where there is none
abbrev pub after_line_feed : List ℕ → List ℕ
after_line_feed text = after_first (λ b. b == 10) text

-- a line's start, its end, and the start of the next line
pub record IsLineAt (text : List ℕ) (from start end next : ℕ) : Type 0 where
  pub starts : start ≡ from
  pub ordered : start ≤ end
  pub ends : end ≤ next
  pub advances : start < next
  pub within : next ≤ length text
  pub next_line : drop next text ≡ after_line_feed (drop from text)
  pub lines : script_lines (drop from text) ≡ slice_range text start end ∷ script_lines (drop next text)
