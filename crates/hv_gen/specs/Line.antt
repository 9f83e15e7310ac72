-- A line of a text.
use Rattle.std.specs.Prelude.{ℕ, List, [], ◌∷◌, ◌++◌}

-- a text with a line feed behind it
abbrev pub line : List ℕ → List ℕ
line text = text ++ 10 ∷ []
