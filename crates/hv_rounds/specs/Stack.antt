-- A list seen from its end.
use Rattle.std.specs.Prelude.{List, [], ◌∷◌, ◌++◌}

-- the elements of a list, the last one first
abbrev pub reversed : {A : Type 0} → List A → List A
reversed [] = []
reversed (x ∷ xs) = reversed xs ++ x ∷ []
