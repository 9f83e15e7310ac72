-- Values that are held at places.
use Rattle.std.specs.Prelude.{ℕ, ◌<◌, ◌==◌, if◌then◌else◌, List, [], ◌∷◌, Option, Some, None}
use Rattle.std.specs.List.{AllByRecursion}

-- Each place is below those behind it.
abbrev pub IsRising : List ℕ → Type 0
IsRising [] = Unit {0}
IsRising (place ∷ places) = AllByRecursion (λ later. place < later) places × IsRising places

-- What is held at a place, where the values stand in the order of their places.
abbrev pub held_at : {T : Type 0} → List ℕ → List T → ℕ → Option T
held_at [] values k = None
held_at (place ∷ places) [] k = None
held_at (place ∷ places) (value ∷ values) k = if place == k then Some value else held_at places values k
