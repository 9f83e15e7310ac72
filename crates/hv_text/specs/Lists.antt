-- Lists that change at an end.
use Rattle.std.specs.Prelude.{◌≡◌, List, ◌∷◌}

-- an item takes the place of the first one
pub record SwapsFirst {T : Type 0} (old : List T) (item first : T) (new : List T) : Type 0 where
  pub rest : List T
  pub was : old ≡ first ∷ rest
  pub is : new ≡ item ∷ rest
