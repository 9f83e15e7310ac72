-- How parts leave their cells for an event, and come back.
use Rattle.std.specs.Prelude.{◌≡◌, ℕ, List, slice_index_or, Option, Some, None, IsSome, unwrap_or}
use Rattle.hv_parts.specs.declared.part.Part.{Part}
use Rattle.hv_board.specs.Done.{AreDone}
use Rattle.hv_board.specs.Held.{held_at}
use Rattle.hv_board.specs.declared.cell.Cell.{Cell}

module _ {E : Type 0} where
  -- A cell that has nothing.
  abbrev pub empty : Cell E
  empty = record { part = None; stamp = 0 }

  -- A cell that its part has left.
  abbrev pub out_of : Cell E → Option (Part E) → Cell E
  out_of cell None = cell
  out_of cell (Some part) = record cell { part = None }

  -- A cell that a part was put into, with a new stamp where there is one.
  abbrev pub put_into : (stamp : Option ℕ) → Cell E → Option (Part E) → Cell E
  put_into stamp cell None = cell
  put_into stamp cell (Some part) = record { part = Some part; stamp = unwrap_or stamp cell.stamp }

  -- Parts have left the cells at these places.
  abbrev pub AreOut : (places : List ℕ) → List (Part E) → (old new : List (Cell E)) → Type 0
  AreOut places parts old new = AreDone out_of places parts old new

  -- Parts were put into the cells at these places.
  abbrev pub ArePut : (stamp : Option ℕ) → (places : List ℕ) → List (Part E) → (old new : List (Cell E)) → Type 0
  ArePut stamp places parts old new = AreDone (put_into stamp) places parts old new

  -- Parts are those of the cells at these places.
  abbrev pub AreFrom : (places : List ℕ) → List (Part E) → List (Cell E) → Type 0
  AreFrom places parts cells =
      (k : ℕ) (d : Cell E) (part : Part E)
      → held_at places parts k ≡ Some part → (slice_index_or cells k d).part ≡ Some part

  -- The cell at a place has its part.
  abbrev pub IsFullAt : List (Cell E) → ℕ → Type 0
  IsFullAt cells k = IsSome (slice_index_or cells k empty).part

  -- The stamp of the cell at a place.
  abbrev pub stamp_in : List (Cell E) → ℕ → ℕ
  stamp_in cells k = (slice_index_or cells k empty).stamp
