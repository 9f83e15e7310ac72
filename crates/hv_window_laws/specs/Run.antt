-- Runs of the guests of a board, step by step from the start.
use Rattle.std.specs.Prelude.{◌≡◌, ℕ, List, [], ◌∷◌, None}
use Rattle.hv_dir.specs.Directory.{no_guests}
use Rattle.hv_space.specs.Space.{no_windows}
use Rattle.hv_laws.specs.Board.{Made}
use Rattle.hv_window_laws.specs.Guests.{Guests, IsStep}

-- At the start there is no guest, no window and no region.
pub record IsStart (guests : Guests) : Type 0 where
  pub dir : guests.dir ≡ no_guests
  pub spaces : (slot : ℕ) → guests.spaces slot ≡ no_windows
  pub bodies : (slot row : ℕ) → guests.bodies slot row ≡ None

-- Steps that lead from some guests to others.
abbrev pub IsRun : (count : ℕ) → (from : Guests) → List Made → (to : Guests) → Type 0
IsRun count from [] to = to ≡ from
IsRun count from (made ∷ later) to = (next : Guests) × IsStep count from next made × IsRun count next later to

-- Guests that steps lead to from a start.
pub record IsReached (count : ℕ) (guests : Guests) : Type 0 where
  pub start : Guests
  pub steps : List Made
  pub begins : IsStart start
  pub leads : IsRun count start steps guests
