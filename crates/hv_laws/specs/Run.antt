-- Runs of a board, step by step from its start.
use Rattle.std.specs.Prelude.{◌≡◌, ℕ, suc, List, [], ◌∷◌, None}
use Rattle.hv_kinds.specs.declared.state.State.TheVariants as state
use Rattle.hv_vcpu.specs.Vcpu.{unknown}
use Rattle.hv_laws.specs.Board.{Board, Made, IsStep, board_after}

-- A board at its start: no queue has an entry, the orphan VCPU is in reset and no other is there, no hart runs a VCPU,
-- waits for an access or owes a step, and each knows how many there are.
pub record IsStart (count : ℕ) (board : Board) : Type 0 where
  pub queues : (g : ℕ) → board.queues g ≡ []
  pub orphan : (board.vcpus 0).state ≡ state.Reset
  pub others : (v : ℕ) → board.vcpus (suc v) ≡ unknown
  pub free : (h : ℕ) → (board.harts h).current ≡ None
  pub nothing_pending : (h : ℕ) → (board.harts h).pending ≡ None
  pub nothing_owed : (h : ℕ) → (board.harts h).owed ≡ []
  pub known : (h : ℕ) → (board.harts h).harts ≡ count

-- Steps that lead from one board to another.
abbrev pub IsRun : (count : ℕ) → (from : Board) → List Made → (to : Board) → Type 0
IsRun count from [] to = to ≡ from
IsRun count from (made ∷ later) to = (next : Board) × IsStep count from next made × IsRun count next later to

-- The board that steps lead to.
abbrev pub board_at : (count : ℕ) → (from : Board) → List Made → Board
board_at count from [] = from
board_at count from (made ∷ later) = board_at count (board_after count from made) later

-- A board that steps lead to from a start.
pub record IsReached (count : ℕ) (board : Board) : Type 0 where
  pub start : Board
  pub steps : List Made
  pub begins : IsStart count start
  pub leads : IsRun count start steps board
