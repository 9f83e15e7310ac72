-- Openings that are good: what is asked of the harts, the areas and the guests that a run begins with.
use Rattle.std.specs.Prelude.{ℕ, ◌≤◌, List, All, length, Option, Ok, Err}
use Rattle.std.specs.List.{AllByRecursion}
use Rattle.hv_host.specs.Boards.{Says}
use Rattle.hv_host.specs.declared.board.Board.{Board}
use Rattle.hv_model.specs.Origin.{Origin}
use Rattle.hv_model.specs.Plans.{Planned}
use Rattle.hv_plan.specs.Rules.{IsAreaSize, KeepsRules}
use Rattle.hv_region.specs.declared.plan.GuestPlan.{GuestPlan}
use Rattle.hv_terminals.specs.Terminal.{HaveOtherParents}
use Rattle.hv_text.specs.declared.limits.TheConstants.{HARTS, MOST_AREAS}

-- The plan of a guest is good: it keeps the rules, and the interrupts of its regions go to others among them.
pub record IsPlanGood (areas : List (List ℕ × ℕ)) (plan : GuestPlan) : Type 0 where
  pub rules : KeepsRules areas plan
  pub parents : HaveOtherParents 0 plan.regions.items

-- A guest that has a plan has a good one.
abbrev pub IsGuestGood : (areas : List (List ℕ × ℕ)) → Planned → Type 0
IsGuestGood areas (Ok plan) = IsPlanGood areas plan
IsGuestGood areas (Err fault) = Unit {0}

-- Harts, areas and guests are good: there are harts and no more than a board may have, no more areas than it may have, each
-- of which has bytes and no more than memory may have, and the guests are good.
pub record AreGood (harts : ℕ) (areas : List (List ℕ × ℕ)) (plans : List Planned) : Type 0 where
  pub some_harts : 1 ≤ harts
  pub few_harts : harts ≤ HARTS
  pub few_areas : length areas ≤ MOST_AREAS
  pub sizes : All (λ area. IsAreaSize area.1) areas
  pub guests : AllByRecursion (IsGuestGood areas) plans

abbrev pub IsOpeningGood : Origin → Type 0
IsOpeningGood O = AreGood O.opening.harts O.opening.areas O.opening.plans

-- Those of a board are that a host tree says, or that none says.
abbrev pub HostTreesAreGood : Type 0
HostTreesAreGood =
    (text : Option (List ℕ)) (board : Board) → Says text (Ok board)
    → AreGood board.host.harts board.host.areas.items board.plans.items
