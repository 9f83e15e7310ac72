-- What holds of each board that is given.
use Rattle.std.specs.Prelude.{◌≡◌, ℕ, List, Result, Ok, Err}
use Rattle.std.specs.List.{AllByRecursion, AllZip}
use Rattle.hv_region.specs.declared.fault.Fault.{Fault}
use Rattle.hv_region.specs.declared.plan.GuestPlan.{GuestPlan}
use Rattle.hv_plan.specs.Rules.{IsGood, KeepsHostRules}
use Rattle.hv_host.specs.declared.board.Board.{Board}

-- a plan has the name of its guest
abbrev pub HasName : (name : List ℕ) → Result GuestPlan Fault → Type 0
HasName name (Ok plan) = plan.name ≡ name
HasName name (Err fault) = Unit {0}

-- the host's settings keep their rules, each guest has its plan or its fault, and the plans keep theirs
pub record KeepsBoardRules (board : Board) : Type 0 where
  pub host : KeepsHostRules board.host
  pub named : AllZip HasName board.host.guests.items board.plans.items
  pub plans : AllByRecursion (IsGood board.host.areas.items) board.plans.items
