-- What a host tree says of the host and its guests.
use Rattle.std.specs.Prelude.{◌≡◌, ℕ, List, [], ◌∷◌, Option, Some, None, Result, Ok, Err}
use Rattle.hv_dtree.specs.declared.node.Node.{Node}
use Rattle.hv_dts.specs.Reading.{IsSourceOf, IsRefusedAt}
use Rattle.hv_region.specs.declared.plan.GuestPlan.{GuestPlan}
use Rattle.hv_plan.specs.Properties.{first_of}
use Rattle.hv_plan.specs.Settings.{IsHost, limits_passed, host_faults}
use Rattle.hv_plan.specs.Guests.{IsPlan, faults_of, guest_node}
use Rattle.hv_host.specs.declared.board.Board.{Board}
use Rattle.hv_region.specs.declared.fault.Fault.{Fault}
use Rattle.hv_host.specs.declared.refusal.BoardRefusal.{BoardRefusal}
use Rattle.hv_host.specs.declared.refusal.BoardRefusal.TheVariants.{BadTree, Limit, BadHost, Memory}

-- a guest's node has this plan, or this is the first fault there
abbrev pub IsPlanned : List (List ℕ × ℕ) → Option Node → Result GuestPlan Fault → Type 0
IsPlanned areas (Some guest) (Ok plan) = (faults_of areas guest ≡ []) × IsPlan areas guest plan
IsPlanned areas (Some guest) (Err fault) = first_of (faults_of areas guest) ≡ Some (fault.path, fault.cause)
IsPlanned areas None plan = ⊥

-- the guests of these names have these plans
abbrev pub ArePlanned : List (List ℕ × ℕ) → Node → List (List ℕ) → List (Result GuestPlan Fault) → Type 0
ArePlanned areas root [] [] = Unit {0}
ArePlanned areas root (name ∷ names) (plan ∷ plans) = IsPlanned areas (guest_node root name) plan × ArePlanned areas root names plans
ArePlanned areas root names plans = ⊥

-- the board that a tree says
pub record IsBoardOf (root : Node) (board : Board) : Type 0 where
  pub host : IsHost root board.host
  pub plans : ArePlanned board.host.areas.items root board.host.guests.items board.plans.items

-- the board without a tree: two harts, a thousand turns, no areas and no guests
pub record IsBare (board : Board) : Type 0 where
  pub harts : board.host.harts ≡ 2
  pub turns : board.host.turns ≡ 1000
  pub areas : board.host.areas.items ≡ []
  pub guests : board.host.guests.items ≡ []
  pub plans : board.plans.items ≡ []

-- a tree passes no limit and has no faulty setting
pub record IsGoodHost (root : Node) : Type 0 where
  pub limits : limits_passed root ≡ []
  pub settings : host_faults root ≡ []

-- what a text says that may be a host tree: a board, or else that it is no source, or that its tree passes a limit, or
-- that a setting is faulty
abbrev pub SaysBoard : List ℕ → Result Board BoardRefusal → Type 0
SaysBoard text (Ok board) = (root : Node) × IsSourceOf text root × IsGoodHost root × IsBoardOf root board
SaysBoard text (Err (BadTree offset)) = IsRefusedAt text offset
SaysBoard text (Err (Limit name number)) = (root : Node) × IsSourceOf text root × (first_of (limits_passed root) ≡ Some (name, number))
SaysBoard text (Err (BadHost path)) =
    (root : Node) × IsSourceOf text root × (limits_passed root ≡ []) × (first_of (host_faults root) ≡ Some path)
SaysBoard text (Err (Memory e)) = Unit {0}

-- what is said where there may be no host tree
abbrev pub Says : Option (List ℕ) → Result Board BoardRefusal → Type 0
Says (Some text) said = SaysBoard text said
Says None (Ok board) = IsBare board
Says None (Err (Memory e)) = Unit {0}
Says None (Err refusal) = ⊥

-- the refusal is want of memory
abbrev pub IsWantOfMemory : BoardRefusal → Type 0
IsWantOfMemory (Memory e) = Unit {0}
IsWantOfMemory why = ⊥

-- two refusals are one, unless one is want of memory
abbrev pub AreOneRefusal : BoardRefusal → BoardRefusal → Type 0
AreOneRefusal (Memory e) other = Unit {0}
AreOneRefusal one (Memory e) = Unit {0}
AreOneRefusal one other = one ≡ other
