-- Where lines are that make a guest or end one, by the steps that they have made and those that are left.
use Rattle.std.specs.Prelude.{◌≡◌, ℕ, ◌<◌, ◌⊎◌, Option, None, Some, List, [], ◌∷◌}
use Rattle.hv_kinds.specs.declared.stage.Stage.TheVariants.{Making, Made, Ending}
use Rattle.hv_rules.specs.Line.{Ask, rest, look, claim, turn, add, drop, add_vcpu, drop_vcpu, change, reset_device}
use Rattle.hv_text.specs.declared.limits.TheConstants.{GUEST_VCPUS}

-- A step is one of these.
abbrev pub IsAmong : Ask → List Ask → Type 0
IsAmong ask [] = ⊥
IsAmong ask (other ∷ asks) = (ask ≡ other) ⊎ IsAmong ask asks

-- A line has made a step.
abbrev pub HasMade : (made : List Ask) → Type 0
HasMade [] = ⊥
HasMade (ask ∷ made) = Unit {0}

-- A line that makes a guest has claimed the name, and added regions since: it can still turn back.
abbrev pub AreAdditions : (made : List Ask) → Type 0
AreAdditions [] = ⊥
AreAdditions (claim ∷ made) = made ≡ []
AreAdditions (add row ∷ made) = AreAdditions made
AreAdditions (_ ∷ made) = ⊥

-- It has VCPUs to add, and then the guest is made.
abbrev pub AddsVcpus : (todo : List Ask) → Type 0
AddsVcpus [] = ⊥
AddsVcpus (add_vcpu index ∷ todo) = (index < GUEST_VCPUS) × AddsVcpus todo
AddsVcpus (turn from to ∷ todo) = (from ≡ Making) × (to ≡ Some Made) × (todo ≡ [])
AddsVcpus (_ ∷ todo) = ⊥

-- It has regions to add before those.
abbrev pub AddsRegions : (todo : List Ask) → Type 0
AddsRegions (add row ∷ todo) = AddsRegions todo
AddsRegions todo = AddsVcpus todo

-- A line that ends a guest has VCPUs and regions to drop, and then the slot is free.
abbrev pub Drops : (todo : List Ask) → Type 0
Drops [] = ⊥
Drops (drop_vcpu index ∷ todo) = (index < GUEST_VCPUS) × Drops todo
Drops (drop stage row ∷ todo) = (stage ≡ Ending) × Drops todo
Drops (turn from to ∷ todo) = (from ≡ Ending) × (to ≡ None) × (todo ≡ [])
Drops (_ ∷ todo) = ⊥

-- The steps of the other lines make no guest and end none.
abbrev pub ArePlain : (todo : List Ask) → Type 0
ArePlain [] = Unit {0}
ArePlain (rest ∷ todo) = ArePlain todo
ArePlain (look vcpu ∷ todo) = ArePlain todo
ArePlain (change asked index ∷ todo) = ArePlain todo
ArePlain (reset_device row ∷ todo) = ArePlain todo
ArePlain (_ ∷ todo) = ⊥

-- A row is one of those that the steps add, or drop of a guest at its end; each step names a row of its plan, which leads
-- to a row of the guest.
pub record IsAdded (rows : ℕ → Option ℕ) (made : List Ask) (row : ℕ) : Type 0 where
  pub planned : ℕ
  pub is : rows planned ≡ Some row
  pub among : IsAmong (add planned) made

pub record IsToDrop (rows : ℕ → Option ℕ) (todo : List Ask) (row : ℕ) : Type 0 where
  pub planned : ℕ
  pub is : rows planned ≡ Some row
  pub among : IsAmong (drop Ending planned) todo
