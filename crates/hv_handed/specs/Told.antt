-- What an actor learns of what its step handed over.
use Rattle.std.specs.Prelude.{◌≡◌}
use Rattle.std.specs.Option.{option_map}
use Rattle.hv_handed.specs.Given.{pended}
use Rattle.hv_handed.specs.declared.told.Told.{Told}
use Rattle.hv_rules.specs.Carry.{Carry}

-- An actor learns how many lines a script has, which guest's stage was turned, the access that an instruction left
-- pending, the clock that ticked, and a region's interrupt parent.
pub record IsTold (c : Carry) (told : Told) : Type 0 where
  pub lines : told.lines ≡ c.lines
  pub guest : told.guest ≡ c.guest
  pub pending : option_map pended told.pending ≡ c.pending
  pub clock : told.clock ≡ c.clock
  pub parent : told.parent ≡ c.parent
