-- Windows of which none shows too much.
use Rattle.std.proofs.Common.{ℕ, ◌+◌, ◌≤◌, ◌==◌, List, not}
use Rattle.std.proofs.lemmas.List.Elements.{All-filter}
use Rattle.hv_kinds.specs.declared.address.AddressType.TheVariants.{Memory}
use Rattle.hv_region.specs.Addresses.{end_of}
use Rattle.hv_region.specs.Windows.{without_owner, without_target}
use Rattle.hv_region.specs.declared.window.Window.{Window}
use Rattle.hv_guest_steps.specs.Regions.{ShowWithin}

-- nor where some of them go
pub within_left : (row : ℕ) (windows : List Window) → ShowWithin windows → ShowWithin (without_target row (without_owner row windows))
within_left row windows within =
    All-filter (λ w. not (w.target == row)) (λ w. w.offset + w.size ≤ end_of Memory) (without_owner row windows)
    (All-filter (λ w. not (w.owner == row)) (λ w. w.offset + w.size ≤ end_of Memory) windows within)
