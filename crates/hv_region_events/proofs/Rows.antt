-- Rows whose bodies additions and removals change are rows of a guest's plan.
use Rattle.std.proofs.Common.{◌≡◌, ◌<◌, ℕ, List, Bool, true, false, cond, eqb-true, Option, None, Some, refl, sym, subst}
use Rattle.std.specs.Prelude.{◌&&◌, Err, IfOk, IfSome, MatchResult, Ok, Result, find, option_map}
use Rattle.hv_board_steps.proofs.Found.{found}
use Rattle.hv_board_steps.specs.Sound.{LeadToRows}
use Rattle.hv_body.specs.Windows.{offset_in}
use Rattle.hv_emu.specs.Device.{DevState}
use Rattle.hv_guest_steps.specs.Additions.{MayAdd, MayNotAdd}
use Rattle.hv_guest_steps.specs.declared.row.NotAdded.{NotAdded}
use Rattle.hv_region.specs.declared.plan.Form.{Form}
use Rattle.hv_region.specs.declared.plan.Form.TheVariants.{Ram, Rom, Device, Real, Alias}
use Rattle.hv_region.specs.declared.plan.RegionPlan.{RegionPlan}
use Rattle.hv_region.specs.declared.window.Window.{Window}
use Rattle.hv_region_steps.specs.Regions.{changed_row}
use Rattle.hv_rules.specs.Space.{alias_in, is_of, is_own, target_of}
use Rattle.hv_rules.specs.Windows.{Region, has_range}
use Rattle.hv_text.specs.declared.limits.TheConstants.{GUEST_REGIONS}

and-left : (a b : Bool) → (a && b) ≡ true → a ≡ true
and-left true b is = refl
and-left false b is = is

alias-row :
    (windows : List Window) (plan : RegionPlan) (address row : ℕ) (there : Option Window) → LeadToRows windows
    → find (λ window. is_own window && has_range plan.kind address plan.size window) windows ≡ there → row < GUEST_REGIONS
    → changed_row row (option_map (λ window. (window.owner, offset_in window address)) there) < GUEST_REGIONS
alias-row windows plan address row None lead is low = low
alias-row windows plan address row (Some window) lead is low =
    let here = found (λ w. w.target < GUEST_REGIONS) (λ w. is_own w && has_range plan.kind address plan.size w) windows window lead is in
    let own : window.owner ≡ window.target =
    eqb-true window.owner window.target (and-left (is_own window) (has_range plan.kind address plan.size window) here.1)
    in
    subst (λ n. n < GUEST_REGIONS) (sym own) here.0

-- The target of a region that is an alias has a row of the guest's.
target-row :
    (windows : List Window) (plan : RegionPlan) (form : Form) (row : ℕ) → LeadToRows windows → row < GUEST_REGIONS
    → changed_row row (target_of windows plan form) < GUEST_REGIONS
target-row windows plan (Alias address) row lead low =
    alias-row windows plan address row (find (λ window. is_own window && has_range plan.kind address plan.size window) windows) lead refl low
target-row windows plan Ram row lead low = low
target-row windows plan Rom row lead low = low
target-row windows plan (Device names) row lead low = low
target-row windows plan (Real area offset) row lead low = low

pub target-in-rows :
    (windows : List Window) (plan : RegionPlan) (row : ℕ) (target : Option (ℕ × ℕ)) → LeadToRows windows → row < GUEST_REGIONS
    → target ≡ target_of windows plan plan.form → changed_row row target < GUEST_REGIONS
target-in-rows windows plan row target lead low is =
    subst (λ (t : Option (ℕ × ℕ)). changed_row row t < GUEST_REGIONS) (sym is) (target-row windows plan plan.form row lead low)

-- So has that of a region that may be added.
pub case-in-rows :
    (r : Result (Option (ℕ × ℕ)) NotAdded) (windows : List Window) (devices : List DevState) (region : Region) → LeadToRows windows → region.row < GUEST_REGIONS
    → MatchResult r (MayAdd windows devices region) (MayNotAdd windows devices region) → IfOk r (λ target. changed_row region.row target < GUEST_REGIONS)
case-in-rows (Ok target) windows devices region lead low may = target-in-rows windows region.plan region.row target lead low may.leads_to
case-in-rows (Err why) windows devices region lead low may = tt

-- So has that of one that is dropped.
dropped-row :
    (windows : List Window) (row : ℕ) (window : Window) → LeadToRows windows → row < GUEST_REGIONS → find (is_of row) windows ≡ Some window
    → changed_row row (alias_in window) < GUEST_REGIONS
dropped-row windows row window lead low is =
    elim (is_own window) as (λ b. changed_row row (cond b None (Some (window.target, window.offset))) < GUEST_REGIONS) [
      | true ↦ low
      | false ↦ (found (λ w. w.target < GUEST_REGIONS) (is_of row) windows window lead is).0
    ]

pub dropped-in-rows :
    (r : Option Window) (windows : List Window) (row : ℕ) → LeadToRows windows → row < GUEST_REGIONS → r ≡ find (is_of row) windows
    → IfSome r (λ window. changed_row row (alias_in window) < GUEST_REGIONS)
dropped-in-rows None windows row lead low is = tt
dropped-in-rows (Some window) windows row lead low is = dropped-row windows row window lead low (sym is)
