-- What is known of a guest's address space, and that steps keep it.
use Rattle.std.proofs.Common.{◌≡◌, ℕ, ◌+◌, ◌<◌, ◌≤◌, ◌==◌, Bool, true, false, cond, refl, sym, subst, List, arith, Option, None, Some, IfSome, IsSomeAnd}
use Rattle.std.specs.Option.{option_map_or}
use Rattle.hv_body.proofs.WindowLemmas.{all_put}
use Rattle.hv_body.specs.Windows.{put_in_order}
use Rattle.hv_guest_steps.proofs.Entered.{within_put}
use Rattle.hv_guest_steps.proofs.Windows.{within_left}
use Rattle.hv_guest_steps.specs.Additions.{CanBe}
use Rattle.hv_guest_steps.specs.Regions.{ShowWithin}
use Rattle.hv_kinds.specs.declared.address.AddressType.{AddressType}
use Rattle.hv_kinds.specs.declared.address.AddressType.TheVariants.{Memory, Io}
use Rattle.hv_kinds.specs.declared.generation.Generation.{Generation}
use Rattle.hv_refusal.specs.declared.refusal.Refusal.{Refusal}
use Rattle.hv_region.specs.Addresses.{end_of}
use Rattle.hv_region.specs.declared.plan.RegionPlan.{RegionPlan}
use Rattle.hv_region.specs.declared.window.Window.{Window}
use Rattle.hv_rules.specs.Space.{clock_without, refusal_in, target_of, unless_refused, with_region, without_region}
use Rattle.hv_rules.specs.Windows.{Region, region_of, window_of}
use Rattle.hv_space.specs.Space.{SpaceState}
use Rattle.hv_text.specs.declared.limits.TheConstants.{GUEST_REGIONS}

abbrev pub IsClock : Option (ℕ × ℕ) → Type 0
IsClock clock = IfSome clock (λ clock. clock.0 < GUEST_REGIONS)

pub record SpaceFits (space : SpaceState) : Type 0 where
  pub within : ShowWithin space.windows
  pub clock : IsClock space.clock

-- a region that is added

own-below : (kind : AddressType) (base size : ℕ) → base + size ≤ end_of kind → 0 + size ≤ end_of Memory
own-below Memory base size le = omega arith
own-below Io base size le = omega arith

module _ (ws : List Window) (region : Region) (can : CanBe region) (within : ShowWithin ws) where
  put-own : ShowWithin (put_in_order (window_of region None) ws)
  put-own =
      all_put (λ w. w.offset + w.size ≤ end_of Memory) true ws (put_in_order (window_of region None) ws) (window_of region None) refl
      (own-below region.plan.kind region.plan.base region.plan.size can.by_rules.range) within

  put-by : (why : Option Refusal) (target : Option (ℕ × ℕ)) → target ≡ unless_refused why (target_of ws region.plan region.plan.form) → ShowWithin (put_in_order (window_of region target) ws)
  put-by None target is = within_put ws region target can is within
  put-by (Some why) target is = subst (λ (t : Option (ℕ × ℕ)). ShowWithin (put_in_order (window_of region t) ws)) (sym is) put-own

clock-added : (b : Bool) (row birth : ℕ) (clock : Option (ℕ × ℕ)) → row < GUEST_REGIONS → IsClock clock → IsClock (cond b (Some (row, birth)) clock)
clock-added true row birth clock below is = below
clock-added false row birth clock below is = is

added-by : (space : SpaceState) (target : Option (ℕ × ℕ)) (region : Region) → CanBe region → target ≡ unless_refused (refusal_in space.windows region) (target_of space.windows region.plan region.plan.form)
    → SpaceFits space → SpaceFits (with_region space target region)
added-by space target region can is fits = record {
  within = put-by space.windows region can fits.within (refusal_in space.windows region) target is;
  clock = clock-added region.plan.clock region.row region.birth space.clock can.row fits.clock;
}

pub add-space : (space : SpaceState) (target : Option (ℕ × ℕ)) (stopped : Option Refusal) (gen : Option Generation) (row : Option ℕ) (plan : Option (RegionPlan × ℕ))
    → ((guest : Generation) (n : ℕ) (p : RegionPlan × ℕ) → row ≡ Some n → plan ≡ Some p → CanBe (record { birth = guest.birth; row = n; plan = p.0; vcpus = p.1 }))
    → IsSomeAnd (region_of gen row plan) (λ region. (stopped ≡ refusal_in space.windows region) × (target ≡ unless_refused (refusal_in space.windows region) (target_of space.windows region.plan region.plan.form)))
    → SpaceFits space → SpaceFits (option_map_or (with_region space target) (region_of gen row plan) space)
add-space space target stopped None row plan can agrees fits = fits
add-space space target stopped (Some guest) None plan can agrees fits = fits
add-space space target stopped (Some guest) (Some n) None can agrees fits = fits
add-space space target stopped (Some guest) (Some n) (Some p) can agrees fits =
    added-by space target (record { birth = guest.birth; row = n; plan = p.0; vcpus = p.1 }) (can guest n p refl refl) agrees.1 fits

-- a region that is dropped

clock-kept : (b : Bool) (clock : ℕ × ℕ) → IsClock (Some clock) → IsClock (cond b None (Some clock))
clock-kept true clock is = tt
clock-kept false clock is = is

clock-dropped : (row : ℕ) (clock : Option (ℕ × ℕ)) → IsClock clock → IsClock (clock_without row clock)
clock-dropped row None is = tt
clock-dropped row (Some clock) is = clock-kept (clock.0 == row) clock is

pub drop-space : (space : SpaceState) (row : Option ℕ) → SpaceFits space → SpaceFits (option_map_or (without_region space) row space)
drop-space space None fits = fits
drop-space space (Some row) fits = record {
  within = within_left row space.windows fits.within;
  clock = clock-dropped row space.clock fits.clock;
}
