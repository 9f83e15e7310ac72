-- Regions of good plans can be put into guests.
use Rattle.std.specs.Prelude.{◌≡◌, ℕ, Some, List}
use Rattle.hv_guest_steps.specs.Additions.{CanBe, region_at}
use Rattle.hv_kinds.specs.declared.generation.Generation.{Generation}
use Rattle.hv_model.specs.Plans.{Planned, region_of, regions_of, row_of}
use Rattle.hv_region.specs.declared.plan.RegionPlan.{RegionPlan}
use Rattle.hv_terminals.specs.Plans.{KeepRules}
use Rattle.hv_terminals.specs.Terminal.{HasGoodRegions}
use Rattle.hv_bound_laws.specs.Openings.{AreGood}

-- The regions of plans can be: each for which a row and a plan are handed over can be put into a guest, the interrupts of
-- a guest's regions go to others of its own, and the plans keep the rules.
pub record RegionsCanBe (plans : List Planned) : Type 0 where
  pub can_be :
      (guest region : List ℕ) (owner : Generation) (row vcpus : ℕ) (plan : RegionPlan)
      → row_of plans guest region ≡ Some row → region_of plans guest region ≡ Some (plan, vcpus)
      → CanBe (region_at (record { guest = owner; row = row; vcpus = vcpus }) plan)
  pub good : (name : List ℕ) → HasGoodRegions (regions_of plans name)
  pub rules : KeepRules plans

abbrev pub GoodRegionsCanBe : Type 0
GoodRegionsCanBe =
    (harts : ℕ) (areas : List (List ℕ × ℕ)) (plans : List Planned) → AreGood harts areas plans → RegionsCanBe plans
