-- The interrupt steps that an actor owes after a step on a device: samples of lines, and pins of VCPUs.
use Rattle.std.specs.Prelude.{if◌then◌else◌, ℕ, ◌+◌, ◌*◌, ◌/◌, ◌%◌, ◌^◌, ◌==◌, Bool, true, false, Option, None, Some, List, [], ◌∷◌, ◌++◌, filter, map}
use Rattle.std.specs.List.{range_with_len}
use Rattle.hv_kinds.specs.declared.changes.SignalChanges.{SignalChanges}
use Rattle.hv_kinds.specs.declared.generation.Generation.{Generation}
use Rattle.hv_region.specs.declared.plan.RegionPlan.{RegionPlan}
use Rattle.hv_step.specs.declared.step.Step.{Step}
use Rattle.hv_step.specs.declared.step.Step.TheVariants as step
use Rattle.hv_text.specs.declared.limits.TheConstants.{GUEST_VCPUS}

-- The number on the board of a guest's VCPU; the orphan VCPU comes before all guests.
abbrev pub vcpu_of : (slot index : ℕ) → ℕ
vcpu_of slot index = 1 + GUEST_VCPUS * slot + index

-- A region's line goes to the source of its interrupt parent, if it has one.
abbrev pub samples : Generation → (row : ℕ) → (parent : Option (ℕ × ℕ)) → (changed : Bool) → List Step
samples generation row None changed = []
samples generation row (Some parent) false = []
samples generation row (Some parent) true =
    step.Sample (record { row = row; parent = parent.0; source = parent.1; generation = generation }) ∷ []

-- Whether the pins of a guest's VCPU changed.
abbrev pub has_changed : (pins index : ℕ) → Bool
has_changed pins index = pins / 2 ^ index % 2 == 1

abbrev pub pin_step : Generation → (row index : ℕ) → Step
pin_step generation row index =
    step.Pin (record { row = row; vcpu = vcpu_of generation.slot index; generation = generation })

-- Each VCPU whose pins changed takes them from the region, by number.
abbrev pub pin_steps : Generation → (row : ℕ) → (pins : ℕ) → List Step
pin_steps generation row pins = map (pin_step generation row) (filter (has_changed pins) (range_with_len 0 GUEST_VCPUS))

-- The sample that a region gives to one that takes its interrupts, if that is the one in this row.
abbrev pub sample_to : Generation → (row new : ℕ) → (parent : Option (ℕ × ℕ)) → List Step
sample_to generation row new None = []
sample_to generation row new (Some parent) =
    if parent.0 == new then samples generation row (Some parent) true else []

-- Once a device is added in a row, each region whose interrupts it takes gives it a sample, by row from a number on.
abbrev pub child_samples : Generation → (new from : ℕ) → List RegionPlan → List Step
child_samples generation new from [] = []
child_samples generation new from (region ∷ regions) =
    sample_to generation from new region.parent ++ child_samples generation new (from + 1) regions

-- What changed of a region's signals is owed: first the sample, then the pins.
abbrev pub owed_for : Generation → (row : ℕ) → (parent : Option (ℕ × ℕ)) → SignalChanges → List Step
owed_for generation row parent changes =
    samples generation row parent changes.line ++ pin_steps generation row changes.pins
