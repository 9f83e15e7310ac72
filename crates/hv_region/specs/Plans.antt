-- What is to hold of the plan of a VCPU, and of a region by itself.
use Rattle.std.specs.Prelude.{◌≡◌, ℕ, ◌+◌, ◌%◌, ◌<◌, ◌≤◌, Option, Some, None}
use Rattle.hv_region.specs.Addresses.{end_of}
use Rattle.hv_region.specs.declared.plan.Form.{Form}
use Rattle.hv_region.specs.declared.plan.Form.TheVariants.{Ram, Rom}
use Rattle.hv_region.specs.declared.plan.RegionPlan.{RegionPlan}
use Rattle.hv_region.specs.declared.plan.VcpuPlan.{VcpuPlan}

-- a VCPU begins at the address of an instruction, and its priority and its time slice are in range
pub record IsVcpuPlan (plan : VcpuPlan) : Type 0 where
  pub start : plan.start % 4 ≡ 0
  pub priority : plan.priority < 8
  pub least_slice : 1 ≤ plan.slice
  pub most_slice : plan.slice ≤ 1000

-- memory of a guest's own has at most so many bytes
abbrev pub FitsForm : ℕ → Form → Type 0
FitsForm size Ram = size ≤ 16777216
FitsForm size Rom = size ≤ 16777216
FitsForm size _ = Unit {0}

-- interrupts go to a source of one of 16 regions
abbrev pub IsLink : Option (ℕ × ℕ) → Type 0
IsLink None = Unit {0}
IsLink (Some link) = (link.0 < 16) × (1 ≤ link.1) × (link.1 ≤ 31)

-- a region has at least one address and none behind those of its type
pub record IsRegionPlan (plan : RegionPlan) : Type 0 where
  pub some : 1 ≤ plan.size
  pub range : plan.base + plan.size ≤ end_of plan.kind
  pub form : FitsForm plan.size plan.form
  pub link : IsLink plan.parent
