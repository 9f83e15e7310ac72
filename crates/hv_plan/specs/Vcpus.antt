-- VCPUs as their nodes say.
use Rattle.std.specs.Prelude.{ℕ, ◌%◌, Bool, true, false, ◌&&◌, ◌==◌, not, List, [], ◌∷◌, ◌++◌, codes, unwrap_or, Option}
use Rattle.std.specs.Option.{option_map_or}
use Rattle.hv_dtree.specs.declared.node.Node.{Node}
use Rattle.hv_region.specs.declared.plan.VcpuPlan.{VcpuPlan}
use Rattle.hv_plan.specs.Properties.{has, number_of, number_or, is_within}
use Rattle.hv_kinds.specs.declared.cause.Cause.{Cause}
use Rattle.hv_kinds.specs.declared.cause.Cause.TheVariants.{Missing, Form}

-- a cause, where a test says so
abbrev pub when : Bool → Cause → List Cause
when true cause = cause ∷ []
when false cause = []

-- where a VCPU begins, its priority and its time slice
abbrev pub start_of : Node → Option ℕ
start_of node = number_of node (codes "start_pc")

abbrev pub priority_of : Node → Option ℕ
priority_of node = number_or 3 node (codes "priority")

abbrev pub slice_of : Node → Option ℕ
slice_of node = number_or 8 node (codes "time_slice")

-- the start is that of an instruction, and the priority and the slice are in range
abbrev pub is_vcpu : Node → Bool
is_vcpu node = option_map_or (λ start. start % 4 == 0) (start_of node) false && is_within 0 7 (priority_of node) && is_within 1 1000 (slice_of node)

-- what is wrong with a VCPU's node, in the order in which it is told
abbrev pub vcpu_causes : Node → List Cause
vcpu_causes node = when (not (has node (codes "start_pc"))) Missing ++ when (not (is_vcpu node)) Form

-- the plan of a VCPU of which nothing is wrong
abbrev pub vcpu_plan : Node → VcpuPlan
vcpu_plan node = record { start = unwrap_or (start_of node) 0; priority = unwrap_or (priority_of node) 0; slice = unwrap_or (slice_of node) 0 }
