-- What a component has to be that stands in a list of components.
use Rattle.std.specs.Prelude.{List, [], ◌∷◌}
use Rattle.hv_parts.specs.Value.{PartValue, Space, Queue, Vcpu}
use Rattle.hv_queue.specs.declared.entry.QueueEntry.{QueueEntry}
use Rattle.hv_space.specs.Space.{SpaceState}
use Rattle.hv_vcpu.specs.Vcpu.{VcpuValue}

-- The first queue among some components is as wanted.
abbrev pub HasQueue : (wanted : List QueueEntry → Type 0) → List PartValue → Type 0
HasQueue wanted [] = ⊥
HasQueue wanted (Queue queue ∷ values) = wanted queue
HasQueue wanted (value ∷ values) = HasQueue wanted values

-- The first VCPU among some components is as wanted.
abbrev pub HasVcpu : (wanted : VcpuValue → Type 0) → List PartValue → Type 0
HasVcpu wanted [] = ⊥
HasVcpu wanted (Vcpu vcpu ∷ values) = wanted vcpu
HasVcpu wanted (value ∷ values) = HasVcpu wanted values

-- The first address space among some components is as wanted.
abbrev pub HasSpace : (wanted : SpaceState → Type 0) → List PartValue → Type 0
HasSpace wanted [] = ⊥
HasSpace wanted (Space space ∷ values) = wanted space
HasSpace wanted (value ∷ values) = HasSpace wanted values
