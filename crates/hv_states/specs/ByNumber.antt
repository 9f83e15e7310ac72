-- The states of all VCPUs of a board as the list of 33 lists.
use Rattle.std.specs.Prelude.{ℕ, Option, None, Some, List, [], ◌∷◌, ◌++◌, map, slice_index_or, slice_set}
use Rattle.std.specs.List.{range_with_len}
use Rattle.hv_kinds.specs.declared.state.State.{State}
use Rattle.hv_text.specs.declared.limits.TheConstants.{VCPUS}

-- The states of the VCPUs, by number.
abbrev pub by_number : (ℕ → List State) → List (List State)
by_number states = map states (range_with_len 0 VCPUS)

-- The states of one VCPU among those of all.
abbrev pub states_in : List (List State) → (vcpu : ℕ) → List State
states_in lists vcpu = slice_index_or lists vcpu []

-- The state that a step leads to stands behind those that its VCPU had, if there is a VCPU of this number.
abbrev pub with_change : List (List State) → Option (ℕ × State) → List (List State)
with_change lists None = lists
with_change lists (Some led) = slice_set lists led.0 (states_in lists led.0 ++ led.1 ∷ [])
