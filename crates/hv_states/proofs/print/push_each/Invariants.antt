use Rattle.std.proofs.Common.{◌≡◌, ◌∷◌, ◌++◌, take}
use Rattle.std.specs.List.{flat_map}
use Rattle.hv_data.specs.Text.{state_text}
use Rattle.hv_states.proofs.print.push_each.Given as goal

abbrev pub invariant-loop-state : goal.invariant-loop-state
invariant-loop-state l = l.to ≡ l.fn.to ++ flat_map (λ s. 32 ∷ state_text s) (take l.state-index l.states)
