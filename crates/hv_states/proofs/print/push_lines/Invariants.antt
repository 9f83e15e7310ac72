use Rattle.std.proofs.Common.{◌≡◌, ◌++◌, map}
use Rattle.std.specs.List.{flat_map, range_with_len}
use Rattle.hv_model.specs.States.{states_line}
use Rattle.hv_states.specs.ByNumber.{states_in}
use Rattle.hv_states.proofs.print.push_lines.Given as goal

abbrev pub invariant-loop-vcpu : goal.invariant-loop-vcpu
invariant-loop-vcpu l =
    l.to ≡ l.fn.to ++ flat_map (λ v. states_line l.fn.brief v (states_in (map (λ states. states.items) l.fn.lists) v)) (range_with_len 0 l.vcpu)
