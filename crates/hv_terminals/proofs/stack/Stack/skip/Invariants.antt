use Rattle.std.proofs.Common.{◌≡◌, ◌≤◌, vec_capacity, vec_len}
use Rattle.hv_model.specs.Session.{next_in}
use Rattle.hv_terminals.specs.Scripts.{reversed}
use Rattle.hv_terminals.proofs.stack.Stack.skip.Given as goal

abbrev pub invariant-loop-script : goal.invariant-loop-script
invariant-loop-script l =
    (next_in (reversed l.self-inside.scripts.items) ≡ next_in (reversed l.initial.self-inside.scripts.items))
    × (vec_capacity l.self-inside.scripts ≡ vec_capacity l.initial.self-inside.scripts)
    × (vec_len l.self-inside.scripts ≤ vec_len l.initial.self-inside.scripts)

abbrev pub decreases-loop-script : goal.decreases-loop-script
decreases-loop-script l = vec_len l.self-inside.scripts
