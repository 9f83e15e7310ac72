use Rattle.std.proofs.Common.{◌≡◌, vec_len}
use Rattle.hv_model.specs.Session.{next_in}
use Rattle.hv_rounds.specs.Stack.{reversed}
use Rattle.hv_rounds.proofs.scripts.OpenScripts.begin.Given as goal

abbrev pub invariant-loop-script : goal.invariant-loop-script
invariant-loop-script l = next_in (reversed l.self-inside.scripts.items) ≡ next_in (reversed l.initial.self-inside.scripts.items)

abbrev pub decreases-loop-script : goal.decreases-loop-script
decreases-loop-script l = vec_len l.self-inside.scripts
