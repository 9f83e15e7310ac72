use Rattle.std.proofs.Common.{◌≡◌, ◌++◌, map}
use Rattle.hv_programs.specs.Ask.{ask_of, each_of}
use Rattle.hv_programs.proofs.ask.push_each.Given as goal

abbrev pub invariant-loop-number : goal.invariant-loop-number
invariant-loop-number l = map ask_of l.steps.items ≡ map ask_of l.initial.steps.items ++ each_of l.kind l.number
