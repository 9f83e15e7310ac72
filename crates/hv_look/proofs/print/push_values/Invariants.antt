use Rattle.std.proofs.Common.{◌≡◌, ◌++◌, take}
use Rattle.hv_data.specs.Data.{spaced}
use Rattle.hv_look.specs.Look.{values_words}
use Rattle.hv_look.proofs.print.push_values.Given as goal

abbrev pub invariant-loop-value : goal.invariant-loop-value
invariant-loop-value l = l.to ≡ l.fn.to ++ spaced (values_words (take l.value-index l.values))
