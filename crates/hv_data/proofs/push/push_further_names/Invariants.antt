use Rattle.std.proofs.Common.{◌≡◌, ◌++◌, take}
use Rattle.hv_data.specs.Text.{further_names}
use Rattle.hv_data.proofs.push.push_further_names.Given as goal

abbrev pub invariant-loop-name : goal.invariant-loop-name
invariant-loop-name l = l.to ≡ l.fn.to ++ further_names (take l.name-index l.names)
