use Rattle.std.proofs.Common.{◌≡◌, ◌++◌, take}
use Rattle.hv_bundle.specs.Bundle.{items_text}
use Rattle.hv_bundle.proofs.print.push_items.Given as goal

abbrev pub invariant-loop-file : goal.invariant-loop-file
invariant-loop-file l = l.to ≡ l.fn.to ++ items_text (take l.file-index l.files)
