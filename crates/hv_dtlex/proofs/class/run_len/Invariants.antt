use Rattle.std.proofs.Common.{◌≡◌, ◌+◌, drop}
use Rattle.std.specs.List.{prefix_len}
use Rattle.hv_dtlex.specs.Class.{class_has}
use Rattle.hv_dtlex.proofs.class.run_len.Given as goal

abbrev pub invariant-loop-at : goal.invariant-loop-at
invariant-loop-at l = l.at + prefix_len (λ b. class_has l.class b) (drop l.at l.text) ≡ prefix_len (λ b. class_has l.class b) l.text
