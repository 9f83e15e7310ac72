use Rattle.std.proofs.Common.{List, ℕ, drop}
use Rattle.hv_dts.specs.Sets.{Holds}
use Rattle.hv_dts.proofs.Twice.{Noting}
use Rattle.hv_dts.proofs.names.note_labels.Given as goal

abbrev pub invariant-loop-label : goal.invariant-loop-label
invariant-loop-label l = (earlier : List (List ℕ)) → Holds l.initial.names earlier → Noting l.names l.best (drop l.label-index l.labels) l.initial.best earlier l.labels
