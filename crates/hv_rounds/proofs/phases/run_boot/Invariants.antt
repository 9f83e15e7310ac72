use Rattle.std.proofs.Common.{◌-◌, []}
use Rattle.hv_text.specs.declared.limits.TheConstants.{GREATEST_STAMP}
use Rattle.hv_model.specs.Origin.{Origin}
use Rattle.hv_rounds.specs.Phase.{BootPart}
use Rattle.hv_rounds.proofs.PhaseLemmas.{stamp_at}
use Rattle.hv_rounds.proofs.phases.run_boot.Given as goal

abbrev pub invariant-boot : goal.invariant-boot
invariant-boot l = (O : Origin) → BootPart O [] l.initial.board → BootPart O l.made.items l.board

abbrev pub decreases-boot : goal.decreases-boot
decreases-boot l = GREATEST_STAMP - stamp_at l.board.terminals.items 0
