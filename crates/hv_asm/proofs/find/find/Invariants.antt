use Rattle.std.proofs.Common.{◌≡◌, drop}
use Rattle.hv_asm.specs.Candidates.{named}
use Rattle.hv_asm.proofs.find.find.Given as goal

abbrev pub invariant-loop-inst : goal.invariant-loop-inst
invariant-loop-inst l = named l.name (drop l.inst-index l.candidates) ≡ named l.name l.candidates
