use Rattle.std.proofs.Common.{◌≡◌, drop}
use Rattle.hv_dts.specs.Linking.{following_phandle}
use Rattle.hv_dts.proofs.linking.following_phandle.Given as goal

abbrev pub invariant-loop-entry : goal.invariant-loop-entry
invariant-loop-entry l = following_phandle (drop l.entry-index l.following) ≡ following_phandle l.following
