use Rattle.std.proofs.Common.{subst, sym, arith}
use Rattle.hv_programs.specs.Ask.{asked_of}
use Rattle.hv_programs.specs.Line.{AreAsks}
use Rattle.hv_programs.proofs.Asks.{steps_are}
use Rattle.hv_programs.proofs.line.Line.with_plan.Goals as goal

pub invariant_of-result : goal.invariant_of-result
invariant_of-result c = record {
  stands = omega arith;
  asks = subst AreAsks (sym c.in_ok-steps.ensures) (steps_are (asked_of c.args.asked) c.args.vcpus c.args.regions.now c.requires.vcpus);
  guest_is = tt;
}
