use Rattle.std.proofs.Common.{ap, ◌∙◌}
use Rattle.hv_exec.specs.declared.context.Ctx.{Ctx}
use Rattle.hv_vcpu.proofs.Pins.{load_keeps_pins}
use Rattle.hv_vcpu.proofs.vcpu.Vcpu.loaded.Goals as goal

pub invariant_of-self : goal.invariant_of-self
invariant_of-self c = record {
  index = c.self.invariant.index;
  plan = c.self.invariant.plan;
  rows = c.self.invariant.rows;
  joined = ap (λ (x : Ctx). x.pins) c.finish_load.ensures ∙ (load_keeps_pins _ _ _ _ _ ∙ c.self.invariant.joined);
}
