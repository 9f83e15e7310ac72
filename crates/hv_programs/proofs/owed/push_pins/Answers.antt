use Rattle.std.proofs.Common.{◌++◌, map, arith, ap, sym, ◌∙◌, append_assoc}
use Rattle.hv_programs.specs.Owed.{step_of, pin_at}
use Rattle.hv_programs.proofs.Pins.{pins_below, pins_more}
use Rattle.hv_programs.proofs.owed.push_pins.Goals as goal

pub loop-index-preserved : goal.loop-index-preserved
loop-index-preserved c = record {
  steps =
      c.push_pin.ensures.steps
      ∙ ap (λ steps. steps ++ pin_at c.args.generation c.args.row c.args.pins c.loop-index.index) c.loop-index.invariant.steps
      ∙ append_assoc (map step_of c.args.steps.now.items) (pins_below c.args.generation c.args.row c.args.pins c.loop-index.index) (pin_at c.args.generation c.args.row c.args.pins c.loop-index.index)
      ∙ ap (λ steps. map step_of c.args.steps.now.items ++ steps) (sym (pins_more c.args.generation c.args.row c.args.pins c.loop-index.index));
  length = omega (arith, c.push_pin.ensures.length, c.loop-index.invariant.length);
  capacity = cc;
}
