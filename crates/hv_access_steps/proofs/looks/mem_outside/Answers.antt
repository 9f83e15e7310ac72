use Rattle.std.proofs.Common.{[], ◌∙◌, refl, sym}
use Rattle.hv_event.specs.declared.event.CellId.TheVariants as component
use Rattle.hv_handed.specs.Given.{given}
use Rattle.hv_handed.proofs.Learnt.{alone-as}
use Rattle.hv_parts.specs.Value.{valued}
use Rattle.hv_parts.specs.declared.part.Part.TheVariants as part
use Rattle.hv_parts.proofs.Lists.{one-reads}
use Rattle.hv_rules.specs.Carry.{nothing}
use Rattle.hv_step.specs.declared.step.Step.TheVariants as steps
use Rattle.hv_access_steps.proofs.Lists.{one-is}
use Rattle.hv_access_steps.proofs.Looking.{window-first-is}
use Rattle.hv_access_steps.proofs.looks.mem_outside.Goals as goal

pub mem_nowhere-requires : goal.mem_nowhere-requires
mem_nowhere-requires g c =
    let state = g.E.Emulator.state in
    let one = one-is (valued state) (component.Space c.args.generation.slot) [] c.args.parts.now c.index-parts-0.result (part.Space c.space.result.now) c.requires.parts (sym c.index-parts-0.is ∙ c.space.ensures) in
    sym (window-first-is state c.args.step.now.address c.args.step.now.count c.args.parts.now one.0 c.space.result.now one.1) ∙ c.requires.window

pub returns-clause-taken : goal.returns-clause-taken
returns-clause-taken g c =
    let state = g.E.Emulator.state in
    let carry = given state c.mem_nowhere.result.handed.value in
    record {
      taken =
          λ by.
          one-reads (valued state) by (steps.Mem c.args.step.now) c.mem_nowhere.result.reply carry (component.Space c.args.generation.slot) c.args.parts.now c.index-parts-0.result (part.Space c.space.result.now)
          c.requires.parts c.index-parts-0.is c.space.ensures c.mem_nowhere.ensures.space;
      alone = alone-as (steps.Mem c.args.step.now) carry nothing c.mem_nowhere.ensures.handed refl;
      told = c.mem_nowhere.ensures.told;
    }
