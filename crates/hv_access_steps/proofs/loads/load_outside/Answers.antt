use Rattle.std.proofs.Common.{[], ◌∙◌, None, length, refl, sym}
use Rattle.hv_event.specs.declared.event.CellId.TheVariants as component
use Rattle.hv_handed.specs.Given.{given}
use Rattle.hv_handed.proofs.Learnt.{alone-as}
use Rattle.hv_memory_steps.specs.Hands.{load_carry}
use Rattle.hv_parts.specs.Value.{valued}
use Rattle.hv_parts.specs.declared.part.Part.TheVariants as part
use Rattle.hv_parts.proofs.Lists.{one-reads}
use Rattle.hv_step.specs.declared.step.Step.TheVariants as steps
use Rattle.hv_access_steps.proofs.Lists.{one-is}
use Rattle.hv_access_steps.proofs.Looking.{window-first-is}
use Rattle.hv_access_steps.proofs.loads.load_outside.Goals as goal

pub load_nowhere-requires : goal.load_nowhere-requires
load_nowhere-requires g c =
    let state = g.E.Emulator.state in
    let one = one-is (valued state) (component.Space c.args.generation.slot) [] c.args.parts.now c.index-parts-0.result (part.Space c.space.result.now) c.requires.parts (sym c.index-parts-0.is ∙ c.space.ensures) in
    sym (window-first-is state c.args.step.now.address (length c.args.bytes.now) c.args.parts.now one.0 c.space.result.now one.1) ∙ c.requires.window

pub returns-clause-taken : goal.returns-clause-taken
returns-clause-taken g c =
    let state = g.E.Emulator.state in
    let carry = given state c.load_nowhere.result.handed.value in
    record {
      taken =
          λ by.
          one-reads (valued state) by (steps.Load c.args.step.now) c.load_nowhere.result.reply carry (component.Space c.args.generation.slot) c.args.parts.now c.index-parts-0.result (part.Space c.space.result.now)
          c.requires.parts c.index-parts-0.is c.space.ensures c.load_nowhere.ensures.space;
      alone = alone-as (steps.Load c.args.step.now) carry (load_carry c.args.bytes.now None None) c.load_nowhere.ensures.handed refl;
      told = c.load_nowhere.ensures.told;
    }
