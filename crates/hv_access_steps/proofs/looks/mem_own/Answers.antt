use Rattle.std.proofs.Common.{◌∷◌, [], ◌∙◌, None, refl, sym}
use Rattle.hv_event.specs.declared.event.CellId.TheVariants as component
use Rattle.hv_handed.specs.Given.{given}
use Rattle.hv_handed.proofs.Learnt.{alone-as}
use Rattle.hv_memory_steps.specs.Hands.{mem_carry}
use Rattle.hv_parts.specs.Value.{valued}
use Rattle.hv_parts.specs.declared.part.Part.TheVariants as part
use Rattle.hv_step.specs.declared.step.Step.TheVariants as steps
use Rattle.hv_access_steps.proofs.Lists.{ok-four, two-is, two-read}
use Rattle.hv_access_steps.proofs.Looking.{area-first-is, window-first-is}
use Rattle.hv_access_steps.proofs.looks.mem_own.Goals as goal

pub mem-requires-clause-window : goal.mem-requires-clause-window
mem-requires-clause-window g c =
    let state = g.E.Emulator.state in
    let two =
    two-is (valued state) (component.Space c.args.generation.slot) (component.Body c.args.generation.slot c.args.window.target) [] c.args.parts.now c.index-parts-0.result c.index-parts-1.result
    (part.Space c.space.result.now) (part.Body c.body.result.now) c.requires.parts (sym c.index-parts-0.is ∙ c.space.ensures) (sym c.index-parts-1.is ∙ c.body.ensures) in
    sym (window-first-is state c.args.step.now.address c.args.step.now.count c.args.parts.now (part.Body c.body.result.now ∷ two.0) c.space.result.now two.1) ∙ c.requires.window

pub mem-requires-clause-own : goal.mem-requires-clause-own
mem-requires-clause-own g c =
    let state = g.E.Emulator.state in
    let two =
    two-is (valued state) (component.Space c.args.generation.slot) (component.Body c.args.generation.slot c.args.window.target) [] c.args.parts.now c.index-parts-0.result c.index-parts-1.result
    (part.Space c.space.result.now) (part.Body c.body.result.now) c.requires.parts (sym c.index-parts-0.is ∙ c.space.ensures) (sym c.index-parts-1.is ∙ c.body.ensures) in
    sym (area-first-is state c.args.window c.args.step.now.address c.args.step.now.count c.args.parts.now two.0 c.space.result.now c.body.result.now two.1) ∙ c.requires.own

pub returns-clause-taken : goal.returns-clause-taken
returns-clause-taken g c =
    let state = g.E.Emulator.state in
    let s = steps.Mem c.args.step.now in
    ok-four c.mem.result _ _ _ _ _ c.mem.ensures.space c.mem.ensures.body c.mem.ensures.handed c.mem.ensures.told (
    λ made first second handed told.
    record {
      taken =
          λ by.
          two-read (valued state) by s made.reply (given state made.handed.value) (component.Space c.args.generation.slot) (component.Body c.args.generation.slot c.args.window.target) c.args.parts.now c.index-parts-0.result
          c.index-parts-1.result (part.Space c.space.result.now) (part.Body c.body.result.now) c.requires.parts c.index-parts-0.is c.space.ensures c.index-parts-1.is c.body.ensures first (second c.args.window.target);
      alone = alone-as s (given state made.handed.value) (mem_carry c.args.window None) handed refl;
      told = told;
    }
    )
