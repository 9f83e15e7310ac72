use Rattle.std.proofs.Common.{◌∙◌, map, ap, refl, sym}
use Rattle.hv_event.specs.declared.event.CellId.TheVariants as component
use Rattle.hv_handed.specs.Given.{given}
use Rattle.hv_handed.proofs.Learnt.{alone-as}
use Rattle.hv_memory_steps.specs.Hands.{mem_carry}
use Rattle.hv_parts.specs.Value.{valued}
use Rattle.hv_parts.specs.declared.part.Part.TheVariants as part
use Rattle.hv_step.specs.declared.step.Step.TheVariants as steps
use Rattle.hv_access_steps.proofs.Fetching.{area-long}
use Rattle.hv_access_steps.proofs.Lists.{ok-five, ok-then, three-is, three-read}
use Rattle.hv_access_steps.proofs.Looking.{area-first-is, window-first-is}
use Rattle.hv_access_steps.proofs.looks.mem_area.Goals as goal

pub mem_shared-requires-clause-window : goal.mem_shared-requires-clause-window
mem_shared-requires-clause-window g c =
    let state = g.E.Emulator.state in
    let three =
    three-is (valued state) (component.Space c.args.generation.slot) (component.Body c.args.generation.slot c.args.window.target) (component.Area c.args.place.0) c.args.parts.now c.index-parts-0.result c.index-parts-1.result
    c.index-parts-2.result (part.Space c.space.result.now) (part.Body c.body.result.now) (part.Area c.area.result.now) c.requires.parts (sym c.index-parts-0.is ∙ c.space.ensures) (sym c.index-parts-1.is ∙ c.body.ensures)
    (sym c.index-parts-2.is ∙ c.area.ensures) in
    sym (window-first-is state c.args.step.now.address c.args.step.now.count c.args.parts.now _ c.space.result.now three) ∙ c.requires.window

pub mem_shared-requires-clause-shared : goal.mem_shared-requires-clause-shared
mem_shared-requires-clause-shared g c =
    let state = g.E.Emulator.state in
    let three =
    three-is (valued state) (component.Space c.args.generation.slot) (component.Body c.args.generation.slot c.args.window.target) (component.Area c.args.place.0) c.args.parts.now c.index-parts-0.result c.index-parts-1.result
    c.index-parts-2.result (part.Space c.space.result.now) (part.Body c.body.result.now) (part.Area c.area.result.now) c.requires.parts (sym c.index-parts-0.is ∙ c.space.ensures) (sym c.index-parts-1.is ∙ c.body.ensures)
    (sym c.index-parts-2.is ∙ c.area.ensures) in
    area-long _ c.args.place c.args.step.now.count _ _ c.area.result.now (map (valued state) c.args.parts.now)
    (sym (area-first-is state c.args.window c.args.step.now.address c.args.step.now.count c.args.parts.now _ c.space.result.now c.body.result.now three) ∙ c.requires.shared)
    (ap (map (valued state)) three) c.requires.bytes

pub returns-clause-handed : goal.returns-clause-handed
returns-clause-handed g c =
    let state = g.E.Emulator.state in
    let three =
    three-is (valued state) (component.Space c.args.generation.slot) (component.Body c.args.generation.slot c.args.window.target) (component.Area c.args.place.0) c.args.parts.now c.index-parts-0.result c.index-parts-1.result
    c.index-parts-2.result (part.Space c.space.result.now) (part.Body c.body.result.now) (part.Area c.area.result.now) c.requires.parts (sym c.index-parts-0.is ∙ c.space.ensures) (sym c.index-parts-1.is ∙ c.body.ensures)
    (sym c.index-parts-2.is ∙ c.area.ensures) in
    let asked =
    sym (area-first-is state c.args.window c.args.step.now.address c.args.step.now.count c.args.parts.now _ c.space.result.now c.body.result.now three) ∙ c.requires.shared in
    ok-then c.mem_shared.result _ _ c.mem_shared.ensures.handed (λ made handed. handed ∙ ap (λ o. mem_carry c.args.window o) asked)

pub returns-clause-taken : goal.returns-clause-taken
returns-clause-taken g c =
    let state = g.E.Emulator.state in
    let s = steps.Mem c.args.step.now in
    ok-five c.mem_shared.result _ _ _ _ _ _ c.mem_shared.ensures.space c.mem_shared.ensures.body c.mem_shared.ensures.area c.mem_shared.ensures.handed c.mem_shared.ensures.told (
    λ made first second third handed told.
    record {
      taken =
          λ by.
          three-read (valued state) by s made.reply (given state made.handed.value) (component.Space c.args.generation.slot) (component.Body c.args.generation.slot c.args.window.target) (component.Area c.args.place.0) c.args.parts.now
          c.index-parts-0.result c.index-parts-1.result c.index-parts-2.result (part.Space c.space.result.now) (part.Body c.body.result.now) (part.Area c.area.result.now) c.requires.parts c.index-parts-0.is c.space.ensures
          c.index-parts-1.is c.body.ensures c.index-parts-2.is c.area.ensures first (second c.args.window.target) third;
      alone = alone-as s (given state made.handed.value) (mem_carry c.args.window _) handed refl;
      told = told;
    }
    )
