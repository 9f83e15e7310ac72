use Rattle.std.proofs.Common.{◌∷◌, [], ◌∙◌, Some, ap, map, length, refl, sym}
use Rattle.hv_event.specs.declared.event.CellId.TheVariants as component
use Rattle.hv_handed.specs.Given.{given}
use Rattle.hv_handed.proofs.Learnt.{alone-as}
use Rattle.hv_memory_steps.specs.Hands.{load_carry}
use Rattle.hv_parts.specs.Value.{valued}
use Rattle.hv_parts.specs.declared.part.Part.TheVariants as part
use Rattle.hv_parts.proofs.Lists.{one-takes}
use Rattle.hv_step.specs.declared.step.Step.TheVariants as steps
use Rattle.hv_access_steps.proofs.Fetching.{area-long}
use Rattle.hv_access_steps.proofs.Lists.{both-take, first-of, one-stays, others-of, three-apart}
use Rattle.hv_access_steps.proofs.Looking.{area-first-is, window-first-is}
use Rattle.hv_access_steps.proofs.loads.load_area.Goals as goal

pub load_shared-requires-clause-window : goal.load_shared-requires-clause-window
load_shared-requires-clause-window g c =
    let state = g.E.Emulator.state in
    let three =
    three-apart (valued state) (component.Space c.args.generation.slot) (component.Body c.args.generation.slot c.args.window.target) (component.Area c.args.place.0) c.args.parts.now c.split_at_mut-first.result.0.now c.split_at_mut-first.result.1.now
    c.split_at_mut-second.result.0.now c.split_at_mut-second.result.1.now c.index-first-0.result c.index-second-0.result c.index-third-0.result (part.Space c.space.result.now) (part.Body c.body.result.now)
    (part.Area c.area_mut.result.now) c.requires.parts c.split_at_mut-first.ensures.value c.split_at_mut-first.ensures.front_len c.split_at_mut-second.ensures.value c.split_at_mut-second.ensures.front_len
    c.space.ensures c.body.ensures c.area_mut.ensures.value in
    sym (window-first-is state c.args.step.now.address (length c.args.bytes.now) c.args.parts.now _ c.space.result.now three) ∙ c.requires.window

pub load_shared-requires-clause-shared : goal.load_shared-requires-clause-shared
load_shared-requires-clause-shared g c =
    let state = g.E.Emulator.state in
    let three =
    three-apart (valued state) (component.Space c.args.generation.slot) (component.Body c.args.generation.slot c.args.window.target) (component.Area c.args.place.0) c.args.parts.now c.split_at_mut-first.result.0.now c.split_at_mut-first.result.1.now
    c.split_at_mut-second.result.0.now c.split_at_mut-second.result.1.now c.index-first-0.result c.index-second-0.result c.index-third-0.result (part.Space c.space.result.now) (part.Body c.body.result.now)
    (part.Area c.area_mut.result.now) c.requires.parts c.split_at_mut-first.ensures.value c.split_at_mut-first.ensures.front_len c.split_at_mut-second.ensures.value c.split_at_mut-second.ensures.front_len
    c.space.ensures c.body.ensures c.area_mut.ensures.value in
    area-long _ c.args.place (length c.args.bytes.now) _ _ c.area_mut.result.now (map (valued state) c.args.parts.now)
    (sym (area-first-is state c.args.window c.args.step.now.address (length c.args.bytes.now) c.args.parts.now _ c.space.result.now c.body.result.now three) ∙ c.requires.shared)
    (ap (map (valued state)) three) c.requires.bytes

pub returns-clause-handed : goal.returns-clause-handed
returns-clause-handed g c =
    let state = g.E.Emulator.state in
    let three =
    three-apart (valued state) (component.Space c.args.generation.slot) (component.Body c.args.generation.slot c.args.window.target) (component.Area c.args.place.0) c.args.parts.now c.split_at_mut-first.result.0.now c.split_at_mut-first.result.1.now
    c.split_at_mut-second.result.0.now c.split_at_mut-second.result.1.now c.index-first-0.result c.index-second-0.result c.index-third-0.result (part.Space c.space.result.now) (part.Body c.body.result.now)
    (part.Area c.area_mut.result.now) c.requires.parts c.split_at_mut-first.ensures.value c.split_at_mut-first.ensures.front_len c.split_at_mut-second.ensures.value c.split_at_mut-second.ensures.front_len
    c.space.ensures c.body.ensures c.area_mut.ensures.value in
    c.load_shared.ensures.handed
    ∙ ap (λ o. load_carry c.args.bytes.now (Some c.args.window) o)
    (sym (area-first-is state c.args.window c.args.step.now.address (length c.args.bytes.now) c.args.parts.now _ c.space.result.now c.body.result.now three) ∙ c.requires.shared)

pub returns-clause-taken : goal.returns-clause-taken
returns-clause-taken g c =
    let state = g.E.Emulator.state in
    let space = component.Space c.args.generation.slot in
    let body = component.Body c.args.generation.slot c.args.window.target in
    let area = component.Area c.args.place.0 in
    let s = steps.Load c.args.step.now in
    let front = c.split_at_mut-first.result.0.now in
    let back = c.split_at_mut-first.result.1.now in
    let second = c.split_at_mut-second.result.0.now in
    let third = c.split_at_mut-second.result.1.now in
    let reply = c.load_shared.result.reply in
    let carry = given state c.load_shared.result.handed.value in
    let those =
    others-of (valued state) space (body ∷ area ∷ []) c.args.parts.now front back c.requires.parts c.split_at_mut-first.ensures.value c.split_at_mut-first.ensures.front_len in
    record {
      taken =
          λ by.
          both-take (valued state) by s reply carry space (body ∷ area ∷ []) c.args.parts.now front back front _ c.split_at_mut-first.ensures.value c.split_at_mut-first.ensures.front_len
          (one-stays (valued state) by s reply carry space front c.index-first-0.result (part.Space c.space.result.now)
          (first-of (valued state) space (body ∷ area ∷ []) c.args.parts.now front back c.requires.parts c.split_at_mut-first.ensures.value c.split_at_mut-first.ensures.front_len)
          c.space.ensures c.load_shared.ensures.space)
          (both-take (valued state) by s reply carry body (area ∷ []) back second third second _ c.split_at_mut-second.ensures.value c.split_at_mut-second.ensures.front_len
          (one-stays (valued state) by s reply carry body second c.index-second-0.result (part.Body c.body.result.now)
          (first-of (valued state) body (area ∷ []) back second third those c.split_at_mut-second.ensures.value c.split_at_mut-second.ensures.front_len) c.body.ensures
          (c.load_shared.ensures.body c.args.window.target))
          (one-takes (valued state) by s reply carry area third c.index-third-0.result (part.Area c.area_mut.result.now) (part.Area c.load_shared.new.area)
          (others-of (valued state) body (area ∷ []) back second third those c.split_at_mut-second.ensures.value c.split_at_mut-second.ensures.front_len) c.area_mut.ensures.value c.load_shared.ensures.area));
      alone = alone-as s carry (load_carry c.args.bytes.now (Some c.args.window) _) c.load_shared.ensures.handed refl;
      told = c.load_shared.ensures.told;
    }
