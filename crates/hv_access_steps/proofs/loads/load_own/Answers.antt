use Rattle.std.proofs.Common.{◌∷◌, [], ◌∙◌, None, Some, length, refl, sym}
use Rattle.hv_event.specs.declared.event.CellId.TheVariants as component
use Rattle.hv_handed.specs.Given.{given}
use Rattle.hv_handed.proofs.Learnt.{alone-as}
use Rattle.hv_memory_steps.specs.Hands.{load_carry}
use Rattle.hv_parts.specs.Value.{valued}
use Rattle.hv_parts.specs.declared.part.Part.TheVariants as part
use Rattle.hv_parts.proofs.Lists.{one-takes}
use Rattle.hv_step.specs.declared.step.Step.TheVariants as steps
use Rattle.hv_access_steps.proofs.Lists.{both-take, first-of, one-stays, others-of, two-are}
use Rattle.hv_access_steps.proofs.Looking.{area-first-is, window-first-is}
use Rattle.hv_access_steps.proofs.loads.load_own.Goals as goal

pub load-requires-clause-window : goal.load-requires-clause-window
load-requires-clause-window g c =
    let state = g.E.Emulator.state in
    let two =
    two-are (valued state) (component.Space c.args.generation.slot) (component.Body c.args.generation.slot c.args.window.target) [] c.args.parts.now c.split_at_mut-first.result.0.now c.split_at_mut-first.result.1.now
    c.index-first-0.result c.index-others-0.result (part.Space c.space.result.now) (part.Body c.body_mut.result.now) c.requires.parts c.split_at_mut-first.ensures.value c.split_at_mut-first.ensures.front_len
    c.space.ensures c.body_mut.ensures.value in
    sym (window-first-is state c.args.step.now.address (length c.args.bytes.now) c.args.parts.now _ c.space.result.now two.1) ∙ c.requires.window

pub load-requires-clause-own : goal.load-requires-clause-own
load-requires-clause-own g c =
    let state = g.E.Emulator.state in
    let two =
    two-are (valued state) (component.Space c.args.generation.slot) (component.Body c.args.generation.slot c.args.window.target) [] c.args.parts.now c.split_at_mut-first.result.0.now c.split_at_mut-first.result.1.now
    c.index-first-0.result c.index-others-0.result (part.Space c.space.result.now) (part.Body c.body_mut.result.now) c.requires.parts c.split_at_mut-first.ensures.value c.split_at_mut-first.ensures.front_len
    c.space.ensures c.body_mut.ensures.value in
    sym (area-first-is state c.args.window c.args.step.now.address (length c.args.bytes.now) c.args.parts.now two.0 c.space.result.now c.body_mut.result.now two.1) ∙ c.requires.own

pub returns-clause-taken : goal.returns-clause-taken
returns-clause-taken g c =
    let state = g.E.Emulator.state in
    let space = component.Space c.args.generation.slot in
    let body = component.Body c.args.generation.slot c.args.window.target in
    let s = steps.Load c.args.step.now in
    let front = c.split_at_mut-first.result.0.now in
    let back = c.split_at_mut-first.result.1.now in
    let reply = c.load.result.reply in
    let carry = given state c.load.result.handed.value in
    record {
      taken =
          λ by.
          both-take (valued state) by s reply carry space (body ∷ []) c.args.parts.now front back front _ c.split_at_mut-first.ensures.value c.split_at_mut-first.ensures.front_len
          (one-stays (valued state) by s reply carry space front c.index-first-0.result (part.Space c.space.result.now)
          (first-of (valued state) space (body ∷ []) c.args.parts.now front back c.requires.parts c.split_at_mut-first.ensures.value c.split_at_mut-first.ensures.front_len)
          c.space.ensures c.load.ensures.space)
          (one-takes (valued state) by s reply carry body back c.index-others-0.result (part.Body c.body_mut.result.now) (part.Body c.load.new.body)
          (others-of (valued state) space (body ∷ []) c.args.parts.now front back c.requires.parts c.split_at_mut-first.ensures.value c.split_at_mut-first.ensures.front_len)
          c.body_mut.ensures.value (c.load.ensures.body c.args.window.target));
      alone = alone-as s carry (load_carry c.args.bytes.now (Some c.args.window) None) c.load.ensures.handed refl;
      told = c.load.ensures.told;
    }
