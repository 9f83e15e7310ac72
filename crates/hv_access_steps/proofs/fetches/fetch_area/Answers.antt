use Rattle.std.proofs.Common.{◌∷◌, [], ◌∙◌, Some, ap, map, sym}
use Rattle.hv_event.specs.declared.event.ActorId.TheVariants.{Hart}
use Rattle.hv_event.specs.declared.event.CellId.TheVariants as component
use Rattle.hv_handed.specs.Given.{given}
use Rattle.hv_parts.specs.Value.{valued}
use Rattle.hv_parts.specs.declared.part.Part.TheVariants as part
use Rattle.hv_parts.proofs.Lists.{one-takes}
use Rattle.hv_rules.specs.Body.{area_in}
use Rattle.hv_step.specs.declared.step.Step.TheVariants as steps
use Rattle.hv_access_steps.proofs.Fetching.{area-long, fetch-first-is, fetch-made}
use Rattle.hv_access_steps.proofs.Lists.{both-take, first-of, others-of, three-are, two-read}
use Rattle.hv_access_steps.proofs.fetches.fetch_area.Goals as goal

pub fetch_shared-requires : goal.fetch_shared-requires
fetch_shared-requires g c =
    let state = g.E.Emulator.state in
    let three =
    three-are (valued state) (component.Vcpu c.args.step.vcpu) (component.Body c.args.step.generation.slot c.args.step.row) (component.Area c.args.place.0) c.args.parts.now c.split_at_mut-first.result.0.now c.split_at_mut-first.result.1.now
    c.index-first-0.result c.index-others-0.result c.index-others-1.result (part.Vcpu c.vcpu_mut.result.now) (part.Body c.body.result.now) (part.Area c.area.result.now) c.requires.parts c.split_at_mut-first.ensures.value c.split_at_mut-first.ensures.front_len
    c.vcpu_mut.ensures.value (sym c.index-others-0.is ∙ c.body.ensures) (sym c.index-others-1.is ∙ c.area.ensures) in
    area-long _ c.args.place 4 _ _ c.area.result.now (map (valued state) c.args.parts.now)
    (sym (ap area_in (fetch-first-is state c.args.hart c.args.step c.args.parts.now (part.Area c.area.result.now ∷ []) c.vcpu_mut.result.now c.body.result.now three)) ∙ c.requires.shared)
    (ap (map (valued state)) three) c.requires.bytes

pub returns-clause-made : goal.returns-clause-made
returns-clause-made g c =
    let state = g.E.Emulator.state in
    let vcpu = component.Vcpu c.args.step.vcpu in
    let body = component.Body c.args.step.generation.slot c.args.step.row in
    let area = component.Area c.args.place.0 in
    let s = steps.Fetch c.args.step in
    let front = c.split_at_mut-first.result.0.now in
    let back = c.split_at_mut-first.result.1.now in
    let reply = c.fetch_shared.result.reply in
    let carry = given state c.fetch_shared.result.handed.value in
    let three =
    three-are (valued state) vcpu body area c.args.parts.now front back
    c.index-first-0.result c.index-others-0.result c.index-others-1.result (part.Vcpu c.vcpu_mut.result.now) (part.Body c.body.result.now) (part.Area c.area.result.now) c.requires.parts c.split_at_mut-first.ensures.value c.split_at_mut-first.ensures.front_len
    c.vcpu_mut.ensures.value (sym c.index-others-0.is ∙ c.body.ensures) (sym c.index-others-1.is ∙ c.area.ensures) in
    let asked =
    sym (ap area_in (fetch-first-is state c.args.hart c.args.step c.args.parts.now (part.Area c.area.result.now ∷ []) c.vcpu_mut.result.now c.body.result.now three)) ∙ c.requires.shared in
    λ harts.
    fetch-made state harts c.args.hart c.args.step c.fetch_shared.result _ _ _ (Some c.args.place) c.args.parts.now _ c.fetch_shared.ensures.handed asked
    c.fetch_shared.ensures.told
    (both-take (valued state) (Hart c.args.hart) s reply carry vcpu (body ∷ area ∷ []) c.args.parts.now front back _ back c.split_at_mut-first.ensures.value c.split_at_mut-first.ensures.front_len
    (one-takes (valued state) (Hart c.args.hart) s reply carry vcpu front c.index-first-0.result (part.Vcpu c.vcpu_mut.result.now) (part.Vcpu c.fetch_shared.new.vcpu)
    (first-of (valued state) vcpu (body ∷ area ∷ []) c.args.parts.now front back c.requires.parts c.split_at_mut-first.ensures.value c.split_at_mut-first.ensures.front_len)
    c.vcpu_mut.ensures.value c.fetch_shared.ensures.vcpu)
    (two-read (valued state) (Hart c.args.hart) s reply carry body area back c.index-others-0.result c.index-others-1.result (part.Body c.body.result.now) (part.Area c.area.result.now)
    (others-of (valued state) vcpu (body ∷ area ∷ []) c.args.parts.now front back c.requires.parts c.split_at_mut-first.ensures.value c.split_at_mut-first.ensures.front_len)
    c.index-others-0.is c.body.ensures c.index-others-1.is c.area.ensures c.fetch_shared.ensures.body c.fetch_shared.ensures.area))
