use Rattle.std.proofs.Common.{◌∷◌, [], ◌∙◌, Some, ap, map, sym}
use Rattle.hv_event.specs.declared.event.ActorId.TheVariants.{Hart}
use Rattle.hv_event.specs.declared.event.CellId.TheVariants as component
use Rattle.hv_handed.specs.Given.{given}
use Rattle.hv_parts.specs.Value.{valued}
use Rattle.hv_parts.specs.declared.part.Part.TheVariants as part
use Rattle.hv_parts.proofs.Lists.{one-takes}
use Rattle.hv_rules.specs.Body.{area_in}
use Rattle.hv_step.specs.declared.step.Step.TheVariants as steps
use Rattle.hv_access_steps.proofs.Fetching.{area-long, access-first-is, access-made}
use Rattle.hv_access_steps.proofs.Lists.{both-take, first-of, one-stays, others-of, three-apart}
use Rattle.hv_access_steps.proofs.accesses.access_area.Goals as goal

pub access_shared-requires-clause-shared : goal.access_shared-requires-clause-shared
access_shared-requires-clause-shared g c =
    let state = g.E.Emulator.state in
    let three =
    three-apart (valued state) (component.Vcpu c.args.step.vcpu) (component.Body c.args.step.generation.slot c.args.step.row) (component.Area c.args.place.0) c.args.parts.now c.split_at_mut-first.result.0.now c.split_at_mut-first.result.1.now c.split_at_mut-second.result.0.now c.split_at_mut-second.result.1.now
    c.index-first-0.result c.index-second-0.result c.index-third-0.result (part.Vcpu c.vcpu_mut.result.now) (part.Body c.body.result.now) (part.Area c.area_mut.result.now) c.requires.parts c.split_at_mut-first.ensures.value c.split_at_mut-first.ensures.front_len
    c.split_at_mut-second.ensures.value c.split_at_mut-second.ensures.front_len c.vcpu_mut.ensures.value c.body.ensures c.area_mut.ensures.value in
    area-long _ c.args.place c.args.step.size _ _ c.area_mut.result.now (map (valued state) c.args.parts.now)
    (sym (ap area_in (access-first-is state c.args.hart c.args.step c.args.parts.now (part.Area c.area_mut.result.now ∷ []) c.vcpu_mut.result.now c.body.result.now three)) ∙ c.requires.shared)
    (ap (map (valued state)) three) c.requires.bytes

pub returns : goal.returns
returns g c =
    let state = g.E.Emulator.state in
    let vcpu = component.Vcpu c.args.step.vcpu in
    let body = component.Body c.args.step.generation.slot c.args.step.row in
    let area = component.Area c.args.place.0 in
    let s = steps.Access c.args.step in
    let front = c.split_at_mut-first.result.0.now in
    let back = c.split_at_mut-first.result.1.now in
    let second = c.split_at_mut-second.result.0.now in
    let third = c.split_at_mut-second.result.1.now in
    let reply = c.access_shared.result.reply in
    let carry = given state c.access_shared.result.handed.value in
    let three =
    three-apart (valued state) vcpu body area c.args.parts.now front back second third
    c.index-first-0.result c.index-second-0.result c.index-third-0.result (part.Vcpu c.vcpu_mut.result.now) (part.Body c.body.result.now) (part.Area c.area_mut.result.now) c.requires.parts c.split_at_mut-first.ensures.value c.split_at_mut-first.ensures.front_len
    c.split_at_mut-second.ensures.value c.split_at_mut-second.ensures.front_len c.vcpu_mut.ensures.value c.body.ensures c.area_mut.ensures.value in
    let asked =
    sym (ap area_in (access-first-is state c.args.hart c.args.step c.args.parts.now (part.Area c.area_mut.result.now ∷ []) c.vcpu_mut.result.now c.body.result.now three)) ∙ c.requires.shared in
    let those =
    others-of (valued state) vcpu (body ∷ area ∷ []) c.args.parts.now front back c.requires.parts c.split_at_mut-first.ensures.value c.split_at_mut-first.ensures.front_len in
    λ harts.
    access-made state harts c.args.hart c.args.step c.access_shared.result _ _ (Some c.args.place) _ c.args.parts.now _ c.access_shared.ensures.handed asked
    c.access_shared.ensures.told
    (both-take (valued state) (Hart c.args.hart) s reply carry vcpu (body ∷ area ∷ []) c.args.parts.now front back _ _ c.split_at_mut-first.ensures.value c.split_at_mut-first.ensures.front_len
    (one-takes (valued state) (Hart c.args.hart) s reply carry vcpu front c.index-first-0.result (part.Vcpu c.vcpu_mut.result.now) (part.Vcpu c.access_shared.new.vcpu)
    (first-of (valued state) vcpu (body ∷ area ∷ []) c.args.parts.now front back c.requires.parts c.split_at_mut-first.ensures.value c.split_at_mut-first.ensures.front_len)
    c.vcpu_mut.ensures.value c.access_shared.ensures.vcpu)
    (both-take (valued state) (Hart c.args.hart) s reply carry body (area ∷ []) back second third second _ c.split_at_mut-second.ensures.value c.split_at_mut-second.ensures.front_len
    (one-stays (valued state) (Hart c.args.hart) s reply carry body second c.index-second-0.result (part.Body c.body.result.now)
    (first-of (valued state) body (area ∷ []) back second third those c.split_at_mut-second.ensures.value c.split_at_mut-second.ensures.front_len) c.body.ensures c.access_shared.ensures.body)
    (one-takes (valued state) (Hart c.args.hart) s reply carry area third c.index-third-0.result (part.Area c.area_mut.result.now) (part.Area c.access_shared.new.area)
    (others-of (valued state) body (area ∷ []) back second third those c.split_at_mut-second.ensures.value c.split_at_mut-second.ensures.front_len) c.area_mut.ensures.value c.access_shared.ensures.area)))
