use Rattle.std.proofs.Common.{◌∷◌, [], ◌∙◌, None, ap, refl, sym, subst}
use Rattle.hv_event.specs.declared.event.ActorId.TheVariants.{Hart}
use Rattle.hv_event.specs.declared.event.CellId.TheVariants as component
use Rattle.hv_handed.specs.Given.{given}
use Rattle.hv_parts.specs.Value as value
use Rattle.hv_parts.specs.Value.{valued}
use Rattle.hv_parts.specs.declared.part.Part.TheVariants as part
use Rattle.hv_parts.proofs.Lists.{one-takes}
use Rattle.hv_rules.specs.Body.{ShowsAccess, area_in}
use Rattle.hv_step.specs.declared.step.Step.TheVariants as steps
use Rattle.hv_access_steps.proofs.Fetching.{access-first-is, access-made}
use Rattle.hv_access_steps.proofs.Lists.{both-take, first-of, kept-two, others-of, some-four, two-are}
use Rattle.hv_access_steps.proofs.accesses.access_own.Goals as goal

pub access-requires-clause-own : goal.access-requires-clause-own
access-requires-clause-own g c =
    let two =
    two-are (valued g.E.Emulator.state) (component.Vcpu c.args.step.vcpu) (component.Body c.args.step.generation.slot c.args.step.row) [] c.args.parts.now c.split_at_mut-first.result.0.now c.split_at_mut-first.result.1.now
    c.index-first-0.result c.index-others-0.result (part.Vcpu c.vcpu_mut.result.now) (part.Body c.body_mut.result.now) c.requires.parts c.split_at_mut-first.ensures.value c.split_at_mut-first.ensures.front_len
    c.vcpu_mut.ensures.value c.body_mut.ensures.value in
    sym (ap area_in (access-first-is g.E.Emulator.state c.args.hart c.args.step c.args.parts.now two.0 c.vcpu_mut.result.now c.body_mut.result.now two.1)) ∙ c.requires.own

pub returns-clause-made : goal.returns-clause-made
returns-clause-made g c =
    let state = g.E.Emulator.state in
    let vcpu = component.Vcpu c.args.step.vcpu in
    let body = component.Body c.args.step.generation.slot c.args.step.row in
    let s = steps.Access c.args.step in
    let front = c.split_at_mut-first.result.0.now in
    let back = c.split_at_mut-first.result.1.now in
    some-four c.access.result _ _ _ _ _ c.access.ensures.vcpu c.access.ensures.body c.access.ensures.handed c.access.ensures.told (
    λ made takes changes handed told harts.
    access-made state harts c.args.hart c.args.step made _ None None _ c.args.parts.now _ handed refl told
    (both-take (valued state) (Hart c.args.hart) s made.reply (given state made.handed.value) vcpu (body ∷ []) c.args.parts.now front back _ _
    c.split_at_mut-first.ensures.value c.split_at_mut-first.ensures.front_len
    (one-takes (valued state) (Hart c.args.hart) s made.reply (given state made.handed.value) vcpu front c.index-first-0.result (part.Vcpu c.vcpu_mut.result.now) (part.Vcpu c.access.new.vcpu)
    (first-of (valued state) vcpu (body ∷ []) c.args.parts.now front back c.requires.parts c.split_at_mut-first.ensures.value c.split_at_mut-first.ensures.front_len)
    c.vcpu_mut.ensures.value takes)
    (one-takes (valued state) (Hart c.args.hart) s made.reply (given state made.handed.value) body back c.index-others-0.result (part.Body c.body_mut.result.now) (part.Body c.access.new.body)
    (others-of (valued state) vcpu (body ∷ []) c.args.parts.now front back c.requires.parts c.split_at_mut-first.ensures.value c.split_at_mut-first.ensures.front_len)
    c.body_mut.ensures.value changes))
    )

pub returns-clause-none : goal.returns-clause-none
returns-clause-none g c =
    let two =
    two-are (valued g.E.Emulator.state) (component.Vcpu c.args.step.vcpu) (component.Body c.args.step.generation.slot c.args.step.row) [] c.args.parts.now c.split_at_mut-first.result.0.now c.split_at_mut-first.result.1.now
    c.index-first-0.result c.index-others-0.result (part.Vcpu c.vcpu_mut.result.now) (part.Body c.body_mut.result.now) c.requires.parts c.split_at_mut-first.ensures.value c.split_at_mut-first.ensures.front_len
    c.vcpu_mut.ensures.value c.body_mut.ensures.value in
    λ is changed r shows.
    c.access.ensures.none is changed r
    (subst (λ answer. ShowsAccess answer changed r) (access-first-is g.E.Emulator.state c.args.hart c.args.step c.args.parts.now two.0 c.vcpu_mut.result.now c.body_mut.result.now two.1) shows)

pub returns-clause-kept : goal.returns-clause-kept
returns-clause-kept g c =
    λ is.
    kept-two (valued g.E.Emulator.state) c.args.parts.now c.split_at_mut-first.result.0.now c.split_at_mut-first.result.1.now c.index-first-0.result (part.Vcpu c.vcpu_mut.result.now) (part.Vcpu c.access.new.vcpu)
    c.index-others-0.result (part.Body c.body_mut.result.now) (part.Body c.access.new.body)
    c.split_at_mut-first.ensures.value c.split_at_mut-first.ensures.front_len c.vcpu_mut.ensures.value (ap (λ v. valued g.E.Emulator.state (part.Vcpu v)) (c.access.ensures.vcpu_kept is))
    c.body_mut.ensures.value (ap value.Body (c.access.ensures.body_kept is))
