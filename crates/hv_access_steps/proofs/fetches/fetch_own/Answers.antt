use Rattle.std.proofs.Common.{◌∷◌, [], ◌∙◌, None, ap, refl, sym, subst}
use Rattle.hv_event.specs.declared.event.ActorId.TheVariants.{Hart}
use Rattle.hv_event.specs.declared.event.CellId.TheVariants as component
use Rattle.hv_handed.specs.Given.{given}
use Rattle.hv_parts.specs.Value.{valued}
use Rattle.hv_parts.specs.declared.part.Part.TheVariants as part
use Rattle.hv_parts.proofs.Lists.{one-takes}
use Rattle.hv_rules.specs.Body.{ShowsWord, area_in}
use Rattle.hv_step.specs.declared.step.Step.TheVariants as steps
use Rattle.hv_access_steps.proofs.Fetching.{fetch-first-is, fetch-made}
use Rattle.hv_access_steps.proofs.Lists.{both-take, first-of, kept-first, one-stays, others-of, some-four, two-are}
use Rattle.hv_access_steps.proofs.fetches.fetch_own.Goals as goal

pub fetch-requires : goal.fetch-requires
fetch-requires g c =
    let two =
    two-are (valued g.E.Emulator.state) (component.Vcpu c.args.step.vcpu) (component.Body c.args.step.generation.slot c.args.step.row) [] c.args.parts.now c.split_at_mut-first.result.0.now c.split_at_mut-first.result.1.now
    c.index-first-0.result c.index-others-0.result (part.Vcpu c.vcpu_mut.result.now) (part.Body c.body.result.now) c.requires.parts c.split_at_mut-first.ensures.value c.split_at_mut-first.ensures.front_len
    c.vcpu_mut.ensures.value c.body.ensures in
    sym (ap area_in (fetch-first-is g.E.Emulator.state c.args.hart c.args.step c.args.parts.now two.0 c.vcpu_mut.result.now c.body.result.now two.1)) ∙ c.requires.own

pub returns-clause-made : goal.returns-clause-made
returns-clause-made g c =
    let state = g.E.Emulator.state in
    let vcpu = component.Vcpu c.args.step.vcpu in
    let body = component.Body c.args.step.generation.slot c.args.step.row in
    let s = steps.Fetch c.args.step in
    let front = c.split_at_mut-first.result.0.now in
    let back = c.split_at_mut-first.result.1.now in
    some-four c.fetch.result _ _ _ _ _ c.fetch.ensures.vcpu c.fetch.ensures.body c.fetch.ensures.handed c.fetch.ensures.told (
    λ made takes reads handed told harts.
    fetch-made state harts c.args.hart c.args.step made _ _ None None c.args.parts.now _ handed refl told
    (both-take (valued state) (Hart c.args.hart) s made.reply (given state made.handed.value) vcpu (body ∷ []) c.args.parts.now front back _ back
    c.split_at_mut-first.ensures.value c.split_at_mut-first.ensures.front_len
    (one-takes (valued state) (Hart c.args.hart) s made.reply (given state made.handed.value) vcpu front c.index-first-0.result (part.Vcpu c.vcpu_mut.result.now) (part.Vcpu c.fetch.new.vcpu)
    (first-of (valued state) vcpu (body ∷ []) c.args.parts.now front back c.requires.parts c.split_at_mut-first.ensures.value c.split_at_mut-first.ensures.front_len)
    c.vcpu_mut.ensures.value takes)
    (one-stays (valued state) (Hart c.args.hart) s made.reply (given state made.handed.value) body back c.index-others-0.result (part.Body c.body.result.now)
    (others-of (valued state) vcpu (body ∷ []) c.args.parts.now front back c.requires.parts c.split_at_mut-first.ensures.value c.split_at_mut-first.ensures.front_len)
    c.body.ensures reads))
    )

pub returns-clause-none : goal.returns-clause-none
returns-clause-none g c =
    let two =
    two-are (valued g.E.Emulator.state) (component.Vcpu c.args.step.vcpu) (component.Body c.args.step.generation.slot c.args.step.row) [] c.args.parts.now c.split_at_mut-first.result.0.now c.split_at_mut-first.result.1.now
    c.index-first-0.result c.index-others-0.result (part.Vcpu c.vcpu_mut.result.now) (part.Body c.body.result.now) c.requires.parts c.split_at_mut-first.ensures.value c.split_at_mut-first.ensures.front_len
    c.vcpu_mut.ensures.value c.body.ensures in
    λ is r shows.
    c.fetch.ensures.none is r
    (subst (λ answer. ShowsWord answer r) (fetch-first-is g.E.Emulator.state c.args.hart c.args.step c.args.parts.now two.0 c.vcpu_mut.result.now c.body.result.now two.1) shows)

pub returns-clause-kept : goal.returns-clause-kept
returns-clause-kept g c =
    λ is.
    kept-first (valued g.E.Emulator.state) c.args.parts.now c.split_at_mut-first.result.0.now c.split_at_mut-first.result.1.now c.index-first-0.result (part.Vcpu c.vcpu_mut.result.now) (part.Vcpu c.fetch.new.vcpu)
    c.split_at_mut-first.ensures.value c.split_at_mut-first.ensures.front_len c.vcpu_mut.ensures.value (ap (λ v. valued g.E.Emulator.state (part.Vcpu v)) (c.fetch.ensures.kept is))
