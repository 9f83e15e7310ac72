use Rattle.std.proofs.Common.{◌∙◌, ap, sym}
use Rattle.hv_event.specs.declared.event.CellId.TheVariants as component
use Rattle.hv_parts.specs.Value.{valued}
use Rattle.hv_parts.specs.declared.part.Part.TheVariants as part
use Rattle.hv_rules.specs.Body.{area_in}
use Rattle.hv_access_steps.proofs.Fetching.{access-first-is}
use Rattle.hv_access_steps.proofs.Lists.{two-first}
use Rattle.hv_access_steps.proofs.found.area_of_access.Goals as goal

pub returns : goal.returns
returns g c =
    let state = g.E.Emulator.state in
    let two =
    two-first (valued state) (component.Vcpu 0) (component.Body 0 0) c.args.parts.now c.index-parts-0.result c.index-parts-1.result (part.Vcpu c.vcpu.result.now) (part.Body c.body.result.now) c.requires.parts
    (sym c.index-parts-0.is ∙ c.vcpu.ensures) (sym c.index-parts-1.is ∙ c.body.ensures) in
    c.area_accessed.ensures ∙ sym (ap area_in (access-first-is state c.args.hart c.args.step c.args.parts.now two.0 c.vcpu.result.now c.body.result.now two.1))
