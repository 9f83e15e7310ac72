use Rattle.std.proofs.Common.{◌∙◌, sym}
use Rattle.hv_access_steps.proofs.Loading.{area-loaded-is}
use Rattle.hv_access_steps.proofs.found.area_of_load.Goals as goal

pub returns : goal.returns
returns g c =
    c.area_shown.ensures.area
    ∙ sym (area-loaded-is g.E.Emulator.state c.args.step.now c.args.window c.args.parts.now c.index-parts-1.result c.index-parts-3.result c.files.result.now c.body.result.now c.in_ok-size.size c.requires
    (sym c.index-parts-1.is ∙ c.files.ensures) (sym c.index-parts-3.is ∙ c.body.ensures) (sym c.size_of.ensures ∙ c.in_ok-size.was))
