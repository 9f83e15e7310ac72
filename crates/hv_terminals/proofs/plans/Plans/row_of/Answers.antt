-- The row of a region, searched from the first row on.
use Rattle.std.proofs.Common.{Bool, sym, ap, ◌∙◌}
use Rattle.std.specs.Prelude.{position}
use Rattle.std.specs.Str.{bytes_eq}
use Rattle.std.proofs.lemmas.Iterator.Adapters.{position_from-zero}
use Rattle.hv_region.specs.declared.plan.RegionPlan.{RegionPlan}
use Rattle.hv_terminals.proofs.plans.Plans.row_of.Goals as goal

pub returns : goal.returns
returns c =
    let named : RegionPlan → Bool = λ region. bytes_eq region.name c.args.region.now in
    c.row_from.ensures ∙ sym (position_from-zero {B = RegionPlan} named c.regions_of.result.now)
    ∙ ap (position named) c.regions_of.ensures.regions
