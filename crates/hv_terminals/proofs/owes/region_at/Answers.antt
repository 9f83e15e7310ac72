use Rattle.std.proofs.Common.{ap, sym, ◌∙◌}
use Rattle.std.specs.Prelude.{slice_get}
use Rattle.hv_model.specs.Plans.{region_at, regions_of}
use Rattle.hv_terminals.proofs.owes.region_at.Goals as goal

pub returns : goal.returns
returns c =
    c.region_in.ensures
    ∙ ap (λ regions. slice_get regions c.in_ok-row.row)
    (c.regions_of.ensures.regions ∙ ap (regions_of c.args.plans.now) c.as_slice.ensures)
    ∙ sym (ap (region_at c.args.plans.now c.args.guest.now) c.in_ok-row.was)
