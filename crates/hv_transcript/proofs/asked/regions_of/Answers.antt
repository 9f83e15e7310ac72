use Rattle.std.proofs.Common.{List, ℕ, ap, sym, subst, ◌∙◌}
use Rattle.hv_step.specs.declared.step.Step.{Step}
use Rattle.hv_model.specs.Plans.{regions_of}
use Rattle.hv_shown.specs.Appends.{AreRegionsOf}
use Rattle.hv_transcript.proofs.asked.regions_of.Goals as goal

pub returns-in-Regions : goal.returns-in-Regions
returns-in-Regions c =
    subst (λ (s : Step). AreRegionsOf c.args.plans.now s c.regions_of.result.now) (sym c.in-Regions.is)
    (sym (c.regions_of.ensures.regions ∙ ap (λ (name : List ℕ). regions_of c.args.plans.now name) c.as_slice.ensures))
