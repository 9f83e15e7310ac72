use Rattle.std.proofs.Common.{ℕ, ap, ◌∙◌, Option}
use Rattle.hv_device_steps.proofs.TakenLemmas.{of_region}
use Rattle.hv_device_steps.proofs.handed.hand_body.Goals as goal

pub returns : goal.returns
returns g c = c.hand_region.ensures ∙ ap (λ (parent : Option (ℕ × ℕ)). of_region c.args.row parent) c.parent_of.ensures
