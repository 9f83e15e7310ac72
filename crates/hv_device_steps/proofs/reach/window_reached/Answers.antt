use Rattle.std.proofs.Common.{ℕ, Option, ap, ◌∙◌}
use Rattle.std.specs.Prelude.{option_and_then}
use Rattle.hv_kinds.specs.declared.address.AddressType.{AddressType}
use Rattle.hv_rules.specs.Windows.{window_at}
use Rattle.hv_device_steps.proofs.reach.window_reached.Goals as goal

pub returns : goal.returns
returns c =
    c.window_in.ensures
    ∙ ap
    (λ (place : Option (AddressType × ℕ)).
    option_and_then (λ (at : AddressType × ℕ). window_at c.args.space.now.windows at.0 at.1 c.args.size) place)
    (c.searches_find_what_the_rules_name.ensures.place c.args.address c.guest_place-place.result c.guest_place-place.ensures)
