use Rattle.std.proofs.Common.{sym, subst}
use Rattle.hv_parts.specs.Takes.{IsMadeAt}
use Rattle.hv_guest_events.specs.Owed.{owed_parts}
use Rattle.hv_guest_events.proofs.owed.owed_at.Goals as goal

pub returns-in-Sample : goal.returns-in-Sample
returns-in-Sample g c =
    λ by.
    subst (λ s. IsMadeAt g.E.Emulator.state c.args.harts by (owed_parts c.args.harts s) s c.sample_at.result c.args.parts.now c.sample_at.new.parts) (sym c.in-Sample.is)
    (c.sample_at.ensures c.args.harts by)

pub returns-in-Pin : goal.returns-in-Pin
returns-in-Pin g c =
    λ by.
    subst (λ s. IsMadeAt g.E.Emulator.state c.args.harts by (owed_parts c.args.harts s) s c.pin_at.result c.args.parts.now c.pin_at.new.parts) (sym c.in-Pin.is)
    (c.pin_at.ensures by)
