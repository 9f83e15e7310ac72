use Rattle.std.proofs.Common.{sym, subst}
use Rattle.hv_body.specs.Body.{seen}
use Rattle.hv_space.specs.Space.{SpaceState}
use Rattle.hv_guest_steps.specs.Regions.{ShowWithin}
use Rattle.hv_guest_steps.proofs.Taken.{is_dropped}
use Rattle.hv_guest_steps.proofs.Windows.{within_left}
use Rattle.hv_guest_steps.proofs.removal.drop.Goals as goal

pub returns-clause-taken : goal.returns-clause-taken
returns-clause-taken g c =
    is_dropped c.args.row c.args.window c.changes-changed.result _ _ _ c.args.space.now c.forget.new.space _ _ c.requires c.in_ok-handed.ensures.handed
    (c.changes-changed.ensures (seen g.E.Emulator.state c.args.body.now) _ c.of-before.ensures c.of.ensures) c.in_ok-handed.ensures.shelf c.forget.ensures
    c.in_ok-handed.ensures.body

pub returns-clause-within : goal.returns-clause-within
returns-clause-within g c =
    λ within. subst (λ (s : SpaceState). ShowWithin s.windows) (sym c.forget.ensures) (within_left c.args.row c.args.space.now.windows within)
