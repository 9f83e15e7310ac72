use Rattle.std.proofs.Common.{sym, subst}
use Rattle.hv_body.specs.Body.{seen}
use Rattle.hv_space.specs.Space.{SpaceState}
use Rattle.hv_guest_steps.specs.Additions.{region_at}
use Rattle.hv_guest_steps.specs.Regions.{ShowWithin}
use Rattle.hv_guest_steps.proofs.Added.{is_added}
use Rattle.hv_guest_steps.proofs.Allowed.{allowed_by, leads}
use Rattle.hv_guest_steps.proofs.Entered.{within_put}
use Rattle.hv_guest_steps.proofs.adding.add.Goals as goal

pub make-requires-clause-leads : goal.make-requires-clause-leads
make-requires-clause-leads g c =
    let may = c.requires.may_add in
    leads c.args.space.now.windows c.args.plan.now c.args.plan.now.form c.args.target
    (allowed_by c.args.space.now.windows (region_at c.args.at c.args.plan.now) may.allowed).not_lacking may.leads_to

pub returns-clause-taken : goal.returns-clause-taken
returns-clause-taken g c =
    is_added c.args.at c.args.plan.now c.args.target c.changes-changed.result _ _ _ c.args.space.now c.enter.new.space _ _ c.requires.may_add
    c.in_ok-handed.ensures.handed
    (c.changes-changed.ensures (seen g.E.Emulator.state c.args.body.now) _ c.of-before.ensures c.of.ensures) c.in_ok-handed.ensures.shelf c.enter.ensures
    c.in_ok-handed.ensures.body

pub returns-clause-within : goal.returns-clause-within
returns-clause-within g c =
    λ within.
    subst (λ (s : SpaceState). ShowWithin s.windows) (sym c.enter.ensures)
    (within_put c.args.space.now.windows (region_at c.args.at c.args.plan.now) c.args.target c.requires.can_be c.requires.may_add.leads_to within)
