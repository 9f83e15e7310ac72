use Rattle.std.proofs.Common.{sym}
use Rattle.hv_handed.proofs.Learnt.{untold, alone-as}
use Rattle.hv_region_steps.proofs.Refusing.{refused-touches, refused-take, refused-silent, over-again}
use Rattle.hv_region_steps.proofs.refusals.refused_at.Goals as goal

pub returns-clause-made : goal.returns-clause-made
returns-clause-made g c =
    λ harts by.
    record {
      touched = refused-touches harts by c.args.step.now _ _ c.args.row c.args.why _ c.requires.parts c.requires.refused;
      taken = refused-take by c.args.step.now _ _ c.args.row _ c.args.why _ c.refused.ensures c.hand_asked.ensures c.requires.parts c.requires.refused;
      alone = alone-as c.args.step.now _ _ c.hand_asked.ensures (over-again c.args.step.now _);
      told = untold _ _ _ (sym c.hand_asked.ensures) (refused-silent c.args.step.now c.args.row _) c.nothing.ensures;
    }
