use Rattle.std.proofs.Common.{subst}
use Rattle.xvsim.specs.Made.{IsMadeFrom}
use Rattle.xvsim.proofs.Told.{run_of, good_of}
use Rattle.xvsim.proofs.top.run_bundle.Goals as goal

pub returns-in-Ok-write_all-clause-input : goal.returns-in-Ok-write_all-clause-input
returns-in-Ok-write_all-clause-input g c = λ done.
    let made = c.in-Ok-Finished.ensures in
    run_of _ _ _ c.in-Ok.input c.in-Ok-Finished.run' made.0 c.in-Ok.ensures.all made.1 (subst (IsMadeFrom g.E.Emulator.state c.args.parts.items made.0) c.in-Ok-Finished.field-0-is made.2).0

pub returns-in-Ok-write_all-clause-due : goal.returns-in-Ok-write_all-clause-due
returns-in-Ok-write_all-clause-due g c = good_of _ _ _ c.in-Ok.input c.in-Ok.ensures.whole c.in-Ok.ensures.all

pub returns-in-Ok-Finished-clause-input : goal.returns-in-Ok-Finished-clause-input
returns-in-Ok-Finished-clause-input g c = λ done.
    let made = c.in-Ok-Finished.ensures in
    run_of _ _ _ c.in-Ok.input c.in-Ok-Finished.run' made.0 c.in-Ok.ensures.all made.1 (subst (IsMadeFrom g.E.Emulator.state c.args.parts.items made.0) c.in-Ok-Finished.field-0-is made.2).0

pub returns-in-Ok-Finished-clause-due : goal.returns-in-Ok-Finished-clause-due
returns-in-Ok-Finished-clause-due g c = good_of _ _ _ c.in-Ok.input c.in-Ok.ensures.whole c.in-Ok.ensures.all

pub returns-in-Ok-Stopped-clause-input : goal.returns-in-Ok-Stopped-clause-input
returns-in-Ok-Stopped-clause-input g c = λ done.
    let made = c.in-Ok-Stopped.ensures in
    run_of _ _ _ c.in-Ok.input c.in-Ok-Stopped.run' made.0 c.in-Ok.ensures.all made.1 (subst (IsMadeFrom g.E.Emulator.state c.args.parts.items made.0) c.in-Ok-Stopped.field-0-is made.2).0

pub returns-in-Ok-Stopped-clause-due : goal.returns-in-Ok-Stopped-clause-due
returns-in-Ok-Stopped-clause-due g c = good_of _ _ _ c.in-Ok.input c.in-Ok.ensures.whole c.in-Ok.ensures.all
