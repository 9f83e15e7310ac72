use Rattle.std.proofs.Common.{rules, ◌≡◌, [], ◌∷◌, Err, refl, sym, arith}
use Rattle.std.specs.Prelude.{Result}
use Rattle.hv_board.specs.declared.stop.Stop.{Stop}
use Rattle.hv_board.specs.declared.stop.Stop.TheVariants.{Spent}
use Rattle.hv_board_steps.proofs.Back.{made-back}
use Rattle.hv_board_steps.proofs.Ends.{err-held, memory-held}
use Rattle.hv_board_steps.specs.declared.happened.Happened.{Happened}
use Rattle.hv_event.specs.declared.event.CellId.TheVariants as component
use Rattle.hv_text.specs.declared.limits.TheConstants.{GREATEST_STAMP}
use Rattle.hv_guest_events.proofs.Finding.{directory-finds}
use Rattle.hv_guest_events.specs.Kinds.{StoppedBy}
use Rattle.hv_guest_events.proofs.directory.directory_event.Goals as goal

pub returns-in_err-lifted-clause-held_up : goal.returns-in_err-lifted-clause-held_up
returns-in_err-lifted-clause-held_up g c =
    let board = c.args.board.now in
    let s = c.args.step.now in
    let by = c.args.by in
    let spent = c.in_err-lifted.ensures.spent in
    let is : ◌≡◌ {A = Result (Happened g.row.E.Denot) Stop} c.from_residual.result (Err (Spent GREATEST_STAMP)) = search rules in
    err-held g.E.Emulator.state by c.args.own s (StoppedBy c.args.stopped s) board c.lift.new.self c.from_residual.result is spent.1
    (directory-finds board by c.args.own s c.args.stopped c.requires.step spent.0)

pub finish-requires-clause-made : goal.finish-requires-clause-made
finish-requires-clause-made g c =
    let lifted = c.in_ok-lifted.lifted in
    made-back g.E.Emulator.state c.lift.new.self.layout.harts c.args.by (component.Dir ∷ []) c.args.step.now c.in-Ok.made
    c.deref_mut.result.now c.directory_at.new.parts lifted.were.value.items lifted.parts.items lifted.parts.len (omega (arith, lifted.parts.ok.0))
    c.deref_mut.ensures.value c.in_ok-lifted.ensures.next.parts c.in_ok-lifted.ensures.next.kinds
    (c.in-Ok.ensures.made c.lift.new.self.layout.harts c.args.by)

pub returns-in-Err-clause-held_up : goal.returns-in-Err-clause-held_up
returns-in-Err-clause-held_up g c =
    memory-held g.E.Emulator.state c.args.by c.args.own c.args.step.now (StoppedBy c.args.stopped c.args.step.now) c.args.board.now c.put_back.new.self _ c.in-Err.error
    (rw (sym c.in_ok-lifted.ensures.next.before_is) c.put_back.ensures.holds) refl
