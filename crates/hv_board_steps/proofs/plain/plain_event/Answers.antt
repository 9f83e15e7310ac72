use Rattle.std.proofs.Common.{rules, ◌≡◌, Err, [], refl}
use Rattle.std.specs.Prelude.{Result}
use Rattle.hv_board.specs.declared.stop.Stop.{Stop}
use Rattle.hv_board.specs.declared.stop.Stop.TheVariants.{Spent}
use Rattle.hv_rules.specs.Carry.{nothing}
use Rattle.hv_text.specs.declared.limits.TheConstants.{GREATEST_STAMP}
use Rattle.hv_board_steps.proofs.Ends.{err-held, finds}
use Rattle.hv_board_steps.specs.declared.happened.Happened.{Happened}
use Rattle.hv_board_steps.proofs.Touching.{plain-alone, plain-touch}
use Rattle.hv_board_steps.specs.Plain.{OfReply}
use Rattle.hv_board_steps.proofs.plain.plain_event.Goals as goal

pub returns-in_err-lifted-clause-held_up : goal.returns-in_err-lifted-clause-held_up
returns-in_err-lifted-clause-held_up g c =
    let board = c.args.board.now in
    let s = c.args.step.now in
    let by = c.args.by in
    let wanted = OfReply c.args.reply in
    let spent = c.in_err-lifted.ensures.spent in
    let is : ◌≡◌ {A = Result (Happened g.row.E.Denot) Stop} c.from_residual.result (Err (Spent GREATEST_STAMP)) = search rules in
    err-held g.E.Emulator.state by c.args.own s wanted board c.lift.new.self c.from_residual.result is spent.1
    (finds board by c.args.own s wanted c.args.reply nothing [] (plain-touch board.layout.harts by s c.args.reply nothing c.requires.step) (plain-alone s nothing c.requires.step) refl
    (record { rising = tt; have = tt }) spent.0)
