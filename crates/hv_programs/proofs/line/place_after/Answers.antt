use Rattle.std.proofs.Common.{◌<◌, length, sym, ◌∙◌, arith}
use Rattle.hv_rules.specs.Line.{rest, goes_on, turns_back, ends}
use Rattle.hv_programs.specs.Ask.{ask_of, steps_in}
use Rattle.hv_programs.proofs.Places.{after_is, goes_on_is, back_after}
use Rattle.hv_programs.proofs.line.place_after.Goals as goal

pub returns-in-GoesOn-clause-place : goal.returns-in-GoesOn-clause-place
returns-in-GoesOn-clause-place c =
    let below : c.args.made.now < length (steps_in c.args.steps.now) = omega (arith, c.len.ensures) in
    goes_on_is c.args.way.now (steps_in c.args.steps.now) c.args.made.now (ask_of c.at.result) c.in-On.is below (c.at.ensures rest)
    ∙ sym (after_is c.args.way.now (steps_in c.args.steps.now) c.args.made.now (ask_of c.at.result) c.args.reply.now goes_on c.in-On.is below (c.at.ensures rest) c.in-GoesOn.ensures)

pub returns-in-TurnsBack-clause-place : goal.returns-in-TurnsBack-clause-place
returns-in-TurnsBack-clause-place c =
    let below : c.args.made.now < length (steps_in c.args.steps.now) = omega (arith, c.len.ensures) in
    sym (after_is c.args.way.now (steps_in c.args.steps.now) c.args.made.now (ask_of c.at.result) c.args.reply.now (turns_back c.in-TurnsBack.why.value) c.in-On.is below (c.at.ensures rest) c.in-TurnsBack.ensures)

pub returns-in-Ends-clause-place : goal.returns-in-Ends-clause-place
returns-in-Ends-clause-place c =
    let below : c.args.made.now < length (steps_in c.args.steps.now) = omega (arith, c.len.ensures) in
    sym (after_is c.args.way.now (steps_in c.args.steps.now) c.args.made.now (ask_of c.at.result) c.args.reply.now (ends c.in-Ends.why.value) c.in-On.is below (c.at.ensures rest) c.in-Ends.ensures)

pub returns-then-made-gt0-clause-place : goal.returns-then-made-gt0-clause-place
returns-then-made-gt0-clause-place c =
    back_after c.args.way.now c.in-Back.field-0 (steps_in c.args.steps.now) c.args.made.now c.args.reply.now c.in-Back.is c.if-made-gt0.true c.requires
