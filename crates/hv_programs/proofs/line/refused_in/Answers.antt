use Rattle.std.proofs.Common.{◌<◌, length, sym, ◌∙◌, arith}
use Rattle.hv_rules.specs.Line.{rest}
use Rattle.hv_programs.specs.Ask.{ask_of, steps_in}
use Rattle.hv_programs.proofs.Places.{refused_is}
use Rattle.hv_programs.proofs.line.refused_in.Goals as goal

pub returns-then-made-len : goal.returns-then-made-len
returns-then-made-len c =
    let below : c.args.made < length (steps_in c.args.steps.now) = omega (arith, c.len.ensures) in
    c.refusal_at.ensures
    ∙ sym (refused_is c.args.way.now (steps_in c.args.steps.now) c.args.made (ask_of c.at.result) c.args.reply.now c.in-On.is below (c.at.ensures rest))
