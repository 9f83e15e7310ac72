use Rattle.std.proofs.Common.{◌≡◌, ◌<◌, ℕ, suc, ◌+◌, drop, length, sym, ap, ◌∙◌, arith}
use Rattle.hv_rules.specs.Line.{Ask, Place, first, left, moved, place_after, rest}
use Rattle.hv_programs.specs.Ask.{ask_of, steps_in}
use Rattle.hv_programs.specs.Line.{latest, place_of, verdict_of}
use Rattle.hv_programs.proofs.Places.{after_is, back_after}
use Rattle.hv_programs.proofs.line.next_after.Goals as goal

pub returns-then-made-len : goal.returns-then-made-len
returns-then-made-len c =
    let steps = steps_in c.args.steps.now in
    let below : c.args.made < length steps = omega (arith, c.len.ensures) in
    let on : c.args.made + 1 ≡ suc c.args.made = omega arith in
    let asked = ask_of c.at.result in
    c.next_by.ensures asked
    ∙ ap (λ (n : ℕ). first (left (moved (latest steps c.args.made) asked (drop n steps) (verdict_of c.verdict_at.result)))) on
    ∙ sym (ap (λ (p : Place). first (left p)) (after_is c.args.way.now steps c.args.made asked c.args.reply.now (verdict_of c.verdict_at.result) c.in-On.is below (c.at.ensures rest) c.verdict_at.ensures))

pub returns-then-made-gt0 : goal.returns-then-made-gt0
returns-then-made-gt0 c =
    c.next_in.ensures.next
    ∙ ap (λ (p : Place). first (left p)) (back_after c.args.way.now c.in-Back.field-0 (steps_in c.args.steps.now) c.args.made c.args.reply.now c.in-Back.is c.if-made-gt0.true c.requires.stands)
