use Rattle.std.proofs.Common.{inl, inr, sym, rules}
use Rattle.std.specs.Prelude.{slice_range}
use Rattle.hv_asm.specs.Line.{Gives}
use Rattle.hv_asm.proofs.Assemblies.{good_start, good_more, good_end, good_until, answer_of}
use Rattle.hv_asm.proofs.laws.each_text_assembles_or_has_a_bad_line.Goals as goal

pub loop-start-init : goal.loop-start-init
loop-start-init c = good_start c.args.text.now

pub line_at-requires : goal.line_at-requires
line_at-requires c = c.loop-start.invariant.so_far.within

pub returns-then-is_err : goal.returns-then-is_err
returns-then-is_err c =
    let bad = c.read_asm.ensures.bad.0 (sym c.if-is_err.ensures.value) in
    inr (good_until c.args.text.now c.loop-start.from c.in-Some.start c.in-Some.end c.in-Some.next c.loop-start.invariant c.in-Some.ensures bad)

pub loop-start-preserved : goal.loop-start-preserved
loop-start-preserved c =
    let line = slice_range c.args.text.now c.in-Some.start c.in-Some.end in
    let answer = answer_of c.read_asm.result (λ a. Gives line a) (sym c.if-is_err.ensures.value) c.read_asm.ensures.given in
    good_more c.args.text.now c.loop-start.from c.in-Some.start c.in-Some.end c.in-Some.next answer.0 c.loop-start.invariant c.in-Some.ensures answer.1

pub returns : goal.returns
returns c = inl (good_end c.args.text.now c.loop-start.from c.loop-start.invariant (search rules))
