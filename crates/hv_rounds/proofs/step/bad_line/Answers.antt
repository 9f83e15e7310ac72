use Rattle.std.proofs.Common.{Err, refl, ap, sym, subst, ◌∙◌, arith}
use Rattle.hv_answer.specs.declared.reply.Reply.TheVariants as reply
use Rattle.hv_model.specs.declared.entry.Entry.{Entry}
use Rattle.hv_rounds.specs.Step.{IsStep}
use Rattle.hv_rounds.proofs.Steps.{first-step, bad-read, bad-session, bad-shown}
use Rattle.hv_rounds.proofs.step.bad_line.Goals as goal

pub returns-clause-ok : goal.returns-clause-ok
returns-clause-ok c = λ t b.
    let files = c.args.files.now in
    let line = c.args.line in
    let t1 = c.args.terminal.now in
    let t' = c.make.new.self in
    let Is : Entry → Type 0 = λ e. IsStep files files t t' e in
    let rest = c.make.ensures.rest in
    let read = bad-read line c.args.why c.requires in
    subst Is (sym c.make.ensures.entry)
    (first-step files files t t1 t' line _ (Err read.0) b read.1 (λ plans. (refl, ap reply.Bad (sym read.2))) refl refl refl rest.number rest.count rest.stamp_is
    (λ plans k. bad-session plans t t1 t' line read.0 _ k c.args.why b rest) tt
    (λ plans changed text shows. bad-shown text read.0 c.args.why t'.rests (rest.rests ∙ b.rests) read.2 shows)
    (record { same = refl; next = omega (arith, c.in_ok-stamp.ensures.ok) }))
