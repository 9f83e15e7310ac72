use Rattle.std.proofs.Common.{◌≡◌, ◌-◌, ℕ, suc, Ok, refl, ap, sym, subst, ◌∙◌, arith}
use Rattle.hv_answer.specs.declared.reply.Reply.TheVariants as reply
use Rattle.hv_words.specs.declared.command.Command.TheVariants as command
use Rattle.hv_model.specs.declared.entry.Entry.{Entry}
use Rattle.hv_rounds.specs.Step.{IsStep, ShowsEnd}
use Rattle.hv_rounds.proofs.Steps.{first-step, said-command, rests-some, rests-begun, first-rest-session, first-rest-shown}
use Rattle.hv_rounds.proofs.step.rest_first.Goals as goal

pub returns-clause-ok : goal.returns-clause-ok
returns-clause-ok c = λ t b.
    let files = c.args.files.now in
    let line = c.args.line.now in
    let t1 = c.args.terminal.now in
    let t' = c.make.new.self in
    let n = c.args.count - 1 in
    let is : c.args.count ≡ suc n = (let some = rests-some line c.args.count c.requires in omega arith) in
    let read = Ok (command.TermRest (suc n)) in
    let Is : Entry → Type 0 = λ e. IsStep files files t t' e in
    let rest = c.make.ensures.rest in
    subst Is (sym c.make.ensures.entry)
    (first-step files files t t1 t' line _ read b (said-command line (command.TermRest c.args.count) c.requires ∙ ap (λ (k : ℕ). Ok (command.TermRest k)) is)
    (λ plans. rests-begun plans line t1 n t1.lines) refl refl refl rest.number rest.count rest.stamp_is
    (λ plans k. first-rest-session plans t t1 t' line n 0 k b (rest.asked ∙ is) rest.rests rest.boot rest.own rest.lines)
    tt
    (λ plans changed text shows.
    let Ends : ℕ → Type 0 = λ m. ShowsEnd m reply.Rest text in
    first-rest-shown plans line n changed text (subst Ends rest.rests shows))
    (record { same = refl; next = omega (arith, c.in_ok-stamp.ensures.ok) }))
