use Rattle.std.proofs.Common.{◌+◌, ℕ, Ok, refl, ap, sym, subst, ◌∙◌}
use Rattle.hv_answer.specs.declared.reply.Reply.TheVariants as reply
use Rattle.hv_words.specs.declared.command.Command.TheVariants as command
use Rattle.hv_event.specs.declared.event.ActorId.TheVariants as actor
use Rattle.hv_model.specs.declared.entry.Entry.{Entry}
use Rattle.hv_model.specs.Files.{read_file}
use Rattle.hv_rounds.specs.Step.{IsStep, ShowsEnd}
use Rattle.hv_rounds.proofs.Steps.{first-step, said-command, begun_at, opens-number, opens-count, opens-rests, run-session, finds-script, run-answers}
use Rattle.hv_rounds.proofs.step.step_run.Goals as goal

pub returns-clause-ok : goal.returns-clause-ok
returns-clause-ok c = λ t b.
    let line = c.args.line.now in
    let t1 = c.args.terminal.now in
    let t2 = c.open_answered.new.self in
    let t' = c.make.new.self in
    let answer = c.answer_run-answer.result in
    let r = answer.reply in
    let opens = c.in_ok-open_answered.ensures.ok in
    let read = Ok (command.VfsRun c.args.path) in
    let Is : Entry → Type 0 = λ e. IsStep c.args.files.now c.take_stamp.new.self t t' e in
    let rest = c.make.ensures.rest in
    subst Is (sym c.make.ensures.entry)
    (first-step c.args.files.now c.take_stamp.new.self t t1 t' line _ read b (said-command line (command.VfsRun c.args.path) c.requires)
    (λ plans. let p = begun_at plans line t1 read in (refl, run-answers p c.depth.result t1.lines answer.lines r (c.depth.ensures p.task) c.answer_run-answer.ensures.answers))
    (ap actor.Terminal (opens-number t1 t2 r opens)) (ap (λ n. n + 1) (opens-count t1 t2 r opens)) refl
    (rest.number ∙ opens-number t1 t2 r opens) (rest.count ∙ ap (λ n. n + 1) (opens-count t1 t2 r opens)) rest.stamp_is
    (λ plans k. run-session plans k t t1 t2 t' line c.in_ok-stamp.stamp c.args.path r b opens rest)
    tt
    (λ plans changed text shows.
    let Ends : ℕ → Type 0 = λ n. ShowsEnd n (reply.Run r) text in
    subst Ends (rest.rests ∙ opens-rests t1 t2 r opens ∙ b.rests) shows)
    (record {
      agrees = finds-script (read_file c.args.files.now.tree c.args.path) c.in_ok-found.found r answer.lines c.in_ok-found.ensures c.answer_run-answer.ensures.found;
      after = c.take_stamp.ensures.tree;
      stamp = c.take_stamp.ensures.stamp;
      next = c.in_ok-stamp.ensures.ok;
    }))
