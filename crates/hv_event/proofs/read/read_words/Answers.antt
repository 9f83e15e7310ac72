use Rattle.std.proofs.lemmas.Result.{err_from_is_err_and}
use Rattle.hv_data.proofs.Composed.{because_more}
use Rattle.hv_event.proofs.Events.{behind_three, no_event_without_arrow, no_event_without_reply}
use Rattle.hv_event.proofs.read.read_words.Goals as goal

pub returns-in_default-behind_word : goal.returns-in_default-behind_word
returns-in_default-behind_word c =
    no_event_without_arrow c.args.words.now _ c.in_ok-step.behind.now c.in_ok-step.step (behind_three c.args.words.now) c.in_ok-step.ensures c.in_default-behind_word.ensures

pub returns-in_err-reply : goal.returns-in_err-reply
returns-in_err-reply c =
    let p = err_from_is_err_and c.from_residual-in_err-reply.result c.from_residual-in_err-reply.ensures.1 in
    rw (p.1, p.2) (because_more _ (λ none. no_event_without_reply c.args.words.now _ c.in_ok-step.behind.now c.in-Some.reply.now c.in_ok-step.step (behind_three c.args.words.now) c.in_ok-step.ensures c.in-Some.ensures (λ r is. none r (rw c.step_name.ensures is))) c.in_err-reply.ensures)
