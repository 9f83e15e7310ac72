use Rattle.std.proofs.Common.{ℕ, Err, ap, sym, subst, lit<}
use Rattle.std.proofs.lemmas.Bool.{false≢true}
use Rattle.hv_model.specs.Session.{HasBooted}
use Rattle.hv_rounds.specs.declared.terminal.Terminal.{Terminal}
use Rattle.hv_rounds.specs.Cells.{session_of}
use Rattle.hv_rounds.specs.Board.{at, FoundLast}
use Rattle.hv_rounds.proofs.PhaseLemmas.{boot-step, item-at}
use Rattle.hv_rounds.proofs.PhaseLemmas.{boot-smaller as stamp-rises}
use Rattle.hv_rounds.proofs.phases.run_boot.Goals as goal

pub boot-smaller : goal.boot-smaller
boot-smaller c = stamp-rises c.boot.board c.step.new.self c.in-Ok.entry c.in-Ok.ensures.ok

pub boot-preserved : goal.boot-preserved
boot-preserved c = λ O part.
    let Ended : Terminal → Type 0 = λ t. HasBooted (session_of t) in
    let not_end = λ (d : Terminal) (end : Ended (at c.boot.board 0 d)). false≢true (c.boot-test.ensures.1 (subst Ended (item-at c.boot.board 0 d c.index.result.now (lit< tt) c.index.ensures) end)) in
    rw c.in_ok-push-in-Ok.ensures.items
    (boot-step O c.boot.made.items c.boot.board c.step.new.self c.in-Ok.entry (c.boot.invariant O part) c.in-Ok.ensures.ok not_end)

pub returns-in-Err-Spent : goal.returns-in-Err-Spent
returns-in-Err-Spent c = λ O part.
    let Ended : Terminal → Type 0 = λ t. HasBooted (session_of t) in
    let not_end = λ (d : Terminal) (end : Ended (at c.boot.board 0 d)). false≢true (c.boot-test.ensures.1 (subst Ended (item-at c.boot.board 0 d c.index.result.now (lit< tt) c.index.ensures) end)) in
    let is = ap Err c.in-Err-Spent.field-0-is in
    let Found : ℕ → Type 0 = FoundLast c.boot.board in
    (c.boot.board, c.boot.invariant O part, not_end, c.in-Err-Spent.ensures.kept c.in-Err-Spent.stamp is, subst Found (sym c.in-Err-Spent.stamp-is) (c.in-Err-Spent.ensures.spent c.in-Err-Spent.stamp is))
