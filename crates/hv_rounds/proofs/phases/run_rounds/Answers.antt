use Rattle.std.proofs.Common.{ℕ, Err, ap, sym, subst, arith}
use Rattle.hv_rounds.specs.Board.{FoundLast}
use Rattle.hv_rounds.proofs.PhaseLemmas.{open-not-ended, rounds-step, rounds-over}
use Rattle.hv_rounds.proofs.PhaseLemmas.{rounds-init as at-first, rounds-smaller as stamps-rise}
use Rattle.hv_rounds.proofs.phases.run_rounds.Goals as goal

pub rounds-init : goal.rounds-init
rounds-init c = (omega arith, λ O s before turns goes. rw c.new-made.ensures.items (at-first O s before c.args.board.now turns goes))

pub rounds-smaller : goal.rounds-smaller
rounds-smaller c =
    stamps-rise c.rounds.board c.step.new.self c.in-Some.number c.in-Ok.entry (open-not-ended c.rounds.board c.rounds.from c.in-Some.number c.in-Some.ensures).0 c.in-Ok.ensures.ok

pub rounds-preserved : goal.rounds-preserved
rounds-preserved c =
    let below = (open-not-ended c.rounds.board c.rounds.from c.in-Some.number c.in-Some.ensures).0 in (
      omega arith,
      λ O s before turns goes.
          rw c.in_ok-push-in-Ok.ensures.items
          (rounds-step O s before c.rounds.made.items c.rounds.from c.in-Some.number c.rounds.board c.step.new.self c.in-Ok.entry c.rounds.invariant.0 turns (c.rounds.invariant.1 O s before turns goes) c.in-Some.ensures c.in-Ok.ensures.ok),
    )

pub returns-in-Err-Spent : goal.returns-in-Err-Spent
returns-in-Err-Spent c = λ O s before turns goes.
    let is = ap Err c.in-Err-Spent.field-0-is in
    let Found : ℕ → Type 0 = FoundLast c.rounds.board in
    (c.rounds.board, (c.rounds.invariant.1 O s before turns goes).goes, c.in-Err-Spent.ensures.kept c.in-Err-Spent.stamp is, subst Found (sym c.in-Err-Spent.stamp-is) (c.in-Err-Spent.ensures.spent c.in-Err-Spent.stamp is))

pub returns : goal.returns
returns c = λ O s before turns goes.
    rounds-over O s before c.rounds.made.items c.rounds.from c.rounds.board c.rounds.invariant.0 turns (c.rounds.invariant.1 O s before turns goes) (rw c.in_default.is at c.next_turn.ensures)
