use Rattle.std.proofs.Common.{◌≡◌, ℕ, Err, ap, refl, subst, sym}
use Rattle.hv_words.specs.Commands.{Says}
use Rattle.hv_words.specs.Said.{said}
use Rattle.hv_words.specs.declared.refusal.WordsRefusal.{WordsRefusal}
use Rattle.hv_words.specs.declared.refusal.WordsRefusal.TheVariants as refusal
use Rattle.hv_refusal.specs.declared.refusal.Refusal.TheVariants as refusals
use Rattle.hv_model.specs.Session.{task_of}
use Rattle.hv_terminals.specs.Task.{IsDueOf}
use Rattle.hv_terminals.proofs.task.due_of_command.Goals as goal

pub returns-in_ok-due-in-Err-NoCommand-clause-due : goal.returns-in_ok-due-in-Err-NoCommand-clause-due
returns-in_ok-due-in-Err-NoCommand-clause-due c =
    let why : WordsRefusal = refusal.NoCommand in
    let says : Says c.args.line.now (Err why) =
    subst (λ (w : WordsRefusal). Says c.args.line.now (Err w)) c.in-Err-NoCommand.field-0-is c.in-Err-NoCommand.ensures.said
    in
    let told : Err why ≡ said c.args.line.now = (c.lines_say_what_is_told.ensures.exact c.args.line.now (Err why)).0 says in
    subst (λ read. IsDueOf c.args.plans.now c.args.room (task_of c.args.plans.now c.args.line.now read) c.in_ok-due-in-Err-NoCommand.due) told
    (c.in_ok-due-in-Err-NoCommand.ensures.due c.args.plans.now c.args.room why refl)

pub returns-in_ok-due-in-Err-BadWords-clause-due : goal.returns-in_ok-due-in-Err-BadWords-clause-due
returns-in_ok-due-in-Err-BadWords-clause-due c =
    let why : WordsRefusal = refusal.BadWords c.in-Err-BadWords.number in
    let says : Says c.args.line.now (Err why) =
    subst (λ (w : WordsRefusal). Says c.args.line.now (Err w)) c.in-Err-BadWords.field-0-is c.in-Err-BadWords.ensures.said
    in
    let told : Err why ≡ said c.args.line.now = (c.lines_say_what_is_told.ensures.exact c.args.line.now (Err why)).0 says in
    subst (λ read. IsDueOf c.args.plans.now c.args.room (task_of c.args.plans.now c.args.line.now read) c.in_ok-due-in-Err-BadWords.due) told
    (c.in_ok-due-in-Err-BadWords.ensures.due c.args.plans.now c.args.room why (ap (λ (n : ℕ). refusals.BadWords n) (sym c.in-Err-BadWords.number-is)))
