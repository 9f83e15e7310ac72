use Rattle.std.proofs.Common.{◌≡◌, sym, subst, List, ℕ}
use Rattle.std.proofs.lemmas.Result.{IfOk-weaker}
use Rattle.hv_guest_words.specs.GuestCommands.{guest_table, command_text, Gives}
use Rattle.hv_guest_words.proofs.TableLemmas.{gives_back_by}
use Rattle.hv_guest_words.proofs.print.print_guest_command.Goals as goal

pub returns-clause-reads_back : goal.returns-clause-reads_back
returns-clause-reads_back c =
    let command = c.args.command.now in
    IfOk-weaker c.line_of.result (λ (line : List ℕ). line ≡ command_text command) (λ (line : List ℕ). (other : List ℕ) → Gives other command → Gives line command)
    (λ line is other gives. subst (λ (l : List ℕ). Gives l command) (sym is) (gives_back_by guest_table other command gives)) c.line_of.ensures
