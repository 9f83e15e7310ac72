use Rattle.std.proofs.Common.{◌≡◌, sym, subst, List, ℕ}
use Rattle.std.proofs.lemmas.Result.{IfOk-weaker}
use Rattle.hv_words.specs.Commands.{Gives}
use Rattle.hv_words.specs.Print.{command_text}
use Rattle.hv_words.proofs.PrintLemmas.{gives_back}
use Rattle.hv_words.proofs.print.print_command.Goals as goal

pub returns-clause-reads_back : goal.returns-clause-reads_back
returns-clause-reads_back c =
    let command = c.args.command.now in
    IfOk-weaker c.line_of.result (λ (line : List ℕ). line ≡ command_text command) (λ (line : List ℕ). (other : List ℕ) → Gives other command → Gives line command)
    (λ line is other gives. subst (λ (l : List ℕ). Gives l command) (sym is) (gives_back other command gives)) c.line_of.ensures
