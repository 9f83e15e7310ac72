use Rattle.std.proofs.Common.{ℕ, List, subst}
use Rattle.std.specs.Prelude.{IfOk}
use Rattle.hv_words.specs.Commands.{IsNoCommand}
use Rattle.hv_rounds.specs.declared.terminal.Terminal.{Terminal}
use Rattle.hv_rounds.specs.Step.{IsStep, IsBegun}
use Rattle.hv_rounds.proofs.step.step_line.Goals as goal

pub bad_line-requires : goal.bad_line-requires
bad_line-requires c = subst IsNoCommand c.as_slice.ensures (rw c.in-Err-NoCommand.field-0-is at c.in-Err-NoCommand.ensures.said)

pub returns-in-Ok-clause-ok : goal.returns-in-Ok-clause-ok
returns-in-Ok-clause-ok c =
    let Is : List ℕ → Type 0 = λ line. IfOk c.step_command.result (λ e. (t : Terminal) → IsBegun t c.args.terminal.now line → IsStep c.args.files.now c.step_command.new.files t c.step_command.new.terminal e) in
    subst Is c.as_slice-in-Ok.ensures c.step_command.ensures.ok
