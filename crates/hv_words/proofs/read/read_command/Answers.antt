use Rattle.std.specs.Prelude.{Ok, Err}
use Rattle.hv_words.specs.declared.refusal.WordsRefusal.TheVariants.{NoCommand, BadWords}
use Rattle.hv_words.proofs.Unambiguous.{agreed}
use Rattle.hv_words.proofs.read.read_command.Goals as goal

pub returns-clause-command : goal.returns-clause-command
returns-clause-command c = λ command gives. agreed c.args.line.now c.read_line.result (Ok command) c.read_line.ensures gives

pub returns-clause-none : goal.returns-clause-none
returns-clause-none c = λ none. agreed c.args.line.now c.read_line.result (Err NoCommand) c.read_line.ensures none

pub returns-clause-bad : goal.returns-clause-bad
returns-clause-bad c = λ n bad. agreed c.args.line.now c.read_line.result (Err (BadWords n)) c.read_line.ensures bad
