use Rattle.std.proofs.Common.{◌≡◌, ℕ, List, Ok, sym}
use Rattle.hv_words.specs.Said.{said}
use Rattle.hv_words.specs.declared.command.Command.{Command}
use Rattle.hv_terminals.proofs.Ready.{terminal-ready}
use Rattle.hv_terminals.proofs.laws.terminals_ask_for_steps_of_the_board.Goals as goal

pub returns : goal.returns
returns c = terminal-ready (λ text asked is. (c.lines_say_what_is_told.ensures.exact text (Ok asked)).1 (sym is))
