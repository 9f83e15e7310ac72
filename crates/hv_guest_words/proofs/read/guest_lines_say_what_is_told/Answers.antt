use Rattle.hv_guest_words.specs.GuestCommands.{guest_table}
use Rattle.hv_guest_words.proofs.TableLemmas.{says_what_is_told_by, never_memory}
use Rattle.hv_guest_words.proofs.RowLemmas.{guests_sound}
use Rattle.hv_guest_words.proofs.read.guest_lines_say_what_is_told.Goals as goal

pub returns-clause-exact : goal.returns-clause-exact
returns-clause-exact c = λ line read. says_what_is_told_by guest_table guests_sound line read

pub returns-clause-definite : goal.returns-clause-definite
returns-clause-definite c = λ line e. never_memory guest_table line e
