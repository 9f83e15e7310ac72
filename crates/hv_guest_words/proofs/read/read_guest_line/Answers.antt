use Rattle.hv_guest_words.specs.GuestCommands.{guest_table}
use Rattle.hv_guest_words.proofs.TableLemmas.{says_what_is_told_by}
use Rattle.hv_guest_words.proofs.RowLemmas.{guests_sound}
use Rattle.hv_guest_words.proofs.read.read_guest_line.Goals as goal

pub returns-clause-told : goal.returns-clause-told
returns-clause-told c = (says_what_is_told_by guest_table guests_sound c.args.line.now c.read_line.result).0 c.read_line.ensures
