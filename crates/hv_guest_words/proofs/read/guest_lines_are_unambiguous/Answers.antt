use Rattle.hv_guest_words.specs.GuestCommands.{guest_table}
use Rattle.hv_guest_words.proofs.TableLemmas.{agreed_by}
use Rattle.hv_guest_words.proofs.RowLemmas.{guests_sound}
use Rattle.hv_guest_words.proofs.read.guest_lines_are_unambiguous.Goals as goal

pub returns : goal.returns
returns c = λ line one other first second. agreed_by guest_table guests_sound line one other first second
