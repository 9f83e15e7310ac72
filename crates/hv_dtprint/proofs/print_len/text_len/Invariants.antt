use Rattle.hv_dtprint.proofs.Printing.{heavy}
use Rattle.hv_dtprint.proofs.print_len.text_len.Given as goal

abbrev pub decreases-measuring : goal.decreases-measuring
decreases-measuring l = heavy l.stack.items
