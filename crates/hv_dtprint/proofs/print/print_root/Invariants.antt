use Rattle.hv_dtprint.proofs.Printing.{IsPrinting, heavy}
use Rattle.hv_dtprint.proofs.Kept.{IsKept}
use Rattle.hv_dtprint.proofs.print.print_root.Given as goal

abbrev pub invariant-printing : goal.invariant-printing
invariant-printing l = record {
  text : IsPrinting l.out.items l.stack.items l.root;
  bytes : IsKept l.stack.items l.root;
}

abbrev pub decreases-printing : goal.decreases-printing
decreases-printing l = heavy l.stack.items
