use Rattle.std.proofs.Common.{◌≡◌, ◌++◌, replicate}
use Rattle.hv_dtprint.proofs.print_line.push_tabs.Given as goal

abbrev pub invariant-tabs : goal.invariant-tabs
invariant-tabs l = l.out.items ≡ l.initial.out.items ++ replicate l._tab 9
