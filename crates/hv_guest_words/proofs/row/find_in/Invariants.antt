use Rattle.std.proofs.Common.{◌≡◌, drop}
use Rattle.hv_guest_words.specs.GuestRows.{row_in}
use Rattle.hv_guest_words.proofs.row.find_in.Given as goal

abbrev pub invariant-loop-row : goal.invariant-loop-row
invariant-loop-row l = row_in (drop l.row-index l.rows) l.family l.name ≡ row_in l.rows l.family l.name
