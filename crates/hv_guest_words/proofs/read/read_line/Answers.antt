use Rattle.std.proofs.Common.{refl, sym}
use Rattle.hv_guest_words.proofs.RowLemmas.{said_by_row}
use Rattle.hv_guest_words.proofs.read.read_line.Goals as goal

pub returns : goal.returns
returns c =
    said_by_row c.args.line.now c.in-Some.family.now c.in-Some.behind.now c.in-Some-next_word.name.now c.in-Some-next_word.rest.now c.in-Some-find_row.row (c.if-not-is_printable.ensures.0 refl) c.in-Some.ensures c.in-Some-next_word.ensures (sym c.in-Some-find_row.ensures) c.read_arguments.result c.read_arguments.ensures
