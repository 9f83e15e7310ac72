use Rattle.std.proofs.Common.{refl}
use Rattle.hv_words.proofs.Unambiguous.{said_by_row}
use Rattle.hv_words.proofs.read.read_line.Goals as goal

pub returns : goal.returns
returns c =
    said_by_row c.args.line.now c.in-Some.family.now c.in-Some.behind.now c.in-Some-next_word.name.now c.in-Some-next_word.rest.now c.in-Some-find_row.row (c.if-not-is_printable.ensures.0 refl) c.in-Some.ensures c.in-Some-next_word.ensures c.in-Some-find_row.ensures.words c.read_arguments.result c.read_arguments.ensures
