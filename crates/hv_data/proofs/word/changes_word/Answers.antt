use Rattle.std.proofs.Common.{true, false}
use Rattle.hv_data.proofs.Composed.{changes_read}
use Rattle.hv_data.proofs.word.changes_word.Goals as goal

pub returns-in-Some : goal.returns-in-Some
returns-in-Some c = changes_read false c.args.word.now c.in-Some.digits.now c.changes_behind.result c.in-Some.ensures c.changes_behind.ensures

pub returns-in-Some-strip_front : goal.returns-in-Some-strip_front
returns-in-Some-strip_front c =
    changes_read true c.args.word.now c.in-Some-strip_front.digits.now c.changes_behind-in-Some-strip_front.result c.in-Some-strip_front.ensures c.changes_behind-in-Some-strip_front.ensures
