use Rattle.std.proofs.Common.{◌<◌, length, arith, sym, ◌∙◌, false-eqb}
use Rattle.hv_data.proofs.Numerals.{differ_where_false}
use Rattle.hv_data.proofs.Pairs.{no_bytes_where_stuck}
use Rattle.hv_data.proofs.word.bytes_word.Goals as goal

pub returns-then-not-is_empty : goal.returns-then-not-is_empty
returns-then-not-is_empty c =
    let some : 0 < length c.loop-byte.rest.now = omega (arith, false-eqb (length c.loop-byte.rest.now) 0 c.if-not-is_empty.ensures) in
    λ bytes is.
    no_bytes_where_stuck c.args.word.now c.loop-byte.bytes.items c.loop-byte.rest.now c.loop-byte.invariant some
    (λ hyphen. differ_where_false c.args.word.now c.as_slice.result.now c.if-eq.ensures (hyphen ∙ sym c.as_slice.ensures)) c.in_default.ensures bytes is.0 is.1
