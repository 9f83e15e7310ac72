use Rattle.std.proofs.Common.{◌≡◌, ◌<◌, length, refl, vec_len, arith, sym, false-eqb}
use Rattle.std.proofs.lemmas.Bool.{eqb-true}
use Rattle.hv_words.proofs.TextLemmas.{spells_more, unfit_where_stuck, unfit_where_empty, text_where_over}
use Rattle.hv_words.proofs.text.read_text.Goals as goal

pub loop-byte-preserved : goal.loop-byte-preserved
loop-byte-preserved c =
    rw c.in_ok-push.ensures.items (spells_more c.args.word.now c.loop-byte.bytes.items c.loop-byte.rest.now c.in-Some.behind.now c.in-Some.byte c.loop-byte.invariant c.in-Some.ensures)

pub returns-then-not-is_empty : goal.returns-then-not-is_empty
returns-then-not-is_empty c =
    let some : 0 < length c.loop-byte.rest.now = omega (arith, false-eqb (length c.loop-byte.rest.now) 0 c.if-not-is_empty.ensures) in
    (refl, unfit_where_stuck c.args.word.now c.loop-byte.bytes.items c.loop-byte.rest.now c.loop-byte.invariant some c.in_default.ensures)

pub returns-then-is_empty : goal.returns-then-is_empty
returns-then-is_empty c =
    let over : length c.loop-byte.rest.now ≡ 0 = eqb-true (length c.loop-byte.rest.now) 0 (sym c.if-not-is_empty.ensures) in
    let empty : length c.loop-byte.bytes.items ≡ 0 = omega (arith, c.loop-byte.bytes.ok, eqb-true (vec_len c.loop-byte.bytes) 0 (sym c.if-is_empty.ensures)) in
    (refl, unfit_where_empty c.args.word.now c.loop-byte.bytes.items c.loop-byte.rest.now c.loop-byte.invariant over empty)

pub returns : goal.returns
returns c =
    let over : length c.loop-byte.rest.now ≡ 0 = eqb-true (length c.loop-byte.rest.now) 0 (sym c.if-not-is_empty.ensures) in
    let some : 0 < length c.loop-byte.bytes.items = omega (arith, false-eqb (vec_len c.loop-byte.bytes) 0 c.if-is_empty.ensures) in
    rw c.from_vec.ensures (text_where_over c.args.word.now c.loop-byte.bytes.items c.loop-byte.rest.now c.loop-byte.invariant over some)
