use Rattle.std.proofs.Common.{get_or, arith}
use Rattle.hv_dtree.proofs.Numbers.{room}
use Rattle.hv_dtree.proofs.values.big_endian.Goals as goal

pub overflow_mul-value : goal.overflow_mul-value
overflow_mul-value c =
    omega (arith, room c.loop-byte.value c.loop-byte.byte-index 0 c.loop-byte.invariant.small (omega arith) (omega arith))

pub overflow_add-value : goal.overflow_add-value
overflow_add-value c =
    let byte = get_or c.args.bytes.now c.loop-byte.byte-index 0 in
    omega (arith, room c.loop-byte.value c.loop-byte.byte-index byte c.loop-byte.invariant.small (omega arith) (omega (arith, c.type_inv.bytes c.loop-byte.byte-index)))
