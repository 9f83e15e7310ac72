use Rattle.std.proofs.Common.{arith}
use Rattle.hv_dtree.proofs.Strings.{passed_more, no_string}
use Rattle.hv_dtree.proofs.values.string_in.Goals as goal

pub returns-in_err-rest : goal.returns-in_err-rest
returns-in_err-rest c =
    rw c.from_residual.ensures (no_string c.args.value.now c.passed._count c.args.place c.passed.rest.now c.passed.invariant (omega arith) c.in_err-rest.ensures)

pub passed-preserved : goal.passed-preserved
passed-preserved c =
    passed_more c.args.value.now c.passed._count c.passed.rest.now c.in_ok-rest.field-0.0.now c.in_ok-rest.field-0.1.now c.passed.invariant c.in_ok-rest.ensures.0 c.in_ok-rest.ensures.1

pub returns-in-None : goal.returns-in-None
returns-in-None c =
    no_string c.args.value.now c.passed._count c.args.place c.passed.rest.now c.passed.invariant (omega arith) c.in-None.ensures
