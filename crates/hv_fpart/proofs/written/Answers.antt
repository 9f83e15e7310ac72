use Rattle.hv_files.specs.FileMap.{with_file}
use Rattle.hv_fpart.proofs.Refusals.{done-shown, changed-shown}
use Rattle.hv_fpart.proofs.written.Goals as goal

pub returns-in_ok-shown-in-Err-clause-answer : goal.returns-in_ok-shown-in-Err-clause-answer
returns-in_ok-shown-in-Err-clause-answer c =
    done-shown (with_file c.args.files.now c.args.path.now c.args.bytes) c.in-Err.refusal c.in_ok-shown-in-Err.field-0 c.in-Err.ensures.refused c.in_ok-shown-in-Err.ensures

pub returns-in_ok-shown-in-Err-clause-after : goal.returns-in_ok-shown-in-Err-clause-after
returns-in_ok-shown-in-Err-clause-after c =
    changed-shown c.args.files.now c.put.new.self (with_file c.args.files.now c.args.path.now c.args.bytes) c.in-Err.refusal c.in_ok-shown-in-Err.field-0 c.in-Err.ensures.refused c.in_ok-shown-in-Err.ensures c.in-Err.ensures.err
