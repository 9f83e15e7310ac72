use Rattle.hv_files.specs.FileMap.{made_folder}
use Rattle.hv_fpart.proofs.Refusals.{done-shown, changed-shown}
use Rattle.hv_fpart.proofs.folder_made.Goals as goal

pub returns-in_ok-shown-in-Err-clause-answer : goal.returns-in_ok-shown-in-Err-clause-answer
returns-in_ok-shown-in-Err-clause-answer c =
    done-shown (made_folder c.args.files.now c.args.path.now) c.in-Err.refusal c.in_ok-shown-in-Err.field-0 c.in-Err.ensures.refused c.in_ok-shown-in-Err.ensures

pub returns-in_ok-shown-in-Err-clause-after : goal.returns-in_ok-shown-in-Err-clause-after
returns-in_ok-shown-in-Err-clause-after c =
    changed-shown c.args.files.now c.mkdir.new.self (made_folder c.args.files.now c.args.path.now) c.in-Err.refusal c.in_ok-shown-in-Err.field-0 c.in-Err.ensures.refused c.in_ok-shown-in-Err.ensures c.in-Err.ensures.err
