use Rattle.hv_files.specs.FileMap.{list_folder}
use Rattle.hv_fpart.proofs.Refusals.{answered-shown}
use Rattle.hv_fpart.proofs.listed.Goals as goal

pub returns-in_ok-shown-in-Err : goal.returns-in_ok-shown-in-Err
returns-in_ok-shown-in-Err c =
    answered-shown (list_folder c.args.files.now c.args.path.now) c.in-Err.refusal c.in_ok-shown-in-Err.field-0 c.in-Err.ensures.refused c.in_ok-shown-in-Err.ensures
