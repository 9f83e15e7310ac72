use Rattle.std.proofs.Common.{◌≤◌, drop, length, arith, ◌∙◌, length-drop}
use Rattle.std.proofs.lemmas.List.{take_all}
use Rattle.hv_vcpu_steps.proofs.looks.writable.Goals as goal

pub returns : goal.returns
returns c =
    let x = c.args.x.now in
    let few : length (drop 1 x) ≤ 31 = omega (arith, length-drop 1 x, c.told-x) in
    c.copy_from_slice.ensures.after ∙ take_all 31 (drop 1 x) few
