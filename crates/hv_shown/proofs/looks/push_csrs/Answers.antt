use Rattle.std.proofs.Common.{◌++◌, codes, ap, ◌∙◌}
use Rattle.hv_dts.proofs.Numbers.{on_ok}
use Rattle.hv_model.specs.Transcript.{unless_zero}
use Rattle.hv_shown.proofs.Lists.{seven_texts}
use Rattle.hv_shown.proofs.looks.push_csrs.Goals as goal

pub returns : goal.returns
returns c =
    let csrs = c.args.csrs.now in
    let status = unless_zero (codes "mstatus") csrs.mstatus in
    let enable = unless_zero (codes "mie") csrs.mie in
    let vector = unless_zero (codes "mtvec") csrs.mtvec in
    let scratch = unless_zero (codes "mscratch") csrs.mscratch in
    let pc = unless_zero (codes "mepc") csrs.mepc in
    let cause = unless_zero (codes "mcause") csrs.mcause in
    let value = unless_zero (codes "mtval") csrs.mtval in
    let before = c.in_ok-push_unless_zero-2.ensures ∙ ap (λ t. t ++ enable) c.in_ok-push_unless_zero.ensures in
    on_ok c.push_handling.result _ _
    (λ is. is ∙ (ap (λ t. t ++ vector ++ scratch ++ pc ++ cause ++ value) before ∙ seven_texts c.args.to.now status enable vector scratch pc cause value))
    c.push_handling.ensures
