use Rattle.std.proofs.Common.{◌++◌, [], ◌∷◌, codes, ap, ◌∙◌}
use Rattle.std.specs.Fmt.{decimal}
use Rattle.hv_data.specs.Text.{state_text}
use Rattle.hv_dts.proofs.Numbers.{on_ok}
use Rattle.hv_shown.proofs.Lists.{eight_texts}
use Rattle.hv_shown.proofs.looks.push_plan.Goals as goal

pub returns : goal.returns
returns c =
    let look = c.args.look.now in
    let number = decimal c.args.vcpu in
    let state = 32 ∷ state_text look.state in
    let priority = decimal look.priority in
    let slice = decimal look.slice in
    let before = c.in_ok-push_share.ensures ∙ ap (λ t. t ++ codes " priority " ++ priority ++ codes " slice " ++ slice) c.in_ok-push_stated.ensures in
    on_ok c.append.result _ _
    (λ is. is
    ∙ (ap (λ t. t ++ 10 ∷ []) before
    ∙ eight_texts c.args.to.now (codes "vcpu ") number state (codes " priority ") priority (codes " slice ") slice (10 ∷ [])))
    c.append.ensures.ok
