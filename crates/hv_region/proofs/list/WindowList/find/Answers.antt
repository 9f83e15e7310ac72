use Rattle.std.proofs.Common.{arith, rules, ◌∙◌, subst, take, take_all, ◌≡◌}
use Rattle.std.specs.List.{All}
use Rattle.std.proofs.lemmas.List.Elements.{All-more}
use Rattle.hv_region.specs.Windows.{Holds}
use Rattle.hv_region.proofs.Places.{nowhere}
use Rattle.hv_region.proofs.list.WindowList.find.Goals as goal

pub loop-window-preserved : goal.loop-window-preserved
loop-window-preserved c =
    All-more (λ window. Holds window c.args.kind c.args.addr c.args.size → ⊥) c.as_slice-window-items.result.now c.loop-window.window-index nowhere c.loop-window-test.true c.loop-window.invariant (λ holds. search rules)

pub returns : goal.returns
returns c =
    let whole : take c.loop-window.window-index c.as_slice-window-items.result.now ≡ c.as_slice-window-items.result.now = take_all c.loop-window.window-index c.as_slice-window-items.result.now (omega arith) in
    subst (All (λ window. Holds window c.args.kind c.args.addr c.args.size → ⊥)) (whole ∙ (c.as_slice-window-items.ensures.value ∙ c.self.view_is)) c.loop-window.invariant
