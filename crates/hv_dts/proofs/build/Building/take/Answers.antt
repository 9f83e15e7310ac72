use Rattle.std.proofs.Common.{List, [], ◌∷◌, ◌++◌, refl, ap, ◌∙◌}
use Rattle.hv_dtree.specs.declared.node.Node.{Node}
use Rattle.hv_dts.specs.Maps.{links_in}
use Rattle.hv_dts.specs.Building.{frame_tree}
use Rattle.hv_dts.specs.declared.build.Frame.{Frame}
use Rattle.hv_dts.specs.declared.build.Building.{Building}
use Rattle.hv_dts.proofs.Numbers.{on_ok}
use Rattle.hv_dts.proofs.Trees.{closes}
use Rattle.hv_dts.proofs.build.Building.take.Goals as goal

pub returns-in-Some : goal.returns-in-Some
returns-in-Some c = λ it builds.
    let old = c.args.self.now in
    let hand = c.replace-inner.new.dest in
    let new : Building = record { hand = record hand { children = c.push-in-Some.new.self }; around = c.pop.new.self; given = old.given } in
    on_ok c.push-in-Some.result _ _
    (λ pushed. closes (links_in c.args.links.now) old new it c.args.entry c.in-Some.outer c.in_ok-node-in-Some.node c.in-Close.is builds c.in-Some.ensures
    (c.in_ok-node-in-Some.ensures ∙ ap frame_tree c.replace-inner.ensures.value)
    (ap (λ (ns : List Node). record hand { children = ns }) pushed ∙ ap (λ (f : Frame). record f { children = f.children ++ c.in_ok-node-in-Some.node ∷ [] }) c.replace-inner.ensures.after)
    refl)
    c.push-in-Some.ensures
