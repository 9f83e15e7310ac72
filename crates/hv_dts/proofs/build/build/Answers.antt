use Rattle.std.proofs.Common.{◌∙◌}
use Rattle.hv_dts.specs.Maps.{links_in}
use Rattle.hv_dts.proofs.Trees.{continues_start, continues_more, continues_all, if_ok}
use Rattle.hv_dts.proofs.build.build.Goals as goal

pub taking-init : goal.taking-init
taking-init c = continues_start (links_in c.args.links.now) c.new-building.result c.reverse.new.self c.args.entries c.args.given.now c.reverse.ensures c.new-building.ensures

pub taking-preserved : goal.taking-preserved
taking-preserved c =
    continues_more (links_in c.args.links.now) c.taking.building c.take.new.self c.taking.left c.pop.new.self c.args.entries c.args.given.now c.in-Some.entry c.in-Some.ensures c.in_ok-take.ensures c.taking.invariant

pub returns : goal.returns
returns c = λ source are.
    if_ok c.finished.result _ _
    (λ node is. is ∙ continues_all (links_in c.args.links.now) c.taking.building c.taking.left c.args.entries c.args.given.now source c.in_default.ensures.0 c.taking.invariant are)
    c.finished.ensures
