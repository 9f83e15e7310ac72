use Rattle.std.proofs.Common.{◌≡◌, take, map}
use Rattle.std.specs.Prelude.{Some}
use Rattle.hv_plan.specs.Links.{link_of}
use Rattle.hv_plan.proofs.link.links_of.Given as goal

abbrev pub invariant-loop-node : goal.invariant-loop-node
invariant-loop-node l = l.links.items ≡ map (link_of (Some l.aspace) l.regions) (take l.node-index l.regions)
