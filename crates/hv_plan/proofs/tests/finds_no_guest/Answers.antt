use Rattle.std.proofs.Common.{◌∙◌}
use Rattle.hv_dtree.proofs.Nodes.{bare_root}
use Rattle.hv_plan.proofs.tests.finds_no_guest.Goals as goal

pub of_root-tree-requires : goal.of_root-tree-requires
of_root-tree-requires g c = bare_root _ (c.from_vec.ensures ∙ c.new.ensures.items) c.new-2.ensures c.new-3.ensures
