use Rattle.hv_refusal.proofs.arguments.read_arguments.Goals as goal

pub returns-in-BadNode : goal.returns-in-BadNode
returns-in-BadNode c = rw c.in-BadNode.is c.node_alone.ensures
