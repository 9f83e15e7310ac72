-- Values that are bytes.
use Rattle.std.specs.Prelude.{◌<◌, All}
use Rattle.hv_dtree.specs.Nodes.{props_of}
use Rattle.hv_dtree.specs.declared.node.Node.{Node}

-- the values of a node's properties are bytes
abbrev pub HasBytes : Node → Type 0
HasBytes tree = All (λ prop. All (λ byte. byte < 256) prop.value) (props_of tree)
