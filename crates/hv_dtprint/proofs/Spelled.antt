-- What a printed source contains: the names and bytes of a tree, without labels.
use Rattle.std.specs.Prelude.{ℕ, List, [], ◌∷◌}
use Rattle.hv_dtree.specs.Nodes.{name_of, props_of, children_of}
use Rattle.hv_dtree.specs.declared.node.Prop.{Prop}
use Rattle.hv_dtree.specs.declared.node.Node.{Node}
use Rattle.hv_dtgram.specs.Contents.{PropSyntax, NodesSyntax, none, node}
use Rattle.hv_dtgram.specs.declared.contents.Value.{Value}
use Rattle.hv_dtgram.specs.declared.contents.Value.TheVariants as value

-- a value as it is printed: its bytes, or nothing where there are none
abbrev pub printed_values : List ℕ → List Value
printed_values [] = []
printed_values (byte ∷ bytes) = value.Bytes (byte ∷ bytes) ∷ []

-- properties with these names and values, and no labels
pub data ArePrinted : List PropSyntax → List Prop → Type 0 where
  no_props : ArePrinted [] []
  one_prop : (place : ℕ) (prop : Prop) (syntax : List PropSyntax) (props : List Prop) → ArePrinted syntax props
      → ArePrinted (record { labels = []; name = record { name = prop.name; place = place }; values = printed_values prop.value } ∷ syntax) (prop ∷ props)

-- nodes with these names and contents, and no labels
pub data IsPrinted : NodesSyntax → List Node → Type 0 where
  no_trees : IsPrinted none []
  one_tree : (place : ℕ) (tree : Node) (props : List PropSyntax) (children rest : NodesSyntax) (nodes : List Node) → ArePrinted props (props_of tree) → IsPrinted children (children_of tree) → IsPrinted rest nodes
      → IsPrinted (node [] (record { name = name_of tree; place = place }) props children rest) (tree ∷ nodes)
