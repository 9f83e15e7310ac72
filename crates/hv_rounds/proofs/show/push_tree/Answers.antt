use Rattle.std.proofs.Common.{◌≡◌, Err, subst}
use Rattle.hv_dtree.specs.declared.node.Node.{Node}
use Rattle.hv_dts.specs.Reading.{IsOnly}
use Rattle.hv_dts.specs.declared.refusal.DtsRefusal.{DtsRefusal}
use Rattle.hv_rounds.proofs.show.push_tree.Goals as goal

told : (tree : Node) (r s : DtsRefusal) → r ≡ s → IsOnly (Err r) tree → IsOnly (Err s) tree
told tree r s is gives = subst (λ (x : DtsRefusal). IsOnly (Err x) tree) is gives

pub unreachable-requires : goal.unreachable-requires
unreachable-requires c = told c.requires.0 _ _ c.in-Err-BadToken.field-0-is (c.in-Err-BadToken.ensures.only c.requires.0 c.requires.1)

pub unreachable-requires-in-Err-Unexpected : goal.unreachable-requires-in-Err-Unexpected
unreachable-requires-in-Err-Unexpected c = told c.requires.0 _ _ c.in-Err-Unexpected.field-0-is (c.in-Err-Unexpected.ensures.only c.requires.0 c.requires.1)

pub unreachable-requires-in-Err-TwiceNamed : goal.unreachable-requires-in-Err-TwiceNamed
unreachable-requires-in-Err-TwiceNamed c = told c.requires.0 _ _ c.in-Err-TwiceNamed.field-0-is (c.in-Err-TwiceNamed.ensures.only c.requires.0 c.requires.1)

pub unreachable-requires-in-Err-BadPhandle : goal.unreachable-requires-in-Err-BadPhandle
unreachable-requires-in-Err-BadPhandle c = told c.requires.0 _ _ c.in-Err-BadPhandle.field-0-is (c.in-Err-BadPhandle.ensures.only c.requires.0 c.requires.1)

pub unreachable-requires-in-Err-NoLabel : goal.unreachable-requires-in-Err-NoLabel
unreachable-requires-in-Err-NoLabel c = told c.requires.0 _ _ c.in-Err-NoLabel.field-0-is (c.in-Err-NoLabel.ensures.only c.requires.0 c.requires.1)
