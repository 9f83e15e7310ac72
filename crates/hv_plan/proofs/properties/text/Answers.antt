use Rattle.std.proofs.Common.{ap, ◌∙◌}
use Rattle.std.specs.Option.{option_copied}
use Rattle.hv_dtree.specs.Nodes.{prop_value}
use Rattle.hv_plan.proofs.Texts.{text_is}
use Rattle.hv_plan.proofs.properties.text.Goals as goal

pub returns : goal.returns
returns c = ap option_copied c.ok.ensures.value ∙ text_is (prop_value c.args.node.now c.args.name.now) c.text.result c.text.ensures
