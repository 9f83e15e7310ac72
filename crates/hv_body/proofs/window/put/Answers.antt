use Rattle.hv_body.proofs.WindowLemmas.{added}
use Rattle.hv_body.proofs.window.put.Goals as goal

pub returns : goal.returns
returns c = added c.args.windows.now c.add-refused.new.self c.args.window c.add-refused.result c.add-refused.ensures c.at-first.ensures.rules
