use Rattle.std.proofs.Common.{◌∙◌}
use Rattle.hv_dtgram.proofs.Gathering.{all_but_last}
use Rattle.hv_dtgram.proofs.gathered.Gathered.finish.Goals as goal

pub returns : goal.returns
returns c = c.trim.ensures ∙ all_but_last c.args.self.entries c.pop-root.new.self c.pop-root.result c.pop-root.ensures
