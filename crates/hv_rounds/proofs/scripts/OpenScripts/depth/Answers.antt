use Rattle.std.proofs.Common.{length, ap, sym, ◌∙◌}
use Rattle.hv_rounds.proofs.Stacks.{length-reversed}
use Rattle.hv_rounds.proofs.scripts.OpenScripts.depth.Goals as goal

pub returns : goal.returns
returns c =
    ap length c.as_slice.ensures.value ∙ sym (length-reversed c.self.inside.scripts.items) ∙ ap length c.self.view_is
