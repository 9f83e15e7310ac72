use Rattle.std.proofs.Common.{ℕ, List, ◌∷◌, ap, ◌∙◌}
use Rattle.hv_rounds.specs.Stack.{reversed}
use Rattle.hv_rounds.proofs.Stacks.{reversed-push}
use Rattle.hv_rounds.proofs.scripts.OpenScripts.open.Goals as goal

pub returns : goal.returns
returns c =
    ap reversed c.in_ok-push.ensures.items ∙ reversed-push c.self.inside.scripts.items c.args.script
    ∙ ap (λ (zs : List (List (List ℕ))). c.args.script ∷ zs) c.self.view_is
