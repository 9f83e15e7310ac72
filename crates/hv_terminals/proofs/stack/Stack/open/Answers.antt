use Rattle.std.proofs.Common.{◌∷◌, ap, ◌∙◌}
use Rattle.hv_terminals.specs.Scripts.{reversed, StackKept}
use Rattle.hv_terminals.proofs.Stacks.{reversed_push}
use Rattle.hv_terminals.proofs.stack.Stack.open.Goals as goal

pub returns : goal.returns
returns c =
    ap reversed c.push_reserved.ensures.items ∙ reversed_push c.self.inside.scripts.items c.args.script
    ∙ ap (λ (s : StackKept). c.args.script ∷ s.scripts) c.self.view_is
