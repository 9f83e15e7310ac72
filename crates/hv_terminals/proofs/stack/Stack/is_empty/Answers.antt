use Rattle.std.proofs.Common.{◌≡◌, ℕ, ◌==◌, length, vec_len, ap, sym, ◌∙◌, arith}
use Rattle.hv_terminals.specs.Scripts.{StackKept}
use Rattle.hv_terminals.proofs.Stacks.{length_reversed}
use Rattle.hv_terminals.proofs.stack.Stack.is_empty.Goals as goal

pub returns : goal.returns
returns c =
    let counted : vec_len c.self.inside.scripts ≡ length c.self.inside.scripts.items = omega (arith, c.self.inside.scripts.ok.0) in
    c.is_empty.ensures
    ∙ ap (λ (n : ℕ). n == 0)
    (counted ∙ sym (length_reversed c.self.inside.scripts.items) ∙ ap (λ (s : StackKept). length s.scripts) c.self.view_is)
