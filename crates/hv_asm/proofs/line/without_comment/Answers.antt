use Rattle.std.proofs.Common.{ℕ, take, ap, sym, ◌∙◌}
use Rattle.hv_asm.proofs.Words.{front_is}
use Rattle.hv_asm.proofs.line.without_comment.Goals as goal

pub returns : goal.returns
returns c =
    let line = c.args.line.now in
    c.split_at.ensures.front ∙ ap (λ (n : ℕ). take n line) (sym (front_is line c.front_len.result c.front_len.ensures.within c.front_len.ensures.free c.front_len.ensures.stops))
