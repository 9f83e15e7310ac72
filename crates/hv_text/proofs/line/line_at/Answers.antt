use Rattle.std.proofs.Common.{◌≡◌, ℕ, ◌<◌, List, length, take, drop, sym, ap, subst, ◌∙◌, arith, take_all, false-eqb}
use Rattle.hv_text.specs.Front.{IsFree, Stops}
use Rattle.hv_text.proofs.LineLemmas.{last_line_at, stripped_line_at, kept_line_at}
use Rattle.hv_text.proofs.line.line_at.Goals as goal
use Rattle.hv_text.proofs.line.line_at.Goals.{in-Some, in-None}

pub returns-then-len-rest : goal.returns-then-len-rest
returns-then-len-rest c =
    let rest = c.split_at.result.1.now in
    let is : rest ≡ drop c.args.from c.args.text.now = c.split_at.ensures.back in
    let whole : take c.front_len-len.result rest ≡ rest = take_all c.front_len-len.result rest (omega arith) in
    let free : IsFree 10 rest = subst (IsFree 10) whole c.front_len-len.ensures.free in
    let some : 0 < length rest = omega (arith, false-eqb (length rest) 0 c.if-is_empty.ensures) in
    last_line_at c.args.text.now c.args.from c.requires (subst (λ (t : List ℕ). 0 < length t) is some) (subst (IsFree 10) is free)

pub returns : goal.returns
returns c =
    let text = c.args.text.now in
    let from = c.args.from in
    let rest = c.split_at.result.1.now in
    let len = c.front_len-len.result in
    let is : rest ≡ drop from text = c.split_at.ensures.back in
    let before : len < length rest = omega arith in
    let before_feed : len < length (drop from text) = subst (λ (t : List ℕ). len < length t) is before in
    let free : IsFree 10 (take len (drop from text)) = subst (λ (t : List ℕ). IsFree 10 (take len t)) is c.front_len-len.ensures.free in
    let stops : Stops 10 (drop len (drop from text)) = subst (λ (t : List ℕ). Stops 10 (drop len t)) is c.front_len-len.ensures.stops in
    let piece : c.split_at-2.result.0.now ≡ take len (drop from text) = c.split_at-2.ensures.front ∙ ap (λ (t : List ℕ). take len t) is in
    elim c.match-strip_end.branch [
      | in-Some w ↦ rw w.end-is (stripped_line_at text from len w.in-Some.line.now c.requires before_feed free stops (sym piece ∙ w.in-Some.ensures))
      | in-None w ↦ rw w.end-is (kept_line_at text from len c.requires before_feed free stops (λ line e. w.in-None.ensures line (piece ∙ e)))
    ]
