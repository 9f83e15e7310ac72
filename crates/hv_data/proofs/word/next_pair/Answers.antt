use Rattle.std.proofs.Common.{◌≡◌, ◌/◌, ◌%◌, sym, ◌∙◌, arith}
use Rattle.std.specs.Char.{digit_char}
use Rattle.hv_data.proofs.Pairs.{pair_in_front, pair_read}
use Rattle.hv_data.proofs.word.next_pair.Goals as goal

pub returns-in_err-high-2 : goal.returns-in_err-high-2
returns-in_err-high-2 c =
    rw c.from_residual-in_err-high-2.ensures (λ b rest lt e.
    let front = pair_in_front b c.in_ok-high.high.now c.in_ok-high.rest.now rest lt (sym c.in_ok-high.ensures.cases.0 ∙ e) in
    c.in_err-high-2.ensures (b / 16) (omega arith) front.0)

pub returns-in_err-low-2 : goal.returns-in_err-low-2
returns-in_err-low-2 c =
    rw c.from_residual-in_err-low-2.ensures (λ b rest lt e.
    let front = pair_in_front b c.in_ok-high.high.now c.in_ok-high.rest.now rest lt (sym c.in_ok-high.ensures.cases.0 ∙ e) in
    let low : c.in_ok-low.low.now ≡ digit_char (b % 16) = cc (front.1, c.in_ok-low.ensures.cases.0) in
    c.in_err-low-2.ensures (b % 16) (omega arith) low)

pub returns : goal.returns
returns c = (
  omega (arith, c.in_ok-high-2.ensures, c.in_ok-low-2.ensures),
  pair_read c.args.text.now c.in_ok-low.behind.now c.in_ok-high.high.now c.in_ok-low.low.now c.in_ok-high-2.high c.in_ok-low-2.low (cc (c.in_ok-high.ensures.cases.0, c.in_ok-low.ensures.cases.0)) c.in_ok-high-2.ensures.0 c.in_ok-low-2.ensures.0 c.in_ok-high-2.ensures.1 c.in_ok-low-2.ensures.1,
)
