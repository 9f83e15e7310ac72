use Rattle.std.proofs.Common.{◌≡◌, ◌<◌, ◌-◌, ◌+◌, ℕ, [], false, slice_get, Some, ap, ◌∙◌, sym, refl, subst, arith}
use Rattle.atomic_table.specs.Table.{Me}
use Rattle.hv_turn.specs.Passes.{PassView, new_pass}
use Rattle.hv_turn.specs.Rule.{pass_state, passes_from, one_pass, all_from, seen_by, pass_view}
use Rattle.hv_turn.proofs.RuleLemmas.{splits}
use Rattle.hv_turn.proofs.SeatLemmas.{still_pass}
use Rattle.hv_turn.proofs.PassLemmas.{all_from-step, later_numbers, dealt_left, dealt_right, dealt_more}
use Rattle.hv_turn.proofs.turn.deal.Goals as goal

pub split_seat-other-requires : goal.split_seat-other-requires
split_seat-other-requires g c =
    let l = c.loop-number in
    let j = l.number in
    let m = c.args.count - l.number in
    let seen = seen_by c.args.seat.me.0 in
    let low = l.auto.number-end in let high = c.loop-number-test.true in (
      l.invariant.0 ∙ c.requires.table.0,
      c.requires.table.1,
      splits g.T.Standing.entries g.T.Standing.names c.args.shared.now.key.passes l.seat.id l.seat.me.0 (pass_state j seen) (passes_from (j + 1) (m - 1) seen)
          (ap (λ x. x.0) l.invariant.1 ∙ all_from-step j m seen (omega arith)) (λ i b e. later_numbers j (m - 1) seen i b e),
    )

pub invariant_of-push_reserved : goal.invariant_of-push_reserved
invariant_of-push_reserved g c =
    let l = c.loop-number in
    let high = c.loop-number-test.true in let some_pass = c.requires.seat.1 in
    let some_left : 0 < c.args.count - l.number = omega arith in
    let seen = seen_by c.args.seat.me.0 in
    let s = c.split_seat-other in
    still_pass false s.result.me (pass_state l.number seen) l.number (dealt_right l.seat.me s.result.me l.number (c.args.count - l.number) seen some_left l.invariant.1 s.ensures.4) refl

pub loop-number-preserved : goal.loop-number-preserved
loop-number-preserved g c =
    let l = c.loop-number in
    let j = l.number in
    let m = c.args.count - l.number in
    let seen = seen_by c.args.seat.me.0 in
    let is = l.invariant.1 in
    let s = c.split_seat-other in
    let low = l.auto.number-end in let high = c.loop-number-test.true in
    let some_left : 0 < m = omega arith in
    let other : s.result.me ≡ (one_pass false (pass_state j seen), []) = dealt_right l.seat.me s.result.me j m seen some_left is s.ensures.4 in
    let view : pass_view s.result.table_id s.result.me ≡ new_pass c.args.seat.table_id j seen = λ i. pass_view ((s.ensures.3 ∙ l.invariant.0) i) (other i) in
    let long = l.invariant.2 in
    let room = l.invariant.3 in (
      s.ensures.0 ∙ l.invariant.0,
      dealt_left l.seat.me s.new.seat.me j m _ _ seen some_left is s.ensures.2 (omega arith) (omega arith),
      omega (arith, c.push_reserved.ensures.len),
      omega (arith, c.push_reserved.ensures.capacity),
      subst (λ ps. (k : ℕ) (p : PassView g.row.T-Entry.Denot) → slice_get ps k ≡ Some p → p ≡ new_pass c.args.seat.table_id k seen) (sym c.push_reserved.ensures.items) (dealt_more c.args.seat.table_id seen l.passes.items _ j long l.invariant.4 view),
    )

pub returns : goal.returns
returns g c =
    let l = c.loop-number in
    let j = l.number in
    let seen = seen_by c.args.seat.me.0 in
    let low = l.auto.number-end in let done = c.loop-number-test.false in let some_pass = c.requires.seat.1 in
    let one : c.args.count - l.number ≡ 1 = omega arith in
    let last : l.seat.me ≡ (one_pass false (pass_state j seen), []) = l.invariant.1 ∙ ap (λ k. let x : Me _ _ = (all_from j k seen, []) in x) one in
    let view : pass_view l.seat.table_id l.seat.me ≡ new_pass c.args.shared.now.table_id j seen = λ i. pass_view ((l.invariant.0 ∙ c.requires.table.0) i) (last i) in
    let long = l.invariant.2 in
    let before : (k : ℕ) (p : PassView g.row.T-Entry.Denot) → slice_get l.passes.items k ≡ Some p → p ≡ new_pass c.args.shared.now.table_id k seen =
    λ k p e. l.invariant.4 k p e ∙ ap (λ id. new_pass id k seen) c.requires.table.0 in record {
      count = omega (arith, c.push_reserved-2.ensures.len);
      each = subst (λ ps. (k : ℕ) (p : PassView g.row.T-Entry.Denot) → slice_get ps k ≡ Some p → p ≡ new_pass c.args.shared.now.table_id k seen) (sym c.push_reserved-2.ensures.items) (dealt_more c.args.shared.now.table_id seen l.passes.items _ j long before view);
    }
