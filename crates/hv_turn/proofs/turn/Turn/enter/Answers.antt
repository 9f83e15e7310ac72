use Rattle.std.proofs.Common.{rules, ◌≡◌, true, false, sym, ◌∙◌, ap, subst, arith}
use Rattle.std.specs.Option.{IsSome}
use Rattle.hv_turn.specs.History.{IsLater}
use Rattle.hv_turn.specs.Passes.{PassView}
use Rattle.hv_turn.specs.Rule.{one_pass, having_seen, first_pass, slots_of}
use Rattle.hv_turn.proofs.RuleLemmas.{acquires}
use Rattle.hv_turn.proofs.SeatLemmas.{seat_when, still_pass, emptied, in_hand, given_back, view_having_seen}
use Rattle.hv_turn.proofs.turn.Turn.enter.Goals as goal

pub compare_exchange-requires : goal.compare_exchange-requires
compare_exchange-requires g c =
    let seat = c.pass.inside.seat in
    let turn : seat.table_id ≡ c.self.inside.table.shared.table_id = ap (λ v. v.turn) c.pass.view_is ∙ (c.requires.turn ∙ sym (ap (λ v. v.id) c.self.view_is)) in
    let outside : seat.me.0.inside ≡ false = ap (λ v. v.inside) c.pass.view_is ∙ c.requires.outside in
    let p = first_pass seat.me.0.passes in
    let ready : seat.me ≡ (one_pass false p, slots_of false) = seat_when false seat.me c.pass.invariant.0 outside in
    let one = c.self.invariant.0 in (
      c.loop.invariant.0 ∙ turn,
      omega arith,
      acquires g.T.Standing.entries g.T.Standing.names c.self.inside.table.shared.key.passes _ _ c.loop.pass-inside.seat.me p (c.loop.invariant.1 ∙ ready),
    )

pub exchange-requires : goal.exchange-requires
exchange-requires g c =
    let seat = c.pass.inside.seat in
    let turn : seat.table_id ≡ c.self.inside.table.shared.table_id = ap (λ v. v.turn) c.pass.view_is ∙ (c.requires.turn ∙ sym (ap (λ v. v.id) c.self.view_is)) in
    let outside : seat.me.0.inside ≡ false = ap (λ v. v.inside) c.pass.view_is ∙ c.requires.outside in
    let p = first_pass seat.me.0.passes in
    let t = c.compare_exchange.ensures.2.1 c.if-compare_exchange-eq0.true p (c.loop.invariant.1 ∙ seat_when false seat.me c.pass.invariant.0 outside) in
    (c.compare_exchange.ensures.0 ∙ (c.loop.invariant.0 ∙ turn), in_hand c.compare_exchange.new.seat.me (having_seen (g.T.Standing.entries t.0) p) t.0 t.1)

pub unwrap-value-requires : goal.unwrap-value-requires
unwrap-value-requires g c =
    let seat = c.pass.inside.seat in
    let outside : seat.me.0.inside ≡ false = ap (λ v. v.inside) c.pass.view_is ∙ c.requires.outside in
    let p = first_pass seat.me.0.passes in
    let t = c.compare_exchange.ensures.2.1 c.if-compare_exchange-eq0.true p (c.loop.invariant.1 ∙ seat_when false seat.me c.pass.invariant.0 outside) in
    subst (λ r. IsSome r) (sym (given_back c.compare_exchange.new.seat.me (having_seen (g.T.Standing.entries t.0) p) t.0 c.exchange.result t.1 c.exchange.ensures.2)) (search rules)

pub invariant_of-pass : goal.invariant_of-pass
invariant_of-pass g c =
    let seat = c.pass.inside.seat in
    let outside : seat.me.0.inside ≡ false = ap (λ v. v.inside) c.pass.view_is ∙ c.requires.outside in
    let p = first_pass seat.me.0.passes in
    let t = c.compare_exchange.ensures.2.1 c.if-compare_exchange-eq0.true p (c.loop.invariant.1 ∙ seat_when false seat.me c.pass.invariant.0 outside) in
    let q = having_seen (g.T.Standing.entries t.0) p in
    still_pass true c.exchange.new.seat.me q c.loop.pass-inside.number (emptied c.compare_exchange.new.seat.me c.exchange.new.seat.me q t.0 t.1 c.exchange.ensures.3) (c.loop.invariant.2 ∙ c.pass.invariant.1)

pub returns-then-compare_exchange-eq0 : goal.returns-then-compare_exchange-eq0
returns-then-compare_exchange-eq0 g c =
    let seat = c.pass.inside.seat in
    let outside : seat.me.0.inside ≡ false = ap (λ v. v.inside) c.pass.view_is ∙ c.requires.outside in
    let p = first_pass seat.me.0.passes in
    let t = c.compare_exchange.ensures.2.1 c.if-compare_exchange-eq0.true p (c.loop.invariant.1 ∙ seat_when false seat.me c.pass.invariant.0 outside) in
    let q = having_seen (g.T.Standing.entries t.0) p in
    let back = given_back c.compare_exchange.new.seat.me q t.0 c.exchange.result t.1 c.exchange.ensures.2 in
    let same : t.0 ≡ c.unwrap-value.result = cc (back, c.unwrap-value.ensures) in
    record {
      later = subst (λ (x : PassView g.row.T-Entry.Denot × g.row.T.Denot). IsLater g.T.Standing.names x.0.number x.0.seen (g.T.Standing.entries x.1)) (λ i. (c.pass.view_is i, same i)) t.2;
      pass = view_having_seen true _ _ seat.me c.exchange.new.seat.me c.args.pass.now (g.T.Standing.entries t.0) (g.T.Standing.entries c.unwrap-value.result) c.pass.view_is (c.exchange.ensures.0 ∙ (c.compare_exchange.ensures.0 ∙ c.loop.invariant.0)) (ap g.T.Standing.entries same)
          (emptied c.compare_exchange.new.seat.me c.exchange.new.seat.me q t.0 t.1 c.exchange.ensures.3);
    }
