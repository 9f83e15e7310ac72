use Rattle.std.proofs.Common.{◌≡◌, ◌∷◌, [], Some, sym, ◌∙◌, ap, subst, true, false, arith}
use mathlib.Core.Option.{none}
use Rattle.atomic_table.specs.Table.{Allows, step}
use Rattle.hv_turn.specs.History.{MayLeave}
use Rattle.hv_turn.specs.Passes.{PassView}
use Rattle.hv_turn.specs.Rule.{KeepsRule, released, one_pass, having_seen, first_pass, slots_of}
use Rattle.hv_turn.proofs.RuleLemmas.{releases}
use Rattle.hv_turn.proofs.SeatLemmas.{seat_when, still_pass, filled, view_having_seen}
use Rattle.hv_turn.proofs.turn.Turn.leave.Goals as goal

pub swap-requires : goal.swap-requires
swap-requires g c =
    let seat = c.pass.inside.seat in
    let turn : seat.table_id ≡ c.self.inside.table.shared.table_id = ap (λ v. v.turn) c.pass.view_is ∙ (c.requires.turn ∙ sym (ap (λ v. v.id) c.self.view_is)) in
    let inside : seat.me.0.inside ≡ true = ap (λ v. v.inside) c.pass.view_is ∙ c.requires.inside in
    let p = first_pass seat.me.0.passes in
    let ready : seat.me ≡ (one_pass true p, slots_of true) = seat_when true seat.me c.pass.invariant.0 inside in
    let full : c.exchange.new.seat.me ≡ (one_pass true p, (0, Some c.held.inside.value) ∷ []) = filled seat.me c.exchange.new.seat.me p c.held.inside.value ready c.exchange.ensures.3 in
    let may : MayLeave g.T.Standing.names p.number p.seen (g.T.Standing.entries c.held.inside.value) =
    subst (λ (x : PassView g.row.T-Entry.Denot × g.row.T.Denot). MayLeave g.T.Standing.names x.0.number x.0.seen (g.T.Standing.entries x.1)) (λ i. (sym c.pass.view_is i, sym c.held.view_is i)) c.requires.entries in
    let one = c.self.invariant.0 in (
      c.exchange.ensures.0 ∙ turn,
      omega arith,
      subst (λ k. Allows (KeepsRule g.T.Standing.entries g.T.Standing.names c.self.inside.table.shared.key.passes) k c.exchange.new.seat.id c.exchange.new.seat.me 0 (λ _. 0) (released g.T.Standing.entries (step k 0 0 0 none) c.exchange.new.seat.me)) (sym c.self.invariant.1)
          (releases g.T.Standing.entries g.T.Standing.names c.self.inside.table.shared.key.passes c.exchange.new.seat.id c.exchange.new.seat.me p c.held.inside.value full may),
    )

pub invariant_of-pass : goal.invariant_of-pass
invariant_of-pass g c =
    let seat = c.pass.inside.seat in
    let inside : seat.me.0.inside ≡ true = ap (λ v. v.inside) c.pass.view_is ∙ c.requires.inside in
    let p = first_pass seat.me.0.passes in
    let ready : seat.me ≡ (one_pass true p, slots_of true) = seat_when true seat.me c.pass.invariant.0 inside in
    let full : c.exchange.new.seat.me ≡ (one_pass true p, (0, Some c.held.inside.value) ∷ []) = filled seat.me c.exchange.new.seat.me p c.held.inside.value ready c.exchange.ensures.3 in
    still_pass false c.swap.new.seat.me (having_seen (g.T.Standing.entries c.held.inside.value) p) c.pass.inside.number (c.swap.ensures.2 p c.held.inside.value full) c.pass.invariant.1

pub returns : goal.returns
returns g c =
    let seat = c.pass.inside.seat in
    let inside : seat.me.0.inside ≡ true = ap (λ v. v.inside) c.pass.view_is ∙ c.requires.inside in
    let p = first_pass seat.me.0.passes in
    let ready : seat.me ≡ (one_pass true p, slots_of true) = seat_when true seat.me c.pass.invariant.0 inside in
    let full : c.exchange.new.seat.me ≡ (one_pass true p, (0, Some c.held.inside.value) ∷ []) = filled seat.me c.exchange.new.seat.me p c.held.inside.value ready c.exchange.ensures.3 in
    view_having_seen false _ _ seat.me c.swap.new.seat.me c.args.pass.now (g.T.Standing.entries c.held.inside.value) (g.T.Standing.entries c.args.held) c.pass.view_is (c.swap.ensures.0 ∙ c.exchange.ensures.0) (ap g.T.Standing.entries c.held.view_is) (c.swap.ensures.2 p c.held.inside.value full)
