use Rattle.std.proofs.Common.{rules, ◌≡◌, ◌∷◌, [], Some, false, ap, ◌∙◌, sym, subst, arith}
use Rattle.std.specs.Option.{IsSome}
use mathlib.Core.Option.{some-injective}
use Rattle.hv_turn.specs.Passes.{PassView, TurnView, AreGathered, IsEnded}
use Rattle.hv_turn.specs.Rule.{seat_view, AreOutside, Covers}
use Rattle.hv_turn.proofs.RuleLemmas.{ends}
use Rattle.hv_turn.proofs.SeatLemmas.{seat_when}
use Rattle.hv_turn.proofs.PassLemmas.{gathered_outside, outside_at, outside_front, covers_snoc, numbers, ended, last_first}
use Rattle.hv_turn.proofs.turn.Turn.close.Goals as goal

pub gather-requires-clause-table : goal.gather-requires-clause-table
gather-requires-clause-table g c =
    let whole = gathered_outside c.args.self c.args.passes.items c.requires in
    let last = outside_at c.args.self.id c.pop.new.self.items c.in-Some.last [] (subst (AreOutside c.args.self.id) c.in-Some.ensures.items whole) in
    let one = c.self.invariant.0 in
    (ap (λ (v : PassView g.row.T-Entry.Denot). v.turn) c.last.view_is ∙ (last.0 ∙ sym (ap (λ (v : TurnView). v.id) c.self.view_is)), omega arith)

pub gather-requires-clause-outside : goal.gather-requires-clause-outside
gather-requires-clause-outside g c =
    let whole = gathered_outside c.args.self c.args.passes.items c.requires in
    let last = outside_at c.args.self.id c.pop.new.self.items c.in-Some.last [] (subst (AreOutside c.args.self.id) c.in-Some.ensures.items whole) in
    let out : c.last.inside.seat.me.0.inside ≡ false = ap (λ (v : PassView g.row.T-Entry.Denot). v.inside) c.last.view_is ∙ last.1 in
    let ready = seat_when false c.last.inside.seat.me c.last.invariant.0 out in
    ready ∙ (λ i. (seat_view false (sym (ap (λ x. x.0.passes) ready) i), []))

pub gather-requires-clause-all : goal.gather-requires-clause-all
gather-requires-clause-all g c =
    let whole = gathered_outside c.args.self c.args.passes.items c.requires in
    subst (λ id. AreOutside id c.pop.new.self.items) (sym (ap (λ (v : TurnView). v.id) c.self.view_is))
    (outside_front c.args.self.id c.pop.new.self.items (c.in-Some.last ∷ []) (subst (AreOutside c.args.self.id) c.in-Some.ensures.items whole))

pub close_with-closed-requires : goal.close_with-closed-requires
close_with-closed-requires g c =
    let whole = gathered_outside c.args.self c.args.passes.items c.requires in
    let last = outside_at c.args.self.id c.pop.new.self.items c.in-Some.last [] (subst (AreOutside c.args.self.id) c.in-Some.ensures.items whole) in
    c.gather.ensures.table.0 ∙ (ap (λ (v : PassView g.row.T-Entry.Denot). v.turn) c.last.view_is ∙ (last.0 ∙ sym (ap (λ (v : TurnView). v.id) c.self.view_is)))

pub unwrap-requires : goal.unwrap-requires
unwrap-requires g c =
    let n = c.self.inside.table.shared.key.passes in
    let d = c.gather.new.seat.me.0 in
    let turn : TurnView = record { id = c.self.inside.table.shared.table_id; passes = n } in
    let own : AreGathered turn c.args.passes.items = subst (λ t. AreGathered t c.args.passes.items) (sym c.self.view_is) c.requires in
    let all : Covers d.passes c.args.passes.items = subst (Covers d.passes) (sym c.in-Some.ensures.items) (covers_snoc d.passes c.pop.new.self.items c.in-Some.last c.gather.ensures.all (last_first d.passes c.last.inside.seat.table_id c.last.inside.seat.me c.in-Some.last c.last.invariant.0 c.last.view_is c.gather.ensures.kept)) in
    let t = ends g.T.Standing.entries g.T.Standing.names n c.gather.new.seat.id d _ _ (ap (λ x. x.0.inside) c.gather.ensures.outside) (numbers turn d.passes c.args.passes.items own all) c.close_with-closed.ensures.values.2 in
    subst (λ r. IsSome r) (some-injective (Some t.0) c.take-value.result (sym t.1 ∙ c.take-value.ensures.value)) (search rules)

pub returns : goal.returns
returns g c =
    let n = c.self.inside.table.shared.key.passes in
    let d = c.gather.new.seat.me.0 in
    let turn : TurnView = record { id = c.self.inside.table.shared.table_id; passes = n } in
    let own : AreGathered turn c.args.passes.items = subst (λ t. AreGathered t c.args.passes.items) (sym c.self.view_is) c.requires in
    let all : Covers d.passes c.args.passes.items = subst (Covers d.passes) (sym c.in-Some.ensures.items) (covers_snoc d.passes c.pop.new.self.items c.in-Some.last c.gather.ensures.all (last_first d.passes c.last.inside.seat.table_id c.last.inside.seat.me c.in-Some.last c.last.invariant.0 c.last.view_is c.gather.ensures.kept)) in
    let t = ends g.T.Standing.entries g.T.Standing.names n c.gather.new.seat.id d _ _ (ap (λ x. x.0.inside) c.gather.ensures.outside) (numbers turn d.passes c.args.passes.items own all) c.close_with-closed.ensures.values.2 in
    let back : Some t.0 ≡ c.take-value.result = some-injective (Some t.0) c.take-value.result (sym t.1 ∙ c.take-value.ensures.value) in
    let same : t.0 ≡ c.unwrap.result = cc (back, c.unwrap.ensures) in
    subst (λ v. IsEnded g.T.Standing.names c.args.passes.items (g.T.Standing.entries v)) same (ended g.T.Standing.names turn d.passes c.args.passes.items (g.T.Standing.entries t.0) own all t.2 t.3)
