use Rattle.std.proofs.Common.{rules, ◌≡◌, ◌∷◌, [], ap, ◌∙◌, sym, refl, subst}
use Rattle.atomic_table.specs.Table.{opening}
use Rattle.hv_turn.specs.Passes.{AreDealt}
use Rattle.hv_turn.specs.Rule.{all_from, seen_by, KeepsRule}
use Rattle.hv_turn.proofs.RuleLemmas.{starts}
use Rattle.hv_turn.proofs.PassLemmas.{seen_first}
use Rattle.hv_turn.proofs.turn.Turn.open.Goals as goal

pub new-requires : goal.new-requires
new-requires g c =
    let value = c.args.value in
    let o = c.requires.opening in
    subst (λ v. KeepsRule g.T.Standing.entries g.T.Standing.names c.args.n (opening (0 ∷ []) c.push_reserved.new.self.items (all_from 0 c.args.n (g.T.Standing.entries v)))) (sym c.of.ensures)
    (starts g.T.Standing.entries g.T.Standing.names c.args.n value o.0 (0 ∷ []) c.push_reserved.new.self.items o.1 refl (search rules))

pub deal-passes-requires-clause-seat : goal.deal-passes-requires-clause-seat
deal-passes-requires-clause-seat g c =
    let s = g.T.Standing.entries c.of.result.value in
    let e = c.in-Ok.ensures.ok.4 in
    let same : seen_by c.in-Ok.seat.me.0 ≡ s = ap (λ x. seen_by x.0) e ∙ seen_first c.args.n s c.requires.some_pass in
    (e ∙ (λ i. (all_from 0 c.args.n (sym same i), [])), c.requires.some_pass)

pub returns : goal.returns
returns g c =
    let s = g.T.Standing.entries c.of.result.value in
    let e = c.in-Ok.ensures.ok.4 in
    let same : seen_by c.in-Ok.seat.me.0 ≡ g.T.Standing.entries c.args.value = ap (λ x. seen_by x.0) e ∙ (seen_first c.args.n s c.requires.some_pass ∙ ap g.T.Standing.entries c.of.ensures) in
    let count = ap (λ k. k.passes) c.in-Ok.ensures.ok.5 in record {
      count = count;
      passes = subst (λ (x : _ × _). AreDealt (record { id = c.in-Ok.table.shared.table_id; passes = x.0 }) x.1 c.deal-passes.result.items) (λ i. (sym count i, same i)) c.deal-passes.ensures;
    }
