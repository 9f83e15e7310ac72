use Rattle.std.proofs.Common.{◌≡◌, ◌++◌, ◌∷◌, [], false, ap, ◌∙◌, sym, refl, subst, append_assoc}
use Rattle.hv_turn.specs.Passes.{PassView}
use Rattle.hv_turn.specs.Rule.{StartsWith, AreOutside, Covers}
use Rattle.hv_turn.proofs.HistoryLemmas.{starts_longer}
use Rattle.hv_turn.proofs.RuleLemmas.{joins}
use Rattle.hv_turn.proofs.SeatLemmas.{seat_when}
use Rattle.hv_turn.proofs.PassLemmas.{outside_at, covers_more, joined_me, joined_covers}
use Rattle.hv_turn.proofs.turn.gather.Goals as goal

pub join_seat-requires : goal.join_seat-requires
join_seat-requires g c =
    let l = c.loop-pass in
    let p = c.in-Some.pass in
    let gone = l.invariant.4.0 in
    let whole : c.args.passes.items ≡ c.pop.new.self.items ++ (p ∷ gone) = l.invariant.4.1 ∙ (ap (λ xs. xs ++ gone) c.in-Some.ensures.items ∙ append_assoc c.pop.new.self.items (p ∷ []) gone) in
    let t = outside_at c.args.shared.now.table_id c.pop.new.self.items p gone (subst (AreOutside c.args.shared.now.table_id) whole c.requires.all) in
    let other = c.pass.inside.seat in
    let out : other.me.0.inside ≡ false = ap (λ (v : PassView g.row.T-Entry.Denot). v.inside) c.pass.view_is ∙ t.1 in
    let ready = seat_when false other.me c.pass.invariant.0 out in (
      l.invariant.0 ∙ c.requires.table.0,
      ap (λ (v : PassView g.row.T-Entry.Denot). v.turn) c.pass.view_is ∙ t.0,
      ap (λ x. x.1) ready,
      c.requires.table.1,
      joins g.T.Standing.entries g.T.Standing.names c.args.shared.now.key.passes l.seat.id l.seat.me.0 other.id other.me.0 (ap (λ x. x.0.inside) l.invariant.2) out,
    )

pub loop-pass-preserved : goal.loop-pass-preserved
loop-pass-preserved g c =
    let l = c.loop-pass in
    let p = c.in-Some.pass in
    let gone = l.invariant.4.0 in
    let whole : c.args.passes.items ≡ c.pop.new.self.items ++ (p ∷ gone) = l.invariant.4.1 ∙ (ap (λ xs. xs ++ gone) c.in-Some.ensures.items ∙ append_assoc c.pop.new.self.items (p ∷ []) gone) in
    let other = c.pass.inside.seat in
    let s = c.join_seat in
    let all : s.new.seat.me.0.passes ≡ l.seat.me.0.passes ++ other.me.0.passes = ap (λ x. x.0.passes) s.ensures.2 in (
      s.ensures.0 ∙ l.invariant.0,
      s.ensures.1 ∙ l.invariant.1,
      joined_me l.seat.me other.me s.new.seat.me l.invariant.2 s.ensures.2,
      subst (λ x. StartsWith x c.args.seat.now.me.0.passes) (sym all) (starts_longer l.seat.me.0.passes other.me.0.passes c.args.seat.now.me.0.passes l.invariant.3),
      (
        p ∷ gone,
        whole,
        subst (λ x. Covers x (p ∷ gone)) (sym all) (joined_covers other.table_id l.seat.me.0.passes other.me p c.pass.invariant.0 c.pass.view_is, covers_more l.seat.me.0.passes _ gone (other.me.0.passes, refl) l.invariant.4.2),
      ),
    )
