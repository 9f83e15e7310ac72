use Rattle.std.proofs.Common.{rules, ◌≡◌, ◌∙◌, ℕ, Err, map, sym, ap, subst, arith}
use Rattle.std.specs.Prelude.{Result}
use Rattle.hv_board.specs.Board.{greatest_at}
use Rattle.hv_board.specs.declared.board.Board.{Board}
use Rattle.hv_board.specs.declared.layout.Layout.{Layout}
use Rattle.hv_board.specs.declared.stop.Stop.{Stop}
use Rattle.hv_board.specs.declared.stop.Stop.TheVariants.{Spent}
use Rattle.hv_board_steps.proofs.Back.{made-back}
use Rattle.hv_board_steps.proofs.Ends.{err-held}
use Rattle.hv_board_steps.specs.Happened.{Anything}
use Rattle.hv_board_steps.specs.declared.happened.Happened.{Happened}
use Rattle.hv_parts.specs.Kinds.{AreOf}
use Rattle.hv_parts.specs.Takes.{IsMadeAt}
use Rattle.hv_parts.specs.Value.{valued}
use Rattle.hv_text.specs.declared.limits.TheConstants.{GREATEST_STAMP}
use Rattle.hv_guest_events.proofs.Owing.{owed-finds}
use Rattle.hv_guest_events.specs.Owed.{owed_parts}
use Rattle.hv_guest_events.proofs.owed.owed_event.Goals as goal

pub returns-in_err-lifted-clause-held_up : goal.returns-in_err-lifted-clause-held_up
returns-in_err-lifted-clause-held_up g c =
    let board = c.args.board.now in
    let s = c.args.step.now in
    let by = c.args.by in
    let are : c.deref.result.now ≡ owed_parts board.layout.harts s =
    c.deref.ensures.value ∙ (c.in_ok-xs.ensures ∙ ap (λ (l : Layout). owed_parts l.harts s) c.layout-harts.ensures) in
    let spent = c.in_err-lifted.ensures.spent in
    let is : ◌≡◌ {A = Result (Happened g.row.E.Denot) Stop} c.from_residual-in_err-lifted.result (Err (Spent GREATEST_STAMP)) = search rules in
    err-held g.E.Emulator.state by c.args.own s Anything board c.lift.new.self c.from_residual-in_err-lifted.result is spent.1
    (owed-finds board by c.args.own s c.requires.step c.requires.harts (sym (ap (greatest_at board c.args.own) are) ∙ spent.0))

pub finish-requires-clause-made : goal.finish-requires-clause-made
finish-requires-clause-made g c =
    let state = g.E.Emulator.state in
    let lifted = c.in_ok-lifted.lifted in
    let next = c.in_ok-lifted.ensures.next in
    let s = c.args.step.now in
    let made = c.owed_at-made.result in
    let olds = c.deref_mut.result.now in
    let news = c.owed_at-made.new.parts in
    let own = c.layout-harts.result.harts in
    let are : c.deref-2.result.now ≡ owed_parts own s = c.deref-2.ensures.value ∙ c.in_ok-xs.ensures in
    let harts : c.lift.new.self.layout.harts ≡ own =
    ap (λ (l : Layout). l.harts) (c.in_ok-lifted.ensures.lifted.layout ∙ (ap (λ (b : Board g.row.E.Denot). b.layout) next.before_is ∙ sym c.layout-harts.ensures)) in
    let here = subst (λ xs. IsMadeAt state own c.args.by xs s made olds news) (sym are) (c.owed_at-made.ensures c.args.by) in
    let at = subst (λ (h : ℕ). IsMadeAt state h c.args.by c.deref-2.result.now s made olds news) (sym harts) here in
    let kinds = subst (λ xs. AreOf xs (map (valued state) lifted.parts.items)) (c.deref.ensures.value ∙ sym c.deref-2.ensures.value) next.kinds in
    made-back state c.lift.new.self.layout.harts c.args.by c.deref-2.result.now s made olds news lifted.were.value.items lifted.parts.items lifted.parts.len
    (omega (arith, lifted.parts.ok.0)) c.deref_mut.ensures.value next.parts kinds at
