use Rattle.std.proofs.Common.{rules, ◌≡◌, [], ◌∷◌, Err, None, Some, map, refl, sym, subst, arith}
use Rattle.std.specs.Prelude.{Result, find}
use Rattle.hv_board.specs.Board.{greatest_at}
use Rattle.hv_board.specs.declared.stop.Stop.{Stop}
use Rattle.hv_board.specs.declared.stop.Stop.TheVariants.{Spent}
use Rattle.hv_board_steps.proofs.Back.{made-back}
use Rattle.hv_board_steps.proofs.Ends.{err-held, memory-held}
use Rattle.hv_board_steps.proofs.Lifts.{granted-at, lifted-on}
use Rattle.hv_board_steps.specs.Granted.{IsGrantedAt}
use Rattle.hv_board_steps.specs.declared.happened.Happened.{Happened}
use Rattle.hv_event.specs.declared.event.CellId.TheVariants as component
use Rattle.hv_parts.specs.Takes.{IsMadeAt}
use Rattle.hv_parts.specs.Value.{valued}
use Rattle.hv_region_steps.specs.Regions.{changed_row}
use Rattle.hv_rules.specs.Space.{alias_in, is_of}
use Rattle.hv_text.specs.declared.limits.TheConstants.{GREATEST_STAMP}
use Rattle.hv_region_events.proofs.Finding.{drop-finds}
use Rattle.hv_region_events.proofs.Made.{made-in-place}
use Rattle.hv_region_events.proofs.Standing.{case-there, changed-in-order, refused-in-order}
use Rattle.hv_region_events.specs.Regions.{OfPlan, OfRow, changed_parts, refused_parts}
use Rattle.hv_region_events.proofs.removal.dropped.Goals as goal

pub returns-in_err-lifted-clause-held_up : goal.returns-in_err-lifted-clause-held_up
returns-in_err-lifted-clause-held_up g c =
    let board = c.args.board.now in
    let s = c.args.step.now in
    let by = c.args.by in
    let own = c.args.own in
    let spent = c.in_err-lifted.ensures.spent in
    let last = subst (λ n. greatest_at board own (changed_parts c.args.guest n) ≡ GREATEST_STAMP) c.changed_row.ensures spent.0 in
    let is : ◌≡◌ {A = Result (Happened g.row.E.Denot) Stop} c.from_residual.result (Err (Spent GREATEST_STAMP)) = search rules in
    err-held g.E.Emulator.state by own s (OfRow c.args.row) board c.lift.new.self c.from_residual.result is spent.1
    (drop-finds board by own s c.args.guest c.args.row (alias_in c.args.window) c.requires.step c.requires.granted.shown (changed-in-order board.layout c.args.guest (changed_row c.args.row (alias_in c.args.window)) c.requires.slot c.requires.row) last)

pub drop_parts-requires-clause-granted : goal.drop_parts-requires-clause-granted
drop_parts-requires-clause-granted g c =
    let state = g.E.Emulator.state in
    let board = c.args.board.now in
    let s = c.args.step.now in
    let later = component.Shelf ∷ component.Space c.args.guest.slot ∷ component.Body c.args.guest.slot c.changed_row.result ∷ [] in
    let ps = c.in_ok-lifted.lifted.parts.items in
    let out = c.in_ok-lifted.ensures in
    let on = lifted-on state board c.lift.new.self c.args.own (component.Dir ∷ later) c.in_ok-lifted.lifted out.lifted out.next in
    subst (λ qs. IsGrantedAt (map (valued state) qs) s (Some c.args.row) c.args.guest) (sym c.deref_mut.ensures.value)
    (granted-at state board s (Some c.args.row) c.args.guest later ps c.requires.granted on out.next.kinds)

pub drop_parts-requires-clause-live : goal.drop_parts-requires-clause-live
drop_parts-requires-clause-live g c =
    let state = g.E.Emulator.state in
    let board = c.args.board.now in
    let lifted = c.in_ok-lifted.lifted in
    let out = c.in_ok-lifted.ensures in
    let on = lifted-on state board c.lift.new.self c.args.own (changed_parts c.args.guest c.changed_row.result) lifted out.lifted out.next in
    case-there state (λ windows devices. find (is_of c.args.row) windows ≡ Some c.args.window) board c.args.guest.slot
    (component.Body c.args.guest.slot c.changed_row.result ∷ []) lifted.parts.items c.deref_mut.result.now on c.deref_mut.ensures.value c.requires.live

pub finish-requires-clause-made : goal.finish-requires-clause-made
finish-requires-clause-made g c =
    let state = g.E.Emulator.state in
    let lifted = c.in_ok-lifted.lifted in
    let harts = c.lift.new.self.layout.harts in
    let by = c.args.by in
    let s = c.args.step.now in
    let made = c.in-Ok.made in
    let olds = c.deref_mut.result.now in
    let news = c.drop_parts.new.parts in
    let at =
    subst (λ n. IsMadeAt state harts by (changed_parts c.args.guest n) s made olds news) (sym c.changed_row.ensures) (c.in-Ok.ensures.made harts by)
    in
    made-back state harts by (changed_parts c.args.guest c.changed_row.result) s made olds news lifted.were.value.items lifted.parts.items lifted.parts.len
    (omega (arith, lifted.parts.ok.0)) c.deref_mut.ensures.value c.in_ok-lifted.ensures.next.parts c.in_ok-lifted.ensures.next.kinds at

pub returns-in-Err-clause-held_up : goal.returns-in-Err-clause-held_up
returns-in-Err-clause-held_up g c =
    memory-held g.E.Emulator.state c.args.by c.args.own c.args.step.now (OfRow c.args.row) c.args.board.now c.put_back.new.self _ c.in-Err.error
    (rw (sym c.in_ok-lifted.ensures.next.before_is) c.put_back.ensures.holds) refl
