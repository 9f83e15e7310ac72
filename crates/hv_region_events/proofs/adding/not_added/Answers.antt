use Rattle.std.proofs.Common.{rules, ◌≡◌, [], ◌∷◌, Err, None, Some, map, refl, sym, subst, arith}
use Rattle.std.specs.Prelude.{Result, find}
use Rattle.hv_board.specs.Board.{greatest_at}
use Rattle.hv_board.specs.declared.stop.Stop.{Stop}
use Rattle.hv_board.specs.declared.stop.Stop.TheVariants.{Spent}
use Rattle.hv_board_steps.proofs.Back.{made-back}
use Rattle.hv_board_steps.proofs.Ends.{err-held, memory-held}
use Rattle.hv_board_steps.proofs.Lifts.{granted-at, lifted-on}
use Rattle.hv_board_steps.specs.Granted.{IsGrantedAt}
use Rattle.hv_board_steps.specs.declared.happened.Happened.{Happened}
use Rattle.hv_event.specs.declared.event.CellId.TheVariants as component
use Rattle.hv_guest_steps.specs.Additions.{MayAdd, MayNotAdd, region_at}
use Rattle.hv_parts.specs.Takes.{IsMadeAt}
use Rattle.hv_parts.specs.Value.{valued}
use Rattle.hv_region_steps.specs.Regions.{changed_row}
use Rattle.hv_text.specs.declared.limits.TheConstants.{GREATEST_STAMP}
use Rattle.hv_region_events.proofs.Finding.{add-refusal-finds}
use Rattle.hv_region_events.proofs.Made.{made-in-place}
use Rattle.hv_region_events.proofs.Standing.{case-there, changed-in-order, refused-in-order}
use Rattle.hv_region_events.specs.Regions.{OfPlan, OfRow, changed_parts, refused_parts}
use Rattle.hv_region_events.proofs.adding.not_added.Goals as goal

pub returns-in_err-lifted-clause-held_up : goal.returns-in_err-lifted-clause-held_up
returns-in_err-lifted-clause-held_up g c =
    let board = c.args.board.now in
    let s = c.args.step.now in
    let by = c.args.by in
    let own = c.args.own in
    let spent = c.in_err-lifted.ensures.spent in
    let last = spent.0 in
    let is : ◌≡◌ {A = Result (Happened g.row.E.Denot) Stop} c.from_residual.result (Err (Spent GREATEST_STAMP)) = search rules in
    err-held g.E.Emulator.state by own s (OfPlan c.args.at.row c.args.plan.now c.args.at.vcpus) board c.lift.new.self c.from_residual.result is spent.1
    (add-refusal-finds board by own s c.args.at.guest c.args.at.row c.args.plan.now c.args.at.vcpus c.requires.step c.requires.granted.shown (refused-in-order board.layout c.args.at.guest c.requires.slot) last)

pub not_added_parts-made-requires-clause-granted : goal.not_added_parts-made-requires-clause-granted
not_added_parts-made-requires-clause-granted g c =
    let state = g.E.Emulator.state in
    let board = c.args.board.now in
    let s = c.args.step.now in
    let later = component.Shelf ∷ component.Space c.args.at.guest.slot ∷ [] in
    let ps = c.in_ok-lifted.lifted.parts.items in
    let out = c.in_ok-lifted.ensures in
    let on = lifted-on state board c.lift.new.self c.args.own (component.Dir ∷ later) c.in_ok-lifted.lifted out.lifted out.next in
    subst (λ qs. IsGrantedAt (map (valued state) qs) s (Some c.args.at.row) c.args.at.guest) (sym c.deref.ensures.value)
    (granted-at state board s (Some c.args.at.row) c.args.at.guest later ps c.requires.granted on out.next.kinds)

pub not_added_parts-made-requires-clause-may_not_add : goal.not_added_parts-made-requires-clause-may_not_add
not_added_parts-made-requires-clause-may_not_add g c =
    let state = g.E.Emulator.state in
    let board = c.args.board.now in
    let lifted = c.in_ok-lifted.lifted in
    let out = c.in_ok-lifted.ensures in
    let on = lifted-on state board c.lift.new.self c.args.own (refused_parts c.args.at.guest) lifted out.lifted out.next in
    case-there state (λ windows devices. MayNotAdd windows devices (region_at c.args.at c.args.plan.now) c.args.why) board c.args.at.guest.slot
    [] lifted.parts.items c.deref.result.now on c.deref.ensures.value c.requires.may_not_add

pub finish-requires-clause-made : goal.finish-requires-clause-made
finish-requires-clause-made g c =
    let state = g.E.Emulator.state in
    let lifted = c.in_ok-lifted.lifted in
    let harts = c.lift.new.self.layout.harts in
    let by = c.args.by in
    let s = c.args.step.now in
    made-in-place state harts by (refused_parts c.args.at.guest) s c.not_added_parts-made.result c.deref.result.now lifted.were.value.items lifted.parts.items
    c.deref.ensures.value c.in_ok-lifted.ensures.next.parts (c.not_added_parts-made.ensures.made harts by)
