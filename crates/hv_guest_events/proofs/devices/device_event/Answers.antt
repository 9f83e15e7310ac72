use Rattle.std.proofs.Common.{rules, ◌≡◌, ◌<◌, ◌∙◌, [], ◌∷◌, Err, Some, map, refl, sym, ap, subst, arith}
use Rattle.std.specs.Prelude.{Result}
use Rattle.hv_board.specs.Board.{greatest_at}
use Rattle.hv_board.specs.declared.stop.Stop.{Stop}
use Rattle.hv_board.specs.declared.stop.Stop.TheVariants.{Spent}
use Rattle.hv_board_steps.proofs.Back.{made-back}
use Rattle.hv_board_steps.proofs.Ends.{err-held, memory-held}
use Rattle.hv_board_steps.proofs.Lifts.{granted-at, lifted-on}
use Rattle.hv_board_steps.specs.Granted.{IsGrantedAt}
use Rattle.hv_board_steps.specs.declared.happened.Happened.{Happened}
use Rattle.hv_event.specs.declared.event.CellId.TheVariants as component
use Rattle.hv_kinds.specs.declared.stage.Stage.TheVariants.{Made}
use Rattle.hv_parts.specs.Takes.{IsMadeAt}
use Rattle.hv_parts.specs.Value.{valued}
use Rattle.hv_rules.specs.Dir.{guest_in}
use Rattle.hv_text.specs.declared.limits.TheConstants.{GREATEST_STAMP, SLOTS}
use Rattle.hv_guest_events.proofs.Finding.{device-finds}
use Rattle.hv_guest_events.proofs.Granting.{device-granted}
use Rattle.hv_guest_events.specs.Kinds.{OfRow}
use Rattle.hv_guest_events.proofs.devices.device_event.Goals as goal

pub slot_of-slot-requires : goal.slot_of-slot-requires
slot_of-slot-requires g c =
    let d = c.directory.result.now in
    ap (λ name. guest_in d name Made) c.name_of.ensures
    ∙ device-granted d c.args.step.now c.args.row c.args.guest c.requires.step (c.requires.granted.granted d c.directory.ensures)

pub returns-in_err-lifted-clause-held_up : goal.returns-in_err-lifted-clause-held_up
returns-in_err-lifted-clause-held_up g c =
    let board = c.args.board.now in
    let s = c.args.step.now in
    let by = c.args.by in
    let own = c.args.own in
    let row = c.args.row in
    let slot = c.slot_of-slot.ensures.slot in
    let spent = c.in_err-lifted.ensures.spent in
    let few = subst (λ n. n < SLOTS) slot c.slot_of-slot.ensures.within in
    let last = subst (λ n. greatest_at board own (component.Dir ∷ component.Body n row ∷ []) ≡ GREATEST_STAMP) slot spent.0 in
    let is : ◌≡◌ {A = Result (Happened g.row.E.Denot) Stop} c.from_residual.result (Err (Spent GREATEST_STAMP)) = search rules in
    err-held g.E.Emulator.state by own s (OfRow row) board c.lift.new.self c.from_residual.result is spent.1
    (device-finds board by own s c.args.guest row c.requires.step c.requires.granted.shown few c.requires.row last)

pub device_at-requires-clause-granted : goal.device_at-requires-clause-granted
device_at-requires-clause-granted g c =
    let state = g.E.Emulator.state in
    let board = c.args.board.now in
    let s = c.args.step.now in
    let row = c.args.row in
    let later = component.Body c.slot_of-slot.result row ∷ [] in
    let ps = c.in_ok-lifted.lifted.parts.items in
    let out = c.in_ok-lifted.ensures in
    let on = lifted-on state board c.lift.new.self c.args.own (component.Dir ∷ later) c.in_ok-lifted.lifted out.lifted out.next in
    subst (λ qs. IsGrantedAt (map (valued state) qs) s (Some row) c.args.guest) (sym c.deref_mut.ensures.value)
    (granted-at state board s (Some row) c.args.guest later ps c.requires.granted on out.next.kinds)

pub finish-requires-clause-made : goal.finish-requires-clause-made
finish-requires-clause-made g c =
    let state = g.E.Emulator.state in
    let lifted = c.in_ok-lifted.lifted in
    let harts = c.lift.new.self.layout.harts in
    let by = c.args.by in
    let s = c.args.step.now in
    let row = c.args.row in
    let made = c.in-Ok.made in
    let olds = c.deref_mut.result.now in
    let news = c.device_at.new.parts in
    let at = subst (λ n. IsMadeAt state harts by (component.Dir ∷ component.Body n row ∷ []) s made olds news) (sym c.slot_of-slot.ensures.slot) (c.in-Ok.ensures.made harts by) in
    made-back state harts by (component.Dir ∷ component.Body c.slot_of-slot.result row ∷ []) s made olds news lifted.were.value.items lifted.parts.items lifted.parts.len
    (omega (arith, lifted.parts.ok.0)) c.deref_mut.ensures.value c.in_ok-lifted.ensures.next.parts c.in_ok-lifted.ensures.next.kinds at

pub returns-in-Err-clause-held_up : goal.returns-in-Err-clause-held_up
returns-in-Err-clause-held_up g c =
    memory-held g.E.Emulator.state c.args.by c.args.own c.args.step.now (OfRow c.args.row) c.args.board.now c.put_back.new.self _ c.in-Err.error
    (rw (sym c.in_ok-lifted.ensures.next.before_is) c.put_back.ensures.holds) refl
