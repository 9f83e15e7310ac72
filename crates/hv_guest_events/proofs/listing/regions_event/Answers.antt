use Rattle.std.proofs.Common.{rules, ◌≡◌, ◌<◌, ◌∙◌, [], ◌∷◌, Err, None, map, refl, sym, ap, subst}
use Rattle.std.specs.Prelude.{Result}
use Rattle.hv_board.specs.Board.{greatest_at}
use Rattle.hv_board.specs.declared.stop.Stop.{Stop}
use Rattle.hv_board.specs.declared.stop.Stop.TheVariants.{Spent}
use Rattle.hv_board_steps.proofs.Ends.{err-held, memory-held}
use Rattle.hv_board_steps.proofs.Lifts.{granted-at, lifted-on}
use Rattle.hv_board_steps.specs.Granted.{IsGrantedAt}
use Rattle.hv_board_steps.specs.Happened.{Anything}
use Rattle.hv_board_steps.specs.declared.happened.Happened.{Happened}
use Rattle.hv_event.specs.declared.event.CellId.TheVariants as component
use Rattle.hv_guest_steps.specs.Admission.{asked_of}
use Rattle.hv_kinds.specs.declared.stage.Stage.TheVariants.{Made}
use Rattle.hv_parts.specs.Takes.{IsMadeAt}
use Rattle.hv_parts.specs.Value.{valued}
use Rattle.hv_rules.specs.Dir.{guest_in}
use Rattle.hv_text.specs.declared.limits.TheConstants.{GREATEST_STAMP, SLOTS}
use Rattle.hv_guest_events.proofs.Finding.{regions-finds}
use Rattle.hv_guest_events.proofs.Granting.{given-guest}
use Rattle.hv_guest_events.proofs.Making.{made-in-place}
use Rattle.hv_guest_events.proofs.listing.regions_event.Goals as goal

pub slot_of-slot-requires : goal.slot_of-slot-requires
slot_of-slot-requires g c =
    let d = c.directory.result.now in
    let regions = c.in-Regions.regions in
    ap (λ name. guest_in d name Made) c.as_slice.ensures
    ∙ given-guest d regions.name c.args.guest (sym (ap (λ s. asked_of d s None) c.in-Regions.is) ∙ c.requires.granted.granted d c.directory.ensures)

pub returns-in_err-lifted-clause-held_up : goal.returns-in_err-lifted-clause-held_up
returns-in_err-lifted-clause-held_up g c =
    let board = c.args.board.now in
    let s = c.args.step.now in
    let by = c.args.by in
    let own = c.args.own in
    let slot = c.slot_of-slot.ensures.slot in
    let spent = c.in_err-lifted.ensures.spent in
    let few = subst (λ n. n < SLOTS) slot c.slot_of-slot.ensures.within in
    let last = subst (λ n. greatest_at board own (component.Dir ∷ component.Space n ∷ []) ≡ GREATEST_STAMP) slot spent.0 in
    let is : ◌≡◌ {A = Result (Happened g.row.E.Denot) Stop} c.from_residual.result (Err (Spent GREATEST_STAMP)) = search rules in
    err-held g.E.Emulator.state by own s Anything board c.lift.new.self c.from_residual.result is spent.1
    (regions-finds board by own s c.args.guest c.requires.step c.requires.granted.shown few last)

pub listed_at-requires-clause-granted : goal.listed_at-requires-clause-granted
listed_at-requires-clause-granted g c =
    let state = g.E.Emulator.state in
    let board = c.args.board.now in
    let s = c.args.step.now in
    let later = component.Space c.slot_of-slot.result ∷ [] in
    let ps = c.in_ok-lifted.lifted.parts.items in
    let out = c.in_ok-lifted.ensures in
    let on = lifted-on state board c.lift.new.self c.args.own (component.Dir ∷ later) c.in_ok-lifted.lifted out.lifted out.next in
    subst (λ qs. IsGrantedAt (map (valued state) qs) s None c.args.guest) (sym c.deref.ensures.value)
    (granted-at state board s None c.args.guest later ps c.requires.granted on out.next.kinds)

pub finish-requires-clause-made : goal.finish-requires-clause-made
finish-requires-clause-made g c =
    let state = g.E.Emulator.state in
    let lifted = c.in_ok-lifted.lifted in
    let harts = c.lift.new.self.layout.harts in
    let by = c.args.by in
    let s = c.args.step.now in
    let made = c.in-Ok.made in
    let ps = c.deref.result.now in
    let at = subst (λ n. IsMadeAt state harts by (component.Dir ∷ component.Space n ∷ []) s made ps ps) (sym c.slot_of-slot.ensures.slot) (c.in-Ok.ensures harts by) in
    made-in-place state harts by (component.Dir ∷ component.Space c.slot_of-slot.result ∷ []) s made ps lifted.were.value.items lifted.parts.items
    c.deref.ensures.value c.in_ok-lifted.ensures.next.parts at

pub returns-in-Err-clause-held_up : goal.returns-in-Err-clause-held_up
returns-in-Err-clause-held_up g c =
    memory-held g.E.Emulator.state c.args.by c.args.own c.args.step.now Anything c.args.board.now c.put_back.new.self _ c.in-Err.error
    (rw (sym c.in_ok-lifted.ensures.next.before_is) c.put_back.ensures.holds) refl
