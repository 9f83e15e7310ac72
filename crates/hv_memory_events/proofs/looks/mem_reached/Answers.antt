use Rattle.std.proofs.Common.{rules, ◌≡◌, ◌∙◌, ◌∷◌, Err, None, map, refl, sym, ap, subst}
use Rattle.std.specs.Prelude.{Result}
use Rattle.hv_board.specs.Board.{greatest_at}
use Rattle.hv_board.specs.declared.stop.Stop.{Stop}
use Rattle.hv_board.specs.declared.stop.Stop.TheVariants.{Spent}
use Rattle.hv_board_steps.proofs.Ends.{err-held, memory-held}
use Rattle.hv_board_steps.proofs.Lifts.{AreOn, granted-at, lifted-on}
use Rattle.hv_board_steps.specs.Granted.{IsGrantedAt}
use Rattle.hv_board_steps.specs.Happened.{Anything, FindsLast}
use Rattle.hv_board_steps.specs.declared.happened.Happened.{Happened}
use Rattle.hv_event.specs.declared.event.CellId.TheVariants as component
use Rattle.hv_guest_steps.specs.Admission.{shown_by}
use Rattle.hv_parts.specs.Kinds.{AreOf}
use Rattle.hv_parts.specs.Takes.{IsMadeAt}
use Rattle.hv_parts.specs.Value.{valued}
use Rattle.hv_rules.specs.Footprint.{reached_by}
use Rattle.hv_step.specs.declared.step.Step.TheVariants as step
use Rattle.hv_text.specs.declared.limits.TheConstants.{GREATEST_STAMP}
use Rattle.hv_memory_events.proofs.Finding.{mem-finds}
use Rattle.hv_memory_events.proofs.Made.{made-in-place}
use Rattle.hv_memory_events.proofs.Standing.{mem-area-there, mem-bytes-there, mem-in-order, mem-window-there}
use Rattle.hv_memory_events.specs.Reached.{mem_parts}
use Rattle.hv_memory_events.proofs.looks.mem_reached.Goals as goal

pub returns-in_err-lifted-clause-held_up : goal.returns-in_err-lifted-clause-held_up
returns-in_err-lifted-clause-held_up g c =
    let board = c.args.board.now in
    let s = c.args.step.now in
    let look = c.args.look.now in
    let by = c.args.by in
    let own = c.args.own in
    let guest = c.args.guest in
    let window = c.args.window in
    let area = c.args.area in
    let are : c.deref.result.now ≡ mem_parts guest window area = c.deref.ensures.value ∙ c.in_ok-xs.ensures in
    let spent = c.in_err-lifted.ensures.spent in
    let shown = sym (ap shown_by c.requires.step) ∙ c.requires.granted.shown in
    let order = mem-in-order board.layout guest window area c.requires.slot c.requires.row c.requires.there in
    let last = sym (ap (greatest_at board own) are) ∙ spent.0 in
    let finds = subst (λ t. FindsLast by own t Anything board) (sym c.requires.step) (mem-finds board by own guest window area look shown order last) in
    let is : ◌≡◌ {A = Result (Happened g.row.E.Denot) Stop} c.from_residual-in_err-lifted.result (Err (Spent GREATEST_STAMP)) = search rules in
    err-held g.E.Emulator.state by own s Anything board c.lift.new.self c.from_residual-in_err-lifted.result is spent.1 finds

pub mem_lifted-requires-clause-granted : goal.mem_lifted-requires-clause-granted
mem_lifted-requires-clause-granted g c =
    let state = g.E.Emulator.state in
    let board = c.args.board.now in
    let guest = c.args.guest in
    let window = c.args.window in
    let area = c.args.area in
    let lifted = c.in_ok-lifted.lifted in
    let ps = lifted.parts.items in
    let out = c.in_ok-lifted.ensures in
    let are : c.deref.result.now ≡ mem_parts guest window area = c.deref.ensures.value ∙ c.in_ok-xs.ensures in
    let on = subst (λ xs. AreOn board xs ps) are (lifted-on state board c.lift.new.self c.args.own c.deref.result.now lifted out.lifted out.next) in
    let kinds = subst (λ xs. AreOf xs (map (valued state) ps)) are out.next.kinds in
    let later = component.Space guest.slot ∷ reached_by guest window area in
    let here = granted-at state board c.args.step.now None guest later ps c.requires.granted on kinds in
    let there = subst (λ qs. IsGrantedAt (map (valued state) qs) c.args.step.now None guest) (sym c.deref-2.ensures.value) here in
    subst (λ s. IsGrantedAt (map (valued state) c.deref-2.result.now) s None guest) c.requires.step there

pub mem_lifted-requires-clause-window : goal.mem_lifted-requires-clause-window
mem_lifted-requires-clause-window g c =
    let state = g.E.Emulator.state in
    let board = c.args.board.now in
    let guest = c.args.guest in
    let window = c.args.window in
    let area = c.args.area in
    let lifted = c.in_ok-lifted.lifted in
    let ps = lifted.parts.items in
    let out = c.in_ok-lifted.ensures in
    let are : c.deref.result.now ≡ mem_parts guest window area = c.deref.ensures.value ∙ c.in_ok-xs.ensures in
    let on = subst (λ xs. AreOn board xs ps) are (lifted-on state board c.lift.new.self c.args.own c.deref.result.now lifted out.lifted out.next) in
    mem-window-there state board guest window area c.args.look.now.address c.args.look.now.count ps c.deref-2.result.now on c.deref-2.ensures.value c.requires.window

pub mem_lifted-requires-clause-area : goal.mem_lifted-requires-clause-area
mem_lifted-requires-clause-area g c =
    let state = g.E.Emulator.state in
    let board = c.args.board.now in
    let guest = c.args.guest in
    let window = c.args.window in
    let area = c.args.area in
    let lifted = c.in_ok-lifted.lifted in
    let ps = lifted.parts.items in
    let out = c.in_ok-lifted.ensures in
    let are : c.deref.result.now ≡ mem_parts guest window area = c.deref.ensures.value ∙ c.in_ok-xs.ensures in
    let on = subst (λ xs. AreOn board xs ps) are (lifted-on state board c.lift.new.self c.args.own c.deref.result.now lifted out.lifted out.next) in
    let kinds = subst (λ xs. AreOf xs (map (valued state) ps)) are out.next.kinds in
    mem-area-there state board guest window area c.args.look.now.address c.args.look.now.count ps c.deref-2.result.now on kinds c.deref-2.ensures.value c.requires.area

pub mem_lifted-requires-clause-bytes : goal.mem_lifted-requires-clause-bytes
mem_lifted-requires-clause-bytes g c =
    let state = g.E.Emulator.state in
    let board = c.args.board.now in
    let guest = c.args.guest in
    let window = c.args.window in
    let area = c.args.area in
    let lifted = c.in_ok-lifted.lifted in
    let ps = lifted.parts.items in
    let out = c.in_ok-lifted.ensures in
    let are : c.deref.result.now ≡ mem_parts guest window area = c.deref.ensures.value ∙ c.in_ok-xs.ensures in
    let on = subst (λ xs. AreOn board xs ps) are (lifted-on state board c.lift.new.self c.args.own c.deref.result.now lifted out.lifted out.next) in
    let kinds = subst (λ xs. AreOf xs (map (valued state) ps)) are out.next.kinds in
    mem-bytes-there state board guest window area c.args.look.now.address c.args.look.now.count ps c.deref-2.result.now on kinds c.deref-2.ensures.value c.requires.area c.requires.bytes

pub finish-requires-clause-made : goal.finish-requires-clause-made
finish-requires-clause-made g c =
    let state = g.E.Emulator.state in
    let lifted = c.in_ok-lifted.lifted in
    let harts = c.lift.new.self.layout.harts in
    let by = c.args.by in
    let made = c.in-Ok.made in
    let ps = c.deref-2.result.now in
    let touched = mem_parts c.args.guest c.args.window c.args.area in
    let are : c.deref-in-Ok.result.now ≡ touched = c.deref-in-Ok.ensures.value ∙ c.in_ok-xs.ensures in
    let here = subst (λ xs. IsMadeAt state harts by xs (step.Mem c.args.look.now) made ps ps) (sym are) (c.in-Ok.ensures harts by) in
    let at = subst (λ t. IsMadeAt state harts by c.deref-in-Ok.result.now t made ps ps) (sym c.requires.step) here in
    made-in-place state harts by c.deref-in-Ok.result.now c.args.step.now made ps lifted.were.value.items lifted.parts.items c.deref-2.ensures.value
    c.in_ok-lifted.ensures.next.parts at

pub returns-clause-held_up : goal.returns-clause-held_up
returns-clause-held_up g c =
    memory-held g.E.Emulator.state c.args.by c.args.own c.args.step.now Anything c.args.board.now c.put_back.new.self _ c.in-Err.error
    (rw (sym c.in_ok-lifted.ensures.next.before_is) c.put_back.ensures.holds) refl
