use Rattle.std.proofs.Common.{rules, ◌≡◌, ◌∙◌, ℕ, Err, map, refl, sym, ap, subst, arith}
use Rattle.std.specs.Prelude.{Result}
use Rattle.hv_answer.specs.declared.reply.Reply.TheVariants as reply
use Rattle.hv_board.specs.Board.{greatest_at}
use Rattle.hv_board.specs.declared.stop.Stop.{Stop}
use Rattle.hv_board.specs.declared.stop.Stop.TheVariants.{Spent}
use Rattle.hv_rules.specs.Carry.{nothing}
use Rattle.hv_text.specs.declared.limits.TheConstants.{GREATEST_STAMP}
use Rattle.hv_board_steps.proofs.Ends.{err-held, finds, memory-held}
use Rattle.hv_board_steps.proofs.Touching.{vcpus-alone, vcpus-touch}
use Rattle.hv_board_steps.specs.Happened.{Anything}
use Rattle.hv_board_steps.specs.declared.happened.Happened.{Happened}
use Rattle.hv_board.specs.Board.{AreInOrder}
use Rattle.hv_board.specs.declared.board.Board.{Board}
use Rattle.hv_board.specs.declared.layout.Layout.{Layout}
use Rattle.hv_parts.specs.Admission.{IsAdmittedBy}
use Rattle.hv_parts.specs.Kinds.{AreOf}
use Rattle.hv_parts.specs.Takes.{IsMadeAt}
use Rattle.hv_parts.specs.Value.{valued}
use Rattle.hv_board_steps.proofs.Admitted.{admitted-lifted, admitted-shown}
use Rattle.hv_board_steps.proofs.Back.{made-back}
use Rattle.hv_board_steps.proofs.Orders.{touched-in-order, touched-past}
use Rattle.hv_board_steps.specs.Vcpus.{guest_by, touched_by}
use Rattle.hv_board_steps.proofs.vcpus.vcpus_event.Goals as goal

pub touched-requires-clause-shown : goal.touched-requires-clause-shown
touched-requires-clause-shown g c =
    admitted-shown g.E.Emulator.state c.args.board.now (guest_by c.args.step.now) c.requires.whole c.requires.admitted

pub lift-requires-clause-order : goal.lift-requires-clause-order
lift-requires-clause-order g c =
    let board = c.args.board.now in
    let step = c.args.step.now in
    let shown = admitted-shown g.E.Emulator.state board (guest_by step) c.requires.whole c.requires.admitted in
    let are : c.deref.result.now ≡ touched_by board.layout.harts step =
    c.deref.ensures.value ∙ (c.in_ok-xs.ensures ∙ ap (λ (l : Layout). touched_by l.harts step) c.layout-harts.ensures) in
    subst (AreInOrder board.layout) (sym are) (touched-in-order board.layout step c.requires.step shown c.requires.harts)

pub vcpus_at-requires-clause-admitted : goal.vcpus_at-requires-clause-admitted
vcpus_at-requires-clause-admitted g c =
    let board = c.args.board.now in
    let step = c.args.step.now in
    let past = touched-past c.layout-harts.result.harts step c.requires.step in
    subst (λ ps. IsAdmittedBy (map (valued g.E.Emulator.state) ps) (guest_by step)) (sym c.deref_mut.ensures.value)
    (admitted-lifted g.E.Emulator.state board c.lift.new.self (guest_by step) c.args.own past.0 c.deref.result.now c.in_ok-lifted.lifted c.requires.whole c.requires.admitted
    (c.deref.ensures.value ∙ (c.in_ok-xs.ensures ∙ past.1)) c.in_ok-lifted.ensures.lifted c.in_ok-lifted.ensures.next)

pub finish-requires-clause-made : goal.finish-requires-clause-made
finish-requires-clause-made g c =
    let state = g.E.Emulator.state in
    let lifted = c.in_ok-lifted.lifted in
    let next = c.in_ok-lifted.ensures.next in
    let step = c.args.step.now in
    let made = c.in-Ok.made in
    let olds = c.deref_mut.result.now in
    let news = c.vcpus_at.new.parts in
    let own = c.layout-harts.result.harts in
    let are : c.deref-in-Ok.result.now ≡ touched_by own step = c.deref-in-Ok.ensures.value ∙ c.in_ok-xs.ensures in
    let harts : c.lift.new.self.layout.harts ≡ own =
    ap (λ (l : Layout). l.harts) (c.in_ok-lifted.ensures.lifted.layout ∙ (ap (λ (b : Board g.row.E.Denot). b.layout) next.before_is ∙ sym c.layout-harts.ensures)) in
    let here = subst (λ xs. IsMadeAt state own c.args.by xs step made olds news) (sym are) (c.in-Ok.ensures.made c.args.by) in
    let at = subst (λ (h : ℕ). IsMadeAt state h c.args.by c.deref-in-Ok.result.now step made olds news) (sym harts) here in
    let kinds = subst (λ xs. AreOf xs (map (valued state) lifted.parts.items)) (c.deref.ensures.value ∙ sym c.deref-in-Ok.ensures.value) next.kinds in
    made-back state c.lift.new.self.layout.harts c.args.by c.deref-in-Ok.result.now step made olds news lifted.were.value.items lifted.parts.items lifted.parts.len
    (omega (arith, lifted.parts.ok.0)) c.deref_mut.ensures.value next.parts kinds at

pub returns-in_err-lifted-clause-held_up : goal.returns-in_err-lifted-clause-held_up
returns-in_err-lifted-clause-held_up g c =
    let board = c.args.board.now in
    let s = c.args.step.now in
    let by = c.args.by in
    let harts = board.layout.harts in
    let shown = admitted-shown g.E.Emulator.state board (guest_by s) c.requires.whole c.requires.admitted in
    let are : c.deref.result.now ≡ touched_by harts s =
    c.deref.ensures.value ∙ (c.in_ok-xs.ensures ∙ ap (λ (l : Layout). touched_by l.harts s) c.layout-harts.ensures) in
    let spent = c.in_err-lifted.ensures.spent in
    let is : ◌≡◌ {A = Result (Happened g.row.E.Denot) Stop} c.from_residual-in_err-lifted.result (Err (Spent GREATEST_STAMP)) = search rules in
    err-held g.E.Emulator.state by c.args.own s Anything board c.lift.new.self c.from_residual-in_err-lifted.result is spent.1
    (finds board by c.args.own s Anything reply.Rest nothing (touched_by harts s) (vcpus-touch harts by s c.requires.step) (vcpus-alone s c.requires.step) tt
    (touched-in-order board.layout s c.requires.step shown c.requires.harts) (sym (ap (greatest_at board c.args.own) are) ∙ spent.0))

pub returns-clause-held_up : goal.returns-clause-held_up
returns-clause-held_up g c =
    memory-held g.E.Emulator.state c.args.by c.args.own c.args.step.now Anything c.args.board.now c.put_back.new.self _ c.in-Err.error
    (rw (sym c.in_ok-lifted.ensures.next.before_is) c.put_back.ensures.holds) refl
