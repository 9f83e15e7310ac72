use Rattle.std.proofs.Common.{rules, ◌≡◌, ℕ, [], ◌∷◌, Err, Option, map, sym, subst}
use Rattle.std.specs.Option.{option_map}
use Rattle.std.specs.Prelude.{Result}
use Rattle.hv_board.specs.declared.stop.Stop.{Stop}
use Rattle.hv_board.specs.declared.stop.Stop.TheVariants.{Spent}
use Rattle.hv_board_steps.proofs.Ends.{err-held}
use Rattle.hv_board_steps.proofs.Lifts.{lifted-on}
use Rattle.hv_board_steps.specs.declared.happened.Happened.{Happened}
use Rattle.hv_event.specs.declared.event.CellId.TheVariants as component
use Rattle.hv_parts.specs.Value.{valued}
use Rattle.hv_region.specs.declared.plan.RegionPlan.{RegionPlan}
use Rattle.hv_region_steps.specs.Refused.{IsRefused}
use Rattle.hv_text.specs.declared.limits.TheConstants.{GREATEST_STAMP}
use Rattle.hv_guest_events.proofs.Making.{made-in-place}
use Rattle.hv_guest_events.proofs.Refusing.{refused-finds, refused-there}
use Rattle.hv_guest_events.specs.Kinds.{OfRefused}
use Rattle.hv_guest_events.proofs.refusals.refused_event.Goals as goal

pub returns-in_err-lifted-clause-held_up : goal.returns-in_err-lifted-clause-held_up
returns-in_err-lifted-clause-held_up g c =
    let board = c.args.board.now in
    let s = c.args.step.now in
    let by = c.args.by in
    let row = c.args.row in
    let plan : Option (RegionPlan × ℕ) = option_map (λ plan. (plan.0.value, plan.1)) c.args.plan in
    let spent = c.in_err-lifted.ensures.spent in
    let is : ◌≡◌ {A = Result (Happened g.row.E.Denot) Stop} c.from_residual.result (Err (Spent GREATEST_STAMP)) = search rules in
    err-held g.E.Emulator.state by c.args.own s (OfRefused s row plan) board c.lift.new.self c.from_residual.result is spent.1
    (refused-finds g.E.Emulator.state board s row c.args.why c.requires.refused by c.args.own plan c.requires.whole spent.0)

pub refused_at-made-requires-clause-refused : goal.refused_at-made-requires-clause-refused
refused_at-made-requires-clause-refused g c =
    let state = g.E.Emulator.state in
    let board = c.args.board.now in
    let s = c.args.step.now in
    let ps = c.in_ok-lifted.lifted.parts.items in
    let out = c.in_ok-lifted.ensures in
    let on = lifted-on state board c.lift.new.self c.args.own (component.Dir ∷ []) c.in_ok-lifted.lifted out.lifted out.next in
    subst (λ qs. IsRefused (map (valued state) qs) s c.args.row c.args.why) (sym c.deref.ensures.value)
    (refused-there state board s c.args.row c.args.why c.requires.refused ps on out.next.kinds)

pub finish-requires-clause-made : goal.finish-requires-clause-made
finish-requires-clause-made g c =
    let lifted = c.in_ok-lifted.lifted in
    let harts = c.lift.new.self.layout.harts in
    made-in-place g.E.Emulator.state harts c.args.by (component.Dir ∷ []) c.args.step.now c.refused_at-made.result c.deref.result.now
    lifted.were.value.items lifted.parts.items c.deref.ensures.value c.in_ok-lifted.ensures.next.parts (c.refused_at-made.ensures.made harts c.args.by)
