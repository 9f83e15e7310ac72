use Rattle.std.proofs.Common.{rules, ◌≡◌, Err, [], ◌∷◌, refl, arith}
use Rattle.std.specs.Prelude.{Result}
use Rattle.hv_answer.specs.declared.reply.Reply.TheVariants as reply
use Rattle.hv_board.specs.declared.stop.Stop.{Stop}
use Rattle.hv_board.specs.declared.stop.Stop.TheVariants.{Spent}
use Rattle.hv_event.specs.declared.event.CellId.TheVariants as component
use Rattle.hv_rules.specs.Carry.{nothing}
use Rattle.hv_text.specs.declared.limits.TheConstants.{GREATEST_STAMP}
use Rattle.hv_board_steps.proofs.Back.{made-back}
use Rattle.hv_board_steps.proofs.Ends.{err-held, finds}
use Rattle.hv_board_steps.specs.declared.happened.Happened.{Happened}
use Rattle.hv_step.specs.declared.step.Step.TheVariants as step
use Rattle.hv_board_steps.specs.Vcpus.{OfVcpu}
use Rattle.std.specs.Prelude.{Some}
use Rattle.hv_board_steps.proofs.arrival.vadd_event.Goals as goal

pub returns-in_err-lifted-clause-held_up : goal.returns-in_err-lifted-clause-held_up
returns-in_err-lifted-clause-held_up g c =
    let board = c.args.board.now in
    let vadd = c.args.vadd in
    let given = Some (c.args.index, c.args.plan) in
    let spent = c.in_err-lifted.ensures.spent in
    let is : ◌≡◌ {A = Result (Happened g.row.E.Denot) Stop} c.from_residual.result (Err (Spent GREATEST_STAMP)) = search rules in
    err-held g.E.Emulator.state c.args.by c.args.own (step.Vadd vadd) (OfVcpu given) board c.lift.new.self c.from_residual.result is spent.1
    (finds board c.args.by c.args.own (step.Vadd vadd) (OfVcpu given) reply.Rest (record nothing { vcpu = given }) (component.Vcpu vadd.vcpu ∷ []) refl refl refl
    (record { rising = (tt, tt); have = (c.requires.vcpu, tt) }) spent.0)

pub finish-requires-clause-made : goal.finish-requires-clause-made
finish-requires-clause-made g c =
    let lifted = c.in_ok-lifted.lifted in
    made-back g.E.Emulator.state c.lift.new.self.layout.harts c.args.by (component.Vcpu c.args.vadd.vcpu ∷ []) (step.Vadd c.args.vadd) c.vadd_at-made.result
    c.deref_mut.result.now c.vadd_at-made.new.parts lifted.were.value.items lifted.parts.items lifted.parts.len (omega (arith, lifted.parts.ok.0))
    c.deref_mut.ensures.value c.in_ok-lifted.ensures.next.parts c.in_ok-lifted.ensures.next.kinds
    (c.vadd_at-made.ensures.made c.lift.new.self.layout.harts c.args.by)
