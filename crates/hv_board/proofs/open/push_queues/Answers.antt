use Rattle.std.proofs.Common.{◌∷◌, ◌++◌, [], ◌≡◌, ◌<◌, ◌+◌, ◌*◌, ◌/◌, ◌%◌, Some, refl, sym, ap, subst, ◌∙◌, arith}
use Rattle.hv_event.specs.declared.event.CellId.TheVariants as component
use Rattle.hv_model.specs.Cell.{Component}
use Rattle.hv_model.specs.Legal.{start}
use Rattle.hv_parts.specs.Value.{Space, Queue, Vcpu, Body, Area}
use Rattle.hv_parts.specs.declared.part.Part.TheVariants as part
use Rattle.hv_text.specs.declared.limits.TheConstants.{SLOTS, VCPUS, GUEST_REGIONS}
use Rattle.hv_board.proofs.StartLemmas.{started-push, started-as}
use Rattle.hv_board.specs.Holds.{HoldsAt}
use Rattle.hv_board.specs.Places.{HasPlace, place_of, first_space, first_queue, first_vcpu, first_body, first_area}
use Rattle.hv_board.specs.Started.{AreStarted}
use Rattle.hv_board.specs.declared.cell.Cell.{Cell}
use Rattle.hv_board.proofs.open.push_queues.Goals as goal

pub loop-hart-init : goal.loop-hart-init
loop-hart-init g c = λ O so. started-as g.E.Emulator.state O c.args.layout c.args.cells.now.items first_queue (first_queue + 0) (omega arith) so

pub loop-hart-preserved : goal.loop-hart-preserved
loop-hart-preserved g c =
    λ O so.
    let state = g.E.Emulator.state in
    let l = c.loop-hart in
    let cell : Cell g.row.E.Denot = record { part = Some (part.Queue c.in_ok-queue.queue); stamp = 0 } in
    let holds : HoldsAt state (component.Queue l.hart) (start O (Component (component.Queue l.hart))) cell = record { part = part.Queue c.in_ok-queue.queue; is = refl; value = ap Queue c.in_ok-queue.ensures; stamp = refl } in
    let has : HasPlace c.args.layout (component.Queue l.hart) = c.loop-hart-test.true in
    let at : place_of c.args.layout (component.Queue l.hart) ≡ first_queue + l.hart = refl in
    let more = started-push state O c.args.layout l.cells.items (first_queue + l.hart) (component.Queue l.hart) cell has at holds (l.invariant O so) in
    let next = started-as state O c.args.layout (l.cells.items ++ cell ∷ []) (first_queue + l.hart + 1) (first_queue + (l.hart + 1)) (omega arith) more in
    subst (λ cells. AreStarted state O c.args.layout cells (first_queue + (l.hart + 1))) (sym c.in_ok-push.ensures) next

pub returns : goal.returns
returns g c =
    λ O so.
    let l = c.loop-hart in
    started-as g.E.Emulator.state O c.args.layout l.cells.items (first_queue + l.hart) (first_vcpu c.args.layout) (omega arith) (l.invariant O so)
