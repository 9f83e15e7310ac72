use Rattle.std.proofs.Common.{◌∷◌, ◌++◌, [], ◌≡◌, ◌<◌, ◌+◌, ◌*◌, ◌/◌, ◌%◌, Some, refl, sym, ap, subst, ◌∙◌, arith}
use Rattle.hv_event.specs.declared.event.CellId.TheVariants as component
use Rattle.hv_model.specs.Cell.{Component}
use Rattle.hv_model.specs.Legal.{start}
use Rattle.hv_parts.specs.Value.{Space, Queue, Vcpu, Body, Area}
use Rattle.hv_parts.specs.declared.part.Part.TheVariants as part
use Rattle.hv_text.specs.declared.limits.TheConstants.{SLOTS, VCPUS, GUEST_REGIONS}
use Rattle.hv_board.proofs.StartLemmas.{started-push, started-as}
use Rattle.hv_board.specs.Holds.{HoldsAt}
use Rattle.hv_board.specs.Places.{HasPlace, place_of, first_space, first_queue, first_vcpu, first_body, first_area}
use Rattle.hv_board.specs.Started.{AreStarted}
use Rattle.hv_board.specs.declared.cell.Cell.{Cell}
use Rattle.hv_board.proofs.open.push_spaces.Goals as goal

pub loop-slot-init : goal.loop-slot-init
loop-slot-init g c = λ layout O so. started-as g.E.Emulator.state O layout c.args.cells.now.items first_space (first_space + 0) (omega arith) so

pub loop-slot-preserved : goal.loop-slot-preserved
loop-slot-preserved g c =
    λ layout O so.
    let state = g.E.Emulator.state in
    let l = c.loop-slot in
    let cell : Cell g.row.E.Denot = record { part = Some (part.Space c.in_ok-space.space); stamp = 0 } in
    let holds : HoldsAt state (component.Space l.slot) (start O (Component (component.Space l.slot))) cell = record { part = part.Space c.in_ok-space.space; is = refl; value = ap Space c.in_ok-space.ensures; stamp = refl } in
    let has : HasPlace layout (component.Space l.slot) = c.loop-slot-test.true in
    let at : place_of layout (component.Space l.slot) ≡ first_space + l.slot = refl in
    let more = started-push state O layout l.cells.items (first_space + l.slot) (component.Space l.slot) cell has at holds (l.invariant layout O so) in
    let next = started-as state O layout (l.cells.items ++ cell ∷ []) (first_space + l.slot + 1) (first_space + (l.slot + 1)) (omega arith) more in
    subst (λ cells. AreStarted state O layout cells (first_space + (l.slot + 1))) (sym c.in_ok-push.ensures) next

pub returns : goal.returns
returns g c =
    λ layout O so.
    let l = c.loop-slot in
    started-as g.E.Emulator.state O layout l.cells.items (first_space + l.slot) first_queue (omega arith) (l.invariant layout O so)
