use Rattle.std.proofs.Common.{◌∷◌, ◌++◌, [], ◌≡◌, ◌<◌, ◌+◌, ◌*◌, ◌/◌, ◌%◌, Some, refl, sym, ap, subst, ◌∙◌, arith}
use Rattle.hv_event.specs.declared.event.CellId.TheVariants as component
use Rattle.hv_model.specs.Cell.{Component}
use Rattle.hv_model.specs.Legal.{start}
use Rattle.hv_parts.specs.Value.{Space, Queue, Vcpu, Body, Area}
use Rattle.hv_parts.specs.declared.part.Part.TheVariants as part
use Rattle.hv_text.specs.declared.limits.TheConstants.{SLOTS, VCPUS, GUEST_REGIONS}
use Rattle.hv_board.proofs.StartLemmas.{started-push, started-as}
use Rattle.hv_board.specs.Holds.{HoldsAt}
use Rattle.hv_board.specs.Places.{HasPlace, place_of, first_space, first_queue, first_vcpu, first_body, first_area}
use Rattle.hv_board.specs.Started.{AreStarted}
use Rattle.hv_board.specs.declared.cell.Cell.{Cell}
use Rattle.hv_board.proofs.open.push_vcpus.Goals as goal

pub loop-number-init : goal.loop-number-init
loop-number-init g c = λ layout O so. started-as g.E.Emulator.state O layout c.args.cells.now.items (first_vcpu layout) (first_vcpu layout + 0) (omega arith) so

pub loop-number-preserved : goal.loop-number-preserved
loop-number-preserved g c =
    λ layout O so.
    let state = g.E.Emulator.state in
    let l = c.loop-number in
    let cell : Cell g.row.E.Denot = record { part = Some (part.Vcpu c.in_ok-vcpu.vcpu); stamp = 0 } in
    let holds : HoldsAt state (component.Vcpu l.number) (start O (Component (component.Vcpu l.number))) cell = record { part = part.Vcpu c.in_ok-vcpu.vcpu; is = refl; value = ap Vcpu (c.in_ok-vcpu.ensures ∙ c.starting_vcpu.ensures); stamp = refl } in
    let has : HasPlace layout (component.Vcpu l.number) = c.loop-number-test.true in
    let at : place_of layout (component.Vcpu l.number) ≡ first_vcpu layout + l.number = refl in
    let more = started-push state O layout l.cells.items (first_vcpu layout + l.number) (component.Vcpu l.number) cell has at holds (l.invariant layout O so) in
    let next = started-as state O layout (l.cells.items ++ cell ∷ []) (first_vcpu layout + l.number + 1) (first_vcpu layout + (l.number + 1)) (omega arith) more in
    subst (λ cells. AreStarted state O layout cells (first_vcpu layout + (l.number + 1))) (sym c.in_ok-push.ensures) next

pub returns : goal.returns
returns g c =
    λ layout O so.
    let l = c.loop-number in
    started-as g.E.Emulator.state O layout l.cells.items (first_vcpu layout + l.number) (first_body layout) (omega arith) (l.invariant layout O so)
