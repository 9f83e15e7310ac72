use Rattle.std.proofs.Common.{◌∷◌, ◌++◌, [], ◌≡◌, ◌<◌, ◌+◌, ◌*◌, ◌/◌, ◌%◌, Some, refl, sym, ap, subst, ◌∙◌, arith}
use Rattle.hv_body.specs.Body.{seen}
use Rattle.hv_event.specs.declared.event.CellId.TheVariants as component
use Rattle.hv_model.specs.Cell.{Component}
use Rattle.hv_model.specs.Legal.{start}
use Rattle.hv_parts.specs.Value.{Space, Queue, Vcpu, Body, Area}
use Rattle.hv_parts.specs.declared.part.Part.TheVariants as part
use Rattle.hv_text.specs.declared.limits.TheConstants.{SLOTS, VCPUS, GUEST_REGIONS}
use Rattle.hv_board.proofs.StartLemmas.{started-push, started-as}
use Rattle.hv_board.specs.Holds.{HoldsAt}
use Rattle.hv_board.specs.Places.{HasPlace, place_of, first_space, first_queue, first_vcpu, first_body, first_area}
use Rattle.hv_board.specs.Started.{AreStarted}
use Rattle.hv_board.specs.declared.cell.Cell.{Cell}
use Rattle.hv_board.proofs.open.push_bodies.Goals as goal

pub loop-number-init : goal.loop-number-init
loop-number-init g c = λ layout O so. started-as g.E.Emulator.state O layout c.args.cells.now.items (first_body layout) (first_body layout + 0) (omega arith) so

pub loop-number-preserved : goal.loop-number-preserved
loop-number-preserved g c =
    λ layout O so.
    let state = g.E.Emulator.state in
    let l = c.loop-number in
    let cell : Cell g.row.E.Denot = record { part = Some (part.Body c.in_ok-body-2.body); stamp = 0 } in
    let holds : HoldsAt state (component.Body (l.number / 16) (l.number % 16)) (start O (Component (component.Body (l.number / 16) (l.number % 16)))) cell = record { part = part.Body c.in_ok-body-2.body; is = refl; value = ap (λ body. Body (seen state body)) (c.in_ok-body-2.ensures ∙ c.in_ok-body.ensures); stamp = refl } in
    let has : HasPlace layout (component.Body (l.number / 16) (l.number % 16)) = (omega arith, omega arith) in
    let at : place_of layout (component.Body (l.number / 16) (l.number % 16)) ≡ first_body layout + l.number = omega arith in
    let more = started-push state O layout l.cells.items (first_body layout + l.number) (component.Body (l.number / 16) (l.number % 16)) cell has at holds (l.invariant layout O so) in
    let next = started-as state O layout (l.cells.items ++ cell ∷ []) (first_body layout + l.number + 1) (first_body layout + (l.number + 1)) (omega arith) more in
    subst (λ cells. AreStarted state O layout cells (first_body layout + (l.number + 1))) (sym c.in_ok-push.ensures) next

pub returns : goal.returns
returns g c =
    λ layout O so.
    let l = c.loop-number in
    started-as g.E.Emulator.state O layout l.cells.items (first_body layout + l.number) (first_area layout) (omega arith) (l.invariant layout O so)
