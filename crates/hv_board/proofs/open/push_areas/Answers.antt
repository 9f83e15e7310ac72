use Rattle.std.proofs.Common.{◌∷◌, ◌++◌, [], ◌≡◌, ◌<◌, ◌+◌, ◌*◌, ◌/◌, ◌%◌, Some, refl, sym, ap, subst, ◌∙◌, arith}
use Rattle.hv_model.specs.Legal.{area_at_start}
use Rattle.std.specs.Prelude.{replicate, slice_get, length, slice_index_or}
use Rattle.std.specs.Option.{option_map, option_map_or}
use Rattle.hv_event.specs.declared.event.CellId.TheVariants as component
use Rattle.hv_model.specs.Cell.{Component}
use Rattle.hv_model.specs.Legal.{start}
use Rattle.hv_parts.specs.Value.{Space, Queue, Vcpu, Body, Area}
use Rattle.hv_parts.specs.declared.part.Part.TheVariants as part
use Rattle.hv_text.specs.declared.limits.TheConstants.{SLOTS, VCPUS, GUEST_REGIONS}
use Rattle.hv_board.proofs.StartLemmas.{started-push, started-as}
use Rattle.hv_board.specs.Holds.{HoldsAt}
use Rattle.hv_board.specs.Places.{HasPlace, place_of, first_space, first_queue, first_vcpu, first_body, first_area}
use Rattle.hv_board.specs.Started.{AreStarted}
use Rattle.hv_board.specs.declared.cell.Cell.{Cell}
use Rattle.std.proofs.lemmas.Option.{slice_get-get_or}
use Rattle.hv_board.proofs.open.push_areas.Goals as goal

pub loop-named-preserved : goal.loop-named-preserved
loop-named-preserved g c =
    λ O layout areas_are counted so.
    let state = g.E.Emulator.state in
    let l = c.loop-named in
    let k = l.named-index in
    let areas = c.args.areas.now in
    let named = c.named-item.result in
    let found : slice_get O.opening.areas k ≡ Some named = ap (λ xs. slice_get xs k) areas_are ∙ (slice_get-get_or areas k named c.loop-named-test.true ∙ ap Some (sym c.named-item.is)) in
    let bytes : c.in_ok-area.area ≡ area_at_start O k = c.in_ok-area.ensures ∙ sym (ap (λ o. option_map_or (λ size. replicate size 0) (option_map (λ x. x.1) o) []) found) in
    let cell : Cell g.row.E.Denot = record { part = Some (part.Area c.in_ok-area.area); stamp = 0 } in
    let holds : HoldsAt state (component.Area k) (start O (Component (component.Area k))) cell = record { part = part.Area c.in_ok-area.area; is = refl; value = ap Area bytes; stamp = refl } in
    let has : HasPlace layout (component.Area k) = omega (arith, counted, c.loop-named-test.true) in
    let more = started-push state O layout l.cells.items (first_area layout + k) (component.Area k) cell has refl holds (l.invariant O layout areas_are counted so) in
    let next = started-as state O layout (l.cells.items ++ cell ∷ []) (first_area layout + k + 1) (first_area layout + (k + 1)) (omega arith) more in
    subst (λ cells. AreStarted state O layout cells (first_area layout + (k + 1))) (sym c.in_ok-push.ensures) next

pub returns : goal.returns
returns g c =
    λ O layout areas_are counted so.
    let l = c.loop-named in
    started-as g.E.Emulator.state O layout l.cells.items (first_area layout + l.named-index) (first_area layout + length c.args.areas.now) (omega arith) (l.invariant O layout areas_are counted so)
