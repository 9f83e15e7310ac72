use Rattle.std.proofs.Common.{◌≡◌, ◌∙◌, ◌+◌, ◌++◌, ◌∷◌, [], suc, map, sym, ap, arith}
use Rattle.std.proofs.lemmas.List.{append_assoc}
use Rattle.std.specs.List.{range_with_len}
use Rattle.hv_event.specs.declared.event.CellId.TheVariants as component
use Rattle.hv_board_steps.proofs.Orders.{queues-more}
use Rattle.hv_board_steps.specs.Vcpus.{directory_if}
use Rattle.hv_board_steps.proofs.touched.queue_parts.Goals as goal

pub loop-hart-preserved : goal.loop-hart-preserved
loop-hart-preserved c =
    let front = directory_if c.args.guest.now in
    let hart = c.loop-hart.hart in
    let queues = map component.Queue (range_with_len 0 hart) in
    let next : suc hart ≡ hart + 1 = omega arith in
    c.in_ok-push.ensures.items
    ∙ (ap (λ xs. xs ++ component.Queue hart ∷ []) c.loop-hart.invariant
    ∙ (append_assoc front queues (component.Queue hart ∷ [])
    ∙ ap (λ ys. front ++ ys) (sym (queues-more hart) ∙ ap (λ n. map component.Queue (range_with_len 0 n)) next)))
