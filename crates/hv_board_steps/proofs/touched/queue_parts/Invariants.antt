use Rattle.std.proofs.Common.{◌≡◌, ◌++◌, map}
use Rattle.std.specs.List.{range_with_len}
use Rattle.hv_event.specs.declared.event.CellId.TheVariants as component
use Rattle.hv_board_steps.specs.Vcpus.{directory_if}
use Rattle.hv_board_steps.proofs.touched.queue_parts.Given as goal

abbrev pub invariant-loop-hart : goal.invariant-loop-hart
invariant-loop-hart l = l.xs.items ≡ directory_if l.guest ++ map component.Queue (range_with_len 0 l.hart)
