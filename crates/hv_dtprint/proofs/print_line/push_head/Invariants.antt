use Rattle.std.proofs.Common.{◌≡◌, ◌++◌, ◌+◌, ◌<◌, take}
use Rattle.std.specs.Prelude.{All}
use Rattle.std.specs.List.{flat_map}
use Rattle.hv_dtprint.specs.Printed.{prop_text}
use Rattle.hv_dtprint.proofs.print_line.push_head.Given as goal

abbrev pub invariant-loop-prop : goal.invariant-loop-prop
invariant-loop-prop l = record {
  text : l.out.items ≡ l.initial.out.items ++ flat_map (prop_text (l.depth + 1)) (take l.prop-index l.prop-items);
  bytes : All (λ prop. All (λ byte. byte < 256) prop.value) (take l.prop-index l.prop-items);
}
