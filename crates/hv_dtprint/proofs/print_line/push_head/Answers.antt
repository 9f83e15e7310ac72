use Rattle.std.proofs.Common.{ℕ, ◌+◌, ◌<◌, ◌≤◌, List, [], ◌∷◌, ◌++◌, length, take, sym, ap, ◌∙◌, subst, arith}
use Rattle.std.specs.Prelude.{All}
use Rattle.std.specs.List.{flat_map}
use Rattle.std.proofs.lemmas.List.{take_all, take_more, flat_map_more}
use Rattle.std.proofs.lemmas.List.Elements.{All-more}
use Rattle.hv_dtree.specs.declared.node.Prop.{Prop}
use Rattle.hv_dtprint.specs.Printed.{prop_text}
use Rattle.hv_dtprint.proofs.print_line.push_head.Goals as goal

abbrev IsSmall : Prop → Type 0
IsSmall prop = All (λ byte. byte < 256) prop.value

pub loop-prop-preserved : goal.loop-prop-preserved
loop-prop-preserved c =
    let props = c.as_slice-prop-items.result.now in
    let at = c.loop-prop.prop-index in
    let item = c.prop-item.result in
    let line = prop_text (c.args.depth + 1) in
    let before = c.extend_from_slice.new.self.items in
    let within : at < length props = omega arith in
    record {
      text = c.in_ok-push_prop.ensures.text ∙ ap (λ (t : List ℕ). t ++ line item) c.loop-prop.invariant.text ∙ flat_map_more line before (take at props) item
          ∙ ap (λ (ps : List Prop). before ++ flat_map line ps) (ap (λ (p : Prop). take at props ++ p ∷ []) c.prop-item.is ∙ sym (take_more props at item within));
      bytes = All-more IsSmall props at item within c.loop-prop.invariant.bytes (subst IsSmall c.prop-item.is c.in_ok-push_prop.ensures.bytes);
    }

pub returns-clause-bytes : goal.returns-clause-bytes
returns-clause-bytes c =
    let props = c.as_slice-prop-items.result.now in
    let over : length props ≤ c.loop-prop.prop-index = omega arith in
    subst (All IsSmall) (take_all c.loop-prop.prop-index props over ∙ c.as_slice-prop-items.ensures) c.loop-prop.invariant.bytes
