use Rattle.std.proofs.Common.{◌≡◌, ℕ, List, [], ◌∷◌, ◌++◌, ◌+◌, length, refl, ap, ◌∙◌, arith}
use Rattle.std.specs.Prelude.{codes}
use Rattle.std.proofs.lemmas.List.{nil_from_length}
use Rattle.hv_dtree.specs.Nodes.{name_of, props_of}
use Rattle.hv_dtprint.specs.Printed.{head_text}
use Rattle.hv_dtprint.proofs.Printing.{printing_root, printing_foot, printing_head, lighter_foot, lighter_head}
use Rattle.hv_dtprint.proofs.Kept.{kept_root, kept_foot, kept_head}
use Rattle.hv_dtprint.proofs.print.print_root.Goals as goal

pub printing-init : goal.printing-init
printing-init c =
    let root = c.args.root.now in
    let start : List ℕ = codes "/dts-v1/;" ++ 10 ∷ 10 ∷ [] in
    let head = head_text 0 (name_of root) (props_of root) in
    let first = c.in_ok-extend_from_slice.ensures.items ∙ ap (λ (t : List ℕ). t ++ start) c.in_ok-out.ensures.items in
    let one = c.in_ok-push.ensures.items ∙ ap (λ t. t ++ c.as_slice.result ∷ []) c.new-stack.ensures.items in
    record {
      text = printing_root root c.push_head.new.out.items start c.push.new.self.items c.as_slice.result refl (c.in_ok-push_head.ensures.text ∙ ap (λ (t : List ℕ). t ++ head) first) one c.as_slice.ensures;
      bytes = kept_root root c.push.new.self.items c.as_slice.result one c.as_slice.ensures c.in_ok-push_head.ensures.bytes;
    }

pub printing-smaller-in_ok-push-in-Some-split_first-2 : goal.printing-smaller-in_ok-push-in-Some-split_first-2
printing-smaller-in_ok-push-in-Some-split_first-2 c =
    lighter_head c.printing.stack.items c.pop.new.self.items c.push-in-Some-split_first-2.new.self.items c.in-Some.nodes c.in-Some-split_first.rest c.as_slice-in-Some-split_first.result c.in-Some-split_first.node.now
    c.in-Some.ensures.items c.in-Some-split_first.ensures.cases.0 c.as_slice-in-Some-split_first.ensures (c.in_ok-push-in-Some-split_first-2.ensures.items ∙ ap (λ t. t ++ c.as_slice-in-Some-split_first.result ∷ []) c.in_ok-push-in-Some-split_first.ensures.items)

pub printing-preserved-in_ok-push-in-Some-split_first-2 : goal.printing-preserved-in_ok-push-in-Some-split_first-2
printing-preserved-in_ok-push-in-Some-split_first-2 c =
    let node = c.in-Some-split_first.node.now in
    let last = length c.pop.new.self.items in
    let depth : c.len.result ≡ last + 1 = omega (arith, c.len.ensures, c.in_ok-push-in-Some-split_first.ensures.len, c.pop.new.self.ok.0) in
    let grown = c.in_ok-push-in-Some-split_first-2.ensures.items ∙ ap (λ t. t ++ c.as_slice-in-Some-split_first.result ∷ []) c.in_ok-push-in-Some-split_first.ensures.items in
    record {
      text = printing_head c.args.root.now c.printing.out.items c.push_head-in-Some-split_first.new.out.items c.printing.stack.items c.pop.new.self.items c.push-in-Some-split_first-2.new.self.items c.in-Some.nodes c.in-Some-split_first.rest c.as_slice-in-Some-split_first.result node last
          c.printing.invariant.text c.in-Some.ensures.items c.in-Some-split_first.ensures.cases.0 refl c.as_slice-in-Some-split_first.ensures grown
          (c.in_ok-push_head-in-Some-split_first.ensures.text ∙ ap (λ (d : ℕ). c.printing.out.items ++ head_text d (name_of node) (props_of node)) depth);
      bytes = kept_head c.args.root.now c.printing.stack.items c.pop.new.self.items c.push-in-Some-split_first-2.new.self.items c.in-Some.nodes c.in-Some-split_first.rest c.as_slice-in-Some-split_first.result node
          c.printing.invariant.bytes c.in-Some.ensures.items c.in-Some-split_first.ensures.cases.0 c.as_slice-in-Some-split_first.ensures grown c.in_ok-push_head-in-Some-split_first.ensures.bytes;
    }

pub printing-smaller : goal.printing-smaller
printing-smaller c = lighter_foot c.printing.stack.items c.pop.new.self.items c.in-Some.nodes c.in-Some.ensures.items

pub printing-preserved : goal.printing-preserved
printing-preserved c =
    let none = nil_from_length _ c.in-None.ensures.cases in
    record {
      text = printing_foot c.args.root.now c.printing.out.items c.push_foot.new.out.items c.printing.stack.items c.pop.new.self.items c.in-Some.nodes c.len-in-None.result
          c.printing.invariant.text c.in-Some.ensures.items none (omega (arith, c.len-in-None.ensures, c.pop.new.self.ok.0)) c.in_ok-push_foot-in-None.ensures;
      bytes = kept_foot c.args.root.now c.printing.stack.items c.pop.new.self.items c.in-Some.nodes c.printing.invariant.bytes c.in-Some.ensures.items none;
    }
