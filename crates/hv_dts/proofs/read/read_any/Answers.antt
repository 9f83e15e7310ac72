use Rattle.std.proofs.Common.{◌≡◌, List, subst, sym, ap, ◌∙◌}
use Rattle.std.specs.List.{flat_map}
use Rattle.hv_dts.specs.Rules.{names_of, path_references}
use Rattle.hv_dts.specs.Resolved.{asked_labels, used_numbers, root_tree}
use Rattle.hv_dts.specs.Linking.{AreAsked, AreLinked}
use Rattle.hv_dts.specs.Maps.{links_in}
use Rattle.hv_dtgram.specs.declared.contents.Entry.{Entry}
use Rattle.hv_dts.proofs.Standing.{stands}
use Rattle.hv_dts.proofs.Kept.{keeps_rules}
use Rattle.hv_dtree.specs.Nodes.{IsRoot}
use Rattle.hv_dts.proofs.read.read_any.Goals as goal

pub returns-clause-found : goal.returns-clause-found
returns-clause-found c =
    let it = c.in_ok-entries.ensures.found in
    let entries = c.in_ok-entries.entries in
    let linking = c.in_ok-linking.linking in
    let cells = asked_labels entries in
    let paths = names_of (flat_map path_references entries) in
    let used = used_numbers entries in
    let asked : AreAsked c.in_ok-asked.asked cells paths used =
    subst (λ (es : List Entry). AreAsked c.in_ok-asked.asked (asked_labels es) (names_of (flat_map path_references es)) (used_numbers es)) c.as_slice.ensures c.in_ok-asked.ensures.asked in
    let linked : AreLinked cells paths used linking entries = subst (AreLinked cells paths used linking) c.as_slice-2.ensures (c.in_ok-linking.ensures cells paths used asked) in
    let root : c.in_ok-root.root ≡ root_tree (links_in linking.links) it.syntax linking.given.items =
    c.in_ok-root.ensures it.syntax it.is ∙ ap (root_tree (links_in linking.links) it.syntax) c.as_slice-3.ensures.value in
    record {
      syntax = it.syntax;
      written = it.written;
      keeps = c.in_ok-asked.ensures.kept it.syntax (c.as_slice.ensures ∙ it.is);
      stands = stands it.syntax entries linking c.in_ok-root.root it.is linked root;
    }

pub returns-clause-rules : goal.returns-clause-rules
returns-clause-rules c =
    let it = c.in_ok-entries.ensures.found in
    let entries = c.in_ok-entries.entries in
    let linking = c.in_ok-linking.linking in
    let cells = asked_labels entries in
    let paths = names_of (flat_map path_references entries) in
    let used = used_numbers entries in
    let asked : AreAsked c.in_ok-asked.asked cells paths used =
    subst (λ (es : List Entry). AreAsked c.in_ok-asked.asked (asked_labels es) (names_of (flat_map path_references es)) (used_numbers es)) c.as_slice.ensures c.in_ok-asked.ensures.asked in
    let linked : AreLinked cells paths used linking entries = subst (AreLinked cells paths used linking) c.as_slice-2.ensures (c.in_ok-linking.ensures cells paths used asked) in
    let root : c.in_ok-root.root ≡ root_tree (links_in linking.links) it.syntax linking.given.items =
    c.in_ok-root.ensures it.syntax it.is ∙ ap (root_tree (links_in linking.links) it.syntax) c.as_slice-3.ensures.value in
    subst IsRoot (sym root) (keeps_rules it.syntax entries linking it.is it.written.names (c.in_ok-asked.ensures.kept it.syntax (c.as_slice.ensures ∙ it.is)) linked)
