use Rattle.std.proofs.Common.{List, ℕ, ap, sym, subst, ◌∙◌}
use Rattle.std.specs.Prelude.{Option}
use Rattle.std.specs.List.{flat_map}
use Rattle.hv_dts.specs.Rules.{lesser, least, node_labels, cell_references, path_references, unlabelled, names_of}
use Rattle.hv_dts.specs.Sets.{Holds}
use Rattle.hv_dtgram.specs.declared.contents.Named.{Named}
use Rattle.hv_dts.proofs.Labels.{lent}
use Rattle.hv_dts.proofs.Twice.{least_append}
use Rattle.hv_dts.proofs.read.unlabelled_reference.Goals as goal

pub returns : goal.returns
returns c =
    let entries = c.args.entries.now in
    let set = c.in_ok-set.set in
    let names = names_of (flat_map node_labels entries) in
    let holds = subst (λ (ls : List Named). Holds set (names_of ls)) (ap lent c.deref.ensures.value ∙ c.in_ok-labels.ensures) c.in_ok-set.ensures in
    let cells = unlabelled names (flat_map cell_references entries) in
    let paths = unlabelled names (flat_map path_references entries) in
    c.lesser.ensures
    ∙ ap (λ (o : Option ℕ). lesser o c.unlabelled-path.result) (c.unlabelled-cell.ensures names holds ∙ ap (λ (ns : List Named). least (unlabelled names ns)) c.requires.in_cells)
    ∙ ap (lesser (least cells)) (c.unlabelled-path.ensures names holds ∙ ap (λ (ns : List Named). least (unlabelled names ns)) c.requires.elsewhere)
    ∙ sym (least_append cells paths)
