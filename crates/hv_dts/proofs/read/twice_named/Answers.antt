use Rattle.std.proofs.Common.{List, ℕ, [], ◌++◌, ap, sym, ◌∙◌}
use Rattle.std.specs.Prelude.{Option}
use Rattle.hv_dtgram.specs.Contents.{entries_of}
use Rattle.hv_dts.specs.Rules.{lesser, least, repeated, labels_of, props_repeated, nodes_repeated}
use Rattle.hv_dtgram.specs.declared.contents.Entry.{Entry}
use Rattle.hv_dts.proofs.Twice.{least_append}
use Rattle.hv_dts.proofs.read.twice_named.Goals as goal

pub returns : goal.returns
returns c = λ source are.
    let labels = repeated [] (labels_of (entries_of source)) in
    let members = props_repeated [] source.props ++ nodes_repeated [] source.nodes in
    c.lesser.ensures
    ∙ ap (λ (o : Option ℕ). lesser o c.in_ok-member.member) (c.in_ok-label.ensures ∙ ap (λ (es : List Entry). least (repeated [] (labels_of es))) are)
    ∙ ap (lesser (least labels)) (c.in_ok-member.ensures source are) ∙ sym (least_append labels members)
