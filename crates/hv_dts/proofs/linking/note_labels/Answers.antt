use Rattle.std.specs.Ordering.{nat_cmp}
use Rattle.std.specs.Option.{option_or}
use Rattle.std.specs.Cmp.Lexicographic.{slice_cmp}
use Rattle.std.specs.BTreeMap.{get}
use Rattle.hv_dts.specs.Linking.{some_if, names_path}
use Rattle.hv_dts.proofs.Links.{any_label, first_more, first_all}
use Rattle.hv_dts.proofs.linking.note_labels.Goals as goal

pub loop-label-preserved : goal.loop-label-preserved
loop-label-preserved c =
    let cmp = slice_cmp nat_cmp in
    let old = c.loop-label.links in
    let new = c.note_label.new.links in
    let labels = c.args.labels.now in
    let path = names_path c.args.names.now in
    record {
      numbers = λ name. first_more (get cmp old.numbers name) (get cmp new.numbers name) (option_or (get cmp c.args.links.now.numbers name) (some_if (any_label labels name) c.args.number)) labels c.loop-label.label-index c.label-item.result name c.args.number
          c.loop-label-test.true c.label-item.is (c.in_ok-note_label.ensures.numbers name) (c.loop-label.invariant.numbers name);
      paths = λ held holds name asks. first_more (get cmp old.paths name) (get cmp new.paths name) (option_or (get cmp c.args.links.now.paths name) (some_if (any_label labels name) path)) labels c.loop-label.label-index c.label-item.result name path
          c.loop-label-test.true c.label-item.is (c.in_ok-note_label.ensures.paths held holds name asks) (c.loop-label.invariant.paths held holds name asks);
    }

pub returns-clause-numbers : goal.returns-clause-numbers
returns-clause-numbers c = λ name.
    first_all (get (slice_cmp nat_cmp) c.loop-label.links.numbers name) (option_or (get (slice_cmp nat_cmp) c.args.links.now.numbers name) (some_if (any_label c.args.labels.now name) c.args.number)) c.args.labels.now c.loop-label.label-index name c.args.number
    c.loop-label-test.false (c.loop-label.invariant.numbers name)

pub returns-clause-paths : goal.returns-clause-paths
returns-clause-paths c = λ held holds name asks.
    first_all (get (slice_cmp nat_cmp) c.loop-label.links.paths name) (option_or (get (slice_cmp nat_cmp) c.args.links.now.paths name) (some_if (any_label c.args.labels.now name) (names_path c.args.names.now))) c.args.labels.now c.loop-label.label-index name (names_path c.args.names.now)
    c.loop-label-test.false (c.loop-label.invariant.paths held holds name asks)
