use Rattle.std.proofs.Common.{refl, subst}
use Rattle.std.proofs.lemmas.Bool.{false≢true}
use Rattle.hv_bundle.specs.Bundle.{FitsAfter, BeginsWithItems}
use Rattle.hv_bundle.proofs.Fitting.{bad_where_items_stop, is_no_bundle, ended, begins_more, none_from_item, none_from_fit, not_the_end, the_end}
use Rattle.hv_bundle.proofs.TakenLemmas.{all_apart, free_fits, fits_free, one_path_more}
use Rattle.hv_bundle.proofs.read.read_bundle.Goals as goal

pub returns-in_default-2-clause-only : goal.returns-in_default-2-clause-only
returns-in_default-2-clause-only c =
    let files = c.loop-rest.files.items in
    let rest = c.loop-rest.rest.now in
    is_no_bundle c.args.bytes.now files rest c.loop-rest.invariant.begins (none_from_item files rest (rw c.in_default-2.is at c.in_ok-file.ensures)) (not_the_end rest c.as_slice.result.now c.as_slice.ensures c.loop-rest-test.ensures)

pub returns-in_default-2-clause-refused : goal.returns-in_default-2-clause-refused
returns-in_default-2-clause-refused c =
    let files = c.loop-rest.files.items in
    let rest = c.loop-rest.rest.now in
    rw c.offset_of.ensures (bad_where_items_stop c.args.bytes.now files rest c.loop-rest.invariant.begins (none_from_item files rest (rw c.in_default-2.is at c.in_ok-file.ensures)) (not_the_end rest c.as_slice.result.now c.as_slice.ensures c.loop-rest-test.ensures))

pub is_free-requires : goal.is_free-requires
is_free-requires c = all_apart c.loop-rest.taken c.loop-rest.files.items c.loop-rest.invariant.begins.fitting c.loop-rest.invariant.paths

pub returns-then-not-is_free-clause-only : goal.returns-then-not-is_free-clause-only
returns-then-not-is_free-clause-only c =
    let files = c.loop-rest.files.items in
    let rest = c.loop-rest.rest.now in
    let file = c.in-Some-2.file in
    let taken = λ (fits : FitsAfter files file.path). false≢true (c.if-not-is_free.ensures.1 (fits_free c.loop-rest.taken files file.path c.loop-rest.invariant.paths fits)) in
    is_no_bundle c.args.bytes.now files rest c.loop-rest.invariant.begins (none_from_fit files rest file c.in-Some-2.size (rw c.in-Some-2.is at c.in_ok-file.ensures) taken) (not_the_end rest c.as_slice.result.now c.as_slice.ensures c.loop-rest-test.ensures)

pub returns-then-not-is_free-clause-refused : goal.returns-then-not-is_free-clause-refused
returns-then-not-is_free-clause-refused c =
    let files = c.loop-rest.files.items in
    let rest = c.loop-rest.rest.now in
    let file = c.in-Some-2.file in
    let taken = λ (fits : FitsAfter files file.path). false≢true (c.if-not-is_free.ensures.1 (fits_free c.loop-rest.taken files file.path c.loop-rest.invariant.paths fits)) in
    rw c.offset_of-then-not-is_free.ensures (bad_where_items_stop c.args.bytes.now files rest c.loop-rest.invariant.begins (none_from_fit files rest file c.in-Some-2.size (rw c.in-Some-2.is at c.in_ok-file.ensures) taken) (not_the_end rest c.as_slice.result.now c.as_slice.ensures c.loop-rest-test.ensures))

pub loop-rest-preserved : goal.loop-rest-preserved
loop-rest-preserved c =
    let files = c.loop-rest.files.items in
    let rest = c.loop-rest.rest.now in
    let file = c.in-Some-2.file in
    let item = rw c.in-Some-2.is at c.in_ok-file.ensures in
    let fits = free_fits c.loop-rest.taken files file.path c.loop-rest.invariant.paths (c.if-not-is_free.ensures.0 refl) in
    rw (c.in_ok-push.ensures.items, c.split_at.ensures.back) (record {
      begins = begins_more c.args.bytes.now files rest file _ c.loop-rest.invariant.begins item.0 fits item.3;
      paths = one_path_more c.loop-rest.taken c.insert.new.self files file c.in_ok-clone.field-0 c.in_ok-clone.ensures.cases c.loop-rest.invariant.paths c.in_ok-insert.ensures.updates.0;
    })

pub returns-clause-only : goal.returns-clause-only
returns-clause-only c = λ others is.
    ended c.args.bytes.now c.loop-rest.files.items others (subst (BeginsWithItems c.args.bytes.now c.loop-rest.files.items) (the_end c.loop-rest.rest.now c.as_slice.result.now c.as_slice.ensures c.loop-rest-test.ensures) c.loop-rest.invariant.begins) is
