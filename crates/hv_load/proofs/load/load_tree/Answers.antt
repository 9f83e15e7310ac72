use Rattle.std.proofs.Common.{◌≡◌, [], sym, subst, ◌∙◌, IsTrue}
use Rattle.std.specs.FinMap.{is_sorted}
use Rattle.hv_files.specs.FileMap.{path_cmp, with_way}
use Rattle.hv_load.proofs.Loading.{next_file, named_at, sorted_way}
use Rattle.hv_load.proofs.load.load_tree.Goals as goal

pub add_file-requires-clause-named : goal.add_file-requires-clause-named
add_file-requires-clause-named c =
    named_at [] c.args.files.now c.loop-file.file-index c.file-item.result c.file-item.result c.requires c.loop-file-test.true c.file-item.is

pub loop-file-preserved : goal.loop-file-preserved
loop-file-preserved c =
    let m = c.loop-file.tree in
    let files = c.args.files.now in
    let f = c.file-item.result in
    let new = c.add_file.new.tree in
    let added : new ≡ with_way m f.path f.bytes = cc (c.in_ok-add_file.ensures, c.as_slice.ensures) in
    record {
      left = next_file m new files c.loop-file.file-index f f c.loop-file-test.true c.file-item.is added ∙ c.loop-file.invariant.left;
      sorted = subst (λ n. IsTrue (is_sorted path_cmp n)) (sym added) (sorted_way m [] f.path f.bytes c.loop-file.invariant.sorted);
    }
