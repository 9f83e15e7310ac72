use Rattle.std.proofs.Common.{◌≡◌, drop, IsTrue}
use Rattle.std.specs.FinMap.{is_sorted}
use Rattle.hv_files.specs.FileMap.{path_cmp}
use Rattle.hv_model.specs.Files.{load_files}
use Rattle.hv_load.proofs.Loading.{loaded_onto}
use Rattle.hv_load.proofs.load.load_tree.Given as goal

abbrev pub invariant-loop-file : goal.invariant-loop-file
invariant-loop-file l = record {
  left : loaded_onto l.tree (drop l.file-index l.files) ≡ load_files l.files;
  sorted : IsTrue (is_sorted path_cmp l.tree);
}
