use Rattle.std.proofs.Common.{◌≡◌, take, drop, IsTrue}
use Rattle.std.specs.FinMap.{is_sorted}
use Rattle.hv_files.specs.FileMap.{path_cmp, with_way, add_from}
use Rattle.hv_load.proofs.load.add_file.Given as goal

abbrev pub invariant-loop-place : goal.invariant-loop-place
invariant-loop-place l = record {
  front : l.front ≡ take l.place l.path;
  left : add_from l.tree l.front (drop l.place l.path) l.bytes ≡ with_way l.fn.tree l.path l.bytes;
  sorted : IsTrue (is_sorted path_cmp l.tree);
}
