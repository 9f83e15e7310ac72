use Rattle.std.proofs.Common.{◌≡◌, ◌++◌, length}
use Rattle.hv_files.specs.FileMap.{names_in}
use Rattle.hv_files.specs.Tree.{IsIn, from_on}
use Rattle.hv_files.proofs.tree.names_of_folder.Given as goal

abbrev pub invariant-loop-name : goal.invariant-loop-name
invariant-loop-name l = record {
  inside : IsIn l.folder l.cursor;
  listed : names_in l.nodes.entries l.folder ≡ l.names.items ++ names_in (from_on l.cursor l.nodes.entries) l.folder;
}

abbrev pub decreases-loop-name : goal.decreases-loop-name
decreases-loop-name l = length (from_on l.cursor l.nodes.entries)
