use Rattle.std.proofs.Common.{sym}
use Rattle.hv_files.specs.declared.node.Node.TheVariants.{Folder}
use Rattle.hv_load.proofs.Loading.{put_same, folder_there}
use Rattle.hv_load.proofs.load.make_folder.Goals as goal

pub returns-then-is_folder : goal.returns-then-is_folder
returns-then-is_folder c =
    sym (put_same c.args.path.now Folder c.args.tree.now c.requires.sorted (folder_there c.args.tree.now c.args.path.now c.requires.named (c.is_folder.ensures c.if-is_folder.true)))
