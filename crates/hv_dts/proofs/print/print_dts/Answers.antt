use Rattle.hv_dts.proofs.Reread.{printed_stands}
use Rattle.hv_dts.proofs.print.print_dts.Goals as goal

pub returns-clause-reads_back : goal.returns-clause-reads_back
returns-clause-reads_back c =
    printed_stands c.print_root.result c.root.result.now c.args.tree.now c.root.ensures.root c.root.ensures.rules c.print_root.ensures.text c.print_root.ensures.bytes
