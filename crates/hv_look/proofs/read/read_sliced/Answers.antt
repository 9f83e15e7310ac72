use Rattle.std.proofs.Common.{arith}
use Rattle.hv_look.proofs.Looks.{no_long_slice}
use Rattle.hv_look.proofs.read.read_sliced.Goals as goal

pub returns-then-slice : goal.returns-then-slice
returns-then-slice c = no_long_slice c.args.words.now c.in_ok-slice.rest.now c.in_ok-slice.slice c.in_ok-slice.ensures (omega arith)
