use Rattle.std.proofs.Common.{append_assoc}
use Rattle.hv_gen.specs.Boot.{load_line}
use Rattle.hv_gen.proofs.boot.push_load.Goals as goal

pub returns : goal.returns
unfolding load_line
returns c = rw (c.in_ok-append-2.ensures.ok, c.in_ok-push_decimal.ensures.ok, c.in_ok-append.ensures.ok) (simp append_assoc)
