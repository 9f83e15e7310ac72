use Rattle.std.proofs.Common.{refl}
use Rattle.hv_dts.specs.Siblings.{no_siblings}
use Rattle.hv_dts.proofs.Nesting.{following_more, following_all}
use Rattle.hv_dts.proofs.members.repeated_member.Goals as goal

pub loop-entry-init : goal.loop-entry-init
loop-entry-init c = record { names = no_siblings; follows = c.new-members.ensures; same = refl }

pub loop-entry-preserved : goal.loop-entry-preserved
loop-entry-preserved c =
    following_more c.loop-entry.members c.take.new.self c.args.entries.now c.loop-entry.entry-index c.entry-item.result c.loop-entry-test.true c.entry-item.is c.in_ok-take.ensures c.loop-entry.invariant

pub returns : goal.returns
returns c = λ source are.
    following_all c.loop-entry.members c.args.entries.now c.loop-entry.entry-index source c.loop-entry-test.false c.loop-entry.invariant are
