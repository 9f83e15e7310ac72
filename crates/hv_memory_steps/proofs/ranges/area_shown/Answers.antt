use Rattle.std.proofs.Common.{sym, ap, ◌∙◌}
use Rattle.hv_body.specs.Windows.{offset_in}
use Rattle.hv_memory_steps.proofs.RangeLemmas.{area_found, area_found_as}
use Rattle.hv_memory_steps.proofs.ranges.area_shown.Goals as goal

pub returns-in-InArea-clause-area : goal.returns-in-InArea-clause-area
returns-in-InArea-clause-area g c =
    ap area_found (sym c.in-InArea.is)
    ∙ area_found_as g.E.Emulator.state c.args.body.now (offset_in c.args.window c.args.address) c.args.size c.find.result c.find.ensures.rules c.find.ensures.value

pub returns-in-Own-clause-area : goal.returns-in-Own-clause-area
returns-in-Own-clause-area g c =
    ap area_found (sym c.in-Own.is)
    ∙ area_found_as g.E.Emulator.state c.args.body.now (offset_in c.args.window c.args.address) c.args.size c.find.result c.find.ensures.rules c.find.ensures.value

pub returns-in-NoMemory-clause-area : goal.returns-in-NoMemory-clause-area
returns-in-NoMemory-clause-area g c =
    ap area_found (sym c.in-NoMemory.is)
    ∙ area_found_as g.E.Emulator.state c.args.body.now (offset_in c.args.window c.args.address) c.args.size c.find.result c.find.ensures.rules c.find.ensures.value
