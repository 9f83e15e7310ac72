use Rattle.std.proofs.Common.{◌≡◌, ◌+◌, [], length, get_or}
use Rattle.hv_text.specs.Lines.{script_lines}
use Rattle.xvsim.proofs.Counts.{greatest_lines_are}
use Rattle.xvsim.proofs.limits.most_of.Goals as goal

pub returns : goal.returns
returns c = λ files is.
    let a = c.lines_at.result + c.lines_at-2.result in
    let b = c.lines_at-second.result in
    let third = c.lines_at-third.result in
    let d = c.lines_at-fourth.result in
    let first : a ≡ length (script_lines (get_or c.args.scripts.now 0 [])) + length (script_lines (get_or c.args.scripts.now 1 [])) = cc (c.lines_at.ensures.count, c.lines_at-2.ensures.count) in
    cc (greatest_lines_are files c.args.scripts.now a b third d is first c.lines_at-second.ensures.count c.lines_at-third.ensures.count c.lines_at-fourth.ensures.count, c.max.ensures, c.max-2.ensures, c.max-3.ensures)
