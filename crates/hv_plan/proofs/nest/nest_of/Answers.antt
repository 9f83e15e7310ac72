use Rattle.std.proofs.Common.{◌<◌, length, arith, false-eqb}
use Rattle.hv_plan.proofs.Nests.{level_step}
use Rattle.hv_plan.proofs.nest.nest_of.Goals as goal

pub levels-smaller : goal.levels-smaller
levels-smaller c =
    let a = c.levels-test.ensures in
    let some : 0 < length c.as_slice.result.now = omega (arith, false-eqb _ 0 c.levels-test.ensures, c.as_slice.ensures.len) in
    omega (arith, level_step c.levels.level.items c.as_slice.result.now c.in_ok-level.level.items c.as_slice.ensures.value some c.in_ok-level.ensures)

pub levels-preserved : goal.levels-preserved
levels-preserved c =
    let b = c.in-Some.ensures in
    let some : 0 < length c.as_slice.result.now = omega (arith, false-eqb _ 0 c.levels-test.ensures, c.as_slice.ensures.len) in
    omega (arith, level_step c.levels.level.items c.as_slice.result.now c.in_ok-level.level.items c.as_slice.ensures.value some c.in_ok-level.ensures, c.levels.invariant, c.in-Some.ensures)
