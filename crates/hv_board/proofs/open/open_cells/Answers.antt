use Rattle.std.proofs.Common.{◌≡◌, ◌+◌, length, arith}
use Rattle.hv_board.proofs.StartLemmas.{started-as}
use Rattle.hv_board.specs.Places.{count_of, first_area}
use Rattle.hv_board.proofs.open.open_cells.Goals as goal

pub returns : goal.returns
returns g c =
    λ O devices files areas.
    let layout = c.args.layout in
    let single = c.in_ok-push_single.ensures O layout devices files in
    let spaces = c.in_ok-push_spaces.ensures layout O single in
    let queues = c.in_ok-push_queues.ensures O spaces in
    let vcpus = c.in_ok-push_vcpus.ensures layout O queues in
    let bodies = c.in_ok-push_bodies.ensures layout O vcpus in
    let all = c.in_ok-push_areas.ensures O layout areas c.requires bodies in
    started-as g.E.Emulator.state O layout c.push_areas.new.cells.items (first_area layout + length c.args.areas.now) (count_of layout) (omega (arith, c.requires)) all
