use Rattle.std.proofs.Common.{◌≡◌, ◌≤◌, length, vec_capacity, refl, sym, ◌∙◌, arith}
use Rattle.hv_dir.specs.Pool.{devices_of}
use Rattle.hv_model.specs.Origin.{Origin, origin_of}
use Rattle.hv_board.proofs.PlaceLemmas.{place-within}
use Rattle.hv_board.proofs.StartLemmas.{started-full}
use Rattle.hv_board.specs.Places.{count_of}
use Rattle.hv_board.specs.Started.{AreStarted}
use Rattle.hv_board.specs.declared.layout.Layout.{Layout}
use Rattle.hv_board.proofs.open.open_board.Goals as goal

pub returns-clause-whole : goal.returns-clause-whole
returns-clause-whole g c =
    let state = g.E.Emulator.state in
    let O : Origin = origin_of c.args.opening.now (devices_of state c.args.shelf) in
    let layout : Layout = record { harts = c.args.opening.now.harts; areas = length c.as_slice-areas.result.now } in
    let so : AreStarted state O layout c.in_ok-cells.cells.items (count_of layout) = c.in_ok-cells.ensures O refl (sym c.requires.files) (sym c.as_slice-areas.ensures) in
    let enough : vec_capacity c.in_ok-with_capacity-2.field-0 ≡ count_of layout = c.in_ok-with_capacity-2.ensures.exact ∙ c.count-2.ensures in
    let places : vec_capacity c.in_ok-with_capacity.field-0 ≡ count_of layout = c.in_ok-with_capacity.ensures.exact ∙ c.count.ensures in
    record {
      long = so.long;
      each = λ x has. started-full state O x _ (so.each x has (place-within layout x has));
      room = record { parts = c.in_ok-with_capacity-2.ensures.items; enough = omega (arith, enough); places = omega (arith, places) };
    }

pub returns-clause-start : goal.returns-clause-start
returns-clause-start g c =
    let state = g.E.Emulator.state in
    let O : Origin = origin_of c.args.opening.now (devices_of state c.args.shelf) in
    let layout : Layout = record { harts = c.args.opening.now.harts; areas = length c.as_slice-areas.result.now } in
    let so : AreStarted state O layout c.in_ok-cells.cells.items (count_of layout) = c.in_ok-cells.ensures O refl (sym c.requires.files) (sym c.as_slice-areas.ensures) in
    record { harts = refl; each = λ x has. so.each x has (place-within layout x has) }
