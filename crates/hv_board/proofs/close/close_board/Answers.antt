use Rattle.std.proofs.Common.{◌≡◌, ◌≢◌, ◌∙◌, ap, slice_index_or, slice_set, arith}
use Rattle.hv_event.specs.declared.event.CellId.TheVariants as component
use Rattle.hv_board.specs.Board.{cell_at}
use Rattle.hv_board.proofs.CloseLemmas.{cell-there, cell-stays, is-there, kind-there}
use Rattle.hv_board.proofs.close.close_board.Goals as goal

-- the cell of the devices
pub lift-shelf-requires : goal.lift-shelf-requires
lift-shelf-requires g c =
    let state = g.E.Emulator.state in
    let board = c.args.board in
    let cell = c.index_mut.result.now in
    let at = ap (λ k. slice_index_or board.cells.items k cell) c.place_of.ensures.place in
    let here : cell ≡ cell_at board component.Shelf = c.index_mut.ensures.value ∙ (at ∙ cell-there state board c.requires component.Shelf tt cell) in
    is-there state board c.requires component.Shelf tt cell here

-- that of the files, once the devices have left theirs
pub lift-files-requires : goal.lift-files-requires
lift-files-requires g c =
    let state = g.E.Emulator.state in
    let board = c.args.board in
    let cell = c.index_mut-2.result.now in
    let out = c.lift-shelf.new.cell in
    let cells = slice_set board.cells.items c.place_of.result out in
    let apart : 2 ≢ c.place_of.result = λ same. absurd (omega (arith, same, c.place_of.ensures.place)) in
    let at = ap (λ k. slice_index_or cells k cell) c.place_of-2.ensures.place in
    let here : cell ≡ cell_at board component.Files = c.index_mut-2.ensures.value ∙ (at ∙ cell-stays state board c.requires component.Files tt c.place_of.result out cell apart) in
    is-there state board c.requires component.Files tt cell here

pub into_files-requires : goal.into_files-requires
into_files-requires g c =
    let state = g.E.Emulator.state in
    let board = c.args.board in
    let cell = c.index_mut-2.result.now in
    let out = c.lift-shelf.new.cell in
    let cells = slice_set board.cells.items c.place_of.result out in
    let apart : 2 ≢ c.place_of.result = λ same. absurd (omega (arith, same, c.place_of.ensures.place)) in
    let at = ap (λ k. slice_index_or cells k cell) c.place_of-2.ensures.place in
    let here : cell ≡ cell_at board component.Files = c.index_mut-2.ensures.value ∙ (at ∙ cell-stays state board c.requires component.Files tt c.place_of.result out cell apart) in
    kind-there state board c.requires component.Files tt cell c.lift-files.result here c.lift-files.ensures.part

pub into_shelf-requires : goal.into_shelf-requires
into_shelf-requires g c =
    let state = g.E.Emulator.state in
    let board = c.args.board in
    let cell = c.index_mut.result.now in
    let at = ap (λ k. slice_index_or board.cells.items k cell) c.place_of.ensures.place in
    let here : cell ≡ cell_at board component.Shelf = c.index_mut.ensures.value ∙ (at ∙ cell-there state board c.requires component.Shelf tt cell) in
    kind-there state board c.requires component.Shelf tt cell c.lift-shelf.result here c.lift-shelf.ensures.part
