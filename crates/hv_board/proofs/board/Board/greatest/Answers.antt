use Rattle.std.proofs.Common.{◌≡◌, ◌+◌, arith, ◌∷◌, ◌++◌, [], take, map, max, slice_index_or, sym, ap, subst, ◌∙◌}
use Rattle.std.proofs.lemmas.List.{take_more, take_all, map-append, get_or_default}
use Rattle.hv_event.specs.declared.event.CellId.{CellId}
use Rattle.hv_event.specs.declared.event.CellId.TheVariants.{Dir}
use Rattle.hv_machine.specs.Machine.{greatest}
use Rattle.hv_board.proofs.DoneLemmas.{greatest-push, max-in}
use Rattle.hv_board.proofs.HeldLemmas.{all-at}
use Rattle.hv_board.proofs.PlaceLemmas.{place-within}
use Rattle.hv_board.specs.Board.{cell_at, greatest_at}
use Rattle.hv_board.specs.Carrying.{empty}
use Rattle.hv_board.specs.Places.{HasPlace, place_of}
use Rattle.hv_board.specs.declared.cell.Cell.{Cell}
use Rattle.hv_board.proofs.board.Board.greatest.Goals as goal

pub place_of-requires : goal.place_of-requires
place_of-requires g c = all-at (HasPlace c.args.self.now.layout) c.args.xs.now c.loop-x.x-index Dir c.requires.have c.loop-x-test.true

pub loop-x-preserved : goal.loop-x-preserved
loop-x-preserved g c =
    let l = c.loop-x in
    let board = c.args.self.now in
    let xs = c.args.xs.now in
    let x = slice_index_or xs l.x-index Dir in
    let first = take l.x-index xs in
    let stamp_of = λ (y : CellId). (cell_at board y).stamp in
    let more : take (l.x-index + 1) xs ≡ first ++ x ∷ [] = take_more xs l.x-index Dir c.loop-x-test.true in
    let stamps : map stamp_of (take (l.x-index + 1) xs) ≡ map stamp_of first ++ stamp_of x ∷ [] = ap (map stamp_of) more ∙ map-append stamp_of first (x ∷ []) in
    let has : HasPlace board.layout x = all-at (HasPlace board.layout) xs l.x-index Dir c.requires.have c.loop-x-test.true in
    let within = place-within board.layout x has in
    let cells = board.cells.items in
    let r = c.index.result.now in
    let here : slice_index_or cells c.place_of.result r ≡ cell_at board x = ap (λ k. slice_index_or cells k r) c.place_of.ensures.place ∙ get_or_default cells (place_of board.layout x) r empty (omega (arith, within, c.requires.whole.long)) in
    let item : c.index.result.now.stamp ≡ stamp_of x = ap (λ (cell : Cell g.row.E.Denot). cell.stamp) (c.index.ensures ∙ here) in
    let one : greatest (map stamp_of (take (l.x-index + 1) xs)) ≡ max (greatest (map stamp_of first)) (stamp_of x) = ap greatest stamps ∙ greatest-push (map stamp_of first) (stamp_of x) in
    c.max-top.ensures ∙ (ap (λ n. max l.top n) item ∙ (ap (λ n. max n (stamp_of x)) l.invariant ∙ (max-in c.args.stamp (greatest (map stamp_of first)) (stamp_of x) ∙ ap (max c.args.stamp) (sym one))))

pub returns : goal.returns
returns g c =
    let l = c.loop-x in
    subst (λ xs. l.top ≡ greatest_at c.args.self.now c.args.stamp xs) (take_all l.x-index c.args.xs.now c.loop-x-test.false) l.invariant
