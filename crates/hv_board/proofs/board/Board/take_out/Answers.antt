use Rattle.std.proofs.Common.{◌≡◌, ◌<◌, ◌≤◌, ◌++◌, ℕ, List, length, map, take, drop, vec_capacity, refl, sym, ap, subst, ◌∙◌, arith}
use Rattle.std.specs.Prelude.{All}
use Rattle.std.proofs.lemmas.List.{length-map, take_at}
use Rattle.hv_parts.specs.declared.part.Part.{Part}
use Rattle.hv_board.proofs.LiftLemmas.{parts-kinds, places-full}
use Rattle.hv_board.proofs.PlaceLemmas.{few-in-order, places-within}
use Rattle.hv_board.specs.Board.{IsWhole}
use Rattle.hv_board.specs.Carrying.{AreFrom, AreOut, IsFullAt}
use Rattle.hv_board.specs.Held.{IsRising}
use Rattle.hv_board.specs.Places.{count_of, place_of}
use Rattle.hv_board.specs.declared.board.Board.{Board}
use Rattle.hv_board.specs.declared.cell.Cell.{Cell}
use Rattle.hv_board.proofs.board.Board.take_out.Goals as goal

pub list_places-requires-clause-room : goal.list_places-requires-clause-room
list_places-requires-clause-room g c = omega (arith, few-in-order c.args.self.now.layout c.args.xs.now c.requires.order, c.requires.whole.room.places)

pub lift_all-parts-requires-clause-room : goal.lift_all-parts-requires-clause-room
lift_all-parts-requires-clause-room g c =
    let board = c.args.self.now in
    let xs = c.args.xs.now in
    let few = few-in-order board.layout xs c.requires.order in
    let long : length c.as_slice.result.now ≡ length xs = ap length (c.as_slice.ensures.value ∙ c.list_places.ensures.items) ∙ length-map xs (place_of board.layout) in
    let enough : length c.as_slice.result.now ≤ vec_capacity board.room = omega (arith, few, long, c.requires.whole.room.enough) in
    rw c.replace-room.ensures.value (c.requires.whole.room.parts, enough)

pub lift_all-parts-requires-clause-places : goal.lift_all-parts-requires-clause-places
lift_all-parts-requires-clause-places g c =
    let board = c.args.self.now in
    let xs = c.args.xs.now in
    let is : c.as_slice.result.now ≡ map (place_of board.layout) xs = c.as_slice.ensures.value ∙ c.list_places.ensures.items in
    let long : length c.as_mut_slice.result.now ≡ count_of board.layout = ap length c.as_mut_slice.ensures.value ∙ c.requires.whole.long in
    let all : All (λ k. k < count_of board.layout) c.as_slice.result.now = subst (λ ks. All (λ k. k < count_of board.layout) ks) (sym is) (places-within board.layout xs c.requires.order) in
    (subst IsRising (sym is) c.requires.order.rising, λ k d low. omega (arith, all k d low, long))

pub lift_all-parts-requires-clause-full : goal.lift_all-parts-requires-clause-full
lift_all-parts-requires-clause-full g c =
    let board = c.args.self.now in
    let xs = c.args.xs.now in
    let is : c.as_slice.result.now ≡ map (place_of board.layout) xs = c.as_slice.ensures.value ∙ c.list_places.ensures.items in
    let cells : c.as_mut_slice.result.now ≡ board.cells.items = c.as_mut_slice.ensures.value in
    let both : (map (place_of board.layout) xs, board.cells.items) ≡ (c.as_slice.result.now, c.as_mut_slice.result.now) = λ i. (sym is i, sym cells i) in
    let Full : List ℕ × List (Cell g.row.E.Denot) → Type 0 = λ p. All (IsFullAt p.1) p.0 in
    subst Full both (places-full g.E.Emulator.state board xs c.requires.whole c.requires.order)

pub returns-clause-kinds : goal.returns-clause-kinds
returns-clause-kinds g c =
    let board = c.args.self.now in
    let xs = c.args.xs.now in
    let ps = c.lift_all-parts.result.0.items in
    let is : c.as_slice.result.now ≡ map (place_of board.layout) xs = c.as_slice.ensures.value ∙ c.list_places.ensures.items in
    let cells : c.as_mut_slice.result.now ≡ board.cells.items = c.as_mut_slice.ensures.value in
    let both : (c.as_slice.result.now, c.as_mut_slice.result.now) ≡ (map (place_of board.layout) xs, board.cells.items) = λ i. (is i, cells i) in
    let From : List ℕ × List (Cell g.row.E.Denot) → Type 0 = λ p. AreFrom p.0 ps p.1 in
    let long : length ps ≡ length xs = c.lift_all-parts.ensures.long ∙ (ap length is ∙ length-map xs (place_of board.layout)) in
    parts-kinds g.E.Emulator.state board xs c.requires.whole c.requires.order ps long (subst From both c.lift_all-parts.ensures.from)

pub returns-clause-lifted : goal.returns-clause-lifted
returns-clause-lifted g c =
    let board = c.args.self.now in
    let xs = c.args.xs.now in
    let ps = c.lift_all-parts.result.0.items in
    let before : c.of-before.result.value ≡ board = c.of-before.ensures in
    let were : c.of.result.value.items ≡ ps = rw c.of.ensures refl in
    let slice : c.as_slice.result.now ≡ c.list_places.new.places.items = c.as_slice.ensures.value in
    let cells : c.as_mut_slice.result.now ≡ c.of-before.result.value.cells.items = c.as_mut_slice.ensures.value ∙ ap (λ (b : Board g.row.E.Denot). b.cells.items) (sym before) in
    let places = c.list_places.new.places.items in
    let news = c.lift_all-parts.new.cells in
    let back : take board.cells.len (news ++ drop (length news) board.cells.items) ≡ news = take_at news (drop (length news) board.cells.items) board.cells.len (omega (arith, c.lift_all-parts.ensures.out.0, ap length c.as_mut_slice.ensures.value, board.cells.ok.0)) in
    let out_places = subst (λ (ks : List ℕ). AreOut ks ps c.as_mut_slice.result.now news) slice c.lift_all-parts.ensures.out in
    let out_parts = subst (λ (ws : List (Part g.row.E.Denot)). AreOut places ws c.as_mut_slice.result.now news) (sym were) out_places in
    let out_cells = subst (λ (olds : List (Cell g.row.E.Denot)). AreOut places c.of.result.value.items olds news) cells out_parts in
    let from_places = subst (λ (ks : List ℕ). AreFrom ks ps c.as_mut_slice.result.now) slice c.lift_all-parts.ensures.from in
    let from_parts = subst (λ (ws : List (Part g.row.E.Denot)). AreFrom places ws c.as_mut_slice.result.now) (sym were) from_places in
    let from_cells = subst (λ (olds : List (Cell g.row.E.Denot)). AreFrom places c.of.result.value.items olds) cells from_parts in
    let room : vec_capacity c.replace-room.result ≡ vec_capacity board.room = ap vec_capacity c.replace-room.ensures.value in
    record {
      whole = subst (IsWhole g.E.Emulator.state) (sym before) c.requires.whole;
      layout = ap (λ (b : Board g.row.E.Denot). b.layout) (sym before);
      order = c.requires.order;
      places = c.list_places.ensures.items;
      many = ap length were ∙ (c.lift_all-parts.ensures.long ∙ (ap length (slice ∙ c.list_places.ensures.items) ∙ length-map xs (place_of board.layout)));
      out = subst (λ (after : List (Cell g.row.E.Denot)). AreOut places c.of.result.value.items c.of-before.result.value.cells.items after) (sym back) out_cells;
      from = from_cells;
      stamp = c.requires.bounded;
      room = omega (arith, c.lift_all-parts.ensures.capacity, room, c.requires.whole.room.enough);
      room_places = omega (arith, c.list_places.ensures.capacity, c.requires.whole.room.places);
    }
