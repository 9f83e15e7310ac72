use Rattle.std.proofs.Common.{◌≡◌, ◌≤◌, ◌∙◌, length, map, vec_capacity, sym, ap, arith}
use Rattle.std.proofs.lemmas.List.{length-map}
use Rattle.hv_parts.specs.Value.{valued}
use Rattle.hv_board.proofs.LiftLemmas.{out-places, back-as-before, back-whole}
use Rattle.hv_board.specs.Places.{count_of, place_of}
use Rattle.hv_board.proofs.board.Board.put_back.Goals as goal

pub put_parts-requires-clause-long : goal.put_parts-requires-clause-long
put_parts-requires-clause-long g c =
    let state = g.E.Emulator.state in
    let lifted = c.args.lifted in
    sym (length-map lifted.parts.items (valued state))
    ∙ (ap length c.requires.same ∙ (length-map lifted.were.value.items (valued state)
    ∙ (c.requires.lifted.many ∙ (sym (length-map c.args.xs.now (place_of c.args.self.now.layout)) ∙ sym (ap length c.requires.lifted.places)))))

pub put_parts-requires-clause-places : goal.put_parts-requires-clause-places
put_parts-requires-clause-places g c = out-places g.E.Emulator.state c.args.xs.now c.args.lifted c.args.self.now c.requires.lifted

pub returns-clause-whole : goal.returns-clause-whole
returns-clause-whole g c =
    let new = c.put_parts.new.self in
    let same : count_of new.layout ≡ count_of c.args.self.now.layout = ap count_of c.put_parts.ensures.layout in
    let enough : count_of new.layout ≤ vec_capacity new.room = omega (arith, same, c.put_parts.ensures.room, c.requires.lifted.room) in
    let places : count_of new.layout ≤ vec_capacity new.places = omega (arith, same, ap vec_capacity c.put_parts.ensures.places, c.requires.lifted.room_places) in
    back-whole g.E.Emulator.state c.args.xs.now c.args.lifted c.args.self.now c.requires.lifted new (c.put_parts.ensures.layout ∙ c.requires.lifted.layout) c.requires.same c.put_parts.ensures.put
    (record { parts = c.put_parts.ensures.empty; enough = enough; places = places })

pub returns-clause-holds : goal.returns-clause-holds
returns-clause-holds g c =
    back-as-before g.E.Emulator.state c.args.xs.now c.args.lifted c.args.self.now c.requires.lifted c.put_parts.new.self (c.put_parts.ensures.layout ∙ c.requires.lifted.layout) c.requires.same c.put_parts.ensures.put
