use Rattle.std.proofs.Common.{◌≡◌, ◌≤◌, ◌∙◌, length, map, vec_capacity, sym, ap, arith}
use Rattle.std.proofs.lemmas.List.{length-map}
use Rattle.hv_handed.specs.Given.{given}
use Rattle.hv_parts.specs.Value.{valued}
use Rattle.hv_board.proofs.LiftLemmas.{out-places, put-event, put-whole, take-long}
use Rattle.hv_board.specs.Places.{count_of, place_of}
use Rattle.hv_board.proofs.board.Board.put.Goals as goal

pub put_parts-requires-clause-long : goal.put_parts-requires-clause-long
put_parts-requires-clause-long g c =
    let state = g.E.Emulator.state in
    let xs = c.args.xs.now in
    let made = c.args.made.now in
    let olds = map (valued state) c.args.lifted.were.value.items in
    let news = map (valued state) c.args.lifted.parts.items in
    sym (length-map c.args.lifted.parts.items (valued state))
    ∙ (take-long c.args.by xs c.args.step.now made.reply (given state made.handed.value) olds news c.requires.made.taken
    ∙ (sym (length-map xs (place_of c.args.self.now.layout)) ∙ sym (ap length c.requires.lifted.places)))

pub put_parts-requires-clause-places : goal.put_parts-requires-clause-places
put_parts-requires-clause-places g c = out-places g.E.Emulator.state c.args.xs.now c.args.lifted c.args.self.now c.requires.lifted

pub returns-clause-whole : goal.returns-clause-whole
returns-clause-whole g c =
    let same : count_of c.put_parts.new.self.layout ≡ count_of c.args.self.now.layout = ap count_of c.put_parts.ensures.layout in
    let enough : count_of c.put_parts.new.self.layout ≤ vec_capacity c.put_parts.new.self.room = omega (arith, same, c.put_parts.ensures.room, c.requires.lifted.room) in
    let places : count_of c.put_parts.new.self.layout ≤ vec_capacity c.put_parts.new.self.places = omega (arith, same, ap vec_capacity c.put_parts.ensures.places, c.requires.lifted.room_places) in
    put-whole g.E.Emulator.state c.args.by c.args.xs.now c.args.step.now c.args.made.now c.args.lifted c.args.self.now c.put_parts.new.self c.requires.lifted c.requires.made c.put_parts.ensures.put c.put_parts.ensures.layout
    (record { parts = c.put_parts.ensures.empty; enough = enough; places = places })

pub returns-clause-event : goal.returns-clause-event
returns-clause-event g c =
    put-event g.E.Emulator.state c.args.by c.args.xs.now c.args.step.now c.args.made.now c.args.lifted c.args.self.now c.put_parts.new.self c.requires.lifted c.requires.made c.put_parts.ensures.put c.put_parts.ensures.layout
