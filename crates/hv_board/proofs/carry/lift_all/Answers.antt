use Rattle.std.proofs.Common.{◌≡◌, ◌<◌, ◌+◌, ◌∷◌, ◌++◌, [], ℕ, List, length, take, map, max, slice_index_or, slice_set, Some, sym, ap, subst, ◌∙◌, refl, arith}
use Rattle.std.specs.Prelude.{IsSome}
use Rattle.std.proofs.lemmas.List.{take_more, take_all, length-take-le, length_push, map-append}
use Rattle.hv_machine.specs.Machine.{greatest}
use Rattle.hv_parts.specs.declared.part.Part.{Part}
use Rattle.hv_board.specs.declared.cell.Cell.{Cell}
use Rattle.hv_board.proofs.HeldLemmas.{rising-below}
use Rattle.hv_board.specs.Carrying.{AreOut, AreFrom, empty, out_of, stamp_in}
use Rattle.hv_board.proofs.DoneLemmas.{done-before, done-push, each-push, greatest-push, max-in}
use Rattle.hv_board.proofs.carry.lift_all.Goals as goal

pub lift-requires : goal.lift-requires
lift-requires g c =
    let l = c.loop-j in
    let places = c.args.places.now in
    let old = c.args.cells.now in
    let p = slice_index_or places l.j 0 in
    let b : p < length old = c.requires.places.1 l.j 0 c.loop-j-test.true in
    let r = c.index-cells-places.result in
    let below = rising-below places l.j c.requires.places.0 c.loop-j-test.true in
    subst (λ (x : Cell g.row.E.Denot). IsSome x.part) (sym (done-before out_of (take l.j places) l.parts.items old l.cells p r (λ a. refl) l.invariant.out below b empty)) (c.requires.full l.j 0 c.loop-j-test.true)

pub loop-j-preserved : goal.loop-j-preserved
loop-j-preserved g c =
    let l = c.loop-j in
    let low = c.loop-j-test.true in
    let places = c.args.places.now in
    let old = c.args.cells.now in
    let p = slice_index_or places l.j 0 in
    let b : p < length old = c.requires.places.1 l.j 0 low in
    let r = c.index-cells-places.result in
    let v = c.lift.result in
    let below = rising-below places l.j c.requires.places.0 low in
    let long : length l.parts.items ≡ length (take l.j places) = l.invariant.long ∙ sym (length-take-le l.j places (omega (arith, low))) in
    let more : take (l.j + 1) places ≡ take l.j places ++ p ∷ [] = take_more places l.j 0 low in
    let items = c.push_reserved.ensures.items in
    let was : (d : Cell g.row.E.Denot) → slice_index_or l.cells p r ≡ slice_index_or old p d = λ d. done-before out_of (take l.j places) l.parts.items old l.cells p r (λ a. refl) l.invariant.out below b d in
    let part : (d : Cell g.row.E.Denot) → (slice_index_or old p d).part ≡ Some v = λ d. ap (λ (x : Cell g.row.E.Denot). x.part) (sym (was d)) ∙ c.lift.ensures.part in
    let both : (take l.j places ++ p ∷ [], l.parts.items ++ v ∷ []) ≡ (take (l.j + 1) places, c.push_reserved.new.self.items) = λ i. (sym more i, sym items i) in
    let Out : List ℕ × List (Part g.row.E.Denot) → Type 0 = λ x. AreOut x.0 x.1 old (slice_set l.cells p c.lift.new.cell) in
    let From : List ℕ × List (Part g.row.E.Denot) → Type 0 = λ x. AreFrom x.0 x.1 old in
    let P : (d : Cell g.row.E.Denot) → ℕ → Part g.row.E.Denot → Type 0 = λ d k x. (slice_index_or old k d).part ≡ Some x in
    let stamps : map (stamp_in old) (take (l.j + 1) places) ≡ map (stamp_in old) (take l.j places) ++ stamp_in old p ∷ [] = ap (map (stamp_in old)) more ∙ map-append (stamp_in old) (take l.j places) (p ∷ []) in
    record {
      long = ap length items ∙ (length_push l.parts.items v ∙ ap (λ n. n + 1) l.invariant.long);
      room = omega (arith, c.push_reserved.ensures.capacity, l.invariant.room);
      capacity = c.push_reserved.ensures.capacity ∙ l.invariant.capacity;
      out = subst Out both (done-push out_of (take l.j places) l.parts.items old l.cells p v c.lift.new.cell l.invariant.out long below b (λ d. c.lift.ensures.cell ∙ ap (λ x. out_of x (Some v)) (was d)));
      from = subst From both (λ k d x at. each-push (P d) (take l.j places) l.parts.items p v (λ k x at. l.invariant.from k d x at) long below (part d) k x at);
      top =
          let item = ap (λ (x : Cell g.row.E.Denot). x.stamp) (was empty) in
          let one = ap greatest stamps ∙ greatest-push (map (stamp_in old) (take l.j places)) (stamp_in old p) in
          c.max-top.ensures ∙ (ap (λ n. max l.top n) item ∙ (ap (λ n. max n (stamp_in old p)) l.invariant.top ∙ (max-in c.args.stamp (greatest (map (stamp_in old) (take l.j places))) (stamp_in old p) ∙ ap (max c.args.stamp) (sym one))));
    }

pub returns-clause-from : goal.returns-clause-from
returns-clause-from g c =
    let l = c.loop-j in
    subst (λ ks. AreFrom ks l.parts.items c.args.cells.now) (take_all l.j c.args.places.now c.loop-j-test.false) l.invariant.from
