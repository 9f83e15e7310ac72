use Rattle.std.proofs.Common.{◌≡◌, ◌<◌, ◌+◌, ◌∷◌, ◌++◌, [], length, drop, slice_index_or, slice_set, Some, vec_len, sym, ap, subst, ◌∙◌, refl, arith, append_assoc}
use Rattle.std.proofs.lemmas.List.{drop_all, append-nil, length_push, length-append}
use Rattle.hv_board.specs.Carrying.{ArePut, put_into}
use Rattle.hv_board.proofs.DoneLemmas.{done-last, done-last_before}
use Rattle.hv_board.proofs.carry.put_all.Goals as goal

pub loop-part-init : goal.loop-part-init
loop-part-init g c = ([], sym (append-nil c.args.parts.items), (refl, λ k d b. rw (drop_all (vec_len c.args.parts) c.args.places.now (omega (arith, c.requires.long, c.args.parts.ok.0))) refl), refl)

pub loop-part-preserved : goal.loop-part-preserved
loop-part-preserved g c =
    let l = c.loop-part in
    let places = c.args.places.now in
    let old = c.args.cells.now in
    let n = c.len.result in
    let v = c.in-Some.part in
    let gone = l.invariant.0 in
    let here : length c.pop.new.self.items ≡ n = omega (arith, c.len.ensures, c.pop.new.self.ok.0) in
    let items : l.parts.items ≡ c.pop.new.self.items ++ v ∷ [] = c.in-Some.ensures.items in
    let whole : c.args.parts.items ≡ c.pop.new.self.items ++ (v ∷ gone) = l.invariant.1 ∙ (ap (λ xs. xs ++ gone) items ∙ append_assoc c.pop.new.self.items (v ∷ []) gone) in
    let low : n < length places = omega (arith, ap length whole, length-append c.pop.new.self.items (v ∷ gone), here, c.requires.long) in
    let long : vec_len l.parts ≡ n + 1 = omega (arith, ap length items, length_push c.pop.new.self.items v, here, l.parts.ok.0) in
    let p = slice_index_or places n 0 in
    let b : p < length old = c.requires.places.1 n 0 low in
    let r = c.index-cells-place.result in
    let w : ArePut c.args.stamp (drop (n + 1) places) gone old l.cells = subst (λ m. ArePut c.args.stamp (drop m places) gone old l.cells) long l.invariant.2 in
    let was = λ (d : _). done-last_before (put_into c.args.stamp) places gone old l.cells n r d (λ a. refl) c.requires.places.0 low w b in
    let put : ArePut c.args.stamp (drop n places) (v ∷ gone) old (slice_set l.cells p c.put.new.cell) =
    done-last (put_into c.args.stamp) places gone old l.cells n v c.put.new.cell low w b (λ d. c.put.ensures ∙ ap (λ x. put_into c.args.stamp x (Some v)) (was d)) in
    (v ∷ gone, whole, subst (λ m. ArePut c.args.stamp (drop m places) (v ∷ gone) old (slice_set l.cells p c.put.new.cell)) c.len.ensures put, c.pop.ensures.capacity ∙ l.invariant.3)
