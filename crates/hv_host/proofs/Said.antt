-- What a host tree says is one thing.
use Rattle.std.proofs.Common.{◌≡◌, ℕ, List, [], refl, sym, ap, ◌∙◌}
use Rattle.std.specs.Prelude.{Option, Some, None, Ok, Err}
use Rattle.hv_dtree.specs.declared.node.Node.{Node}
use Rattle.hv_dts.specs.declared.refusal.DtsRefusal.{DtsRefusal}
use Rattle.hv_dts.specs.declared.refusal.DtsRefusal.TheVariants as refusal
use Rattle.hv_dts.specs.Reading.{IsSourceOf, IsRefusedAs, IsRefusedAt, no_token, unexpected, twice_named, bad_phandle, no_label, IsAnswer}
use Rattle.hv_dts.proofs.Exclusive.{same_refusal, source_answer}
use Rattle.hv_dts.proofs.Unique.{tree_same}
use Rattle.hv_plan.specs.Properties.{first_of}
use Rattle.hv_plan.specs.Settings.{limits_passed, host_faults}
use Rattle.hv_host.specs.declared.board.Board.{Board}
use Rattle.hv_host.specs.declared.refusal.BoardRefusal.{BoardRefusal}
use Rattle.hv_host.specs.declared.refusal.BoardRefusal.TheVariants.{BadTree, Limit, BadHost, Memory}
use Rattle.hv_host.specs.Boards.{Says, IsWantOfMemory, AreOneRefusal}

-- the offset of a refusal
place : DtsRefusal → Option ℕ
place (refusal.BadToken offset) = Some offset
place (refusal.Unexpected offset) = Some offset
place (refusal.TwiceNamed offset) = Some offset
place (refusal.BadPhandle offset) = Some offset
place (refusal.NoLabel offset) = Some offset
place (refusal.Memory e) = None

-- a text is refused so, at this offset
record IsPlaced (text : List ℕ) (offset : ℕ) : Type 0 where
  why : DtsRefusal
  refused : IsRefusedAs text why
  placed : place why ≡ Some offset

placed_at : (text : List ℕ) (offset : ℕ) → IsRefusedAt text offset → IsPlaced text offset
unfolding place
placed_at text offset (no_token it) = record { why = refusal.BadToken offset; refused = it; placed = refl }
placed_at text offset (unexpected it) = record { why = refusal.Unexpected offset; refused = it; placed = refl }
placed_at text offset (twice_named it) = record { why = refusal.TwiceNamed offset; refused = it; placed = refl }
placed_at text offset (bad_phandle it) = record { why = refusal.BadPhandle offset; refused = it; placed = refl }
placed_at text offset (no_label it) = record { why = refusal.NoLabel offset; refused = it; placed = refl }

-- a source is not refused
not_placed : (tree : Node) (why : DtsRefusal) (offset : ℕ) → IsAnswer (Ok tree) why → place why ≡ Some offset → ⊥
unfolding place
not_placed tree (refusal.Memory e) offset answer placed = cc placed
not_placed tree why offset answer placed = answer

no_source : (text : List ℕ) (offset : ℕ) (tree : Node) → IsRefusedAt text offset → IsSourceOf text tree → ⊥
no_source text offset tree it is =
    let there = placed_at text offset it in
    not_placed tree there.why offset (source_answer text tree there.why is there.refused) there.placed

same_place : (one other : DtsRefusal) (here there : ℕ) → IsAnswer (Err one) other → place one ≡ Some here → place other ≡ Some there → here ≡ there
unfolding place
same_place (refusal.Memory a) other here there same e f = absurd (cc e)
same_place one (refusal.Memory a) here there same e f = absurd (cc f)
same_place one other here there same e f =
    let both : Some here ≡ Some there = sym e ∙ ap place same ∙ f in
    cc both

-- a text is refused at one offset
one_place : (text : List ℕ) (here there : ℕ) → IsRefusedAt text here → IsRefusedAt text there → here ≡ there
one_place text here there one other =
    let a = placed_at text here one in
    let b = placed_at text there other in
    same_place a.why b.why here there (same_refusal text a.why b.why a.refused b.refused) a.placed b.placed

-- of a tree the same is said, whichever root stands for it
roots_agree : {X : Type 0} (of : Node → X) (text : List ℕ) (root other : Node) → IsSourceOf text root → IsSourceOf text other → of root ≡ of other
roots_agree of text root other is it = ap of (tree_same text root other is it)

not_first : {X : Type 0} (xs ys : List X) (x : X) → xs ≡ ys → xs ≡ [] → first_of ys ≡ Some x → ⊥
not_first xs ys x same none first =
    let there : None ≡ Some x = sym (ap first_of none) ∙ ap first_of same ∙ first in
    cc there

one_first : {X : Type 0} (xs ys : List X) (x y : X) → xs ≡ ys → first_of xs ≡ Some x → first_of ys ≡ Some y → x ≡ y
one_first xs ys x y same here there =
    let both : Some x ≡ Some y = sym here ∙ ap first_of same ∙ there in
    cc both

-- a host tree that says a board is refused for nothing
pub no_refusal : (text : Option (List ℕ)) (board : Board) (why : BoardRefusal) → Says text (Ok board) → Says text (Err why) → IsWantOfMemory why
no_refusal None board (BadTree offset) h k = k
no_refusal None board (Limit name number) h k = k
no_refusal None board (BadHost path) h k = k
no_refusal None board (Memory e) h k = tt
no_refusal (Some text) board (BadTree offset) h k = no_source text offset h.0 k h.1
no_refusal (Some text) board (Limit name number) h k = not_first _ _ (name, number) (roots_agree limits_passed text h.0 k.0 h.1 k.1) h.2.limits k.2
no_refusal (Some text) board (BadHost path) h k = not_first _ _ path (roots_agree host_faults text h.0 k.0 h.1 k.1) h.2.settings k.3
no_refusal (Some text) board (Memory e) h k = tt

pairs_agree : {A B : Type 0} {C : Type 0} (f : A → B → C) (a b : A) (x y : B) → ◌≡◌ {A = A × B} (a, x) (b, y) → f a x ≡ f b y
pairs_agree {A = A} {B = B} f a b x y e = ap (λ (p : A × B). f p.0 p.1) e

-- and one that is refused is refused for one thing
pub one_refusal : (text : Option (List ℕ)) (one other : BoardRefusal) → Says text (Err one) → Says text (Err other) → AreOneRefusal one other
one_refusal text (Memory e) other h k = tt
one_refusal text one (Memory e) h k = tt
one_refusal None one other h k = absurd h
one_refusal (Some text) (BadTree here) (BadTree there) h k = ap BadTree (one_place text here there h k)
one_refusal (Some text) (BadTree here) (Limit name number) h k = absurd (no_source text here k.0 h k.1)
one_refusal (Some text) (BadTree here) (BadHost path) h k = absurd (no_source text here k.0 h k.1)
one_refusal (Some text) (Limit name number) (BadTree there) h k = absurd (no_source text there h.0 k h.1)
one_refusal (Some text) (Limit name number) (Limit found most) h k =
    pairs_agree Limit name found number most (one_first _ _ (name, number) (found, most) (roots_agree limits_passed text h.0 k.0 h.1 k.1) h.2 k.2)
one_refusal (Some text) (Limit name number) (BadHost path) h k = absurd (not_first _ _ (name, number) (roots_agree limits_passed text k.0 h.0 k.1 h.1) k.2 h.2)
one_refusal (Some text) (BadHost path) (BadTree there) h k = absurd (no_source text there h.0 k h.1)
one_refusal (Some text) (BadHost path) (Limit name number) h k = absurd (not_first _ _ (name, number) (roots_agree limits_passed text h.0 k.0 h.1 k.1) h.2 k.2)
one_refusal (Some text) (BadHost path) (BadHost found) h k = ap BadHost (one_first _ _ path found (roots_agree host_faults text h.0 k.0 h.1 k.1) h.3 k.3)
