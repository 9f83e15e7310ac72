-- One place more.
use Rattle.std.proofs.Common.{◌≡◌, ℕ, ◌+◌, ◌<◌, ◌==◌, true, false, if◌then◌else◌, List, [], ◌∷◌, ◌++◌, length, drop, slice_index_or, slice_set, max, Option, Some, None, refl, sym, ap, subst, ◌∙◌, arith, eqb-true}
use Rattle.std.specs.List.{AllByRecursion}
use Rattle.std.proofs.lemmas.List.{length-set, get_or-set_same, get_or-set_other, get_or_default, drop_more}
use Rattle.hv_board.specs.Held.{held_at, IsRising}
use Rattle.hv_board.proofs.HeldLemmas.{rising-drop, held_at-none, held_at-none_above, held_at-push_same, held_at-push_other, eqb-false}
use Rattle.hv_board.specs.Done.{AreDone}
use Rattle.hv_machine.specs.Machine.{greatest}

pub done-before : {T A : Type 0} (f : A → Option T → A) (ks : List ℕ) (vs : List T) (xs ys : List A) (p : ℕ) (d : A) → ((a : A) → f a None ≡ a) → AreDone f ks vs xs ys → AllByRecursion (λ k. k < p) ks → p < length xs → (e : A) → slice_index_or ys p d ≡ slice_index_or xs p e
done-before f ks vs xs ys p d none w all b e = get_or_default ys p d e (omega (arith, w.0)) ∙ (w.1 p e b ∙ (ap (f (slice_index_or xs p e)) (held_at-none ks vs p all) ∙ none (slice_index_or xs p e)))

pub done-push : {T A : Type 0} (f : A → Option T → A) (ks : List ℕ) (vs : List T) (xs ys : List A) (p : ℕ) (v : T) (q : A)
    → AreDone f ks vs xs ys → length vs ≡ length ks → AllByRecursion (λ k. k < p) ks → p < length xs
    → ((d : A) → q ≡ f (slice_index_or xs p d) (Some v)) → AreDone f (ks ++ p ∷ []) (vs ++ v ∷ []) xs (slice_set ys p q)
done-push {T} {A} f ks vs xs ys p v q w l all b is = (
  length-set ys p q ∙ w.0,
  λ k e bk. elim (p == k) as (λ t. (p == k) ≡ t → slice_index_or (slice_set ys p q) k e ≡ f (slice_index_or xs k e) (held_at (ks ++ p ∷ []) (vs ++ v ∷ []) k)) [
    | true ↦ λ same.
        let at : p ≡ k = eqb-true p k same in
        let bq : p < length ys = omega (arith, w.0) in
        let here : slice_index_or (slice_set ys p q) p e ≡ q = get_or-set_same ys p q e bq in
        let Goal : ℕ → Type 0 = λ n. slice_index_or (slice_set ys p q) n e ≡ f (slice_index_or xs n e) (held_at (ks ++ p ∷ []) (vs ++ v ∷ []) n) in
        subst Goal at (here ∙ (is e ∙ ap (f (slice_index_or xs p e)) (sym (held_at-push_same ks vs p v l all))))
    | false ↦ λ other.
        get_or-set_other ys p k q e (eqb-false p k other) ∙ (w.1 k e bk ∙ ap (f (slice_index_or xs k e)) (sym (held_at-push_other ks vs p v k l other)))
  ] refl,
)

-- a fact of each held value, with one more
pub each-push : {T : Type 0} (P : ℕ → T → Type 0) (ks : List ℕ) (vs : List T) (p : ℕ) (v : T)
    → ((k : ℕ) (w : T) → held_at ks vs k ≡ Some w → P k w) → length vs ≡ length ks → AllByRecursion (λ k. k < p) ks → P p v
    → (k : ℕ) (w : T) → held_at (ks ++ p ∷ []) (vs ++ v ∷ []) k ≡ Some w → P k w
each-push P ks vs p v g l all new k w at =
    elim (p == k) as (λ t. (p == k) ≡ t → P k w) [
      | true ↦ λ same.
          let here : p ≡ k = eqb-true p k same in
          let found : Some v ≡ Some w = sym (held_at-push_same ks vs p v l all) ∙ (ap (held_at (ks ++ p ∷ []) (vs ++ v ∷ [])) here ∙ at) in
          let is : v ≡ w = cc in
          subst (λ x. P k x) is (subst (λ n. P n v) here new)
      | false ↦ λ other. g k w (sym (held_at-push_other ks vs p v k l other) ∙ at)
    ] refl

-- one more number among those of which the greatest is sought
pub max-in : (a b c : ℕ) → max (max a b) c ≡ max a (max b c)
max-in a b c = omega arith

pub greatest-push : (xs : List ℕ) (x : ℕ) → greatest (xs ++ x ∷ []) ≡ max (greatest xs) x
greatest-push [] x = omega arith
greatest-push (y ∷ ys) x = ap (max y) (greatest-push ys x) ∙ sym (max-in y (greatest ys) x)

done-more : {T A : Type 0} (f : A → Option T → A) (ks : List ℕ) (vs : List T) (xs ys : List A) (p : ℕ) (v : T) (q : A)
    → AreDone f ks vs xs ys → p < length xs → ((d : A) → q ≡ f (slice_index_or xs p d) (Some v)) → AreDone f (p ∷ ks) (v ∷ vs) xs (slice_set ys p q)
done-more {T} {A} f ks vs xs ys p v q w b is = (
  length-set ys p q ∙ w.0,
  λ k e bk. elim (p == k) as (λ t. (p == k) ≡ t → slice_index_or (slice_set ys p q) k e ≡ f (slice_index_or xs k e) (if t then Some v else held_at ks vs k)) [
    | true ↦ λ same.
        let Goal : ℕ → Type 0 = λ n. slice_index_or (slice_set ys p q) n e ≡ f (slice_index_or xs n e) (Some v) in
        subst Goal (eqb-true p k same) (get_or-set_same ys p q e (omega (arith, w.0)) ∙ is e)
    | false ↦ λ other. get_or-set_other ys p k q e (eqb-false p k other) ∙ w.1 k e bk
  ] refl,
)

-- the last place that is left is as it was
pub done-last_before : {T A : Type 0} (f : A → Option T → A) (ks : List ℕ) (gone : List T) (xs ys : List A) (n : ℕ) (d e : A) → ((a : A) → f a None ≡ a) → IsRising ks → n < length ks
    → AreDone f (drop (n + 1) ks) gone xs ys → slice_index_or ks n 0 < length xs → slice_index_or ys (slice_index_or ks n 0) d ≡ slice_index_or xs (slice_index_or ks n 0) e
done-last_before f ks gone xs ys n d e none r l w b =
    let p = slice_index_or ks n 0 in
    let split : drop n ks ≡ p ∷ drop (n + 1) ks = drop_more ks n 0 l in
    let rest : IsRising (p ∷ drop (n + 1) ks) = subst IsRising split (rising-drop ks n r) in
    get_or_default ys p d e (omega (arith, w.0)) ∙ (w.1 p e b ∙ (ap (f (slice_index_or xs p e)) (held_at-none_above (drop (n + 1) ks) gone p rest.0) ∙ none (slice_index_or xs p e)))

pub done-last : {T A : Type 0} (f : A → Option T → A) (ks : List ℕ) (gone : List T) (xs ys : List A) (n : ℕ) (v : T) (q : A) → n < length ks
    → AreDone f (drop (n + 1) ks) gone xs ys → slice_index_or ks n 0 < length xs → ((d : A) → q ≡ f (slice_index_or xs (slice_index_or ks n 0) d) (Some v))
    → AreDone f (drop n ks) (v ∷ gone) xs (slice_set ys (slice_index_or ks n 0) q)
done-last f ks gone xs ys n v q l w b is =
    let p = slice_index_or ks n 0 in
    subst (λ ls. AreDone f ls (v ∷ gone) xs (slice_set ys p q)) (sym (drop_more ks n 0 l)) (done-more f (drop (n + 1) ks) gone xs ys p v q w b is)
