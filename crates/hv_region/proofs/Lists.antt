-- Lists in which something holds of each two items.
use Rattle.std.proofs.Common.{◌≡◌, ◌≢◌, ℕ, zero, suc, ◌<◌, ◌≤◌, List, [], ◌∷◌, ◌++◌, length, get_or, map, eqb, Bool, true, false, ◌||◌, refl, sym, ap, subst, arith}
use Rattle.std.specs.Prelude.{IsTrue, if◌then◌else◌}
use Rattle.std.specs.List.{All, AllPairs, list_any}
use Rattle.std.proofs.lemmas.Bool.{false≢true}
use Rattle.std.proofs.lemmas.Bool.Decides.{Decides-eqb}
use Rattle.std.proofs.lemmas.List.Elements.{All-nil, All-cons, All-head, All-tail, All-append, All-map}
use Rattle.std.proofs.lemmas.List.Kept.{AllPairs-cons}
use Rattle.std.proofs.lemmas.Map.Made.{IsDistinct-from_AllPairs}
use Rattle.std.proofs.lemmas.Map.Steps.{length-le_from_distinct_below}

-- the first item and the others
pub pairs_head : {X : Type 0} (R : X → X → Type 0) (x : X) (xs : List X) → AllPairs R (x ∷ xs) → All (R x) xs
pairs_head R x xs pairs = λ k d lt. pairs 0 (suc k) d (omega arith) (omega arith)

pub pairs_tail : {X : Type 0} (R : X → X → Type 0) (x : X) (xs : List X) → AllPairs R (x ∷ xs) → AllPairs R xs
pairs_tail R x xs pairs = λ i j d lt in'. pairs (suc i) (suc j) d (omega arith) (omega arith)

all_front : {X : Type 0} (P : X → Type 0) (xs ys : List X) → All P (xs ++ ys) → All P xs
all_front P [] ys all = All-nil P
all_front P (x ∷ xs) ys all = All-cons P x xs (All-head P x (xs ++ ys) all) (all_front P xs ys (All-tail P x (xs ++ ys) all))

all_back : {X : Type 0} (P : X → Type 0) (xs ys : List X) → All P (xs ++ ys) → All P ys
all_back P [] ys all = all
all_back P (x ∷ xs) ys all = all_back P xs ys (All-tail P x (xs ++ ys) all)

-- one more item of which the same holds
pub all_put : {X : Type 0} (P : X → Type 0) (xs ys : List X) (y : X) → All P (xs ++ ys) → P y → All P (xs ++ y ∷ ys)
all_put P xs ys y all here = All-append P xs (y ∷ ys) (all_front P xs ys all) (All-cons P y ys here (all_back P xs ys all))

-- one more item to which those before it, and which to those behind it, stand so
pub pairs_put : {X : Type 0} (R : X → X → Type 0) (xs ys : List X) (y : X) → AllPairs R (xs ++ ys) → All (λ x. R x y) xs → All (R y) ys → AllPairs R (xs ++ y ∷ ys)
pairs_put R [] ys y pairs before behind = AllPairs-cons R y ys behind pairs
pairs_put R (x ∷ xs) ys y pairs before behind =
    AllPairs-cons R x (xs ++ y ∷ ys)
    (all_put (R x) xs ys y (pairs_head R x (xs ++ ys) pairs) (All-head (λ z. R z y) x xs before))
    (pairs_put R xs ys y (pairs_tail R x (xs ++ ys) pairs) (All-tail (λ z. R z y) x xs before) behind)

pairs_map : {X : Type 0} (f : X → ℕ) (xs : List X) → AllPairs (λ x y. f x ≢ f y) xs → AllPairs (λ x y. x ≢ y) (map f xs)
pairs_map f [] pairs = λ i j d lt in'. absurd (omega arith)
pairs_map f (x ∷ xs) pairs =
    AllPairs-cons (λ a b. a ≢ b) (f x) (map f xs) (All-map (λ n. f x ≢ n) f xs (pairs_head (λ a b. f a ≢ f b) x xs pairs)) (pairs_map f xs (pairs_tail (λ a b. f a ≢ f b) x xs pairs))

any_below : (n : ℕ) (xs : List ℕ) (q : ℕ) → All (λ x. x < n) xs → list_any (eqb q) xs ≡ true → q < n
any_below n [] q all is = absurd (cc)
any_below n (x ∷ xs) q all is =
    elim (eqb q x) as (λ v. eqb q x ≡ v → (v || list_any (eqb q) xs) ≡ true → q < n) [
      | true ↦ λ same _. subst (λ (m : ℕ). m < n) (sym ((Decides-eqb q x).0 same)) (All-head (λ m. m < n) x xs all)
      | false ↦ λ _ rest. any_below n xs q (All-tail (λ m. m < n) x xs all) rest
    ] refl is

length_map : {X : Type 0} (f : X → ℕ) (xs : List X) → length (map f xs) ≡ length xs
length_map f [] = refl
length_map f (x ∷ xs) = ap suc (length_map f xs)

-- items with different numbers below n are at most n
pub few : {X : Type 0} (f : X → ℕ) (n : ℕ) (xs : List X) → AllPairs (λ x y. f x ≢ f y) xs → All (λ x. f x < n) xs → length xs ≤ n
few f n xs pairs below =
    let distinct = IsDistinct-from_AllPairs Decides-eqb (map f xs) (pairs_map f xs pairs) in
    let bound : length (map f xs) ≤ n = length-le_from_distinct_below (map f xs) n distinct (λ q is. any_below n (map f xs) q (All-map (λ m. m < n) f xs below) is) in
    subst (λ (m : ℕ). m ≤ n) (length_map f xs) bound

-- an item that is there is the same whatever stands in for one that isn't
pub same_item : {X : Type 0} (xs : List X) (i : ℕ) (d e : X) → i < length xs → get_or xs i d ≡ get_or xs i e
same_item [] i d e lt = absurd (omega arith)
same_item (x ∷ xs) zero d e lt = refl
same_item (x ∷ xs) (suc i) d e lt = same_item xs i d e (omega arith)

-- what a test that passes chooses
pub taken_if : {X : Type 0} (b : Bool) (xs ys zs : X) → IsTrue b → xs ≡ (if b then ys else zs) → xs ≡ ys
taken_if true xs ys zs passes is = is
taken_if false xs ys zs passes is = absurd (false≢true passes)
