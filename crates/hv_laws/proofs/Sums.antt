-- Numbers for each of the first ones, added up.
use Rattle.std.proofs.Common.{◌≡◌, ℕ, zero, suc, ◌+◌, ◌<◌, ◌≤◌, Bool, true, false, ◌==◌, if◌then◌else◌, List, [], ◌∷◌, length, get_or, refl, ap, ◌∙◌, arith, eqb-true, eq-eqb, leb-true}
use Rattle.std.specs.List.{list_all}
use Rattle.hv_rules.specs.Balance.{first_place, longest, shortest, is_uneven}
use Rattle.hv_laws.specs.Laws.{sum_below}

pub sum-same : (n : ℕ) (f g : ℕ → ℕ) → ((k : ℕ) → k < n → f k ≡ g k) → sum_below n f ≡ sum_below n g
sum-same zero f g h = refl
sum-same (suc n) f g h =
    let rest = sum-same n f g (λ k l. h k (omega arith)) in
    let here = h n (omega arith) in omega arith

pub sum-none : (n : ℕ) (f : ℕ → ℕ) → ((k : ℕ) → k < n → f k ≡ 0) → sum_below n f ≡ 0
sum-none zero f h = refl
sum-none (suc n) f h =
    let rest = sum-none n f (λ k l. h k (omega arith)) in
    let here = h n (omega arith) in omega arith

below : (n g : ℕ) → g < suc n → (n == g) ≡ false → g < n
below n g l is = grind arith

less-apart : (k g : ℕ) → k < g → (k == g) ≡ false
less-apart k g l = grind arith

pub apart-back : (a b : ℕ) → (a == b) ≡ false → (b == a) ≡ false
apart-back a b is = grind arith

pub sum-part : (n g : ℕ) (f : ℕ → ℕ) → g < n → f g ≤ sum_below n f
sum-part zero g f l = absurd (omega arith)
sum-part (suc n) g f l =
    let Goal : Bool → Type 0 = λ b. (n == g) ≡ b → f g ≤ f n + sum_below n f in
    elim (n == g) as Goal [
      | true ↦ λ is. let here : f n ≡ f g = ap f (eqb-true n g is) in omega arith
      | false ↦ λ is. let less : g < n = below n g l is in let rest = sum-part n g f less in omega arith
    ] refl

-- one of the numbers changed
pub sum-one : (n g : ℕ) (f f' : ℕ → ℕ) → g < n → ((k : ℕ) → (k == g) ≡ false → f' k ≡ f k) → sum_below n f' + f g ≡ sum_below n f + f' g
sum-one zero g f f' l h = absurd (omega arith)
sum-one (suc n) g f f' l h =
    let Goal : Bool → Type 0 = λ b. (n == g) ≡ b → (f' n + sum_below n f') + f g ≡ (f n + sum_below n f) + f' g in
    elim (n == g) as Goal [
      | true ↦ λ is.
          let same : n ≡ g = eqb-true n g is in
          let rest : sum_below n f' ≡ sum_below n f = sum-same n f' f (λ k l'. h k (less-apart k g (omega arith))) in
          let here : f n ≡ f g = ap f same in
          let here' : f' n ≡ f' g = ap f' same in
          omega arith
      | false ↦ λ is.
          let apart = h n is in
          let less : g < n = below n g l is in
          let rest = sum-one n g f f' less h in
          omega arith
    ] refl

-- two of the numbers changed
pub sum-two : (n a b : ℕ) (f f' : ℕ → ℕ) → a < n → b < n → (a == b) ≡ false → ((k : ℕ) → (k == a) ≡ false → (k == b) ≡ false → f' k ≡ f k)
    → (sum_below n f' + f a) + f b ≡ (sum_below n f + f' a) + f' b
sum-two n a b f f' la lb apart h =
    let mid = λ (k : ℕ). if k == a then f' a else f k in
    let mid-a : mid a ≡ f' a = ap (λ t. if t then f' a else f a) (eq-eqb a a refl) in
    let mid-b : mid b ≡ f b = ap (λ t. if t then f' a else f b) (apart-back a b apart) in
    let first = sum-one n a f mid la (λ k other. ap (λ t. if t then f' a else f k) other) in
    let then' = sum-one n b mid f' lb (λ k other.
    let Goal : Bool → Type 0 = λ t. (k == a) ≡ t → f' k ≡ (if t then f' a else f k) in
    elim (k == a) as Goal [ true ↦ λ is. ap f' (eqb-true k a is) | false ↦ λ is. h k is other ] refl) in
    omega arith

-- two of the numbers are a part of all
pub sum-pair : (n a b : ℕ) (f : ℕ → ℕ) → a < n → b < n → (a == b) ≡ false → f a + f b ≤ sum_below n f
sum-pair n a b f la lb apart =
    let rest = λ (k : ℕ). if k == a then 0 else (if k == b then 0 else f k) in
    let none-a : rest a ≡ 0 = ap (λ t. if t then 0 else (if a == b then 0 else f a)) (eq-eqb a a refl) in
    let none-b : rest b ≡ 0 =
    ap (λ t. if t then 0 else (if b == b then 0 else f b)) (apart-back a b apart) ∙ ap (λ t. if t then 0 else f b) (eq-eqb b b refl) in
    let sums = sum-two n a b f rest la lb apart (λ k not-a not-b.
    ap (λ t. if t then 0 else (if k == b then 0 else f k)) not-a ∙ ap (λ t. if t then 0 else f k) not-b) in
    omega arith

-- the place that is first in an order is one of the list's
pub place-below : (fits : ℕ → ℕ → Bool) (ns : List ℕ) → 0 < length ns → first_place fits ns < length ns
place-below fits [] l = absurd (omega arith)
place-below fits (n ∷ []) l = omega arith
place-below fits (n ∷ k ∷ ns) l =
    let rest = place-below fits (k ∷ ns) (omega arith) in
    elim (list_all (fits n) (k ∷ ns)) as (λ t. (if t then 0 else first_place fits (k ∷ ns) + 1) < length (n ∷ k ∷ ns)) [ true ↦ omega arith | false ↦ omega arith ]

-- where the lengths are uneven, the longest queue is another than the shortest
pub uneven-apart : (ns : List ℕ) → is_uneven ns ≡ true → (longest ns == shortest ns) ≡ false
uneven-apart ns is = apart (longest ns) (shortest ns) (λ k. get_or ns k 0) (leb-true (get_or ns (shortest ns) 0 + 2) (get_or ns (longest ns) 0) is)
  where
    apart : (a b : ℕ) (f : ℕ → ℕ) → f b + 2 ≤ f a → (a == b) ≡ false
    apart a b f l =
        let Goal : Bool → Type 0 = λ t. (a == b) ≡ t → t ≡ false in
        elim (a == b) as Goal [ true ↦ λ is. let same : f a ≡ f b = ap f (eqb-true a b is) in absurd (omega arith) | false ↦ λ _. refl ] refl
