-- The first place of a number that stands in the wanted order to all behind it, found from the end.
use Rattle.std.proofs.Common.{◌≡◌, ℕ, suc, ◌+◌, ◌<◌, Bool, true, false, ◌&&◌, if◌then◌else◌, List, [], ◌∷◌, length, drop, get_or, refl, ap, sym, ◌∙◌, subst, arith, add-one, ◌≤◌, ◌-◌, nat_le, drop-cons}
use Rattle.std.specs.List.{list_all}
use Rattle.std.proofs.lemmas.List.{get_or-drop, drop_all}
use Rattle.std.proofs.lemmas.Bool.{le-leb, leb-true, leb-false}
use Rattle.hv_rules.specs.Balance.{first_place}

-- The order is one of all numbers.
pub record IsOrder (fits : ℕ → ℕ → Bool) : Type 0 where
  pub through : (a b c : ℕ) → fits a b ≡ true → fits b c ≡ true → fits a c ≡ true
  pub total : (a b : ℕ) → fits a b ≡ false → fits b a ≡ true

both : (a b : Bool) → (a && b) ≡ true → (a ≡ true) × (b ≡ true)
both true true h = (refl, refl)
both true false h = absurd (cc)
both false true h = absurd (cc)
both false false h = absurd (cc)

-- What stands before a number stands before all that the number stands before.
before : (fits : ℕ → ℕ → Bool) → IsOrder fits → (n m : ℕ) → fits n m ≡ true → (ns : List ℕ) → list_all (fits m) ns ≡ true → list_all (fits n) ns ≡ true
before fits order n m h [] all = refl
before fits order n m h (x ∷ ns) all =
    let parts = both (fits m x) (list_all (fits m) ns) all in
    let first : fits n x ≡ true = order.through n m x h parts.0 in
    let later : list_all (fits n) ns ≡ true = before fits order n m h ns parts.1 in
    rw (first, later) refl

-- The number at the first place.
abbrev best : (fits : ℕ → ℕ → Bool) → List ℕ → ℕ
best fits ns = get_or ns (first_place fits ns) 0

next : (m : ℕ) (ns : List ℕ) (j : ℕ) → get_or (m ∷ ns) (j + 1) 0 ≡ get_or ns j 0
next m ns j = rw add-one refl

and-same : (a b : Bool) → (b ≡ true → a ≡ true) → (a && b) ≡ b
and-same true b h = refl
and-same false true h = h refl
and-same false false h = refl

and-first : (a b : Bool) → (a ≡ true → b ≡ true) → (a && b) ≡ a
and-first true b h = h refl
and-first false b h = refl

-- A number stands before all where it stands before the one at the first place.
pub all-by-best : (fits : ℕ → ℕ → Bool) → IsOrder fits → (n m : ℕ) (ns : List ℕ) → list_all (fits n) (m ∷ ns) ≡ fits n (best fits (m ∷ ns))
all-by-best fits order n m [] = elim (fits n m) as (λ b. (b && true) ≡ b) [ true ↦ refl | false ↦ refl ]
all-by-best fits order n m (k ∷ ns) =
    let rest : list_all (fits m) (k ∷ ns) ≡ fits m (best fits (k ∷ ns)) = all-by-best fits order m k ns in
    let mine : list_all (fits n) (k ∷ ns) ≡ fits n (best fits (k ∷ ns)) = all-by-best fits order n k ns in
    let is : (b : Bool) → list_all (fits m) (k ∷ ns) ≡ b → (fits n m && list_all (fits n) (k ∷ ns)) ≡ fits n (get_or (m ∷ k ∷ ns) (if b then 0 else first_place fits (k ∷ ns) + 1) 0)
    = λ b. elim b as (λ b. list_all (fits m) (k ∷ ns) ≡ b → (fits n m && list_all (fits n) (k ∷ ns)) ≡ fits n (get_or (m ∷ k ∷ ns) (if b then 0 else first_place fits (k ∷ ns) + 1) 0)) [
      | true ↦ λ all. and-first (fits n m) (list_all (fits n) (k ∷ ns)) (λ h. before fits order n m h (k ∷ ns) all)
      | false ↦ λ all. rw (next m (k ∷ ns) (first_place fits (k ∷ ns)))
          (and-same (fits n m) (list_all (fits n) (k ∷ ns)) (λ h. order.through n _ m (sym mine ∙ h) (order.total m _ (sym rest ∙ all))) ∙ mine)
    ] in
    is (list_all (fits m) (k ∷ ns)) refl

chosen_place : (b : Bool) (i place first : ℕ) → place ≡ i + 1 + first → i + (if b then 0 else first + 1) ≡ (if b then i else place)
chosen_place true i place first is = omega arith
chosen_place false i place first is = omega arith

-- One place earlier: the number there is at the first place where it stands before the best one behind it.
pub earlier : (fits : ℕ → ℕ → Bool) → IsOrder fits → (ls : List ℕ) (i place : ℕ) → i + 1 < length ls → place ≡ i + 1 + first_place fits (drop (i + 1) ls)
    → i + first_place fits (drop i ls) ≡ (if fits (get_or ls i 0) (get_or ls place 0) then i else place)
earlier fits order ls i place within is =
    let n : ℕ = get_or ls i 0 in
    let ns : List ℕ = drop (i + 1) ls in
    let lies : i < length ls = omega arith in
    let front : drop i ls ≡ n ∷ ns = drop-cons ls i 0 lies ∙ ap (λ k. n ∷ drop k ls) (sym (add-one i)) in
    let some : ns ≡ get_or ls (i + 1) 0 ∷ drop (suc (i + 1)) ls = drop-cons ls (i + 1) 0 within in
    let found : get_or ls place 0 ≡ best fits ns = ap (λ k. get_or ls k 0) is ∙ sym (get_or-drop (i + 1) ls (first_place fits ns) 0) in
    let every : list_all (fits n) ns ≡ fits n (get_or ls place 0) =
    subst (λ (l : List ℕ). list_all (fits n) l ≡ fits n (best fits l)) (sym some) (all-by-best fits order n _ _) ∙ ap (fits n) (sym found) in
    ap (λ l. i + first_place fits l) front
    ∙ (ap (λ b. i + (if b then 0 else first_place fits ns + 1)) every
    ∙ chosen_place (fits n (get_or ls place 0)) i place (first_place fits ns) is)

-- The last place is the first of the list that begins there.
pub last : (fits : ℕ → ℕ → Bool) (ls : List ℕ) → 0 < length ls → length ls - 1 ≡ length ls - 1 + first_place fits (drop (length ls - 1) ls)
last fits ls some =
    let lies : length ls - 1 < length ls = omega arith in
    let after : length ls ≤ suc (length ls - 1) = omega arith in
    let alone : drop (length ls - 1) ls ≡ get_or ls (length ls - 1) 0 ∷ [] = drop-cons ls (length ls - 1) 0 lies ∙ ap (λ l. get_or ls (length ls - 1) 0 ∷ l) (drop_all (suc (length ls - 1)) ls after) in
    let none : first_place fits (drop (length ls - 1) ls) ≡ 0 = ap (first_place fits) alone in
    omega arith

-- The step of the search at a number, when the place is that of the best one from the next number on.
step : (fits : ℕ → ℕ → Bool) → IsOrder fits → (ls : List ℕ) (number place : ℕ) → 0 < number → number < length ls → place ≡ number + first_place fits (drop number ls)
    → (number - 1) + first_place fits (drop (number - 1) ls) ≡ (if fits (get_or ls (number - 1) 0) (get_or ls place 0) then number - 1 else place)
step fits order ls number place some within is =
    let P : ℕ → Type 0 = λ k. k < length ls → place ≡ k + first_place fits (drop k ls)
    → (number - 1) + first_place fits (drop (number - 1) ls) ≡ (if fits (get_or ls (number - 1) 0) (get_or ls place 0) then number - 1 else place) in
    let next : (number - 1) + 1 ≡ number = omega arith in
    subst P next (λ w s. earlier fits order ls (number - 1) place w s) within is

pub moves : (fits : ℕ → ℕ → Bool) → IsOrder fits → (ls : List ℕ) (number place : ℕ) → 0 < number → number < length ls → place ≡ number + first_place fits (drop number ls)
    → fits (get_or ls (number - 1) 0) (get_or ls place 0) ≡ true → number - 1 ≡ (number - 1) + first_place fits (drop (number - 1) ls)
moves fits order ls number place some within is fit = sym (step fits order ls number place some within is ∙ ap (λ b. if b then number - 1 else place) fit)

pub stays : (fits : ℕ → ℕ → Bool) → IsOrder fits → (ls : List ℕ) (number place : ℕ) → 0 < number → number < length ls → place ≡ number + first_place fits (drop number ls)
    → fits (get_or ls (number - 1) 0) (get_or ls place 0) ≡ false → place ≡ (number - 1) + first_place fits (drop (number - 1) ls)
stays fits order ls number place some within is fit = sym (step fits order ls number place some within is ∙ ap (λ b. if b then number - 1 else place) fit)

leb-through : (a b c : ℕ) → nat_le a b ≡ true → nat_le b c ≡ true → nat_le a c ≡ true
leb-through a b c h k = let x = leb-true a b h in let y = leb-true b c k in le-leb a c (omega arith)

leb-total : (a b : ℕ) → nat_le a b ≡ false → nat_le b a ≡ true
leb-total a b h = let x = leb-false a b h in le-leb b a (omega arith)

pub is_shortest : IsOrder nat_le
is_shortest = record { through = leb-through; total = leb-total }

pub is_longest : IsOrder (λ n k. nat_le k n)
is_longest = record { through = λ a b c h k. leb-through c b a k h; total = λ a b h. leb-total b a h }
