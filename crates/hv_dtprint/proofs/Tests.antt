-- Tests of bytes, and the facts that they say.
use Rattle.std.proofs.Common.{◌≡◌, ℕ, zero, suc, ◌+◌, ◌<◌, ◌≤◌, Bool, true, false, cond, List, [], ◌∷◌, ◌++◌, length, get_or, refl, sym, ap, subst, ◌∙◌, arith, inl, inr}
use Rattle.std.specs.Prelude.{◌⊎◌, ◌&&◌, ◌||◌, not, ◌==◌}
use Rattle.std.specs.List.{All, Contains, list_all, list_any, prefix_len}
use Rattle.std.specs.Char.{is_ascii_alphanumeric, IsAsciiAlphanumeric}
use Rattle.std.specs.Int.{is_in_range, IsInRange}
use Rattle.std.proofs.lemmas.Bool.{eq-eqb, eqb-true, le-leb, leb-true, cases_eq}

-- both and either
pub and_both : (a b : Bool) → (a && b) ≡ true → (a ≡ true) × (b ≡ true)
and_both true b e = (refl, e)
and_both false b e = absurd (cc e)

pub both : (a b : Bool) → a ≡ true → b ≡ true → (a && b) ≡ true
both true b one two = two
both false b one two = absurd (cc one)

pub or_cases : (a b : Bool) → (a || b) ≡ true → (a ≡ true) ⊎ (b ≡ true)
or_cases true b e = inl refl
or_cases false b e = inr e

pub or_first : (a b : Bool) → a ≡ true → (a || b) ≡ true
or_first true b e = refl
or_first false b e = absurd (cc e)

pub or_second : (a b : Bool) → b ≡ true → (a || b) ≡ true
or_second true b e = refl
or_second false b e = e

pub not_true : (a : Bool) → not a ≡ true → a ≡ false
not_true true e = absurd (cc e)
not_true false e = refl

-- a test that computes to true at all numbers below a bound
abbrev pub all_below : (ℕ → Bool) → ℕ → Bool
all_below p zero = true
all_below p (suc n) = p n && all_below p n

pub at_below : (p : ℕ → Bool) (n b : ℕ) → all_below p n ≡ true → b < n → p b ≡ true
at_below p zero b all lt = absurd (omega arith)
at_below p (suc n) b all lt =
    let parts = and_both (p n) (all_below p n) all in
    elim (cases_eq b n) [
      | inl same ↦ subst (λ (k : ℕ). p k ≡ true) (sym same) parts.0
      | inr apart ↦ at_below p n b parts.1 (omega arith)
    ]

-- a number of a list passes a test that all of it pass
pub at_any : (p : ℕ → Bool) (marks : List ℕ) (b : ℕ) → list_any (λ mark. mark == b) marks ≡ true → list_all p marks ≡ true → p b ≡ true
at_any p [] b has all = absurd (cc has)
at_any p (m ∷ marks) b has all =
    let parts = and_both (p m) (list_all p marks) all in
    elim (or_cases (m == b) (list_any (λ mark. mark == b) marks) has) [
      | inl here ↦ subst (λ (k : ℕ). p k ≡ true) (eqb-true m b here) parts.0
      | inr there ↦ at_any p marks b there parts.1
    ]

any_at : (marks : List ℕ) (b k : ℕ) → k < length marks → get_or marks k b ≡ b → list_any (λ mark. mark == b) marks ≡ true
any_at [] b k lt e = absurd (omega arith)
any_at (m ∷ marks) b zero lt e = or_first (m == b) (list_any (λ mark. mark == b) marks) (eq-eqb m b e)
any_at (m ∷ marks) b (suc k) lt e = or_second (m == b) (list_any (λ mark. mark == b) marks) (any_at marks b k (omega arith) e)

pub any_from : (marks : List ℕ) (b : ℕ) → Contains marks b → list_any (λ mark. mark == b) marks ≡ true
any_from marks b it = any_at marks b it.0 it.1 it.2

pub any_more : (p : ℕ → Bool) (xs ys : List ℕ) → list_any p xs ≡ true → list_any p (xs ++ ys) ≡ true
any_more p [] ys e = absurd (cc e)
any_more p (x ∷ xs) ys e = elim (or_cases (p x) (list_any p xs) e) [
  | inl here ↦ or_first (p x) (list_any p (xs ++ ys)) here
  | inr there ↦ or_second (p x) (list_any p (xs ++ ys)) (any_more p xs ys there)
]

in_range : (lo hi c : ℕ) → IsInRange lo hi c → is_in_range lo hi c ≡ true
in_range lo hi c it = both _ _ (le-leb lo c it.0) (le-leb c hi it.1)

pub alphanumeric : (b : ℕ) → IsAsciiAlphanumeric b → is_ascii_alphanumeric b ≡ true
alphanumeric b it = elim it [
  | inl one ↦ elim one [
    | inl digit ↦ or_first _ (is_in_range 97 122 b) (or_first _ (is_in_range 65 90 b) (in_range 48 57 b digit))
    | inr upper ↦ or_first _ (is_in_range 97 122 b) (or_second (is_in_range 48 57 b) _ (in_range 65 90 b upper))
  ]
  | inr lower ↦ or_second (is_in_range 48 57 b || is_in_range 65 90 b) _ (in_range 97 122 b lower)
]

range_top : (lo hi c : ℕ) → is_in_range lo hi c ≡ true → c ≤ hi
range_top lo hi c e = leb-true c hi (and_both _ _ e).1

pub alphanumeric_top : (b : ℕ) → is_ascii_alphanumeric b ≡ true → b ≤ 122
alphanumeric_top b e = elim (or_cases (is_in_range 48 57 b || is_in_range 65 90 b) (is_in_range 97 122 b) e) [
  | inl one ↦ elim (or_cases (is_in_range 48 57 b) (is_in_range 65 90 b) one) [
    | inl digit ↦ (let top = range_top 48 57 b digit in omega (arith, top))
    | inr upper ↦ (let top = range_top 65 90 b upper in omega (arith, top))
  ]
  | inr lower ↦ range_top 97 122 b lower
]

-- each of a list
pub all_head : {X : Type 0} (P : X → Type 0) (x : X) (xs : List X) → All P (x ∷ xs) → P x
all_head P x xs all = all zero x (omega arith)

pub all_tail : {X : Type 0} (P : X → Type 0) (x : X) (xs : List X) → All P (x ∷ xs) → All P xs
all_tail P x xs all = λ k d lt. all (suc k) d (omega (arith, lt))

pub passed : (P : ℕ → Type 0) (p : ℕ → Bool) → ((x : ℕ) → P x → p x ≡ true) → (xs : List ℕ) → All P xs → list_all p xs ≡ true
passed P p says [] all = refl
passed P p says (x ∷ xs) all = both (p x) (list_all p xs) (says x (all_head P x xs all)) (passed P p says xs (all_tail P x xs all))

pub all_join : (p : ℕ → Bool) (xs ys : List ℕ) → list_all p xs ≡ true → list_all p ys ≡ true → list_all p (xs ++ ys) ≡ true
all_join p [] ys one two = two
all_join p (x ∷ xs) ys one two =
    let parts = and_both (p x) (list_all p xs) one in
    both (p x) (list_all p (xs ++ ys)) parts.0 (all_join p xs ys parts.1 two)

-- a run of bytes that pass a test, up to one that does not
pub run_is : (p : ℕ → Bool) (xs ys : List ℕ) → list_all p xs ≡ true → prefix_len p ys ≡ 0 → prefix_len p (xs ++ ys) ≡ length xs
run_is p [] ys all stop = stop
run_is p (x ∷ xs) ys all stop =
    let parts = and_both (p x) (list_all p xs) all in
    let below = run_is p xs ys parts.1 stop in
    ap (λ (b : Bool). cond b (1 + prefix_len p (xs ++ ys)) 0) parts.0 ∙ omega (arith, below)
