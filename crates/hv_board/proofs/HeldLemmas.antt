-- Values held at places.
use Rattle.std.proofs.Common.{◌≡◌, ◌≢◌, ℕ, zero, suc, ◌<◌, ◌==◌, true, false, if◌then◌else◌, List, [], ◌∷◌, ◌++◌, length, take, drop, slice_index_or, Some, None, refl, sym, ap, arith, eq-eqb, eqb-true}
use Rattle.std.specs.List.{AllByRecursion}
use Rattle.hv_board.specs.Held.{IsRising, held_at}

pub lt-eqb : (m n : ℕ) → m < n → (m == n) ≡ false
lt-eqb m n l = elim (m == n) as (λ b. (m == n) ≡ b → b ≡ false) [ true ↦ λ e. let s = eqb-true m n e in absurd (omega arith) | false ↦ λ e. refl ] refl

pub gt-eqb : (m n : ℕ) → n < m → (m == n) ≡ false
gt-eqb m n l = elim (m == n) as (λ b. (m == n) ≡ b → b ≡ false) [ true ↦ λ e. let s = eqb-true m n e in absurd (omega arith) | false ↦ λ e. refl ] refl

pub eqb-false : (m n : ℕ) → (m == n) ≡ false → n ≢ m
eqb-false m n e s = let t = eq-eqb m n (sym s) in cc

pub all-at : {A : Type 0} (P : A → Type 0) (xs : List A) (n : ℕ) (d : A) → AllByRecursion P xs → n < length xs → P (slice_index_or xs n d)
all-at P [] n d all l = absurd (omega arith)
all-at P (x ∷ xs) zero d all l = all.0
all-at P (x ∷ xs) (suc n) d all l = all-at P xs n d all.1 (omega arith)

pub rising-below : (ks : List ℕ) (j : ℕ) → IsRising ks → j < length ks → AllByRecursion (λ q. q < slice_index_or ks j 0) (take j ks)
rising-below [] j r l = absurd (omega arith)
rising-below (k ∷ ks) zero r l = tt
rising-below (k ∷ ks) (suc j) r l = (all-at (λ n. k < n) ks j 0 r.0 (omega arith), rising-below ks j r.1 (omega arith))

pub rising-drop : (ks : List ℕ) (n : ℕ) → IsRising ks → IsRising (drop n ks)
rising-drop ks zero r = r
rising-drop [] (suc n) r = tt
rising-drop (k ∷ ks) (suc n) r = rising-drop ks n r.1

module _ {T : Type 0} where
  pub held_at-none : (ks : List ℕ) (vs : List T) (p : ℕ) → AllByRecursion (λ q. q < p) ks → held_at ks vs p ≡ None
  held_at-none [] vs p all = refl
  held_at-none (k ∷ ks) [] p all = refl
  held_at-none (k ∷ ks) (v ∷ vs) p all = rw (lt-eqb k p all.0) (held_at-none ks vs p all.1)

  pub held_at-none_above : (ks : List ℕ) (vs : List T) (p : ℕ) → AllByRecursion (λ q. p < q) ks → held_at ks vs p ≡ None
  held_at-none_above [] vs p all = refl
  held_at-none_above (k ∷ ks) [] p all = refl
  held_at-none_above (k ∷ ks) (v ∷ vs) p all = rw (gt-eqb k p all.0) (held_at-none_above ks vs p all.1)

  pub held_at-push_other : (ks : List ℕ) (vs : List T) (p : ℕ) (v : T) (k : ℕ) → length vs ≡ length ks → (p == k) ≡ false → held_at (ks ++ p ∷ []) (vs ++ v ∷ []) k ≡ held_at ks vs k
  held_at-push_other [] [] p v k l e = rw e refl
  held_at-push_other [] (w ∷ vs) p v k l e = absurd (omega arith)
  held_at-push_other (q ∷ ks) [] p v k l e = absurd (omega arith)
  held_at-push_other (q ∷ ks) (w ∷ vs) p v k l e = ap (λ x. if q == k then Some w else x) (held_at-push_other ks vs p v k (omega arith) e)

  pub held_at-push_same : (ks : List ℕ) (vs : List T) (p : ℕ) (v : T) → length vs ≡ length ks → AllByRecursion (λ q. q < p) ks → held_at (ks ++ p ∷ []) (vs ++ v ∷ []) p ≡ Some v
  held_at-push_same [] [] p v l all = rw (eq-eqb p p refl) refl
  held_at-push_same [] (w ∷ vs) p v l all = absurd (omega arith)
  held_at-push_same (q ∷ ks) [] p v l all = absurd (omega arith)
  held_at-push_same (q ∷ ks) (w ∷ vs) p v l all = rw (lt-eqb q p all.0) (held_at-push_same ks vs p v (omega arith) all.1)

  -- the value that stands where the place does
  pub held_at-there : (ks : List ℕ) (vs gone : List T) (v : T) (n : ℕ) → IsRising ks → length vs ≡ n → n < length ks → held_at ks (vs ++ v ∷ gone) (slice_index_or ks n 0) ≡ Some v
  held_at-there [] vs gone v n r l b = absurd (omega arith)
  held_at-there (k ∷ ks) [] gone v zero r l b = rw (eq-eqb k k refl) refl
  held_at-there (k ∷ ks) [] gone v (suc n) r l b = absurd (omega arith)
  held_at-there (k ∷ ks) (w ∷ vs) gone v zero r l b = absurd (omega arith)
  held_at-there (k ∷ ks) (w ∷ vs) gone v (suc n) r l b =
      rw (lt-eqb k (slice_index_or ks n 0) (all-at (λ m. k < m) ks n 0 r.0 (omega arith))) (held_at-there ks vs gone v n r.1 (omega arith) (omega arith))
