-- What is known of a history as it grows, and of lists by their places.
use Rattle.std.proofs.Common.{◌≡◌, ◌≢◌, ◌⊎◌, ℕ, zero, suc, ◌<◌, Bool, cond, ne_eqb, List, [], ◌∷◌, ◌++◌, length, drop, sym, refl, ap, ◌∙◌, inl, inr, subst, ⊎_elim, arith, append_assoc, append-nil, Option, Some}
use mathlib.Core.Option.{some, some-injective, some-ne-none}
use lib.ListN.{get_elem?}
use Rattle.std.specs.List.{AllByRecursion}
use Rattle.std.proofs.lemmas.List.Elements.{filter-append}
use Rattle.atomic_table.proofs.Lists.{at_snoc}
use Rattle.hv_turn.specs.History.{is_name, named_by, IsLater, MayLeave}
use Rattle.hv_turn.specs.Rule.{StartsWith}

module _ {A : Type 0} where
  pub starts_longer : (xs ys front : List A) → StartsWith xs front → StartsWith (xs ++ ys) front
  starts_longer xs ys front h = (h.0 ++ ys, ap (λ l. l ++ ys) h.1 ∙ append_assoc front h.0 ys)

  pub at_short : (l : List A) (i : ℕ) (a : A) → get_elem? l i ≡ some a → i < length l
  at_short [] i a e = absurd (some-ne-none a (sym e))
  at_short (x ∷ xs) zero a e = omega arith
  at_short (x ∷ xs) (suc i) a e = let h = at_short xs i a e in omega arith

  pub at_one : (x : A) (i : ℕ) (a : A) → get_elem? (x ∷ []) i ≡ some a → x ≡ a
  at_one x zero a e = some-injective x a e
  at_one x (suc i) a e = absurd (some-ne-none a (sym e))

  pub at_front : (x : A) (i : ℕ) (a : A) → get_elem? (x ∷ []) i ≡ some a → i ≡ 0
  at_front x zero a e = refl
  at_front x (suc i) a e = absurd (some-ne-none a (sym e))

  -- an element of a list and one more
  pub at_end : (l : List A) (x a : A) (i k : ℕ) → length l ≡ k → get_elem? (l ++ x ∷ []) i ≡ some a → (get_elem? l i ≡ some a) ⊎ ((i ≡ k) × (x ≡ a))
  at_end [] x a zero k long e = inr (long, some-injective x a e)
  at_end [] x a (suc i) k long e = absurd (some-ne-none a (sym e))
  at_end (y ∷ l) x a zero k long e = inl e
  at_end (y ∷ l) x a (suc i) zero long e = absurd (omega arith)
  at_end (y ∷ l) x a (suc i) (suc k) long e = ⊎_elim (λ h. inl h) (λ t. let n = t.0 in inr (omega arith, t.1)) (at_end l x a i k (omega arith) e)

  pub at_append : (xs ys : List A) (i : ℕ) (a : A) → get_elem? (xs ++ ys) i ≡ some a → ((k : ℕ) × (get_elem? xs k ≡ some a)) ⊎ ((k : ℕ) × (get_elem? ys k ≡ some a))
  at_append [] ys i a e = inr (i, e)
  at_append (x ∷ xs) ys zero a e = inl (zero, e)
  at_append (x ∷ xs) ys (suc i) a e = ⊎_elim (λ t. inl (suc t.0, t.1)) (λ t. inr t) (at_append xs ys i a e)

  all_at : (P : A → Type 0) (xs : List A) → ((i : ℕ) (a : A) → get_elem? xs i ≡ some a → P a) → AllByRecursion P xs
  all_at P [] h = tt
  all_at P (x ∷ xs) h = (h 0 x refl, all_at P xs (λ i a e. h (suc i) a e))

  -- what holds at each place but the first holds of all that follow the first
  pub all_behind : (P : A → Type 0) (xs : List A) → ((i : ℕ) (a : A) → get_elem? xs (suc i) ≡ some a → P a) → AllByRecursion P (drop 1 xs)
  all_behind P [] h = tt
  all_behind P (x ∷ xs) h = all_at P xs h

module _ {E : Type 0} (names : E → Option ℕ) where
  none_named : (number other : ℕ) (e : E) → names e ≡ Some other → number ≢ other → named_by names number (e ∷ []) ≡ []
  none_named number other e is apart = ap (λ (o : Option ℕ). cond (is_name number o) (e ∷ []) []) is ∙ ap (λ (b : Bool). cond b (e ∷ []) []) (ne_eqb other number (λ h. apart (sym h)))

  pub later_itself : (number : ℕ) (history : List E) → IsLater names number history history
  later_itself number history = record { more = []; longer = sym (append-nil history); others = refl }

  -- a history that grows by an entry of one handle still goes on from what another has seen
  pub later_still : (number other : ℕ) (seen old new : List E) → number ≢ other → IsLater names number seen old → MayLeave names other old new → IsLater names number seen new
  later_still number other seen old new apart later (inl same) = subst (IsLater names number seen) (sym same) later
  later_still number other seen old new apart later (inr t) = record {
    more = later.more ++ t.0 ∷ [];
    longer = t.1 ∙ (ap (λ l. l ++ t.0 ∷ []) later.longer ∙ append_assoc seen later.more (t.0 ∷ []));
    others = filter-append (λ e. is_name number (names e)) later.more (t.0 ∷ []) ∙ (ap (λ l. l ++ named_by names number (t.0 ∷ [])) later.others ∙ none_named number other t.0 t.2 apart);
  }

  -- each entry of a history that grew by one of a handle was there, or names the handle
  pub old_or_named : (number : ℕ) (old new : List E) → MayLeave names number old new → (i : ℕ) (e : E) → get_elem? new i ≡ some e → (get_elem? old i ≡ some e) ⊎ (names e ≡ Some number)
  old_or_named number old new (inl same) i e at = inl (subst (λ l. get_elem? l i ≡ some e) same at)
  old_or_named number old new (inr t) i e at = ⊎_elim (λ h. inl h) (λ (h : t.0 ≡ e). inr (subst (λ x. names x ≡ Some number) h t.2)) (at_snoc old t.0 e i (subst (λ l. get_elem? l i ≡ some e) t.1 at))
