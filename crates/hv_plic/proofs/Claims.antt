-- The first of the sources with the greatest priority, as one more source is looked at.
use Rattle.std.proofs.Common.{◌≡◌, ℕ, ◌+◌, ◌-◌, ◌<◌, ◌≤◌, max, Bool, true, false, cond, eqb, List, [], ◌∷◌, ◌++◌, length, take, get_or, refl, ap, sym, subst, ◌∙◌, arith}
use Rattle.std.specs.Prelude.{filter, nat_lt, ◌&&◌, ◌||◌}
use Rattle.std.specs.List.{list_any, range_with_len}
use Rattle.std.proofs.lemmas.Bool.{eqb-false, eq-eqb, ne_eqb, ltb-true, ltb-false, lt-ltb, le-ltb, and_parts}
use Rattle.std.proofs.lemmas.List.{take_more, append-nil}
use Rattle.std.proofs.lemmas.List.Elements.{filter-append}
use Rattle.std.proofs.lemmas.List.FromFn.{get_or-range_with_len}
use Rattle.hv_emu.specs.Registers.{is_set}
use Rattle.hv_emu.specs.Plic.{PlicState, sources, is_candidate, candidates, claimed, greatest_priority}

-- the sources are the numbers from 1 to 31
sources-range : sources ≡ range_with_len 1 31
unfolding sources
sources-range = refl

sources-at : (i : ℕ) → i < 31 → get_or sources i 0 ≡ 1 + i
sources-at i h = rw sources-range (get_or-range_with_len 1 31 i 0 h)

sources-length : length sources ≡ 31
sources-length = rw sources-range refl

pub sources-all : take 31 sources ≡ sources
unfolding sources
sources-all = refl

pub sources-more : (i : ℕ) → i < 31 → take (i + 1) sources ≡ take i sources ++ (1 + i) ∷ []
sources-more i h =
    let within : i < length sources = rw sources-length h in
    take_more sources i 0 within ∙ ap (λ s. take i sources ++ s ∷ []) (sources-at i h)

-- what stands first stays first
front : (xs ys : List ℕ) → 0 < length xs → get_or (xs ++ ys) 0 0 ≡ get_or xs 0 0
front [] ys h = absurd (omega arith)
front (x ∷ xs) ys h = refl

module _ (p : PlicState) where
  abbrev pub priority : ℕ → ℕ
  priority source = get_or p.priority source 0

  -- the sources that have a priority
  abbrev pub with_priority : ℕ → List ℕ → List ℕ
  with_priority n xs = filter (λ s. eqb (priority s) n) xs

  -- the first of the sources with the greatest priority, or 0
  abbrev pub first_best : List ℕ → ℕ
  first_best xs = get_or (with_priority (greatest_priority p xs) xs) 0 0

  pub greatest-more : (xs : List ℕ) (s : ℕ) → greatest_priority p (xs ++ s ∷ []) ≡ max (greatest_priority p xs) (priority s)
  greatest-more [] s = omega arith
  greatest-more (x ∷ xs) s = let before = greatest-more xs s in omega arith

  none-above : (xs : List ℕ) (n : ℕ) → greatest_priority p xs < n → with_priority n xs ≡ []
  none-above [] n h = refl
  none-above (x ∷ xs) n h =
      let other : priority x ≡ n → ⊥ = λ e. omega arith in
      rw (ne_eqb (priority x) n other) (none-above xs n (omega arith))

  some-greatest : (xs : List ℕ) (n : ℕ) → 0 < n → n ≡ greatest_priority p xs → 0 < length (with_priority n xs)
  some-greatest [] n h e = absurd (omega arith)
  some-greatest (x ∷ xs) n h e =
      let Goal : Bool → Type 0 = λ b. eqb (priority x) n ≡ b → 0 < length (cond b (x ∷ with_priority n xs) (with_priority n xs)) in
      elim (eqb (priority x) n) as Goal [
        | true ↦ λ _. omega arith
        | false ↦ λ not_x. let other = eqb-false (priority x) n not_x in some-greatest xs n h (omega arith)
      ] refl

  -- a source of a greater priority is the new best
  pub best-greater : (xs : List ℕ) (s : ℕ) → greatest_priority p xs < priority s → first_best (xs ++ s ∷ []) ≡ s
  best-greater xs s h =
      let grown : greatest_priority p (xs ++ s ∷ []) ≡ priority s = let more = greatest-more xs s in omega arith in
      let split = filter-append (λ t. eqb (priority t) (priority s)) xs (s ∷ []) in
      rw (grown, split, none-above xs (priority s) h, eq-eqb (priority s) (priority s) refl) refl

  -- a source of no greater priority leaves the best
  pub best-stays : (xs : List ℕ) (s : ℕ) → 0 < priority s → priority s ≤ greatest_priority p xs → first_best (xs ++ s ∷ []) ≡ first_best xs
  best-stays xs s some h =
      let n = greatest_priority p xs in
      let grown : greatest_priority p (xs ++ s ∷ []) ≡ n = let more = greatest-more xs s in omega arith in
      let split = filter-append (λ t. eqb (priority t) n) xs (s ∷ []) in
      rw (grown, split) (front (with_priority n xs) (with_priority n (s ∷ [])) (some-greatest xs n (omega arith) refl))

  above-either : (t a b : ℕ) → (nat_lt t a || nat_lt t b) ≡ nat_lt t (max a b)
  above-either t a b =
      let Goal : Bool → Type 0 = λ x. nat_lt t a ≡ x → (x || nat_lt t b) ≡ nat_lt t (max a b) in
      let Other : Bool → Type 0 = λ y. nat_lt t a ≡ false → nat_lt t b ≡ y → y ≡ nat_lt t (max a b) in
      elim (nat_lt t a) as Goal [
        | true ↦ λ is. let above = ltb-true t a is in sym (lt-ltb t (max a b) (omega arith))
        | false ↦ λ isnt.
            let within = ltb-false t a isnt in
            elim (nat_lt t b) as Other [
              | true ↦ λ _ is. let above = ltb-true t b is in sym (lt-ltb t (max a b) (omega arith))
              | false ↦ λ _ also. let below = ltb-false t b also in sym (le-ltb t (max a b) (omega arith))
            ] isnt refl
      ] refl

  -- some of the sources have a priority above a threshold where the greatest has
  pub any_above : (xs : List ℕ) (t : ℕ) → list_any (λ s. nat_lt t (priority s)) xs ≡ nat_lt t (greatest_priority p xs)
  any_above [] t = sym (le-ltb t 0 (omega arith))
  any_above (x ∷ xs) t = ap (λ b. nat_lt t (priority x) || b) (any_above xs t) ∙ above-either t (priority x) (greatest_priority p xs)

  module _ (context : ℕ) where
    -- the candidates among the first sources
    abbrev pub looked_at : ℕ → List ℕ
    looked_at count = filter (is_candidate p context) (take count sources)

    abbrev is : ℕ → Bool
    is source = is_candidate p context source

    -- a candidate has a priority above 0
    pub candidate-positive : (s : ℕ) → is s ≡ true → 0 < priority s
    candidate-positive s candidate =
        ltb-true 0 (priority s) (and_parts (is_set p.pending s && is_set (get_or p.enable context 0) s) (nat_lt 0 (priority s)) candidate).1

    pub looked-more : (i : ℕ) → i < 31 → looked_at (i + 1) ≡ looked_at i ++ cond (is (1 + i)) ((1 + i) ∷ []) []
    looked-more i h = rw (sources-more i h, filter-append (is_candidate p context) (take i sources) ((1 + i) ∷ [])) refl

    -- once all sources were looked at, the best is the one that a claim takes
    pub best-claimed : first_best (looked_at 31) ≡ claimed p context
    unfolding claimed candidates sources
    best-claimed = refl

    pub greatest-candidates : greatest_priority p (looked_at 31) ≡ greatest_priority p (candidates p context)
    unfolding candidates sources
    greatest-candidates = refl

    looked-next : (s : ℕ) → 1 ≤ s → s < 32 → looked_at (s + 1 - 1) ≡ looked_at (s - 1) ++ cond (is s) (s ∷ []) []
    looked-next s some few =
        let here : 1 + (s - 1) ≡ s = omega arith in
        let next : s + 1 - 1 ≡ s - 1 + 1 = omega arith in
        let Grown : ℕ → Type 0 = λ t. looked_at (s - 1 + 1) ≡ looked_at (s - 1) ++ cond (is t) (t ∷ []) [] in
        ap looked_at next ∙ subst Grown here (looked-more (s - 1) (omega arith))

    -- the best and its priority, once the sources up to one were looked at
    pub record IsBestBefore (s best greatest : ℕ) : Type 0 where
      pub best_is : best ≡ first_best (looked_at (s - 1))
      pub greatest_is : greatest ≡ greatest_priority p (looked_at (s - 1))

    module _ (s best greatest : ℕ) (some : 1 ≤ s) (few : s < 32) (before : IsBestBefore s best greatest) where
      -- a candidate of a greater priority is the new best
      pub best-taken : is s ≡ true → greatest < priority s → IsBestBefore (s + 1) s (priority s)
      best-taken candidate greater =
          let xs = looked_at (s - 1) in
          let grown : looked_at (s + 1 - 1) ≡ xs ++ s ∷ [] = looked-next s some few ∙ ap (λ b. xs ++ cond b (s ∷ []) []) candidate in
          let above : greatest_priority p xs < priority s = subst (λ n. n < priority s) before.greatest_is greater in
          record {
            best_is = rw grown (sym (best-greater xs s above));
            greatest_is = rw grown (let more = greatest-more xs s in omega arith);
          }

      -- a candidate of no greater priority isn't
      pub best-kept : is s ≡ true → 0 < priority s → priority s ≤ greatest → IsBestBefore (s + 1) best greatest
      best-kept candidate positive below =
          let xs = looked_at (s - 1) in
          let grown : looked_at (s + 1 - 1) ≡ xs ++ s ∷ [] = looked-next s some few ∙ ap (λ b. xs ++ cond b (s ∷ []) []) candidate in
          let within : priority s ≤ greatest_priority p xs = subst (λ n. priority s ≤ n) before.greatest_is below in
          record {
            best_is = before.best_is ∙ rw grown (sym (best-stays xs s positive within));
            greatest_is = before.greatest_is ∙ rw grown (let more = greatest-more xs s in omega arith);
          }

      -- and one that is no candidate isn't
      pub best-passed : is s ≡ false → IsBestBefore (s + 1) best greatest
      best-passed other =
          let xs = looked_at (s - 1) in
          let same : looked_at (s + 1 - 1) ≡ xs = looked-next s some few ∙ ap (λ b. xs ++ cond b (s ∷ []) []) other ∙ append-nil xs in
          record {
            best_is = before.best_is ∙ ap first_best (sym same);
            greatest_is = before.greatest_is ∙ ap (greatest_priority p) (sym same);
          }
