-- The parts of a run that each cell and each actor saw agree, in whatever order its events were made.
use Rattle.std.proofs.Common.{◌≡◌, ℕ, ◌+◌, ◌<◌, ◌≤◌, max, le-ltb, lt-ltb, Bool, true, false, cond, if◌then◌else◌, ◌||◌, List, [], ◌∷◌, map, refl, ap, sym, subst, ◌∙◌, arith}
use Rattle.std.specs.List.{AllByRecursion, list_any}
use Rattle.hv_machine.specs.Machine.{Machine, greatest, State, touches, events_at, events_by, cell_after, next_state, MayHappen, IsRun}
use Rattle.hv_machine.specs.Merging.{IsKept, stamp_before, IsNextStamp, Agree}
use Rattle.hv_machine.proofs.Lists.{all-filter, all-map, all-map2, all-unfilter, all-each, map-agree, filter-filter}
use Rattle.hv_machine.proofs.MergingLemmas.{all-touched, kept-later}

-- a fact on each element of a list holds of one that is the same as some element
pub all-at : {X : Type 0} (same : X → X → Bool) (only : (x y : X) → same x y ≡ true → x ≡ y) (P : X → Type 0) (x : X) (ys : List X) → AllByRecursion P ys → list_any (same x) ys ≡ true → P x
all-at same only P x [] h t = absurd (cc)
all-at same only P x (y ∷ ys) h t =
    let Goal : Bool → Type 0 = λ b. same x y ≡ b → (b || list_any (same x) ys) ≡ true → P x in
    elim (same x y) as Goal [
      | true ↦ λ is _. subst P (sym (only x y is)) h.0
      | false ↦ λ _ rest. all-at same only P x ys h.1 rest
    ] refl t

greatest-all : (ns : List ℕ) → AllByRecursion (λ n. n ≤ greatest ns) ns
greatest-all [] = tt
greatest-all (n ∷ ns) =
    let Below : ℕ → Type 0 = λ k. k ≤ greatest ns in
    let Above : ℕ → Type 0 = λ k. k ≤ max n (greatest ns) in
    (omega arith, all-map Below Above (λ k h. omega arith) ns (greatest-all ns))

all-mapped : {X : Type 0} (P : ℕ → Type 0) (f : X → ℕ) (xs : List X) → AllByRecursion P (map f xs) → AllByRecursion (λ x. P (f x)) xs
all-mapped P f [] h = tt
all-mapped P f (x ∷ xs) h = (h.0, all-mapped P f xs h.1)

module _ (m : Machine) (rank : m.Cell → ℕ) where
  module _ (s : State m) (e : m.Event) (may : MayHappen m s e) where
    agrees-at : (x : m.Cell) → touches m x e ≡ true → m.IsAllowedAt x (s x).value e
    agrees-at x t = all-at m.same m.same_only (λ y. m.IsAllowedAt y (s y).value e) x (m.footprint e) may.agreed t

    later-at : (x : m.Cell) → touches m x e ≡ true → (s x).stamp < m.stamp e
    later-at x t =
        let stamps = λ (y : m.Cell). (s y).stamp in
        let Below : m.Cell → Type 0 = λ y. (s y).stamp ≤ greatest (map stamps (m.footprint e)) in
        let below : (s x).stamp ≤ greatest (map stamps (m.footprint e)) = all-at m.same m.same_only Below x (m.footprint e) (all-mapped (λ n. n ≤ greatest (map stamps (m.footprint e))) stamps (m.footprint e) (greatest-all (map stamps (m.footprint e)))) t in
        let stamp : m.stamp e ≡ greatest (map stamps (m.footprint e)) + 1 = may.stamped in
        omega arith

  kept-of-run : (s : State m) (es : List m.Event) → IsRun m s es → (x : m.Cell) → IsKept m.rules x (s x) (events_at m x es)
  kept-of-run s [] r x = tt
  kept-of-run s (e ∷ es) r x =
      let rest = kept-of-run (next_state m s e) es r.1 x in
      let Goal : Bool → Type 0 = λ b. touches m x e ≡ b → IsKept m.rules x (if b then cell_after m.rules x (s x) e else s x) (events_at m x es) → IsKept m.rules x (s x) (cond b (e ∷ events_at m x es) (events_at m x es)) in
      elim (touches m x e) as Goal [
        | true ↦ λ t k. (agrees-at s e r.0 x t, later-at s e r.0 x t, k)
        | false ↦ λ _ k. k
      ] refl rest

  module _ (s : State m) (e : m.Event) (es : List m.Event) (run : IsRun m s (e ∷ es)) where
    kept : (x : m.Cell) → IsKept m.rules x (s x) (events_at m x (e ∷ es))
    kept = kept-of-run s (e ∷ es) run

    kept-here : (x : m.Cell) → touches m x e ≡ true → IsKept m.rules x (s x) (e ∷ events_at m x es)
    kept-here x t = subst (λ b. IsKept m.rules x (s x) (cond b (e ∷ events_at m x es) (events_at m x es))) t (kept x)

    stamp-here : (x : m.Cell) → touches m x e ≡ true → (s x).stamp ≡ stamp_before m.rules (s x).stamp (events_at m x (e ∷ es)) (m.stamp e)
    stamp-here x t = rw (t, le-ltb (m.stamp e) (m.stamp e) (omega arith)) refl

    first-stamp : IsNextStamp m s (λ x. events_at m x (e ∷ es)) e
    first-stamp =
        let Touched : m.Cell → Type 0 = λ x. touches m x e ≡ true in
        let found = λ (x : m.Cell). stamp_before m.rules (s x).stamp (events_at m x (e ∷ es)) (m.stamp e) in
        let Finds : m.Cell → Type 0 = λ x. (s x).stamp ≡ found x in
        run.0.stamped ∙ ap (λ ns. greatest ns + 1) (map-agree (λ x. (s x).stamp) found (m.footprint e) (all-map Touched Finds stamp-here (m.footprint e) (all-touched m (m.footprint e))))

    later-than : AllByRecursion (λ f. (a : (x : m.Cell) × (touches m x e ≡ true)) → touches m a.0 f ≡ true → m.stamp e < m.stamp f) es
    later-than =
        all-each (λ (a : (x : m.Cell) × (touches m x e ≡ true)) (f : m.Event). touches m a.0 f ≡ true → m.stamp e < m.stamp f) es
        (λ a. all-unfilter (λ (f : m.Event). m.stamp e < m.stamp f) (touches m a.0) es (kept-later m rank a.0 (cell_after m.rules a.0 (s a.0) e) (events_at m a.0 es) (kept-here a.0 a.1).2))

    stamp-later : (f : m.Event) → ((a : (x : m.Cell) × (touches m x e ≡ true)) → touches m a.0 f ≡ true → m.stamp e < m.stamp f)
        → (x : m.Cell) → touches m x f ≡ true
        → stamp_before m.rules (next_state m s e x).stamp (events_at m x es) (m.stamp f) ≡ stamp_before m.rules (s x).stamp (events_at m x (e ∷ es)) (m.stamp f)
    stamp-later f after_e x t =
        let Goal : Bool → Type 0 = λ b. touches m x e ≡ b
        → stamp_before m.rules (if b then cell_after m.rules x (s x) e else s x).stamp (events_at m x es) (m.stamp f)
        ≡ stamp_before m.rules (s x).stamp (cond b (e ∷ events_at m x es) (events_at m x es)) (m.stamp f) in
        elim (touches m x e) as Goal [
          | true ↦ λ here. rw (lt-ltb (m.stamp e) (m.stamp f) (after_e (x, here) t)) refl
          | false ↦ λ _. refl
        ] refl

    next-stamp : (f : m.Event) → ((a : (x : m.Cell) × (touches m x e ≡ true)) → touches m a.0 f ≡ true → m.stamp e < m.stamp f)
        → IsNextStamp m (next_state m s e) (λ x. events_at m x es) f → IsNextStamp m s (λ x. events_at m x (e ∷ es)) f
    next-stamp f after_e h =
        let was = λ (x : m.Cell). stamp_before m.rules (s x).stamp (events_at m x (e ∷ es)) (m.stamp f) in
        let now = λ (x : m.Cell). stamp_before m.rules (next_state m s e x).stamp (events_at m x es) (m.stamp f) in
        let Touched : m.Cell → Type 0 = λ x. touches m x f ≡ true in
        let Same : m.Cell → Type 0 = λ x. now x ≡ was x in
        h ∙ ap (λ ns. greatest ns + 1) (map-agree now was (m.footprint f) (all-map Touched Same (stamp-later f after_e) (m.footprint f) (all-touched m (m.footprint f))))

  stamps-of-run : (s : State m) (es : List m.Event) → IsRun m s es → AllByRecursion (IsNextStamp m s (λ x. events_at m x es)) es
  stamps-of-run s [] r = tt
  stamps-of-run s (e ∷ es) r =
      let After : m.Event → Type 0 = λ f. (a : (x : m.Cell) × (touches m x e ≡ true)) → touches m a.0 f ≡ true → m.stamp e < m.stamp f in
      let Now : m.Event → Type 0 = IsNextStamp m (next_state m s e) (λ x. events_at m x es) in
      let Was : m.Event → Type 0 = IsNextStamp m s (λ x. events_at m x (e ∷ es)) in
      (first-stamp s e es r, all-map2 After Now Was (next-stamp s e es r) es (later-than s e es r) (stamps-of-run (next_state m s e) es r.1))

  -- what a run left with each actor and each cell
  pub agree-of-run : (s : State m) (made : List m.Event) → IsRun m s made → Agree m s (λ a. events_by m a made) (λ x. events_at m x made)
  agree-of-run s made r =
      record {
        kept = kept-of-run s made r;
        shared = λ x a. filter-filter (λ e. m.same a (m.actor e)) (touches m x) made;
        stamped = λ a. all-filter (IsNextStamp m s (λ x. events_at m x made)) (λ e. m.same a (m.actor e)) made (stamps-of-run s made r);
      }
