-- A log follows later entries, and one event more.
use Rattle.std.proofs.Common.{◌≡◌, ℕ, ◌+◌, ◌<◌, ◌≤◌, ◌⊎◌, inl, inr, nat_lt, le-ltb, lt-ltb, Bool, true, false, cond, if◌then◌else◌, List, [], ◌∷◌, ◌++◌, filter, refl, ap, sym, subst, ◌∙◌, arith, append-nil}
use Rattle.std.specs.List.{AllByRecursion}
use Rattle.hv_machine.specs.Machine.{Machine, greatest, State, touches, events_at, events_by}
use Rattle.hv_machine.specs.Merging.{stamp_before, Agree}
use Rattle.hv_machine.proofs.Lists.{all-map, all-map2, all-each, map-agree, filter-append}
use Rattle.hv_machine.proofs.MergingLemmas.{all-touched}
use Rattle.hv_following.specs.Follows.{IsLater, last_stamp, IsNextBy, Follows, IsMadeAfter, IsClosed}

module _ (m : Machine) where
  -- some entry is not below this stamp
  abbrev pub IsReached : ℕ → List m.Event → Type 0
  IsReached t [] = ⊥
  IsReached t (e ∷ es) = (t ≤ m.stamp e) ⊎ IsReached t es

  reached-by : (p : m.Event → Bool) (t : ℕ) (es : List m.Event) → IsReached t (filter p es) → IsReached t es
  reached-by p t [] h = h
  reached-by p t (e ∷ es) h =
      let Goal : Bool → Type 0 = λ b. IsReached t (cond b (e ∷ filter p es) (filter p es)) → (t ≤ m.stamp e) ⊎ IsReached t es in
      elim (p e) as Goal [
        | true ↦ λ k. elim k [ inl l ↦ inl l | inr r ↦ inr (reached-by p t es r) ]
        | false ↦ λ k. inr (reached-by p t es k)
      ] h

  -- an event that passes is reached among those that pass
  reached-self : (p : m.Event → Bool) (es : List m.Event) → AllByRecursion (λ e. p e ≡ true → IsReached (m.stamp e) (filter p es)) es
  reached-self p [] = tt
  reached-self p (e ∷ es) =
      let Here : m.Event → Type 0 = λ f. p f ≡ true → IsReached (m.stamp f) (filter p es) in
      let There : m.Event → Type 0 = λ f. p f ≡ true → IsReached (m.stamp f) (cond (p e) (e ∷ filter p es) (filter p es)) in
      let more : (f : m.Event) → Here f → There f = λ f h t.
      let Goal : Bool → Type 0 = λ b. IsReached (m.stamp f) (cond b (e ∷ filter p es) (filter p es)) in
      elim (p e) as Goal [ true ↦ inr (h t) | false ↦ h t ] in
      (λ t. rw t (inl (omega arith)), all-map Here There more es (reached-self p es))

  -- what stood before a stamp that is reached does not change
  before-append : (first t : ℕ) (es fs : List m.Event) → IsReached t es → stamp_before m.rules first (es ++ fs) t ≡ stamp_before m.rules first es t
  before-append first t [] fs h = absurd h
  before-append first t (e ∷ es) fs h =
      elim h [
        | inl l ↦ rw (le-ltb (m.stamp e) t l) refl
        | inr r ↦ ap (λ n. if nat_lt (m.stamp e) t then n else first) (before-append (m.stamp e) t es fs r)
      ]

  -- before a stamp above all of them stands the last
  before-last : (first t : ℕ) (es : List m.Event) (e : m.Event) → t ≤ m.stamp e → AllByRecursion (λ f. m.stamp f < t) es → stamp_before m.rules first (es ++ e ∷ []) t ≡ last_stamp m first es
  before-last first t [] e l h = rw (le-ltb (m.stamp e) t l) refl
  before-last first t (f ∷ es) e l h = rw (lt-ltb (m.stamp f) t h.0) (before-last (m.stamp f) t es e l h.1)

  all-one : (P : m.Event → Type 0) (es : List m.Event) (e : m.Event) → AllByRecursion P es → P e → AllByRecursion P (es ++ e ∷ [])
  all-one P [] e h k = (k, tt)
  all-one P (f ∷ es) e h k = (h.0, all-one P es e h.1 k)

  module _ (first : m.Cell → ℕ) (a : m.Cell) (log : List m.Event) (seen : m.Cell → List m.Event) (f : Follows m first a log seen) where
    seen-all : (x : m.Cell) → AllByRecursion (λ e. touches m x e ≡ true → IsReached (m.stamp e) (seen x)) log
    seen-all x =
        let p = touches m x in
        let Own : m.Event → Type 0 = λ e. p e ≡ true → IsReached (m.stamp e) (events_at m x log) in
        let Seen : m.Event → Type 0 = λ e. p e ≡ true → IsReached (m.stamp e) (seen x) in
        all-map Own Seen (λ e h t. reached-by (λ d. m.same a (m.actor d)) (m.stamp e) (seen x) (subst (IsReached (m.stamp e)) (sym (f.shared x)) (h t))) log (reached-self p log)

    -- stamps stand whatever follows
    stamped-still : (now : m.Cell → List m.Event) → ((x : m.Cell) → (more : List m.Event) × (now x ≡ seen x ++ more)) → AllByRecursion (IsNextBy m first now) log
    stamped-still now longer =
        let Reached : m.Cell → m.Event → Type 0 = λ x e. touches m x e ≡ true → IsReached (m.stamp e) (seen x) in
        let All : m.Event → Type 0 = λ e. (x : m.Cell) → Reached x e in
        let step : (e : m.Event) → All e → IsNextBy m first seen e → IsNextBy m first now e = λ e all is.
        let Touched : m.Cell → Type 0 = λ x. touches m x e ≡ true in
        let was = λ (x : m.Cell). stamp_before m.rules (first x) (seen x) (m.stamp e) in
        let still = λ (x : m.Cell). stamp_before m.rules (first x) (now x) (m.stamp e) in
        let Same : m.Cell → Type 0 = λ x. was x ≡ still x in
        let same : (x : m.Cell) → Touched x → Same x = λ x t.
        sym (ap (λ es. stamp_before m.rules (first x) es (m.stamp e)) (longer x).1 ∙ before-append (first x) (m.stamp e) (seen x) (longer x).0 (all x t)) in
        is ∙ ap (λ ns. greatest ns + 1) (map-agree was still (m.footprint e) (all-map Touched Same same (m.footprint e) (all-touched m (m.footprint e)))) in
        all-map2 All (IsNextBy m first seen) (IsNextBy m first now) step log (all-each Reached log seen-all) f.stamped

    pub later : (now : m.Cell → List m.Event) → ((x : m.Cell) → IsLater m a (seen x) (now x)) → Follows m first a log now
    later now l = record {
      shared = λ x. let is = l x in
          ap (events_by m a) is.longer ∙ (filter-append (λ d. m.same a (m.actor d)) (seen x) is.more ∙ (ap (λ es. events_by m a (seen x) ++ es) is.others ∙ (append-nil (events_by m a (seen x)) ∙ f.shared x)));
      stamped = stamped-still now (λ x. ((l x).more, (l x).longer));
    }

  module _ (first : m.Cell → ℕ) (a : m.Cell) (log : List m.Event) (e : m.Event) (before after : m.Cell → List m.Event) (f : Follows m first a log before) (made : IsMadeAfter m first a e before after) where
    -- the events at a cell are the own ones with this one
    shared-one : (x : m.Cell) → events_by m a (after x) ≡ events_at m x (log ++ e ∷ [])
    shared-one x =
        let own = events_by m a in
        let mine : own (e ∷ []) ≡ e ∷ [] = rw made.by (rw (m.same_self a) refl) in
        let Goal : Bool → Type 0 = λ b. own (if b then before x ++ e ∷ [] else before x) ≡ events_at m x log ++ cond b (e ∷ []) [] in
        ap own (made.taken x)
        ∙ (elim (touches m x e) as Goal [
          | true ↦ filter-append (λ d. m.same a (m.actor d)) (before x) (e ∷ []) ∙ (ap (λ es. own (before x) ++ es) mine ∙ ap (λ es. es ++ e ∷ []) (f.shared x))
          | false ↦ f.shared x ∙ sym (append-nil (events_at m x log))
        ]
        ∙ sym (filter-append (touches m x) log (e ∷ [])))

    goes-on : (x : m.Cell) → (more : List m.Event) × (after x ≡ before x ++ more)
    goes-on x =
        let Goal : Bool → Type 0 = λ b. (more : List m.Event) × ((if b then before x ++ e ∷ [] else before x) ≡ before x ++ more) in
        let found = elim (touches m x e) as Goal [ true ↦ (e ∷ [], refl) | false ↦ ([], sym (append-nil (before x))) ] in
        (found.0, made.taken x ∙ found.1)

    next-one : IsNextBy m first after e
    next-one =
        let Touched : m.Cell → Type 0 = λ x. touches m x e ≡ true in
        let was = λ (x : m.Cell). last_stamp m (first x) (before x) in
        let found = λ (x : m.Cell). stamp_before m.rules (first x) (after x) (m.stamp e) in
        let Same : m.Cell → Type 0 = λ x. was x ≡ found x in
        let same : (x : m.Cell) → Touched x → Same x = λ x t.
        let is : after x ≡ before x ++ e ∷ [] = made.taken x ∙ ap (λ b. if b then before x ++ e ∷ [] else before x) t in
        sym (ap (λ es. stamp_before m.rules (first x) es (m.stamp e)) is ∙ before-last (first x) (m.stamp e) (before x) e (omega arith) (made.below x t)) in
        made.stamp ∙ ap (λ ns. greatest ns + 1) (map-agree was found (m.footprint e) (all-map Touched Same same (m.footprint e) (all-touched m (m.footprint e))))

    pub made-one : Follows m first a (log ++ e ∷ []) after
    made-one = record {
      shared = shared-one;
      stamped = all-one (IsNextBy m first after) log e (stamped-still first a log before f after goes-on) next-one;
    }

  -- other first stamps serve where the touched cells have the same
  pub other-first : (first other : m.Cell → ℕ) (a : m.Cell) (log : List m.Event) (seen : m.Cell → List m.Event) → AllByRecursion (λ e. (x : m.Cell) → touches m x e ≡ true → first x ≡ other x) log → Follows m first a log seen → Follows m other a log seen
  other-first first other a log seen same f =
      let Same : m.Event → Type 0 = λ e. (x : m.Cell) → touches m x e ≡ true → first x ≡ other x in
      let step : (e : m.Event) → Same e → IsNextBy m first seen e → IsNextBy m other seen e = λ e same is.
      let Touched : m.Cell → Type 0 = λ x. touches m x e ≡ true in
      let was = λ (x : m.Cell). stamp_before m.rules (first x) (seen x) (m.stamp e) in
      let now = λ (x : m.Cell). stamp_before m.rules (other x) (seen x) (m.stamp e) in
      let Equal : m.Cell → Type 0 = λ x. was x ≡ now x in
      is ∙ ap (λ ns. greatest ns + 1) (map-agree was now (m.footprint e) (all-map Touched Equal (λ x t. ap (λ n. stamp_before m.rules n (seen x) (m.stamp e)) (same x t)) (m.footprint e) (all-touched m (m.footprint e)))) in
      record { shared = f.shared; stamped = all-map2 Same (IsNextBy m first seen) (IsNextBy m other seen) step log same f.stamped }

  pub made : (first : m.Cell → ℕ) (a : m.Cell) (log : List m.Event) (e : m.Event) (seen before after : m.Cell → List m.Event)
      → Follows m first a log seen → ((x : m.Cell) → IsLater m a (seen x) (before x)) → IsMadeAfter m first a e before after
      → Follows m first a (log ++ e ∷ []) after
  made first a log e seen before after f l is = made-one first a log e before after (later first a log seen f before l) is

  pub closed : (s : State m) (logs entries : m.Cell → List m.Event) (seen : m.Cell → m.Cell → List m.Event) → IsClosed m s logs entries seen → Agree m s logs entries
  closed s logs entries seen c =
      let first = λ (x : m.Cell). (s x).stamp in
      let each : (a : m.Cell) → Follows m first a (logs a) entries = λ a. later first a (logs a) (seen a) (c.followed a) entries (c.later a) in
      record {
        kept = c.kept;
        shared = λ x a. (each a).shared x;
        stamped = λ a. (each a).stamped;
      }
