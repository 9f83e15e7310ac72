-- Two lists that are apart, merged by taking the first event of both again and again.
use Rattle.std.proofs.Common.{◌≡◌, ◌+◌, ◌<◌, ◌⊎◌, inl, inr, Bool, true, false, cond, List, [], ◌∷◌, ◌++◌, filter, length, get_or, refl, ap, sym, subst, ◌∙◌, arith, append_assoc, length-append}
use Rattle.std.proofs.lemmas.List.{append-nil}
use Rattle.std.proofs.lemmas.Bool.{eqb-true, eq-eqb}
use Rattle.std.specs.List.{AllByRecursion}
use Rattle.hv_event.specs.declared.event.ActorId.{ActorId}
use Rattle.hv_event.specs.declared.event.ActorId.TheVariants.{Hart, Terminal}
use Rattle.hv_event.specs.declared.event.Event.{Event}
use Rattle.hv_merge.specs.Merging.{same_actor, IsBefore, IsRising, events_of, AreApart, BeginsFirst, IsTakenFrom}

-- two actors are the same where the test says so
pub same_self : (a : ActorId) → same_actor a a ≡ true
same_self (Hart h) = eq-eqb h h refl
same_self (Terminal t) = eq-eqb t t refl

pub same_only : (a b : ActorId) → same_actor a b ≡ true → a ≡ b
same_only (Hart g) (Hart h) e = ap Hart (eqb-true g h e)
same_only (Terminal t) (Terminal u) e = ap Terminal (eqb-true t u e)
same_only (Hart h) (Terminal t) e = absurd (cc)
same_only (Terminal t) (Hart h) e = absurd (cc)

-- the events of the first event's actor begin with this event
own_first : (e : Event) (es : List Event) → events_of e.actor (e ∷ es) ≡ e ∷ events_of e.actor es
own_first e es = rw (same_self e.actor) refl

-- lists that are apart do not begin with events of one actor
apart_first : (e f : Event) (es fs : List Event) → AreApart (e ∷ es) (f ∷ fs) → e.actor ≡ f.actor → ⊥
apart_first e f es fs apart same =
    let one = own_first e es in
    let other : events_of e.actor (f ∷ fs) ≡ f ∷ events_of e.actor fs = subst (λ (a : ActorId). events_of a (f ∷ fs) ≡ f ∷ events_of a fs) (sym same) (own_first f fs) in
    elim (apart e.actor) [ inl p ↦ let q = sym one ∙ p in absurd (cc) | inr p ↦ let q = sym other ∙ p in absurd (cc) ]

pub all_map : {X : Type 0} (P Q : X → Type 0) (f : (x : X) → P x → Q x) (xs : List X) → AllByRecursion P xs → AllByRecursion Q xs
all_map P Q f [] h = tt
all_map P Q f (x ∷ xs) h = (f x h.0, all_map P Q f xs h.1)

-- an element that stands before some may stand before others, if these are all that come
all_insert : {X : Type 0} (P : X → Type 0) (xs : List X) (e : X) (rest others : List X) → AllByRecursion P (xs ++ e ∷ rest) → AllByRecursion P (xs ++ others) → AllByRecursion P ((xs ++ e ∷ []) ++ others)
all_insert P [] e rest others h k = (h.0, k)
all_insert P (x ∷ xs) e rest others h k = (h.0, all_insert P xs e rest others h.1 k.1)

before_trans : (e f g : Event) → IsBefore e f → IsBefore f g → IsBefore e g
before_trans e f g h k =
    elim h [
      | inl a ↦ elim k [ inl b ↦ inl (omega arith) | inr b ↦ inl (omega arith) ]
      | inr a ↦ elim k [ inl b ↦ inl (omega arith) | inr b ↦ inr (omega arith, omega arith) ]
    ]

-- the event that begins first stands before all of the other list
begins_all : (e : Event) (es others : List Event) → BeginsFirst (e ∷ es) others → IsRising others → AllByRecursion (IsBefore e) others
begins_all e es [] first rising = tt
begins_all e es (f ∷ fs) first rising = (first, all_map (IsBefore f) (IsBefore e) (λ g. before_trans e f g first) fs rising.0)

rising_rest : (done es : List Event) → IsRising (done ++ es) → IsRising es
rising_rest [] es h = h
rising_rest (x ∷ xs) es h = rising_rest xs es h.1

rising_insert : (done : List Event) (e : Event) (rest others : List Event) → IsRising (done ++ e ∷ rest) → IsRising (done ++ others) → AllByRecursion (IsBefore e) others → IsRising ((done ++ e ∷ []) ++ others)
rising_insert [] e rest others h k before = (before, k)
rising_insert (x ∷ xs) e rest others h k before = (all_insert (IsBefore x) xs e rest others h.0 k.0, rising_insert xs e rest others h.1 k.1 before)

filter_append : {X : Type 0} (p : X → Bool) (xs ys : List X) → filter p (xs ++ ys) ≡ filter p xs ++ filter p ys
filter_append p [] ys = refl
filter_append p (x ∷ xs) ys =
    let Goal : Bool → Type 0 = λ b. cond b (x ∷ filter p (xs ++ ys)) (filter p (xs ++ ys)) ≡ cond b (x ∷ filter p xs) (filter p xs) ++ filter p ys in
    let rest = filter_append p xs ys in
    elim (p x) as Goal [ true ↦ ap (λ zs. x ∷ zs) rest | false ↦ rest ]

filter_less : {X : Type 0} (p : X → Bool) (x : X) (xs : List X) → filter p (x ∷ xs) ≡ [] → filter p xs ≡ []
filter_less p x xs =
    let Goal : Bool → Type 0 = λ b. cond b (x ∷ filter p xs) (filter p xs) ≡ [] → filter p xs ≡ [] in
    elim (p x) as Goal [ true ↦ λ h. absurd (cc) | false ↦ λ h. h ]

either_order : {X : Type 0} (xs ys : List X) → (xs ≡ []) ⊎ (ys ≡ []) → ys ++ xs ≡ xs ++ ys
either_order xs ys h =
    elim h [
      | inl p ↦ rw p (append-nil ys)
      | inr p ↦ rw p (sym (append-nil xs))
    ]

-- while two lists are merged: those that are done, and what is left of both
pub record IsMidway (ones twos done one other : List Event) : Type 0 where
  pub one_rises : IsRising (done ++ one)
  pub other_rises : IsRising (done ++ other)
  pub apart : AreApart one other
  pub whole : (a : ActorId) → events_of a done ++ (events_of a one ++ events_of a other) ≡ events_of a ones ++ events_of a twos
  pub len : length done + (length one + length other) ≡ length ones + length twos

-- which list is the one and which the other makes no difference
swapped : (ones twos done one other : List Event) → IsMidway ones twos done one other → IsMidway ones twos done other one
swapped ones twos done one other m =
    record {
      one_rises = m.other_rises;
      other_rises = m.one_rises;
      apart = λ a. elim (m.apart a) [ inl p ↦ inr p | inr p ↦ inl p ];
      whole = λ a. ap (λ es. events_of a done ++ es) (either_order (events_of a one) (events_of a other) (m.apart a)) ∙ m.whole a;
      len = let l = m.len in omega arith;
    }

regroup : {X : Type 0} (ws xs ys zs : List X) → (ws ++ xs) ++ (ys ++ zs) ≡ ws ++ ((xs ++ ys) ++ zs)
regroup ws xs ys zs = simp append_assoc

step_whole : (a : ActorId) (done : List Event) (e : Event) (rest other : List Event) → events_of a (done ++ e ∷ []) ++ (events_of a rest ++ events_of a other) ≡ events_of a done ++ (events_of a (e ∷ rest) ++ events_of a other)
step_whole a done e rest other =
    let By : Event → Bool = λ f. same_actor a f.actor in
    ap (λ es. es ++ (events_of a rest ++ events_of a other)) (filter_append By done (e ∷ []))
    ∙ (regroup (events_of a done) (events_of a (e ∷ [])) (events_of a rest) (events_of a other)
    ∙ ap (λ es. events_of a done ++ (es ++ events_of a other)) (sym (filter_append By (e ∷ []) rest)))

step_own : (ones twos done : List Event) (e : Event) (rest other : List Event) → IsMidway ones twos done (e ∷ rest) other → BeginsFirst (e ∷ rest) other → IsMidway ones twos (done ++ e ∷ []) rest other
step_own ones twos done e rest other m first =
    record {
      one_rises = subst IsRising (sym (append_assoc done (e ∷ []) rest)) m.one_rises;
      other_rises = rising_insert done e rest other m.one_rises m.other_rises (begins_all e rest other first (rising_rest done other m.other_rises));
      apart = λ a. elim (m.apart a) [ inl p ↦ inl (filter_less (λ f. same_actor a f.actor) e rest p) | inr p ↦ inr p ];
      whole = λ a. step_whole a done e rest other ∙ m.whole a;
      len = let l = m.len in omega (arith, length-append done (e ∷ []));
    }

-- taking the first event goes one step on
pub stepped : (ones twos done one other : List Event) (e : Event) (rest others : List Event) → IsMidway ones twos done one other → (IsTakenFrom one other e rest others ⊎ IsTakenFrom other one e others rest) → IsMidway ones twos (done ++ e ∷ []) rest others
stepped ones twos done one other e rest others m taken =
    elim taken [
      | inl t ↦
          let Was : List Event → Type 0 = λ es. IsMidway ones twos done es other in
          let First : List Event → Type 0 = λ es. BeginsFirst es other in
          let Now : List Event → Type 0 = λ es. IsMidway ones twos (done ++ e ∷ []) rest es in
          subst Now (sym t.kept) (step_own ones twos done e rest other (subst Was t.taken m) (subst First t.taken t.first))
      | inr t ↦
          let Was : List Event → Type 0 = λ es. IsMidway ones twos done es one in
          let First : List Event → Type 0 = λ es. BeginsFirst es one in
          let Now : List Event → Type 0 = λ es. IsMidway ones twos (done ++ e ∷ []) es others in
          subst Now (sym t.kept) (swapped ones twos (done ++ e ∷ []) others one (step_own ones twos done e others one (subst Was t.taken (swapped ones twos done one other m)) (subst First t.taken t.first)))
    ]

-- an element at offset 0 is the first of a list that has one
pub first_at : (es : List Event) (e : Event) → 0 < length es → e ≡ get_or es 0 e → (rest : List Event) × (es ≡ e ∷ rest)
first_at [] e some here = absurd (omega arith)
first_at (f ∷ fs) e some here = (fs, ap (λ g. g ∷ fs) (sym here))

-- lists that are apart have first events of different actors
pub apart_at : (one other : List Event) (e f : Event) → AreApart one other → 0 < length one → e ≡ get_or one 0 e → 0 < length other → f ≡ get_or other 0 f → e.actor ≡ f.actor → ⊥
apart_at one other e f apart some here more there =
    let p = first_at one e some here in
    let q = first_at other f more there in
    apart_first e f p.0 q.0 (subst (AreApart (e ∷ p.0)) q.1 (subst (λ es. AreApart es other) p.1 apart))
