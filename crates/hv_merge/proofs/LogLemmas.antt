-- Logs, and the merges of two parts of them.
use Rattle.std.proofs.Common.{◌≡◌, ℕ, ◌<◌, ◌⊎◌, inl, inr, Bool, true, false, cond, List, [], ◌∷◌, ◌++◌, map, length, take, drop, length-append, arith, refl, ap, sym, subst, ◌∙◌}
use Rattle.std.specs.List.{AllByRecursion, flat_map}
use Rattle.std.proofs.lemmas.List.{append-nil, map-append, take-append-drop}
use Rattle.std.proofs.lemmas.List.Concat.{flat_map-append}
use Rattle.hv_event.specs.declared.event.ActorId.{ActorId}
use Rattle.hv_event.specs.declared.event.Event.{Event}
use Rattle.hv_merge.specs.Merging.{same_actor, IsBefore, IsRising, events_of, IsMergeOf, IsFollowedBy, IsLog, HaveDifferentActors, AreApart, AreLogs}
use Rattle.hv_merge.proofs.PairLemmas.{same_only, all_map}

log_rises : (es : List Event) → IsLog es → IsRising es
log_rises [] h = tt
log_rises (e ∷ es) h =
    let Later : Event → Type 0 = IsFollowedBy e in
    let Before : Event → Type 0 = IsBefore e in
    (all_map Later Before (λ f l. inl l.1) es h.0, log_rises es h.1)

all_front : {X : Type 0} (P : X → Type 0) (xs ys : List X) → AllByRecursion P (xs ++ ys) → AllByRecursion P xs
all_front P [] ys h = tt
all_front P (x ∷ xs) ys h = (h.0, all_front P xs ys h.1)

all_back : {X : Type 0} (P : X → Type 0) (xs ys : List X) → AllByRecursion P (xs ++ ys) → AllByRecursion P ys
all_back P [] ys h = h
all_back P (x ∷ xs) ys h = all_back P xs ys h.1

-- a part of some logs are logs
pub front_logs : (xs ys : List (List Event)) → AreLogs (xs ++ ys) → AreLogs xs
front_logs [] ys h = tt
front_logs (x ∷ xs) ys h = (h.0, all_front (HaveDifferentActors x) xs ys h.1, front_logs xs ys h.2)

pub back_logs : (xs ys : List (List Event)) → AreLogs (xs ++ ys) → AreLogs ys
back_logs [] ys h = h
back_logs (x ∷ xs) ys h = back_logs xs ys h.2

none_by : (a : ActorId) (es : List Event) → AllByRecursion (λ f. a ≡ f.actor → ⊥) es → events_of a es ≡ []
none_by a [] h = refl
none_by a (f ∷ fs) h =
    let Goal : Bool → Type 0 = λ b. same_actor a f.actor ≡ b → cond b (f ∷ events_of a fs) (events_of a fs) ≡ [] in
    elim (same_actor a f.actor) as Goal [ true ↦ λ e. absurd (h.0 (same_only a f.actor e)) | false ↦ λ e. none_by a fs h.1 ] refl

-- lists with different actors are apart
pub different_apart : (one other : List Event) → HaveDifferentActors one other → AreApart one other
different_apart [] other h a = inl refl
different_apart (e ∷ es) other h a =
    let Other : ActorId → Type 0 = λ x. AllByRecursion (λ f. x ≡ f.actor → ⊥) other in
    let Goal : Bool → Type 0 = λ b. same_actor a e.actor ≡ b → (cond b (e ∷ events_of a es) (events_of a es) ≡ []) ⊎ (events_of a other ≡ []) in
    elim (same_actor a e.actor) as Goal [
      | true ↦ λ p. inr (none_by a other (subst Other (sym (same_only a e.actor p)) h.0))
      | false ↦ λ _. different_apart es other h.1 a
    ] refl

-- a log that has another actor than each of some logs is apart from all together
apart_from : (x : List Event) (ys : List (List Event)) → AllByRecursion (HaveDifferentActors x) ys → (a : ActorId) → (events_of a x ≡ []) ⊎ (flat_map (events_of a) ys ≡ [])
apart_from x [] h a = inr refl
apart_from x (y ∷ ys) h a =
    elim (different_apart x y h.0 a) [
      | inl p ↦ inl p
      | inr p ↦ elim (apart_from x ys h.1 a) [ inl q ↦ inl q | inr q ↦ inr (rw (p, q) refl) ]
    ]

-- no actor has events in two parts of some logs
apart_parts : (xs ys : List (List Event)) → AreLogs (xs ++ ys) → (a : ActorId) → (flat_map (events_of a) xs ≡ []) ⊎ (flat_map (events_of a) ys ≡ [])
apart_parts [] ys h a = inl refl
apart_parts (x ∷ xs) ys h a =
    elim (apart_from x ys (all_back (HaveDifferentActors x) xs ys h.1) a) [
      | inl p ↦ elim (apart_parts xs ys h.2 a) [ inl q ↦ inl (rw (p, q) refl) | inr q ↦ inr q ]
      | inr p ↦ inr p
    ]

-- the merges of two parts are apart
pub merges_apart : (xs ys : List (List Event)) (one other : List Event) → AreLogs (xs ++ ys) → IsMergeOf xs one → IsMergeOf ys other → AreApart one other
merges_apart xs ys one other logs m k =
    λ a. elim (apart_parts xs ys logs a) [ inl p ↦ inl (m.whole a ∙ p) | inr p ↦ inr (k.whole a ∙ p) ]

-- the merge of the merges of two parts is that of all
pub merges_joined : (xs ys : List (List Event)) (one other all : List Event) → IsMergeOf xs one → IsMergeOf ys other → IsMergeOf (one ∷ other ∷ []) all → IsMergeOf (xs ++ ys) all
merges_joined xs ys one other all m k both =
    record {
      rising = both.rising;
      whole = λ a.
          both.whole a
          ∙ (ap (λ es. es ++ (events_of a other ++ [])) (m.whole a)
          ∙ (ap (λ es. flat_map (events_of a) xs ++ es) (append-nil (events_of a other) ∙ k.whole a)
          ∙ sym (flat_map-append (events_of a) xs ys)));
    }

one_log : (log : List Event) → AreLogs (log ∷ []) → IsMergeOf (log ∷ []) log
one_log log h = record { rising = log_rises log h.0; whole = λ a. sym (append-nil (events_of a log)) }

no_log : IsMergeOf [] []
no_log = record { rising = tt; whole = λ a. refl }

-- logs of which one half is cut off
module _ {X : Type 0} (items : X → List Event) (logs : List X) (half : ℕ) where
  halves : map items (take half logs) ++ map items (drop half logs) ≡ map items logs
  halves = sym (map-append items (take half logs) (drop half logs)) ∙ ap (λ xs. map items xs) (take-append-drop half logs)

  pub half_logs : AreLogs (map items logs) → AreLogs (map items (take half logs))
  half_logs h = front_logs (map items (take half logs)) (map items (drop half logs)) (subst AreLogs (sym halves) h)

  pub other_half_logs : AreLogs (map items logs) → AreLogs (map items (drop half logs))
  other_half_logs h = back_logs (map items (take half logs)) (map items (drop half logs)) (subst AreLogs (sym halves) h)

  module _ (one other : List Event) (m : IsMergeOf (map items (take half logs)) one) (k : IsMergeOf (map items (drop half logs)) other) where
    pub halves_apart : AreLogs (map items logs) → AreApart one other
    halves_apart h = merges_apart (map items (take half logs)) (map items (drop half logs)) one other (subst AreLogs (sym halves) h) m k

    pub halves_joined : (all : List Event) → IsMergeOf (one ∷ other ∷ []) all → IsMergeOf (map items logs) all
    halves_joined all both = subst (λ ls. IsMergeOf ls all) halves (merges_joined (map items (take half logs)) (map items (drop half logs)) one other all m k both)

-- one log alone is its own merge, and no logs give no events
pub at_one : {X : Type 0} (items : X → List Event) (logs rest : List X) (log : X) → logs ≡ rest ++ log ∷ [] → length logs < 2 → AreLogs (map items logs) → IsMergeOf (map items logs) (items log)
at_one {X} items logs [] log same few h =
    let One : List X → Type 0 = λ ls. IsMergeOf (map items ls) (items log) in
    subst One (sym same) (one_log (items log) (subst (λ ls. AreLogs (map items ls)) same h))
at_one items logs (x ∷ xs) log same few h = absurd (omega (arith, ap length same, length-append xs (log ∷ [])))

pub at_none : {X : Type 0} (items : X → List Event) (logs : List X) → length logs ≡ 0 → IsMergeOf (map items logs) []
at_none items [] none = no_log
at_none items (x ∷ xs) none = absurd (omega arith)
