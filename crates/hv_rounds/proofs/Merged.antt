-- The merged logs of a run, as entries.
use Rattle.std.proofs.Common.{◌≡◌, ◌≢◌, ℕ, zero, suc, ◌<◌, inl, inr, Bool, true, false, eq-eqb, eqb-true, List, [], ◌∷◌, map, filter, cond, refl, ap, sym, subst, ◌∙◌, arith}
use Rattle.std.proofs.lemmas.Bool.{ne_eqb}
use Rattle.std.specs.List.{AllByRecursion, flat_map}
use Rattle.hv_machine.specs.Machine.{events_by}
use Rattle.hv_machine.specs.Merging.{IsMerged}
use Rattle.hv_machine.specs.Merging.{IsRising as RisesIn}
use Rattle.hv_machine.specs.Merging.{IsBefore as StandsBefore}
use Rattle.hv_machine.proofs.Lists.{filter-none, filter-agree, append-nothing, all-of}
use Rattle.hv_event.specs.declared.event.ActorId.{ActorId}
use Rattle.hv_event.specs.declared.event.ActorId.TheVariants.{Hart, Terminal}
use Rattle.hv_event.specs.declared.event.Event.{Event}
use Rattle.hv_merge.specs.Merging.{IsMergeOf, IsRising, IsBefore, events_of, IsLog, AreLogs, HaveDifferentActors}
use Rattle.hv_merge.specs.Merging.{same_actor as same_in_merge}
use Rattle.hv_merge.specs.Merging.{rank_of as rank_in_merge}
use Rattle.hv_model.specs.declared.entry.Entry.{Entry}
use Rattle.hv_model.specs.Origin.{Origin}
use Rattle.hv_model.specs.Cell.{Cell, Component, Actor, same_cell, same_actor, rank_of}
use Rattle.hv_model.specs.CellLaws.{same_actor-self, same_actor-only}
use Rattle.hv_model.specs.Rules.{machine}
use Rattle.hv_model.specs.Report.{is_terminal}
use Rattle.hv_rounds.specs.Board.{own_events, IsByTerminal}
use Rattle.hv_rounds.specs.Close.{logs_of}

abbrev pub event_of : Entry → Event
event_of e = e.event

same-agree : (a b : ActorId) → same_in_merge a b ≡ same_actor a b
same-agree (Hart g) (Hart h) = refl
same-agree (Hart g) (Terminal t) = refl
same-agree (Terminal t) (Hart h) = refl
same-agree (Terminal t) (Terminal u) = refl

rank-agree : (a : ActorId) → rank_in_merge a ≡ rank_of (Actor a)
rank-agree (Hart h) = refl
rank-agree (Terminal t) = refl

-- the entries by an actor
abbrev pub entries_by : ActorId → List Entry → List Entry
entries_by a es = filter (λ (e : Entry). same_actor a e.event.actor) es

none-mapped : (es : List Entry) → map event_of es ≡ [] → es ≡ []
none-mapped [] h = refl
none-mapped (e ∷ es) h = absurd (cc)

some-mapped : (es : List Entry) (h : Event) (hs : List Event) → map event_of es ≡ h ∷ hs → (f : Entry) × (fs : List Entry) × (es ≡ f ∷ fs) × (f.event ≡ h) × (map event_of fs ≡ hs)
some-mapped [] h hs is = absurd (cc)
some-mapped (e ∷ es) h hs is = let head : e.event ≡ h = cc in let tail : map event_of es ≡ hs = cc in (e, es, refl, head, tail)

here-first : (h : Event) (hs : List Event) → events_of h.actor (h ∷ hs) ≡ h ∷ events_of h.actor hs
here-first h hs = rw (same-agree h.actor h.actor ∙ same_actor-self h.actor) refl

not-here : (a : ActorId) (h : Event) (hs : List Event) → same_actor a h.actor ≡ false → events_of a (h ∷ hs) ≡ events_of a hs
not-here a h hs is = rw (same-agree a h.actor ∙ is) refl

pub by-here : (a : ActorId) (f : Entry) (fs : List Entry) → same_actor a f.event.actor ≡ true → entries_by a (f ∷ fs) ≡ f ∷ entries_by a fs
by-here a f fs is = rw is refl

pub by-other : (a : ActorId) (f : Entry) (fs : List Entry) → same_actor a f.event.actor ≡ false → entries_by a (f ∷ fs) ≡ entries_by a fs
by-other a f fs is = rw is refl

pub record Lifted (H : List Event) (L : ActorId → List Entry) : Type 0 where
  pub all : List Entry
  pub events : map event_of all ≡ H
  pub whole : (a : ActorId) → entries_by a all ≡ L a

-- a list of events that has of each actor the events of some entries is that of entries
pub lift : (H : List Event) (L : ActorId → List Entry) → ((a : ActorId) → events_of a H ≡ map event_of (L a)) → Lifted H L
lift [] L is = record { all = []; events = refl; whole = λ a. sym (none-mapped (L a) (sym (is a))) }
lift (h ∷ hs) L is =
    let own = some-mapped (L h.actor) h (events_of h.actor hs) (sym (is h.actor) ∙ here-first h hs) in
    let f : Entry = own.0 in
    let fs : List Entry = own.1 in
    let rest : ActorId → List Entry = λ a. elim (same_actor a h.actor) [ true ↦ fs | false ↦ L a ] in
    let Rest : ActorId → Bool → Type 0 = λ a b. same_actor a h.actor ≡ b → events_of a hs ≡ map event_of (elim b [ true ↦ fs | false ↦ L a ]) in
    let more = lift hs rest (λ a. elim (same_actor a h.actor) as (Rest a) [
      | true ↦ λ same. let At : ActorId → Type 0 = λ x. events_of x hs ≡ map event_of fs in subst At (sym (same_actor-only a h.actor same)) (sym own.4)
      | false ↦ λ apart. sym (not-here a h hs apart) ∙ is a
    ] refl) in
    let actor : f.event.actor ≡ h.actor = ap (λ (e : Event). e.actor) own.3 in
    let Whole : ActorId → Bool → Type 0 = λ a b. same_actor a h.actor ≡ b → entries_by a more.all ≡ elim b [ true ↦ fs | false ↦ L a ] → entries_by a (f ∷ more.all) ≡ L a in
    record {
      all = f ∷ more.all;
      events = ap (λ (e : Event). e ∷ map event_of more.all) own.3 ∙ ap (λ (es : List Event). h ∷ es) more.events;
      whole = λ a. elim (same_actor a h.actor) as (Whole a) [
        | true ↦ λ same found.
            by-here a f more.all (ap (same_actor a) actor ∙ same) ∙ ap (λ (es : List Entry). f ∷ es) found ∙ sym own.2 ∙ ap L (sym (same_actor-only a h.actor same))
        | false ↦ λ apart found. by-other a f more.all (ap (same_actor a) actor ∙ apart) ∙ found
      ] refl (more.whole a);
    }

-- the four logs

map-filter : (p : Event → Bool) (es : List Entry) → map event_of (filter (λ (e : Entry). p e.event) es) ≡ filter p (map event_of es)
map-filter p [] = refl
map-filter p (e ∷ es) =
    let Goal : Bool → Type 0 = λ b. map event_of (cond b (e ∷ filter (λ (x : Entry). p x.event) es) (filter (λ (x : Entry). p x.event) es)) ≡ cond b (e.event ∷ filter p (map event_of es)) (filter p (map event_of es)) in
    elim (p e.event) as Goal [ true ↦ ap (λ zs. e.event ∷ zs) (map-filter p es) | false ↦ map-filter p es ]

same-terminal : (t : ℕ) (a : ActorId) → same_actor (Terminal t) a ≡ is_terminal t a
same-terminal t (Hart h) = refl
same-terminal t (Terminal u) = refl

own-mapped : (t : ℕ) (es : List Entry) → map event_of (entries_by (Terminal t) es) ≡ own_events t es
own-mapped t es =
    ap (map event_of) (filter-agree (λ (e : Entry). same_actor (Terminal t) e.event.actor) (λ (e : Entry). is_terminal t e.event.actor) es (λ e. same-terminal t e.event.actor))
    ∙ map-filter (λ e. is_terminal t e.actor) es

own-of-own : (t : ℕ) (es : List Event) → events_of (Terminal t) (filter (λ e. is_terminal t e.actor) es) ≡ filter (λ e. is_terminal t e.actor) es
own-of-own t [] = refl
own-of-own t (e ∷ es) =
    let p : Event → Bool = λ x. is_terminal t x.actor in
    let Goal : Bool → Type 0 = λ b. is_terminal t e.actor ≡ b → events_of (Terminal t) (cond b (e ∷ filter p es) (filter p es)) ≡ cond b (e ∷ filter p es) (filter p es) in
    elim (is_terminal t e.actor) as Goal [
      | true ↦ λ is. rw (same-agree (Terminal t) e.actor ∙ same-terminal t e.actor ∙ is) (ap (λ zs. e ∷ zs) (own-of-own t es))
      | false ↦ λ is. own-of-own t es
    ] refl

-- whether an actor is no terminal of a number
abbrev IsApart : ActorId → ℕ → Type 0
IsApart a u = (b : ActorId) → is_terminal u b ≡ true → same_actor a b ≡ false

none-of-own : (a : ActorId) (u : ℕ) → IsApart a u → (es : List Event) → events_of a (filter (λ e. is_terminal u e.actor) es) ≡ []
none-of-own a u apart [] = refl
none-of-own a u apart (e ∷ es) =
    let p : Event → Bool = λ x. is_terminal u x.actor in
    let Goal : Bool → Type 0 = λ b. is_terminal u e.actor ≡ b → events_of a (cond b (e ∷ filter p es) (filter p es)) ≡ [] in
    elim (is_terminal u e.actor) as Goal [
      | true ↦ λ is. rw (same-agree a e.actor ∙ apart e.actor is) (none-of-own a u apart es)
      | false ↦ λ is. none-of-own a u apart es
    ] refl

hart-apart : (h u : ℕ) → IsApart (Hart h) u
hart-apart h u (Hart g) is = absurd (cc)
hart-apart h u (Terminal t) is = refl

terminal-apart : (t u : ℕ) → t ≢ u → IsApart (Terminal t) u
terminal-apart t u apart (Hart g) is = refl
terminal-apart t u apart (Terminal v) is = let same : u ≡ v = eqb-true u v is in ne_eqb t v (λ q. apart (q ∙ sym same))

no-entries : (a : ActorId) (es : List Entry) → ((u : ℕ) → u < 4 → IsApart a u) → AllByRecursion IsByTerminal es → entries_by a es ≡ []
no-entries a [] apart by = refl
no-entries a (e ∷ es) apart by =
    let here : same_actor a e.event.actor ≡ false = apart by.0.number by.0.is_one e.event.actor (ap (is_terminal by.0.number) by.0.actor ∙ eq-eqb by.0.number by.0.number refl) in
    by-other a e es here ∙ no-entries a es apart by.1

none-in-logs : (a : ActorId) (es : List Entry) → ((u : ℕ) → u < 4 → IsApart a u) → flat_map (events_of a) (logs_of es) ≡ []
none-in-logs a es apart =
    let H = map event_of es in
    rw (none-of-own a 0 (apart 0 (omega arith)) H, none-of-own a 1 (apart 1 (omega arith)) H, none-of-own a 2 (apart 2 (omega arith)) H, none-of-own a 3 (apart 3 (omega arith)) H) refl

pub logs-of-actor : (es : List Entry) → AllByRecursion IsByTerminal es → (a : ActorId) → flat_map (events_of a) (logs_of es) ≡ map event_of (entries_by a es)
logs-of-actor es by (Hart h) =
    none-in-logs (Hart h) es (λ u lt. hart-apart h u) ∙ ap (map event_of) (sym (no-entries (Hart h) es (λ u lt. hart-apart h u) by))
logs-of-actor es by (Terminal zero) =
    let H = map event_of es in
    rw (own-of-own 0 H, none-of-own (Terminal 0) 1 (terminal-apart 0 1 (λ q. omega arith)) H, none-of-own (Terminal 0) 2 (terminal-apart 0 2 (λ q. omega arith)) H, none-of-own (Terminal 0) 3 (terminal-apart 0 3 (λ q. omega arith)) H) (append-nothing (own_events 0 es)) ∙ sym (own-mapped 0 es)
logs-of-actor es by (Terminal (suc zero)) =
    let H = map event_of es in
    rw (none-of-own (Terminal 1) 0 (terminal-apart 1 0 (λ q. omega arith)) H, own-of-own 1 H, none-of-own (Terminal 1) 2 (terminal-apart 1 2 (λ q. omega arith)) H, none-of-own (Terminal 1) 3 (terminal-apart 1 3 (λ q. omega arith)) H) (append-nothing (own_events 1 es)) ∙ sym (own-mapped 1 es)
logs-of-actor es by (Terminal (suc (suc zero))) =
    let H = map event_of es in
    rw (none-of-own (Terminal 2) 0 (terminal-apart 2 0 (λ q. omega arith)) H, none-of-own (Terminal 2) 1 (terminal-apart 2 1 (λ q. omega arith)) H, own-of-own 2 H, none-of-own (Terminal 2) 3 (terminal-apart 2 3 (λ q. omega arith)) H) (append-nothing (own_events 2 es)) ∙ sym (own-mapped 2 es)
logs-of-actor es by (Terminal (suc (suc (suc zero)))) =
    let H = map event_of es in
    rw (none-of-own (Terminal 3) 0 (terminal-apart 3 0 (λ q. omega arith)) H, none-of-own (Terminal 3) 1 (terminal-apart 3 1 (λ q. omega arith)) H, none-of-own (Terminal 3) 2 (terminal-apart 3 2 (λ q. omega arith)) H, own-of-own 3 H) (append-nothing (own_events 3 es)) ∙ sym (own-mapped 3 es)
logs-of-actor es by (Terminal (suc (suc (suc (suc t))))) =
    let a = Terminal (suc (suc (suc (suc t)))) in
    none-in-logs a es (λ u lt. terminal-apart (suc (suc (suc (suc t)))) u (λ q. omega arith))
    ∙ ap (map event_of) (sym (no-entries a es (λ u lt. terminal-apart (suc (suc (suc (suc t)))) u (λ q. omega arith)) by))

-- in order by stamp

before-lifted : (O : Origin) (e f : Entry) → IsBefore e.event f.event → StandsBefore (machine O) rank_of e f
before-lifted O e f (inl less) = inl less
before-lifted O e f (inr same) =
    inr (same.0, subst (λ (n : ℕ). n < rank_of (Actor f.event.actor)) (rank-agree e.event.actor) (subst (λ (n : ℕ). rank_in_merge e.event.actor < n) (rank-agree f.event.actor) same.1))

all-lifted : (O : Origin) (e : Entry) (es : List Entry) → AllByRecursion (IsBefore e.event) (map event_of es) → AllByRecursion (StandsBefore (machine O) rank_of e) es
all-lifted O e [] h = tt
all-lifted O e (f ∷ es) h = (before-lifted O e f h.0, all-lifted O e es h.1)

rises-lifted : (O : Origin) (es : List Entry) → IsRising (map event_of es) → RisesIn (machine O) rank_of es
rises-lifted O [] h = tt
rises-lifted O (e ∷ es) h = (all-lifted O e es h.0, rises-lifted O es h.1)

-- what the merged logs are of
pub record MergedEntries (O : Origin) (es : List Entry) (H : List Event) : Type 0 where
  pub all : List Entry
  pub events : map event_of all ≡ H
  pub merged : IsMerged (machine O) rank_of (λ a. events_by (machine O) a es) all

by-cell : (O : Origin) (x : Cell) (all es : List Entry) → ((a : ActorId) → entries_by a all ≡ entries_by a es) → events_by (machine O) x all ≡ events_by (machine O) x es
by-cell O (Actor a) all es same = same a
by-cell O (Component c) all es same =
    filter-none (λ (e : Entry). same_cell (Component c) (Actor e.event.actor)) all (all-of (λ (e : Entry). same_cell (Component c) (Actor e.event.actor) ≡ false) (λ e. refl) all)
    ∙ sym (filter-none (λ (e : Entry). same_cell (Component c) (Actor e.event.actor)) es (all-of (λ (e : Entry). same_cell (Component c) (Actor e.event.actor) ≡ false) (λ e. refl) es))

pub merged-entries : (O : Origin) (es : List Entry) (H : List Event) → AllByRecursion IsByTerminal es → IsMergeOf (logs_of es) H → MergedEntries O es H
merged-entries O es H by m =
    let lifted = lift H (λ a. entries_by a es) (λ a. m.whole a ∙ logs-of-actor es by a) in
    let Rises : List Event → Type 0 = IsRising in
    record {
      all = lifted.all;
      events = lifted.events;
      merged = record { rising = rises-lifted O lifted.all (subst Rises (sym lifted.events) m.rising); whole = λ x. by-cell O x lifted.all es lifted.whole };
    }

-- the events of a terminal in the merged list are its log
pub own-in-merged : (es : List Entry) (H : List Event) → AllByRecursion IsByTerminal es → IsMergeOf (logs_of es) H → (t : ℕ) → filter (λ e. is_terminal t e.actor) H ≡ own_events t es
own-in-merged es H by m t =
    filter-agree (λ (e : Event). is_terminal t e.actor) (λ (e : Event). same_in_merge (Terminal t) e.actor) H (λ e. sym (same-agree (Terminal t) e.actor ∙ same-terminal t e.actor))
    ∙ m.whole (Terminal t) ∙ logs-of-actor es by (Terminal t) ∙ own-mapped t es

-- the logs are logs of different actors

apart-all : (t u : ℕ) → t ≢ u → (one other : List Event) → AllByRecursion (λ e. e.actor ≡ Terminal t) one → AllByRecursion (λ e. e.actor ≡ Terminal u) other → HaveDifferentActors one other
apart-all t u apart [] other h k = tt
apart-all t u apart (e ∷ one) other h k = (apart-one other k, apart-all t u apart one other h.1 k)
  where
    apart-one : (fs : List Event) → AllByRecursion (λ f. f.actor ≡ Terminal u) fs → AllByRecursion (λ f. e.actor ≢ f.actor) fs
    apart-one [] k = tt
    apart-one (f ∷ fs) k = (λ same. (let both : Terminal t ≡ Terminal u = sym h.0 ∙ same ∙ k.0 in apart (cc)), apart-one fs k.1)

pub are-logs : (es : List Entry) → ((t : ℕ) → t < 4 → IsLog (own_events t es)) → ((t : ℕ) → t < 4 → AllByRecursion (λ e. e.actor ≡ Terminal t) (own_events t es)) → AreLogs (logs_of es)
are-logs es log own =
    let different = λ (t u : ℕ) (lt : t < 4) (lu : u < 4) (apart : t ≢ u). apart-all t u apart (own_events t es) (own_events u es) (own t lt) (own u lu) in (
      log 0 (omega arith),
      (different 0 1 (omega arith) (omega arith) (λ q. omega arith), (different 0 2 (omega arith) (omega arith) (λ q. omega arith), (different 0 3 (omega arith) (omega arith) (λ q. omega arith), tt))),
      (
        log 1 (omega arith),
        (different 1 2 (omega arith) (omega arith) (λ q. omega arith), (different 1 3 (omega arith) (omega arith) (λ q. omega arith), tt)),
        (log 2 (omega arith), (different 2 3 (omega arith) (omega arith) (λ q. omega arith), tt), (log 3 (omega arith), tt, tt)),
      ),
    )
