-- A run leads where its merged history leads.
use Rattle.std.proofs.Common.{◌≡◌, ◌≤◌, List, [], ◌∷◌, ◌++◌, map, refl, ap, sym, subst, ◌∙◌}
use Rattle.std.specs.List.{AllByRecursion}
use Rattle.hv_text.specs.declared.limits.TheConstants.{GREATEST_STAMP}
use Rattle.hv_machine.specs.Machine.{Machine, State, events_at, events_by, state_after}
use Rattle.hv_machine.specs.Merging.{IsRising, IsMerged}
use Rattle.hv_machine.specs.Phases.{IsTwoPart, IsTwoPartRun}
use Rattle.hv_machine.proofs.Lists.{all-filter, filter-append, append-nothing}
use Rattle.hv_machine.proofs.MergingLemmas.{own-first, all-by}
use Rattle.hv_machine.proofs.PhasesLemmas.{two-part, began-of-two-part, same-end}
use Rattle.hv_model.specs.Origin.{Origin}
use Rattle.hv_model.specs.Cell.{Cell, is_actor, rank_of}
use Rattle.hv_model.specs.Entry.{Entry}
use Rattle.hv_model.specs.Rules.{machine}
use Rattle.hv_model.specs.Terminal.{IsAtBootEnd}
use Rattle.hv_model.specs.Legal.{first, start, own_at_start, booted, begun, reached, IsRunOf, Leads}
use Rattle.hv_model.proofs.BoardLemmas.{has-actors}

abbrev pub logs_of : Origin → List Entry → Cell → List Entry
logs_of O es a = events_by (machine O) a es

abbrev pub InRange : List Entry → Type 0
InRange es = AllByRecursion (λ e. e.event.stamp ≤ GREATEST_STAMP) es

-- a fact on all events that were made is one on the merged list
pub all-merged : (O : Origin) (P : Entry → Type 0) (made all : List Entry) → IsMerged (machine O) rank_of (logs_of O made) all → AllByRecursion P made → AllByRecursion P all
all-merged O P made all merged each =
    let Of : List Entry → Type 0 = AllByRecursion P in
    all-by (machine O) P all (λ a. subst Of (sym (merged.whole a)) (all-filter P (λ e. (machine O).same a ((machine O).actor e)) made each))

pub in-range-merged : (O : Origin) (made all : List Entry) → IsMerged (machine O) rank_of (logs_of O made) all → InRange made → InRange all
in-range-merged O made all merged range = all-merged O (λ e. e.event.stamp ≤ GREATEST_STAMP) made all merged range

abbrev parts_of : (O : Origin) (boot made all : List Entry) → IsTwoPart (machine O) is_actor first (start O) boot made → IsMerged (machine O) rank_of (logs_of O (boot ++ made)) all
    → IsTwoPartRun (machine O) is_actor first (start O) (λ x. events_at (machine O) x (boot ++ made)) boot all
parts_of O boot made all parts merged =
    two-part (machine O) rank_of is_actor first (has-actors O) refl (start O) (logs_of O (boot ++ made)) (λ x. events_at (machine O) x (boot ++ made))
    boot (events_by (machine O) first made) all (began-of-two-part (machine O) rank_of is_actor first (has-actors O) refl (start O) boot made parts) merged

run-of : (O : Origin) (boot made all : List Entry) (parts : IsTwoPart (machine O) is_actor first (start O) boot made)
    (merged : IsMerged (machine O) rank_of (logs_of O (boot ++ made)) all) → InRange (boot ++ made) → (booted O boot first).value.session.own ≡ own_at_start O 0
    → IsRunOf O (map (λ e. e.event) all) boot (parts_of O boot made all parts merged).later
run-of O boot made all parts merged range within =
    let whole = (parts_of O boot made all parts merged).whole in
    let events = λ (es : List Entry). map (λ (e : Entry). e.event) es in
    let Rises : List Entry → Type 0 = IsRising (machine O) rank_of in
    let Range : List Entry → Type 0 = InRange in
    record {
      events = ap events (sym whole);
      rising = subst Rises whole merged.rising;
      in_range = subst Range whole (in-range-merged O (boot ++ made) all merged range);
      parts = (parts_of O boot made all parts merged).parts;
      within = within;
    }

-- a run whose boot script has ended
pub made-leads : (O : Origin) (boot made all : List Entry) → IsTwoPart (machine O) is_actor first (start O) boot made → IsMerged (machine O) rank_of (logs_of O (boot ++ made)) all
    → InRange (boot ++ made) → (booted O boot first).value.session.own ≡ own_at_start O 0 → IsAtBootEnd (booted O boot first).value
    → Leads O (map (λ e. e.event) all) (state_after (machine O) (begun O boot) made)
made-leads O boot made all parts merged range within at_end =
    let later = (parts_of O boot made all parts merged).later in
    let same : ◌≡◌ {A = State (machine O)} (state_after (machine O) (begun O boot) made) (reached O boot later) =
    λ i x. sym (same-end (machine O) rank_of is_actor first (has-actors O) refl (start O) boot made all parts merged x) i in
    record {
      boot = boot;
      later = later;
      runs = run-of O boot made all parts merged range within;
      state = record { ended = λ _. same; unended = λ not_ended. absurd (not_ended at_end) };
    }

no-events : (m : Machine) (es : List m.Event) → ((a : m.Cell) → events_by m a es ≡ []) → es ≡ []
no-events m [] none = refl
no-events m (e ∷ es) none = let own = sym (own-first m e es) ∙ none (m.actor e) in absurd (cc)

append-cancel : {X : Type 0} (xs ys : List X) → xs ++ ys ≡ xs → ys ≡ []
append-cancel [] ys e = e
append-cancel (x ∷ xs) ys e = append-cancel xs ys (cc)

-- a run that stopped within its boot script
pub boot-leads : (O : Origin) (boot all : List Entry) → IsTwoPart (machine O) is_actor first (start O) boot [] → IsMerged (machine O) rank_of (logs_of O (boot ++ [])) all
    → InRange (boot ++ []) → (booted O boot first).value.session.own ≡ own_at_start O 0 → (IsAtBootEnd (booted O boot first).value → ⊥)
    → Leads O (map (λ e. e.event) all) (booted O boot)
boot-leads O boot all parts merged range within not_at_end =
    let m = machine O in
    let found = parts_of O boot [] all parts merged in
    let later = found.later in
    let none : later ≡ [] =
    no-events m later (λ a.
    append-cancel (events_by m a boot) (events_by m a later)
    (sym (filter-append (λ e. m.same a (m.actor e)) boot later) ∙ ap (events_by m a) (sym found.whole) ∙ merged.whole a ∙ ap (events_by m a) (append-nothing boot))) in
    record {
      boot = boot;
      later = later;
      runs = run-of O boot [] all parts merged range within;
      state = record { ended = λ at_end. absurd (not_at_end at_end); unended = λ _. (none, refl) };
    }
