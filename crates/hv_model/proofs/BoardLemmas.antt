-- A closed board's history is legal.
use Rattle.std.proofs.Common.{◌≡◌, ◌≤◌, Bool, true, false, ◌||◌, List, [], ◌∷◌, ◌++◌, map, refl, ap, sym, subst, ◌∙◌}
use Rattle.std.specs.List.{AllByRecursion, list_any}
use Rattle.hv_text.specs.declared.limits.TheConstants.{GREATEST_STAMP}
use Rattle.hv_machine.specs.Machine.{touches, events_at, events_by, state_after}
use Rattle.hv_machine.specs.Merging.{IsRising, fold_at}
use Rattle.hv_machine.specs.Phases.{HasActors, IsTwoPartRun}
use Rattle.hv_machine.proofs.PhasesLemmas.{two-part, began-of-two-part}
use Rattle.hv_event.specs.declared.event.CellId.{CellId}
use Rattle.hv_event.specs.declared.event.ActorId.{ActorId}
use Rattle.hv_event.specs.declared.event.Event.{Event}
use Rattle.hv_model.specs.Origin.{Origin}
use Rattle.hv_model.specs.Cell.{Cell, Component, Actor, same_cell, same_actor, is_actor, rank_of}
use Rattle.hv_model.specs.CellLaws.{same_actor-self, same_actor-only}
use Rattle.hv_model.specs.Entry.{Entry}
use Rattle.hv_model.specs.Rules.{rules, machine, components_of}
use Rattle.hv_model.specs.Terminal.{TerminalState, IsAtBootEnd}
use Rattle.hv_model.specs.Legal.{first, start, Legal, reached, own_at_start}
use Rattle.hv_model.specs.Rounds.{RoundsAreLegal}
use Rattle.hv_model.specs.Board.{ClosedBoardIsLegal}

or-false : (b : Bool) → (b || false) ≡ b
or-false true = refl
or-false false = refl

no-component : (a : ActorId) (cs : List CellId) → list_any (same_cell (Actor a)) (map Component cs) ≡ false
no-component a [] = refl
no-component a (c ∷ cs) = no-component a cs

-- an event touches no actor but its own
pub touch-actor : (O : Origin) (e : Entry) (a : ActorId) → touches (machine O) (Actor a) e ≡ same_actor a e.event.actor
touch-actor O e a =
    ap (λ b. same_actor a e.event.actor || b) (no-component a (components_of O.opening.harts e)) ∙ or-false (same_actor a e.event.actor)

other-actor : (O : Origin) (e : Entry) (a : ActorId) → touches (machine O) (Actor a) e ≡ true → Actor a ≡ Actor e.event.actor
other-actor O e a t =
    let cs = components_of O.opening.harts e in
    let Goal : Bool → Type 0 = λ b. same_actor a e.event.actor ≡ b → (b || list_any (same_cell (Actor a)) (map Component cs)) ≡ true → Actor a ≡ Actor e.event.actor in
    elim (same_actor a e.event.actor) as Goal [
      | true ↦ λ same _. ap Actor (same_actor-only a e.event.actor same)
      | false ↦ λ _ any. let none = no-component a cs in absurd (cc)
    ] refl t

no-other : (O : Origin) (e : Entry) (x : Cell) → is_actor x ≡ true → touches (machine O) x e ≡ true → x ≡ Actor e.event.actor
no-other O e (Component c) is t = absurd (cc)
no-other O e (Actor a) is t = other-actor O e a t

-- each event touches its actor, and no other
pub has-actors : (O : Origin) → HasActors (machine O) is_actor
has-actors O = record {
  is_one = λ e. refl;
  touched = λ e. rw (same_actor-self e.event.actor) refl;
  no_other = no-other O;
}

pub closed-legal : ClosedBoardIsLegal
closed-legal O logs entries boot own all closed =
    let m = machine O in
    let parts : IsTwoPartRun m is_actor first (start O) entries boot all =
    two-part m rank_of is_actor first (has-actors O) refl (start O) logs entries boot own all closed.began closed.merged in
    let Rises : List Entry → Type 0 = IsRising m rank_of in
    let InRange : List Entry → Type 0 = AllByRecursion (λ e. e.event.stamp ≤ GREATEST_STAMP) in
    let events = λ (es : List Entry). map (λ (e : Entry). e.event) es in
    let Ended : TerminalState → Type 0 = IsAtBootEnd in
    let Within : TerminalState → Type 0 = λ t. t.session.own ≡ own_at_start O 0 in
    let same = ap (λ h. h.value) (sym parts.booted) in (
      reached O boot parts.later,
      record {
        boot = boot;
        later = parts.later;
        runs = record {
          events = ap events (sym parts.whole);
          rising = subst Rises parts.whole closed.merged.rising;
          in_range = subst InRange parts.whole closed.in_range;
          parts = parts.parts;
          within = subst Within same closed.within;
        };
        state = record { ended = λ _. refl; unended = λ not_ended. absurd (not_ended (subst Ended same closed.boot_ended)) };
      },
    )

pub rounds-legal : RoundsAreLegal
rounds-legal O H rounds =
    let m = machine O in
    let began = began-of-two-part m rank_of is_actor first (has-actors O) refl (start O) rounds.boot rounds.made rounds.parts in
    let own = events_by m first rounds.made in
    let logs = λ (a : Cell). events_by m a (rounds.boot ++ rounds.made) in
    let entries = λ (x : Cell). events_at m x (rounds.boot ++ rounds.made) in
    let boots : state_after m (start O) rounds.boot first ≡ fold_at rules first (start O first) rounds.boot =
    (two-part m rank_of is_actor first (has-actors O) refl (start O) logs entries rounds.boot own rounds.all began rounds.merged).booted in
    let Ended : TerminalState → Type 0 = IsAtBootEnd in
    let Within : TerminalState → Type 0 = λ t. t.session.own ≡ own_at_start O 0 in
    let same = ap (λ h. h.value) boots in
    let Is : List Event → Type 0 = Legal O in
    subst Is rounds.events
    (closed-legal O logs entries rounds.boot own rounds.all
    (record {
      began = began;
      boot_ended = subst Ended same rounds.boot_ended;
      within = subst Within same rounds.within;
      merged = rounds.merged;
      in_range = rounds.in_range;
    }))
