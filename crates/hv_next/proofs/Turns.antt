-- Where no hart has a turn, what is made in turn is known.
use Rattle.std.proofs.Common.{◌≡◌, ℕ, ◌==◌, ◌&&◌, ◌⊎◌, inl, inr, Bool, true, false, if◌then◌else◌, List, [], ◌∷◌, refl, sym, ap, subst, ◌∙◌}
use Rattle.std.specs.Prelude.{Option, None, Some}
use Rattle.std.specs.List.{AllByRecursion}
use Rattle.hv_machine.specs.Machine.{State, touches, next_state, state_after, IsRun}
use Rattle.hv_machine.proofs.Lists.{not-true}
use Rattle.hv_event.specs.declared.event.ActorId.{ActorId}
use Rattle.hv_event.specs.declared.event.ActorId.TheVariants.{Hart, Terminal}
use Rattle.hv_model.proofs.BoardLemmas.{has-actors}
use Rattle.hv_model.specs.Origin.{Origin}
use Rattle.hv_model.specs.Cell.{Actor}
use Rattle.hv_model.specs.declared.entry.Entry.{Entry}
use Rattle.hv_model.specs.Hart.{hart_at_start, hart_has_ended}
use Rattle.hv_model.specs.Rounds.{first_of, first_or, order_of, has_ended, turn_of, TakesTurns}
use Rattle.hv_model.specs.Rules.{machine}
use Rattle.hv_next.proofs.Unique.{next-unique}
use Rattle.hv_next.proofs.Boots.{IsOwn, by-first}

abbrev Turn : Type 0
Turn = ActorId × List ActorId

same-turn : (one other : Turn) → Some one ≡ Some other → one ≡ other
same-turn one other e = cc

-- the first that is not at its end is a terminal where each hart is
first-terminal : (ended : ActorId → Bool) → ((h : ℕ) → ended (Hart h) ≡ true) → (actors : List ActorId) (a : ActorId) (later : List ActorId)
    → first_of ended actors ≡ Some (a, later) → (t : ℕ) × (a ≡ Terminal t)
first-terminal ended harts [] a later e = absurd (cc e)
first-terminal ended harts (Hart h ∷ actors) a later e =
    let Goal : Bool → Type 0 = λ b. (if b then first_of ended actors else Some (Hart h, actors)) ≡ Some (a, later) in
    first-terminal ended harts actors a later (subst Goal (harts h) e)
first-terminal ended harts (Terminal t ∷ actors) a later e =
    let Goal : Bool → Type 0 = λ b. (if b then first_of ended actors else Some (Terminal t, actors)) ≡ Some (a, later) → (t : ℕ) × (a ≡ Terminal t) in
    elim (ended (Terminal t)) as Goal [
      | true ↦ λ later_one. first-terminal ended harts actors a later later_one
      | false ↦ λ this. (t, sym (ap (λ (turn : Turn). turn.0) (same-turn (Terminal t, actors) (a, later) this)))
    ] e

found-in : (one other : Option Turn) (it : Turn) → first_or one other ≡ Some it → (one ≡ Some it) ⊎ (other ≡ Some it)
found-in None other it e = inr e
found-in (Some found) other it e = inl e

-- the harts are as at the start
abbrev pub AreUnmoved : (O : Origin) → State (machine O) → Type 0
AreUnmoved O s = (h : ℕ) → (s (Actor (Hart h))).value ≡ hart_at_start O.opening.harts O.opening.turns h

not-hart : (h : ℕ) (a : ActorId) (t : ℕ) → Actor (Hart h) ≡ Actor a → a ≡ Terminal t → ⊥
not-hart h a t e is = cc

module _ (O : Origin) where
  untouched : (e : Entry) (t : ℕ) → e.event.actor ≡ Terminal t → (h : ℕ) → touches (machine O) (Actor (Hart h)) e ≡ false
  untouched e t is h =
      not-true (touches (machine O) (Actor (Hart h)) e) (λ touched. not-hart h e.event.actor t ((has-actors O).no_other e (Actor (Hart h)) refl touched) is)

  unmoved-next : (s : State (machine O)) (e : Entry) (t : ℕ) → e.event.actor ≡ Terminal t → AreUnmoved O s → AreUnmoved O (next_state (machine O) s e)
  unmoved-next s e t is unmoved = λ h. rw (untouched e t is h) (unmoved h)

  pub unmoved-after : (s : State (machine O)) (es : List Entry) → AllByRecursion IsOwn es → AreUnmoved O s → AreUnmoved O (state_after (machine O) s es)
  unmoved-after s [] own unmoved = unmoved
  unmoved-after s (e ∷ es) own unmoved = unmoved-after (next_state (machine O) s e) es own.1 (unmoved-next s e 0 (by-first e own.0) unmoved)

  module _ (still : O.opening.turns ≡ 0) where
    hart-ended : (s : State (machine O)) → AreUnmoved O s → (h : ℕ) → has_ended O s (Hart h) ≡ true
    hart-ended s unmoved h =
        ap (hart_has_ended O.opening.turns) (unmoved h) ∙ ap (λ (turns : ℕ). (0 == turns) && true) still

    turn-terminal : (s : State (machine O)) (left : List ActorId) (a : ActorId) (later : List ActorId) → AreUnmoved O s → turn_of O s left ≡ Some (a, later)
        → (t : ℕ) × (a ≡ Terminal t)
    turn-terminal s left a later unmoved e =
        let ended = has_ended O s in
        elim (found-in (first_of ended left) (first_of ended (order_of O)) (a, later) e) [
          | inl found ↦ first-terminal ended (hart-ended s unmoved) left a later found
          | inr found ↦ first-terminal ended (hart-ended s unmoved) (order_of O) a later found
        ]

    pub made-same : (s : State (machine O)) (left : List ActorId) (es fs : List Entry) → AreUnmoved O s → IsRun (machine O) s es → IsRun (machine O) s fs
        → TakesTurns O s left es → TakesTurns O s left fs → es ≡ fs
    made-same s left [] [] unmoved run ran x y = refl
    made-same s left [] (f ∷ fs) unmoved run ran x y = let some = y.1 in absurd (cc (x, some))
    made-same s left (e ∷ es) [] unmoved run ran x y = let some = x.1 in absurd (cc (y, some))
    made-same s left (e ∷ es) (f ∷ fs) unmoved run ran x y =
        let one : Turn = (e.event.actor, x.0) in
        let other : Turn = (f.event.actor, y.0) in
        let same = same-turn one other (sym x.1 ∙ y.1) in
        let actors : e.event.actor ≡ f.event.actor = ap (λ (turn : Turn). turn.0) same in
        let lefts : y.0 ≡ x.0 = sym (ap (λ (turn : Turn). turn.1) same) in
        let by = turn-terminal s left e.event.actor x.0 unmoved x.1 in
        let head : e ≡ f = next-unique O s by.0 e f by.1 (sym actors ∙ by.1) run.0 ran.0 in
        let next = next_state (machine O) s e in
        let Runs : Entry → Type 0 = λ z. IsRun (machine O) (next_state (machine O) s z) fs in
        let Turns : Entry → Type 0 = λ z. TakesTurns O (next_state (machine O) s z) y.0 fs in
        let Left : List ActorId → Type 0 = λ l. TakesTurns O next l fs in
        let turns : TakesTurns O next x.0 fs = subst Left lefts (subst Turns (sym head) y.2) in
        let tail : es ≡ fs = made-same next x.0 es fs (unmoved-next s e by.0 by.1 unmoved) run.1 (subst Runs (sym head) ran.1) x.2 turns in
        λ i. head i ∷ tail i
