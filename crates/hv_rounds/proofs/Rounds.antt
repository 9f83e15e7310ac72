-- Whose turn it is, and what was made in turn.
use Rattle.std.proofs.Common.{◌≡◌, ℕ, zero, suc, ◌-◌, ◌<◌, ◌≤◌, inl, inr, Bool, true, false, ◌&&◌, Option, Some, None, List, [], ◌∷◌, ◌++◌, map, refl, ap, sym, subst, ◌∙◌, arith, eq-eqb}
use Rattle.std.proofs.lemmas.Bool.{cases_lt}
use Rattle.std.specs.List.{range_with_len}
use Rattle.hv_machine.specs.Machine.{State, next_state, state_after}
use Rattle.hv_event.specs.declared.event.ActorId.{ActorId}
use Rattle.hv_event.specs.declared.event.ActorId.TheVariants.{Hart, Terminal}
use Rattle.hv_model.specs.declared.entry.Entry.{Entry}
use Rattle.hv_model.specs.Origin.{Origin, terminals}
use Rattle.hv_model.specs.Hart.{hart_at_start, hart_has_ended}
use Rattle.hv_model.specs.Rules.{machine}
use Rattle.hv_model.specs.Session.{has_ended as ended}
use Rattle.hv_model.specs.Rounds.{order_of, first_of, first_or, has_ended, terminal_has_ended, turn_of, TakesTurns}
use Rattle.hv_rounds.specs.declared.terminal.Terminal.{Terminal as TerminalCell}
use Rattle.hv_rounds.specs.declared.board.Board.{Board}
use Rattle.hv_rounds.specs.Cells.{session_of}
use Rattle.hv_rounds.specs.Board.{at, Holds, EndedFrom, OpenFrom, IsTurn}

-- the last terminals of a round, so many
abbrev pub last_terminals : ℕ → List ActorId
last_terminals zero = []
last_terminals (suc n) = Terminal (3 - n) ∷ last_terminals n

-- what was made in turn so far, where these are left in the round
abbrev pub TookTurns : (O : Origin) → State (machine O) → List ActorId → List Entry → List ActorId → Type 0
TookTurns O s left [] left' = turn_of O s left ≡ turn_of O s left'
TookTurns O s left (e ∷ es) left' =
    (later : List ActorId) × (turn_of O s left ≡ Some (e.event.actor, later)) × TookTurns O (next_state (machine O) s e) later es left'

pub turns-push : (O : Origin) (s : State (machine O)) (left left' later : List ActorId) (es : List Entry) (e : Entry) → TookTurns O s left es left'
    → turn_of O (state_after (machine O) s es) left' ≡ Some (e.event.actor, later) → TookTurns O s left (es ++ e ∷ []) later
turns-push O s left left' later [] e took turn = (later, took ∙ turn, refl)
turns-push O s left left' later (f ∷ es) e took turn = (took.0, took.1, turns-push O (next_state (machine O) s f) took.0 left' later es e took.2 turn)

pub turns-end : (O : Origin) (s : State (machine O)) (left left' : List ActorId) (es : List Entry) → TookTurns O s left es left'
    → turn_of O (state_after (machine O) s es) left' ≡ None → TakesTurns O s left es
turns-end O s left left' [] took none = took ∙ none
turns-end O s left left' (f ∷ es) took none = (took.0, took.1, turns-end O (next_state (machine O) s f) took.0 left' es took.2 none)

or-self : (x : Option (ActorId × List ActorId)) → first_or x x ≡ x
or-self None = refl
or-self (Some found) = refl

module _ (O : Origin) (s : State (machine O)) (b : Board) (d : TerminalCell) (turns : O.opening.turns ≡ 0) (holds : Holds O s b) where
  hart-ended : (h : ℕ) → has_ended O s (Hart h) ≡ true
  hart-ended h =
      let made : hart_has_ended O.opening.turns (hart_at_start O.opening.harts O.opening.turns h) ≡ true =
      ap (λ (same : Bool). same && true) (eq-eqb 0 O.opening.turns (sym turns)) in
      ap (hart_has_ended O.opening.turns) (holds.harts h) ∙ made

  skip-harts : (hs : List ℕ) (actors : List ActorId) → first_of (has_ended O s) (map Hart hs ++ actors) ≡ first_of (has_ended O s) actors
  skip-harts [] actors = refl
  skip-harts (h ∷ hs) actors = rw (hart-ended h) (skip-harts hs actors)

  order-is : first_of (has_ended O s) (order_of O) ≡ first_of (has_ended O s) (last_terminals 4)
  order-is = skip-harts (range_with_len 0 O.opening.harts) (map Terminal terminals)

  terminal-is : (t : ℕ) (x : Bool) → t < 4 → ended (session_of (at b t d)) ≡ x → has_ended O s (Terminal t) ≡ x
  terminal-is t x lt is = ap terminal_has_ended (holds.terminals t d lt) ∙ is

  first-ended : (a : ActorId) (actors : List ActorId) → has_ended O s a ≡ true → first_of (has_ended O s) (a ∷ actors) ≡ first_of (has_ended O s) actors
  first-ended a actors is = rw is refl

  first-open : (a : ActorId) (actors : List ActorId) → has_ended O s a ≡ false → first_of (has_ended O s) (a ∷ actors) ≡ Some (a, actors)
  first-open a actors is = rw is refl

  none-open : (n : ℕ) → n ≤ 4 → EndedFrom b (4 - n) → first_of (has_ended O s) (last_terminals n) ≡ None
  none-open zero le ended = refl
  none-open (suc n) le ended =
      first-ended (Terminal (3 - n)) (last_terminals n) (terminal-is (3 - n) true (omega arith) (ended (3 - n) d (omega arith) (omega arith)))
      ∙ none-open n (omega arith) (λ k x low lt. ended k x (omega arith) lt)

  one-open : (n t : ℕ) → n ≤ 4 → OpenFrom b (4 - n) t → first_of (has_ended O s) (last_terminals n) ≡ Some (Terminal t, last_terminals (3 - t))
  one-open zero t le open' = let low = open'.low in let within = open'.within in absurd (omega arith)
  one-open (suc n) t le open' =
      let low = open'.low in
      let within = open'.within in
      elim (cases_lt (3 - n) t) [
        | inl above ↦
            first-ended (Terminal (3 - n)) (last_terminals n) (terminal-is (3 - n) true (omega arith) (open'.before (3 - n) d (omega arith) above))
            ∙ one-open n t (omega arith) (record { within = within; low = omega arith; open_here = open'.open_here; before = λ k x from lt. open'.before k x (omega arith) lt })
        | inr not_above ↦
            let is : 3 - n ≡ t = omega arith in
            let rest : n ≡ 3 - t = omega arith in
            first-open (Terminal (3 - n)) (last_terminals n) (terminal-is (3 - n) false (omega arith) (subst (λ (v : ℕ). ended (session_of (at b v d)) ≡ false) (sym is) (open'.open_here d)))
            ∙ ap (λ (v : ℕ). Some (Terminal v, last_terminals n)) is ∙ ap (λ (v : ℕ). Some (Terminal t, last_terminals v)) rest
      ]

  -- at a new round all terminals are left
  pub round-begins : turn_of O s [] ≡ turn_of O s (last_terminals 4)
  round-begins = order-is ∙ sym (or-self (first_of (has_ended O s) (last_terminals 4))) ∙ ap (first_or (first_of (has_ended O s) (last_terminals 4))) (sym order-is)

  pub turn-taken : (from t : ℕ) → from ≤ 4 → IsTurn b from (Some t) → turn_of O s (last_terminals (4 - from)) ≡ Some (Terminal t, last_terminals (3 - t))
  turn-taken from t le (inl open') =
      ap (λ x. first_or x (first_of (has_ended O s) (order_of O))) (one-open (4 - from) t (omega arith) (subst (λ (f : ℕ). OpenFrom b f t) (omega arith) open'))
  turn-taken from t le (inr both) =
      ap (λ x. first_or x (first_of (has_ended O s) (order_of O))) (none-open (4 - from) (omega arith) (subst (λ (f : ℕ). EndedFrom b f) (omega arith) both.0))
      ∙ order-is ∙ one-open 4 t (omega arith) both.1

  pub no-turn : (from : ℕ) → from ≤ 4 → IsTurn b from None → turn_of O s (last_terminals (4 - from)) ≡ None
  no-turn from le both =
      ap (λ x. first_or x (first_of (has_ended O s) (order_of O))) (none-open (4 - from) (omega arith) (subst (λ (f : ℕ). EndedFrom b f) (omega arith) both.0))
      ∙ order-is ∙ none-open 4 (omega arith) both.1
