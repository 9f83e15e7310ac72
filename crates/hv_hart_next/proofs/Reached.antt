-- What is known of each state that a run leads to whose events are in order: its board and its guests are reached by
-- steps, and a hart that isn't there stays as at the start.
use Rattle.std.proofs.Common.{◌≡◌, ℕ, ◌≤◌, nat_lt, Bool, false, inl, inr, if◌then◌else◌, List, [], ◌∷◌, ◌++◌, None, refl, sym, ap, subst, ◌∙◌, arith}
use Rattle.hv_event.specs.declared.event.ActorId.TheVariants.{Hart}
use Rattle.hv_laws.specs.Board.{Board, Made, IsStep as IsBoardStep}
use Rattle.hv_laws.specs.Legal.{board_of}
use Rattle.hv_laws.specs.Run.{IsRun as IsBoardRun, IsReached as IsBoardReached}
use Rattle.hv_laws.proofs.Frame.{after-step}
use Rattle.hv_laws.proofs.Legal.{cell-becomes, ended-or, made_of, starts, step-of}
use Rattle.hv_machine.specs.Machine.{MayHappen, State, next_state, state_after, touches}
use Rattle.hv_machine.specs.Machine.{IsRun as IsMachineRun}
use Rattle.hv_model.specs.Cell.{Actor}
use Rattle.hv_model.specs.declared.entry.Entry.{Entry}
use Rattle.hv_model.specs.Hart.{HartState, hart_at_start}
use Rattle.hv_model.specs.Legal.{begun, booted, first, start}
use Rattle.hv_model.specs.Origin.{Origin}
use Rattle.hv_model.specs.Rules.{machine}
use Rattle.hv_rules.specs.Carry.{Carry}
use Rattle.hv_rules.specs.Hart.{HartState as Program, HartAgrees, Row, ends, Fits, owed_row, pending_row, turn_row, row_of}
use Rattle.hv_step.specs.declared.step.Step.{Step}
use Rattle.hv_window_laws.specs.Guests.{Guests, IsInOrder, IsStep as IsGuestStep}
use Rattle.hv_window_laws.specs.Legal.{AreInOrder, guests_of}
use Rattle.hv_window_laws.specs.Run.{IsRun as IsGuestRun, IsReached as IsGuestReached}
use Rattle.hv_order_laws.proofs.Legal.{guest-step, legal-in-order}
use Rattle.hv_hart_next.specs.Next.{IsReached}

-- one step more

board-run-add : (count : ℕ) (one two three : Board) (steps : List Made) (made : Made) → IsBoardRun count one steps two → IsBoardStep count two three made
    → IsBoardRun count one (steps ++ made ∷ []) three
board-run-add count one two three [] made runs more = (three, subst (λ b. IsBoardStep count b three made) runs more, refl)
board-run-add count one two three (m ∷ steps) made runs more = (runs.0, runs.1, board-run-add count runs.0 two three steps made runs.2 more)

board-add : (count : ℕ) (one two : Board) (made : Made) → IsBoardReached count one → IsBoardStep count one two made → IsBoardReached count two
board-add count one two made is more = record {
  start = is.start;
  steps = is.steps ++ made ∷ [];
  begins = is.begins;
  leads = board-run-add count is.start one two is.steps made is.leads more;
}

guest-run-add : (count : ℕ) (one two three : Guests) (steps : List Made) (made : Made) → IsGuestRun count one steps two → IsGuestStep count two three made
    → IsGuestRun count one (steps ++ made ∷ []) three
guest-run-add count one two three [] made runs more = (three, subst (λ b. IsGuestStep count b three made) runs more, refl)
guest-run-add count one two three (m ∷ steps) made runs more = (runs.0, runs.1, guest-run-add count runs.0 two three steps made runs.2 more)

guest-add : (count : ℕ) (one two : Guests) (made : Made) → IsGuestReached count one → IsGuestStep count one two made → IsGuestReached count two
guest-add count one two made is more = record {
  start = is.start;
  steps = is.steps ++ made ∷ [];
  begins = is.begins;
  leads = guest-run-add count is.start one two is.steps made is.leads more;
}

-- a hart that isn't there makes no step

pub ends-row : (n : ℕ) (hart : Program) → hart.owed ≡ [] → hart.pending ≡ None → hart.left ≡ 0 → row_of n hart ≡ ends
ends-row n hart owed pending left =
    ap (owed_row n hart) owed ∙ ap (pending_row n hart) pending ∙ ap (turn_row n hart) left

not-below : (h count : ℕ) → count ≤ h → nat_lt h count ≡ false
not-below h count out = grind arith

abbrev pub resting : Origin → ℕ → Program
resting O h = (hart_at_start O.opening.harts O.opening.turns h).program

-- what a legal history does is in order

pub boot-order : (O : Origin) (s : State (machine O)) (is : IsReached O s) → AreInOrder O (start O) is.leads.boot
boot-order O s is = (legal-in-order O is.good is.history s is.leads).0.guests

pub later-order : (O : Origin) (s : State (machine O)) (is : IsReached O s) → AreInOrder O (begun O is.leads.boot) is.leads.later
later-order O s is = (legal-in-order O is.good is.history s is.leads).1.guests

module _ (O : Origin) where
  pub no-step : (h : ℕ) (hart : Program) (st : Step) (c : Carry) → O.opening.harts ≤ h → hart ≡ resting O h → HartAgrees h hart st c → ⊥
  no-step h hart st c out is agreed =
      let none : (resting O h).left ≡ 0 = ap (λ (b : Bool). if b then O.opening.turns else 0) (not-below h O.opening.harts out) in
      let row : row_of h hart ≡ ends =
      ends-row h hart (ap (λ (p : Program). p.owed) is) (ap (λ (p : Program). p.pending) is) (ap (λ (p : Program). p.left) is ∙ none) in
      subst (λ (r : Row). Fits hart.harts r st c) row agreed.0

  -- what is known of a state
  pub record Known (s : State (machine O)) : Type 0 where
    pub board : IsBoardReached O.opening.harts (board_of O s)
    pub guests : IsGuestReached O.opening.harts (guests_of O s)
    pub rests : (h : ℕ) → O.opening.harts ≤ h → (s (Actor (Hart h))).value.program ≡ resting O h

  rests-kept : (s : State (machine O)) (e : Entry) → MayHappen (machine O) s e → (h : ℕ) → O.opening.harts ≤ h
      → (s (Actor (Hart h))).value.program ≡ resting O h → (next_state (machine O) s e (Actor (Hart h))).value.program ≡ resting O h
  rests-kept s e may h out was =
      let m = machine O in
      let x = Actor (Hart h) in
      after-step (λ (v : HartState). v.program ≡ resting O h) (touches m x e) (m.IsAllowedAt x (s x).value e) (m.apply_at x (s x).value e) (s x).value (next_state m s e x).value
      (cell-becomes m s e may x) (λ t ok. absurd (no-step h (s x).value.program e.event.step e.carry out was ok.step)) (λ t. was)

  pub known-next : (s : State (machine O)) (e : Entry) → MayHappen (machine O) s e → IsInOrder (guests_of O s) e.event.step e.carry → Known s → Known (next_state (machine O) s e)
  known-next s e may order k = record {
    board = board-add O.opening.harts (board_of O s) (board_of O (next_state (machine O) s e)) (made_of e) k.board (step-of O s e may);
    guests = guest-add O.opening.harts (guests_of O s) (guests_of O (next_state (machine O) s e)) (made_of e) k.guests (guest-step O s e may order);
    rests = λ h out. rests-kept s e may h out (k.rests h out);
  }

  pub known-run : (s : State (machine O)) (es : List Entry) → IsMachineRun (machine O) s es → AreInOrder O s es → Known s → Known (state_after (machine O) s es)
  known-run s [] runs order k = k
  known-run s (e ∷ es) runs order k = known-run (next_state (machine O) s e) es runs.1 order.1 (known-next s e runs.0 order.0 k)

  pub known-start : Known (start O)
  known-start = record {
    board = record { start = board_of O (start O); steps = []; begins = starts O; leads = refl };
    guests = record {
      start = guests_of O (start O);
      steps = [];
      begins = record { dir = refl; spaces = λ g. refl; bodies = λ g j. refl };
      leads = refl;
    };
    rests = λ h out. refl;
  }

  pub known-begun : (boot : List Entry) → Known (booted O boot) → Known (begun O boot)
  known-begun boot k = record { board = k.board; guests = k.guests; rests = k.rests }

  pub known-reached : (s : State (machine O)) → IsReached O s → Known s
  known-reached s is =
      let leads = is.leads in
      let boot = leads.boot in
      let parts = leads.runs.parts in
      let at-boot : Known (booted O boot) = known-run (start O) boot parts.boot_runs (boot-order O s is) known-start in
      elim (ended-or (booted O boot first).value) [
        | inl end ↦ subst Known (sym (leads.state.ended end)) (known-run (begun O boot) leads.later parts.later_runs (later-order O s is) (known-begun boot at-boot))
        | inr open' ↦ subst Known (sym (leads.state.unended open').1) at-boot
      ]
