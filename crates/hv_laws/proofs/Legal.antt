-- Legal histories lead to boards that steps lead to.
use Rattle.std.proofs.Common.{◌≡◌, ℕ, Bool, true, false, inl, inr, ◌⊎◌, List, [], ◌∷◌, ◌++◌, map, None, Some, Option, refl, ap, sym, subst, ◌∙◌}
use Rattle.std.specs.List.{list_any}
use Rattle.hv_event.specs.declared.event.ActorId.{ActorId}
use Rattle.hv_event.specs.declared.event.ActorId.TheVariants.{Hart, Terminal}
use Rattle.hv_event.specs.declared.event.CellId.{CellId}
use Rattle.hv_event.specs.declared.event.CellId.TheVariants as component
use Rattle.hv_event.specs.declared.event.Event.{Event}
use Rattle.hv_machine.specs.Machine.{Machine, State, MayHappen, next_state, state_after, touches}
use Rattle.hv_machine.specs.Machine.{IsRun as IsMachineRun}
use Rattle.hv_machine.proofs.RunLemmas.{all-at}
use Rattle.hv_model.proofs.BoardLemmas.{touch-actor}
use Rattle.hv_model.specs.declared.entry.Entry.{Entry}
use Rattle.hv_model.specs.Cell.{Component, Actor, same_cell, same_actor, same_component}
use Rattle.hv_model.specs.Hart.{HartState}
use Rattle.hv_model.specs.Legal.{start, booted, begun, reached, Leads, first}
use Rattle.hv_model.specs.Origin.{Origin}
use Rattle.hv_model.specs.Rules.{machine, components_of}
use Rattle.hv_model.specs.Session.{next_in}
use Rattle.hv_model.specs.Terminal.{TerminalState, IsAtBootEnd}
use Rattle.hv_rules.specs.Hart.{HartAgrees}
use Rattle.hv_laws.specs.Board.{Board, Made, Becomes, IsStep, is_queue, is_vcpu, is_hart}
use Rattle.hv_laws.specs.Legal.{board_of}
use Rattle.hv_laws.specs.Run.{IsStart, IsRun, IsReached}

-- the step of an entry
abbrev pub made_of : Entry → Made
made_of e = record { by = e.event.actor; step = e.event.step; reply = e.event.reply; carry = e.carry }

-- a cell of a machine becomes what an event makes of it
module _ (m : Machine) (s : State m) (e : m.Event) (may : MayHappen m s e) (x : m.Cell) where
  agrees : touches m x e ≡ true → m.IsAllowedAt x (s x).value e
  agrees t = all-at m.same m.same_only (λ y. m.IsAllowedAt y (s y).value e) x (m.footprint e) may.agreed t

  pub cell-becomes : Becomes (touches m x e) (m.IsAllowedAt x (s x).value e) (m.apply_at x (s x).value e) (s x).value (next_state m s e x).value
  cell-becomes =
      let Goal : Bool → Type 0 = λ b. touches m x e ≡ b → Becomes b (m.IsAllowedAt x (s x).value e) (m.apply_at x (s x).value e) (s x).value (next_state m s e x).value in
      elim (touches m x e) as Goal [
        | true ↦ λ t. (agrees t, rw t refl)
        | false ↦ λ t. rw t refl
      ] refl

-- a queue among components, and a VCPU
queue-at : (n : ℕ) (c : CellId) → same_component (component.Queue n) c ≡ is_queue n c
queue-at n component.Dir = refl
queue-at n component.Shelf = refl
queue-at n component.Files = refl
queue-at n (component.Space g) = refl
queue-at n (component.Queue h) = refl
queue-at n (component.Vcpu v) = refl
queue-at n (component.Body g j) = refl
queue-at n (component.Area a) = refl

queue-among : (n : ℕ) (cs : List CellId) → list_any (same_cell (Component (component.Queue n))) (map Component cs) ≡ list_any (is_queue n) cs
queue-among n [] = refl
queue-among n (c ∷ cs) = rw (queue-at n c) (rw (queue-among n cs) refl)

vcpu-at : (n : ℕ) (c : CellId) → same_component (component.Vcpu n) c ≡ is_vcpu n c
vcpu-at n component.Dir = refl
vcpu-at n component.Shelf = refl
vcpu-at n component.Files = refl
vcpu-at n (component.Space g) = refl
vcpu-at n (component.Queue h) = refl
vcpu-at n (component.Vcpu v) = refl
vcpu-at n (component.Body g j) = refl
vcpu-at n (component.Area a) = refl

vcpu-among : (n : ℕ) (cs : List CellId) → list_any (same_cell (Component (component.Vcpu n))) (map Component cs) ≡ list_any (is_vcpu n) cs
vcpu-among n [] = refl
vcpu-among n (c ∷ cs) = rw (vcpu-at n c) (rw (vcpu-among n cs) refl)

hart-at : (n : ℕ) (a : ActorId) → same_actor (Hart n) a ≡ is_hart n a
hart-at n (Hart h) = refl
hart-at n (Terminal t) = refl

hart-touched : (O : Origin) (e : Entry) (n : ℕ) → touches (machine O) (Actor (Hart n)) e ≡ is_hart n e.event.actor
hart-touched O e n = touch-actor O e (Hart n) ∙ hart-at n e.event.actor

-- the same by another test
pub becomes-by : {A : Type 0} (b d : Bool) (P : Type 0) (changed before after : A) → b ≡ d → Becomes b P changed before after → Becomes d P changed before after
becomes-by b d P changed before after is h = subst (λ (t : Bool). Becomes t P changed before after) is h

-- what becomes of a part of a value
becomes-part : {A B : Type 0} (b : Bool) (P Q : Type 0) (f : A → B) (changed before after : A) → (P → Q) → Becomes b P changed before after → Becomes b Q (f changed) (f before) (f after)
becomes-part true P Q f changed before after g h = (g h.0, ap f h.1)
becomes-part false P Q f changed before after g h = ap f h

pub step-of : (O : Origin) (s : State (machine O)) (e : Entry) → MayHappen (machine O) s e
    → IsStep O.opening.harts (board_of O s) (board_of O (next_state (machine O) s e)) (made_of e)
step-of O s e may =
    let m = machine O in
    let cs = components_of O.opening.harts e in
    record {
      components = record {
        queues = λ n.
            let x = Component (component.Queue n) in
            becomes-by (touches m x e) (list_any (is_queue n) cs) (m.IsAllowedAt x (s x).value e) (m.apply_at x (s x).value e) (s x).value (next_state m s e x).value
            (queue-among n cs) (cell-becomes m s e may x);
        vcpus = λ n.
            let x = Component (component.Vcpu n) in
            becomes-by (touches m x e) (list_any (is_vcpu n) cs) (m.IsAllowedAt x (s x).value e) (m.apply_at x (s x).value e) (s x).value (next_state m s e x).value
            (vcpu-among n cs) (cell-becomes m s e may x);
      };
      actor = λ n.
          let x = Actor (Hart n) in
          let program = λ (h : HartState). h.program in
          becomes-by (touches m x e) (is_hart n e.event.actor) (HartAgrees n (s x).value.program e.event.step e.carry) (program (m.apply_at x (s x).value e)) (program (s x).value) (program (next_state m s e x).value)
          (hart-touched O e n)
          (becomes-part (touches m x e) (m.IsAllowedAt x (s x).value e) (HartAgrees n (s x).value.program e.event.step e.carry) program (m.apply_at x (s x).value e) (s x).value (next_state m s e x).value (λ agreed. agreed.step) (cell-becomes m s e may x));
    }

pub run-of : (O : Origin) (s : State (machine O)) (es : List Entry) → IsMachineRun (machine O) s es
    → IsRun O.opening.harts (board_of O s) (map made_of es) (board_of O (state_after (machine O) s es))
run-of O s [] runs = refl
run-of O s (e ∷ es) runs =
    (board_of O (next_state (machine O) s e), step-of O s e runs.0, run-of O (next_state (machine O) s e) es runs.1)

run-join : (count : ℕ) (one two three : Board) (made more : List Made) → IsRun count one made two → IsRun count two more three → IsRun count one (made ++ more) three
run-join count one two three [] more h k = subst (λ b. IsRun count b more three) h k
run-join count one two three (m ∷ made) more h k = (h.0, h.1, run-join count h.0 two three made more h.2 k)

-- the start
pub starts : (O : Origin) → IsStart O.opening.harts (board_of O (start O))
starts O = record {
  queues = λ g. refl;
  orphan = refl;
  others = λ v. refl;
  free = λ h. refl;
  nothing_pending = λ h. refl;
  nothing_owed = λ h. refl;
  known = λ h. refl;
}

-- a boot script has ended, or it hasn't
none-or : {A : Type 0} (o : Option A) → (o ≡ None) ⊎ (o ≡ None → ⊥)
none-or None = inl refl
none-or (Some x) = inr (λ e. absurd (cc))

empty-or : {A : Type 0} (xs : List A) → (xs ≡ []) ⊎ (xs ≡ [] → ⊥)
empty-or [] = inl refl
empty-or (x ∷ xs) = inr (λ e. absurd (cc))

pub ended-or : (t : TerminalState) → IsAtBootEnd t ⊎ (IsAtBootEnd t → ⊥)
ended-or t =
    elim (empty-or t.owed) [
      | inl owed ↦ elim (none-or t.session.line) [
        | inl line ↦ elim (none-or (next_in t.session.boot)) [
          | inl boot ↦ inl (record { owed = owed; booted = record { line = line; boot = boot } })
          | inr some ↦ inr (λ (end : IsAtBootEnd t). some end.booted.boot)
        ]
        | inr some ↦ inr (λ (end : IsAtBootEnd t). some end.booted.line)
      ]
      | inr some ↦ inr (λ (end : IsAtBootEnd t). some end.owed)
    ]

-- a legal history leads to a board that steps lead to
pub legal-reached : (O : Origin) (H : List Event) (s : State (machine O)) → Leads O H s → IsReached O.opening.harts (board_of O s)
legal-reached O H s leads =
    let boot = leads.boot in
    let later = leads.later in
    let parts = leads.runs.parts in
    let count = O.opening.harts in
    let first-run : IsRun count (board_of O (start O)) (map made_of boot) (board_of O (booted O boot)) = run-of O (start O) boot parts.boot_runs in
    let later-run : IsRun count (board_of O (begun O boot)) (map made_of later) (board_of O (reached O boot later)) = run-of O (begun O boot) later parts.later_runs in
    let Reached : State (machine O) → Type 0 = λ x. IsReached count (board_of O x) in
    elim (ended-or (booted O boot first).value) [
      | inl end ↦ subst Reached (sym (leads.state.ended end)) (record {
        start = board_of O (start O);
        steps = map made_of boot ++ map made_of later;
        begins = starts O;
        leads = run-join count _ _ _ (map made_of boot) (map made_of later) first-run later-run;
      })
      | inr open' ↦ subst Reached (sym (leads.state.unended open').1) (record {
        start = board_of O (start O);
        steps = map made_of boot;
        begins = starts O;
        leads = first-run;
      })
    ]
