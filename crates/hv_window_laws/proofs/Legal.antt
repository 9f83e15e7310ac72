-- Legal histories lead to guests that steps lead to.
use Rattle.std.proofs.Common.{◌≡◌, ℕ, Bool, ◌||◌, inl, inr, List, [], ◌∷◌, ◌++◌, map, refl, ap, sym, subst}
use Rattle.std.specs.List.{list_any}
use Rattle.hv_event.specs.declared.event.CellId.{CellId}
use Rattle.hv_event.specs.declared.event.CellId.TheVariants.{Dir, Shelf, Space, Body}
use Rattle.hv_event.specs.declared.event.Event.{Event}
use Rattle.hv_laws.specs.Board.{Made}
use Rattle.hv_laws.proofs.Legal.{becomes-by, cell-becomes, ended-or, made_of}
use Rattle.hv_machine.specs.Machine.{MayHappen, State, next_state, state_after, touches}
use Rattle.hv_machine.specs.Machine.{IsRun as IsMachineRun}
use Rattle.hv_model.specs.Cell.{Component, same_cell, same_component}
use Rattle.hv_model.specs.declared.entry.Entry.{Entry}
use Rattle.hv_model.specs.Legal.{Leads, begun, booted, first, reached, start}
use Rattle.hv_model.specs.Origin.{Origin}
use Rattle.hv_model.specs.Rules.{components_of, machine}
use Rattle.hv_window_laws.specs.Guests.{Guests, IsInOrder, IsStep}
use Rattle.hv_window_laws.specs.Legal.{AreInOrder, LegalHistoriesMatch, guests_of}
use Rattle.hv_window_laws.specs.Run.{IsReached, IsRun, IsStart}
use Rattle.hv_window_laws.proofs.Runs.{windows-match-regions}

among : (x : CellId) (cs : List CellId) → list_any (same_cell (Component x)) (map Component cs) ≡ list_any (same_component x) cs
among x [] = refl
among x (c ∷ cs) = ap (λ (b : Bool). same_component x c || b) (among x cs)

step-of : (O : Origin) (s : State (machine O)) (e : Entry) → MayHappen (machine O) s e → IsInOrder (guests_of O s) e.event.step e.carry
    → IsStep O.opening.harts (guests_of O s) (guests_of O (next_state (machine O) s e)) (made_of e)
step-of O s e may order =
    let m = machine O in
    let cs = components_of O.opening.harts e in
    record {
      components = record {
        dir =
            let x = Component Dir in
            becomes-by (touches m x e) (list_any (same_component Dir) cs) (m.IsAllowedAt x (s x).value e) (m.apply_at x (s x).value e) (s x).value (next_state m s e x).value
            (among Dir cs) (cell-becomes m s e may x);
        shelf =
            let x = Component Shelf in
            becomes-by (touches m x e) (list_any (same_component Shelf) cs) (m.IsAllowedAt x (s x).value e) (m.apply_at x (s x).value e) (s x).value (next_state m s e x).value
            (among Shelf cs) (cell-becomes m s e may x);
        spaces = λ g.
            let x = Component (Space g) in
            becomes-by (touches m x e) (list_any (same_component (Space g)) cs) (m.IsAllowedAt x (s x).value e) (m.apply_at x (s x).value e) (s x).value (next_state m s e x).value
            (among (Space g) cs) (cell-becomes m s e may x);
        bodies = λ g j.
            let x = Component (Body g j) in
            becomes-by (touches m x e) (list_any (same_component (Body g j)) cs) (m.IsAllowedAt x (s x).value e) (m.apply_at x (s x).value e) (s x).value (next_state m s e x).value
            (among (Body g j) cs) (cell-becomes m s e may x);
      };
      in_order = order;
    }

run-of : (O : Origin) (s : State (machine O)) (es : List Entry) → IsMachineRun (machine O) s es → AreInOrder O s es
    → IsRun O.opening.harts (guests_of O s) (map made_of es) (guests_of O (state_after (machine O) s es))
run-of O s [] runs order = refl
run-of O s (e ∷ es) runs order =
    (guests_of O (next_state (machine O) s e), step-of O s e runs.0 order.0, run-of O (next_state (machine O) s e) es runs.1 order.1)

run-join : (count : ℕ) (one two three : Guests) (made more : List Made) → IsRun count one made two → IsRun count two more three → IsRun count one (made ++ more) three
run-join count one two three [] more h k = subst (λ b. IsRun count b more three) h k
run-join count one two three (m ∷ made) more h k = (h.0, h.1, run-join count h.0 two three made more h.2 k)

starts : (O : Origin) → IsStart (guests_of O (start O))
starts O = record { dir = refl; spaces = λ g. refl; bodies = λ g j. refl }

legal-reached : (O : Origin) (H : List Event) (s : State (machine O)) (leads : Leads O H s)
    → AreInOrder O (start O) leads.boot → AreInOrder O (begun O leads.boot) leads.later → IsReached O.opening.harts (guests_of O s)
legal-reached O H s leads first-order later-order =
    let boot = leads.boot in
    let later = leads.later in
    let parts = leads.runs.parts in
    let count = O.opening.harts in
    let first-run : IsRun count (guests_of O (start O)) (map made_of boot) (guests_of O (booted O boot)) = run-of O (start O) boot parts.boot_runs first-order in
    let later-run : IsRun count (guests_of O (begun O boot)) (map made_of later) (guests_of O (reached O boot later)) = run-of O (begun O boot) later parts.later_runs later-order in
    let Reached : State (machine O) → Type 0 = λ x. IsReached count (guests_of O x) in
    elim (ended-or (booted O boot first).value) [
      | inl end ↦ subst Reached (sym (leads.state.ended end)) (record {
        start = guests_of O (start O);
        steps = map made_of boot ++ map made_of later;
        begins = starts O;
        leads = run-join count _ _ _ (map made_of boot) (map made_of later) first-run later-run;
      })
      | inr open' ↦ subst Reached (sym (leads.state.unended open').1) (record {
        start = guests_of O (start O);
        steps = map made_of boot;
        begins = starts O;
        leads = first-run;
      })
    ]

pub legal-histories-match : LegalHistoriesMatch
legal-histories-match O H s leads first-order later-order slot =
    windows-match-regions O.opening.harts (guests_of O s) (legal-reached O H s leads first-order later-order) slot
