-- Legal histories are in order: what is known of a state holds at the start, each event keeps it, and so each event is in
-- order.
use Rattle.std.proofs.Common.{◌≡◌, ℕ, zero, suc, ◌==◌, eq-eqb, eqb-true, ◌≤◌, inl, inr, Bool, true, false, ◌&&◌, ◌||◌, refl, sym, ap, subst, ◌∙◌, List, [], ◌∷◌, length, map, find, Option, None, Some, option_map}
use Rattle.std.specs.List.{list_all, list_any}
use Rattle.hv_answer.specs.declared.reply.Reply.{Reply}
use Rattle.hv_event.specs.declared.event.ActorId.{ActorId}
use Rattle.hv_event.specs.declared.event.ActorId.TheVariants.{Hart, Terminal}
use Rattle.hv_event.specs.declared.event.CellId.{CellId}
use Rattle.hv_event.specs.declared.event.CellId.TheVariants as component
use Rattle.hv_kinds.specs.declared.state.State.TheVariants.{Running}
use Rattle.hv_laws.specs.Board.{Board}
use Rattle.hv_laws.specs.Legal.{board_of}
use Rattle.hv_laws.specs.Run.{IsStart}
use Rattle.hv_laws.proofs.Current.{Currents, currents-kept}
use Rattle.hv_laws.proofs.Frame.{after-step, touched as touched-by, untouched as untouched-by}
use Rattle.hv_laws.proofs.Legal.{becomes-by, cell-becomes, ended-or, made_of, starts, step-of}
use Rattle.hv_machine.specs.Machine.{MayHappen, State, next_state, state_after, touches}
use Rattle.hv_machine.specs.Machine.{IsRun as IsMachineRun}
use Rattle.hv_model.proofs.BoardLemmas.{touch-actor}
use Rattle.hv_model.specs.Cell.{Actor, Component, same_actor, same_cell, same_component}
use Rattle.hv_model.specs.declared.entry.Entry.{Entry}
use Rattle.hv_model.specs.Legal.{begun, booted, first, start}
use Rattle.hv_model.specs.Origin.{Origin}
use Rattle.hv_model.specs.Plans.{Planned, plan_of}
use Rattle.hv_model.specs.Rules.{components_of, machine}
use Rattle.hv_model.specs.Session.{present, session_after}
use Rattle.hv_model.specs.Terminal.{FitsPresent, IsNextStep, TerminalAgrees, TerminalState, terminal_after, terminal_with}
use Rattle.hv_region.specs.declared.plan.GuestPlan.{GuestPlan}
use Rattle.hv_region.specs.declared.window.Window.{Window}
use Rattle.hv_rules.specs.Body.{BodyValue}
use Rattle.hv_rules.specs.Carry.{Carry}
use Rattle.hv_rules.specs.Line.{LineState}
use Rattle.hv_rules.specs.Space.{is_of}
use Rattle.hv_step.specs.declared.step.Step.{Step}
use Rattle.hv_text.specs.declared.limits.TheConstants.{GUEST_VCPUS}
use Rattle.hv_vcpu.specs.Vcpu.{VcpuValue}
use Rattle.hv_window_laws.specs.Guests.{IsInOrder, IsStep}
use Rattle.hv_window_laws.specs.Legal.{AreInOrder, guests_of}
use Rattle.hv_window_laws.specs.Windows.{birth_in, is_own_of, leads_to, own_of, windows_of}
use Rattle.hv_window_laws.proofs.Lists.{filter-none, find-none}
use Rattle.hv_window_laws.proofs.Runs.{matched-reached}
use Rattle.hv_window_laws.proofs.Slots.{Slot}
use Rattle.hv_window_laws.proofs.Steps.{Matched, matched-kept}
use Rattle.hv_order_laws.specs.Orders.{LinesOwnTheirGuests, lines_of, AreOrdered, ArePlansGood, AreVcpusInOrder, IsVcpuInOrder, LegalHistoriesAreInOrder, RunsAreInOrder, scene_of}
use Rattle.hv_order_laws.specs.Owners.{HasOwners, Scene, owned_by}
use Rattle.hv_order_laws.proofs.Begun.{calm-proper, calm-spares, is_calm}
use Rattle.hv_rules.proofs.Slices.{is_signal}
use Rattle.hv_order_laws.proofs.Directory.{equal-or, starts-directory}
use Rattle.hv_order_laws.proofs.Ending.{AreLed}
use Rattle.hv_order_laws.proofs.Events.{scene-step}
use Rattle.hv_order_laws.proofs.Harts.{hart-calm}
use Rattle.hv_order_laws.proofs.Lines.{LineStep}
use Rattle.hv_order_laws.proofs.Proper.{good-plan, proper-order, proper-vcpus}
use Rattle.hv_order_laws.proofs.Scenes.{line-ordered, quiet-ordered}
use Rattle.hv_order_laws.proofs.Steps.{IsProper, SceneStep}
use Rattle.hv_order_laws.proofs.Terminals.{interrupt-calm, session-step}
use Rattle.hv_order_laws.proofs.Windows.{all-map}

-- an event is a step of the guests

among : (x : CellId) (cs : List CellId) → list_any (same_cell (Component x)) (map Component cs) ≡ list_any (same_component x) cs
among x [] = refl
among x (c ∷ cs) = ap (λ (b : Bool). same_component x c || b) (among x cs)

pub guest-step : (O : Origin) (s : State (machine O)) (e : Entry) → MayHappen (machine O) s e → IsInOrder (guests_of O s) e.event.step e.carry
    → IsStep O.opening.harts (guests_of O s) (guests_of O (next_state (machine O) s e)) (made_of e)
guest-step O s e may order =
    let m = machine O in
    let cs = components_of O.opening.harts e in
    record {
      components = record {
        dir =
            let x = Component component.Dir in
            becomes-by (touches m x e) (list_any (same_component component.Dir) cs) (m.IsAllowedAt x (s x).value e) (m.apply_at x (s x).value e) (s x).value (next_state m s e x).value
            (among component.Dir cs) (cell-becomes m s e may x);
        shelf =
            let x = Component component.Shelf in
            becomes-by (touches m x e) (list_any (same_component component.Shelf) cs) (m.IsAllowedAt x (s x).value e) (m.apply_at x (s x).value e) (s x).value (next_state m s e x).value
            (among component.Shelf cs) (cell-becomes m s e may x);
        spaces = λ g.
            let x = Component (component.Space g) in
            becomes-by (touches m x e) (list_any (same_component (component.Space g)) cs) (m.IsAllowedAt x (s x).value e) (m.apply_at x (s x).value e) (s x).value (next_state m s e x).value
            (among (component.Space g) cs) (cell-becomes m s e may x);
        bodies = λ g j.
            let x = Component (component.Body g j) in
            becomes-by (touches m x e) (list_any (same_component (component.Body g j)) cs) (m.IsAllowedAt x (s x).value e) (m.apply_at x (s x).value e) (s x).value (next_state m s e x).value
            (among (component.Body g j) cs) (cell-becomes m s e may x);
      };
      in_order = order;
    }

-- where no window is of a row, none leads there

not-of : (row : ℕ) (w : Window) → (w.owner ≡ row → ⊥) → (b : Bool) → is_of row w ≡ b → is_own_of row w ≡ false
not-of row w else true is = absurd (else (eqb-true w.owner row is))
not-of row w else false is = ap (λ (b : Bool). b && leads_to row w) is

none-live : (row : ℕ) (body : BodyValue) → option_map (own_of row) body ≡ None → windows_of body ≡ []
none-live row None is = refl
none-live row (Some live) is = absurd (cc is)

leads-else : (row : ℕ) (w : Window) → leads_to row w ≡ false → w.target ≡ row → ⊥
leads-else row w isnt is = let never : true ≡ false = sym (eq-eqb w.target row is) ∙ isnt in cc

led-of : (ws : List Window) (bodies : ℕ → BodyValue) (born : Option ℕ) → Slot ws bodies born → AreLed ws
led-of ws bodies born J row none =
    let own : find (is_own_of row) ws ≡ None =
    find-none (is_own_of row) ws (all-map (λ (w : Window). w.owner ≡ row → ⊥) (λ (w : Window). is_own_of row w ≡ false) ws (λ w else. not-of row w else (is_of row w) refl) none) in
    let bare : windows_of (bodies row) ≡ [] = none-live row (bodies row) (sym (J.live row) ∙ own) in
    all-map (λ (w : Window). leads_to row w ≡ false) (λ (w : Window). w.target ≡ row → ⊥) ws (leads-else row) (filter-none (leads_to row) ws (sym (J.reached row) ∙ bare))

-- at the start no VCPU of a guest is there, and no hart runs one

start-running : (count : ℕ) (b : Board) → IsStart count b → (v h : ℕ) → (b.vcpus v).state ≡ Running h → ⊥
start-running count b is zero h run = let r = is.orphan in cc
start-running count b is (suc v) h run = let r = ap (λ (x : VcpuValue). x.state) (is.others v) in cc

start-currents : (count : ℕ) (b : Board) → IsStart count b → Currents b
start-currents count b is = record {
  runs = λ v h run. absurd (start-running count b is v h run);
  owes = λ h. ap (λ (owed : List Step). list_all is_signal owed) (is.nothing_owed h);
}

module _ (O : Origin) where
  abbrev plans : List Planned
  plans = O.opening.plans

  -- what is known of a state
  pub record IsKnown (s : State (machine O)) : Type 0 where
    pub ordered : HasOwners plans (scene_of O s) (lines_of O s)
    pub guests : Matched (guests_of O s)
    pub currents : Currents (board_of O s)
    pub planned : (t : ℕ) → (s (Actor (Terminal t))).value.plans ≡ plans

  pub starts-known : IsKnown (start O)
  starts-known = record {
    ordered = record {
      directory = starts-directory;
      slots = λ slot. record { windows = tt; vcpus = λ v here is. absurd (cc is) };
      fits = λ t. tt;
      apart = λ t u name other one two. absurd (cc one);
    };
    guests =
        matched-reached O.opening.harts (guests_of O (start O))
        (record { start = guests_of O (start O); steps = []; begins = record { dir = refl; spaces = λ g. refl; bodies = λ g j. refl }; leads = refl });
    currents = start-currents O.opening.harts (board_of O (start O)) (starts O);
    planned = λ t. refl;
  }

  pub begun-known : (boot : List Entry) → IsKnown (booted O boot) → IsKnown (begun O boot)
  begun-known boot k = record {
    ordered = record { directory = k.ordered.directory; slots = k.ordered.slots; fits = k.ordered.fits; apart = k.ordered.apart };
    guests = k.guests;
    currents = k.currents;
    planned = k.planned;
  }

  plans-stay : (tv : TerminalState) (owed : List Step) (x : Step) (r : Reply) (c : Carry) → (terminal_with tv owed x r c).plans ≡ tv.plans
  plans-stay tv [] x r c = refl
  plans-stay tv (due ∷ owed) x r c = refl

  line-stays : (tv : TerminalState) (due : Step) (owed : List Step) (x : Step) (r : Reply) (c : Carry) → (terminal_with tv (due ∷ owed) x r c).session.line ≡ tv.session.line
  line-stays tv due owed x r c = refl

  module _ (good : ArePlansGood O) (s : State (machine O)) (e : Entry) (may : MayHappen (machine O) s e) (k : IsKnown s) where
    abbrev next : State (machine O)
    next = next_state (machine O) s e

    abbrev x : Step
    x = e.event.step

    abbrev r : Reply
    r = e.event.reply

    abbrev c : Carry
    c = e.carry

    abbrev before : Scene
    before = scene_of O s

    abbrev after : Scene
    after = scene_of O next

    happened : SceneStep before after x r c
    happened = scene-step O s e may

    few : (name : List ℕ) (plan : GuestPlan) → plan_of plans name ≡ Some plan → length plan.vcpus.items ≤ GUEST_VCPUS
    few name plan is = (good-plan O.opening.areas plans good name plan is).few_vcpus

    led : (slot : ℕ) → AreLed (before.windows slot)
    led slot = led-of (before.windows slot) ((guests_of O s).bodies slot) (birth_in (guests_of O s).dir slot) (k.guests.slots slot)

    record IsGoing : Type 0 where
      proper : IsProper plans before x c
      ordered : HasOwners plans after (lines_of O next)

    -- a terminal that doesn't make the event stays as it was
    terminal-stays : (t : ℕ) → same_actor (Terminal t) e.event.actor ≡ false → (next (Actor (Terminal t))).value ≡ (s (Actor (Terminal t))).value
    terminal-stays t other =
        let m = machine O in
        let y = Actor (Terminal t) in
        untouched-by (touches m y e) (m.IsAllowedAt y (s y).value e) (m.apply_at y (s y).value e) (s y).value (next y).value (touch-actor O e (Terminal t) ∙ other) (cell-becomes m s e may y)

    other-line : (t : ℕ) → same_actor (Terminal t) e.event.actor ≡ false → lines_of O next t ≡ lines_of O s t
    other-line t other = ap (λ (v : TerminalState). v.session.line) (terminal-stays t other)

    calm-going : is_calm x ≡ true → ((t : ℕ) → lines_of O next t ≡ lines_of O s t) → IsGoing
    calm-going calm same =
        let proper = calm-proper plans before x c calm in
        record {
          proper = proper;
          ordered = quiet-ordered plans before after x r c happened (lines_of O s) (lines_of O next) k.ordered proper (λ slot f at. calm-spares f.name slot x calm) same;
        }

    hart-going : (h : ℕ) → e.event.actor ≡ Hart h → IsGoing
    hart-going h by = calm-going (hart-calm O s h e k.currents by may) (λ t. other-line t (ap (same_actor (Terminal t)) by))

    module _ (t : ℕ) (by : e.event.actor ≡ Terminal t) where
      abbrev tv : TerminalState
      tv = (s (Actor (Terminal t))).value

      is-not : (u : ℕ) → (t ≡ u → ⊥) → same_actor (Terminal u) e.event.actor ≡ false
      is-not u other = ap (same_actor (Terminal u)) by ∙ differs (u == t) refl
        where
          differs : (b : Bool) → (u == t) ≡ b → (u == t) ≡ false
          differs true is = absurd (other (sym (eqb-true u t is)))
          differs false is = is

      own : TerminalAgrees tv e × ((next (Actor (Terminal t))).value ≡ terminal_after tv e)
      own =
          let m = machine O in
          let y = Actor (Terminal t) in
          touched-by (touches m y e) (m.IsAllowedAt y (s y).value e) (m.apply_at y (s y).value e) (s y).value (next y).value
          (touch-actor O e (Terminal t) ∙ ap (same_actor (Terminal t)) by ∙ eq-eqb t t refl) (cell-becomes m s e may y)

      line-is : lines_of O next t ≡ (terminal_with tv tv.owed x r c).session.line
      line-is = ap (λ (v : TerminalState). v.session.line) own.1

      by-owed : (owed : List Step) → tv.owed ≡ owed → IsNextStep tv owed x r c → IsGoing
      by-owed (due ∷ owed) is fits =
          calm-going (interrupt-calm x fits.1)
          (λ u. elim (equal-or t u) [
            | inl same ↦ subst (λ (n : ℕ). lines_of O next n ≡ lines_of O s n) same
                (line-is ∙ ap (λ (steps : List Step). (terminal_with tv steps x r c).session.line) is)
            | inr other ↦ other-line u (is-not u other)
          ])
      by-owed [] is fits =
          let same-plans : tv.plans ≡ plans = k.planned t in
          let Fits : List Planned → Type 0 = λ p. FitsPresent p tv.session.lines (present p tv.session) x r c in
          let line : lines_of O next t ≡ (session_after plans tv.session r c).line =
          line-is ∙ ap (λ (steps : List Step). (terminal_with tv steps x r c).session.line) is ∙ ap (λ (p : List Planned). (session_after p tv.session r c).line) same-plans in
          let made : LineStep plans before after (owned_by (lines_of O s t)) (lines_of O next t) x c =
          subst (λ (l : Option LineState). LineStep plans before after (owned_by (lines_of O s t)) l x c) (sym line)
          (session-step plans before after k.ordered.directory k.ordered.slots led few x r c happened tv.session.lines tv.session (k.ordered.fits t) (subst Fits same-plans fits)) in
          record {
            proper = made.proper;
            ordered = line-ordered plans before after x r c happened (lines_of O s) (lines_of O next) k.ordered t made (λ u other. other-line u (is-not u other));
          }

      terminal-going : IsGoing
      terminal-going = by-owed tv.owed refl own.0.step

    going-by : (by : ActorId) → e.event.actor ≡ by → IsGoing
    going-by (Hart h) by = hart-going h by
    going-by (Terminal t) by = terminal-going t by

    going : IsGoing
    going = going-by e.event.actor refl

    pub guests-order : IsInOrder (guests_of O s) x c
    guests-order = proper-order O.opening.areas plans good (guests_of O s) before x c refl (λ slot. refl) going.proper

    pub vcpus-order : IsVcpuInOrder (s (Component component.Dir)).value (λ v. (s (Component (component.Vcpu v))).value) x
    vcpus-order = proper-vcpus plans (λ v. (s (Component (component.Vcpu v))).value) before x c (λ v. refl) going.proper

    planned-next : (t : ℕ) → (next (Actor (Terminal t))).value.plans ≡ plans
    planned-next t =
        let m = machine O in
        let y = Actor (Terminal t) in
        after-step (λ (v : TerminalState). v.plans ≡ plans) (touches m y e) (m.IsAllowedAt y (s y).value e) (m.apply_at y (s y).value e) (s y).value (next y).value (cell-becomes m s e may y)
        (λ d agreed. plans-stay (s y).value (s y).value.owed x r c ∙ k.planned t) (λ d. k.planned t)

    pub known-next : IsKnown next
    known-next = record {
      ordered = going.ordered;
      guests = matched-kept O.opening.harts (guests_of O s) (guests_of O next) (made_of e) (guest-step O s e may guests-order) k.guests;
      currents = currents-kept O.opening.harts (board_of O s) (board_of O next) (made_of e) (step-of O s e may) k.currents;
      planned = planned-next;
    }

  module _ (good : ArePlansGood O) where
    pub known-run : (s : State (machine O)) (es : List Entry) → IsMachineRun (machine O) s es → IsKnown s → IsKnown (state_after (machine O) s es)
    known-run s [] run k = k
    known-run s (e ∷ es) run k = known-run (next_state (machine O) s e) es run.1 (known-next good s e run.0 k)

    guests-run : (s : State (machine O)) (es : List Entry) → IsMachineRun (machine O) s es → IsKnown s → AreInOrder O s es
    guests-run s [] run k = tt
    guests-run s (e ∷ es) run k = (guests-order good s e run.0 k, guests-run (next_state (machine O) s e) es run.1 (known-next good s e run.0 k))

    vcpus-run : (s : State (machine O)) (es : List Entry) → IsMachineRun (machine O) s es → IsKnown s → AreVcpusInOrder O s es
    vcpus-run s [] run k = tt
    vcpus-run s (e ∷ es) run k = (vcpus-order good s e run.0 k, vcpus-run (next_state (machine O) s e) es run.1 (known-next good s e run.0 k))

    pub run-ordered : (s : State (machine O)) (es : List Entry) → IsMachineRun (machine O) s es → IsKnown s → AreOrdered O s es
    run-ordered s es run k = record { guests = guests-run s es run k; vcpus = vcpus-run s es run k }

pub runs-in-order : RunsAreInOrder
runs-in-order O good boot later first second = (
  run-ordered O good (start O) boot first (starts-known O),
  run-ordered O good (begun O boot) later second (begun-known O boot (known-run O good (start O) boot first (starts-known O))),
)

pub legal-in-order : LegalHistoriesAreInOrder
legal-in-order O good H s leads = runs-in-order O good leads.boot leads.later leads.runs.parts.boot_runs leads.runs.parts.later_runs

-- so is what lines own

pub lines-own : LinesOwnTheirGuests
lines-own O good H s leads =
    let boot = leads.boot in
    let parts = leads.runs.parts in
    let at-boot : IsKnown O (booted O boot) = known-run O good (start O) boot parts.boot_runs (starts-known O) in
    elim (ended-or (booted O boot first).value) [
      | inl end ↦ (subst (IsKnown O) (sym (leads.state.ended end)) (known-run O good (begun O boot) leads.later parts.later_runs (begun-known O boot at-boot))).ordered
      | inr open' ↦ (subst (IsKnown O) (sym (leads.state.unended open').1) at-boot).ordered
    ]
