-- The match of windows and regions holds at the start, and at all guests that steps lead to.
use Rattle.std.proofs.Common.{◌≡◌, ◌≢◌, ℕ, ◌==◌, true, false, get_or, is_some, arith, eq-eqb, refl, sym, ap, subst, ◌∙◌, List, [], ◌∷◌, Option, None, Some, AllPairs, option_map}
use Rattle.std.specs.List.{AllByRecursion}
use Rattle.std.proofs.lemmas.List.Elements.{All-from_recursion}
use Rattle.std.proofs.lemmas.List.Kept.{AllPairs-cons}
use Rattle.hv_laws.specs.Board.{Made}
use Rattle.hv_laws.proofs.Frame.{true-false}
use Rattle.hv_region.specs.Windows.{AreWindows, IsBefore, IsWindow}
use Rattle.hv_region.specs.declared.window.Window.{Window}
use Rattle.hv_rules.specs.Body.{BodyValue}
use Rattle.hv_window_laws.specs.Guests.{Guests}
use Rattle.hv_window_laws.specs.Run.{IsStart, IsRun, IsReached}
use Rattle.hv_window_laws.specs.Windows.{WindowsMatchRegions, birth_in, leads_to, own_of, windows_of}
use Rattle.hv_window_laws.proofs.Births.{Placed, placed-at-start}
use Rattle.hv_window_laws.proofs.Lists.{After, Ordered, each-map, filter-none}
use Rattle.hv_window_laws.proofs.Slots.{Slot}
use Rattle.hv_window_laws.proofs.Steps.{Matched, matched-kept}

-- at the start

empty-slot : (bodies : ℕ → BodyValue) (born : Option ℕ) → ((j : ℕ) → bodies j ≡ None) → Slot [] bodies born
empty-slot bodies born none = record {
  order = tt;
  reached = λ j. ap windows_of (none j);
  live = λ j. sym (ap (option_map (own_of j)) (none j));
  births = tt;
}

start-matched : (guests : Guests) → IsStart guests → Matched guests
start-matched guests is = record {
  placed = subst Placed (sym is.dir) placed-at-start;
  slots = λ g.
      subst (λ x. Slot x.windows (guests.bodies g) (birth_in guests.dir g)) (sym (is.spaces g)) (empty-slot (guests.bodies g) (birth_in guests.dir g) (is.bodies g));
}

run-keeps : (count : ℕ) (from : Guests) (steps : List Made) (to : Guests) → IsRun count from steps to → Matched from → Matched to
run-keeps count from [] to is J = subst Matched (sym is) J
run-keeps count from (made ∷ later) to is J = run-keeps count is.0 later to is.2 (matched-kept count from is.0 made is.1 J)

pub matched-reached : (count : ℕ) (guests : Guests) → IsReached count guests → Matched guests
matched-reached count guests is = run-keeps count is.start is.steps guests is.leads (start-matched is.start is.begins)

-- windows in order, as the region crate says it

each-window : (ws : List Window) → Ordered ws → AllByRecursion IsWindow ws
each-window [] o = tt
each-window (w ∷ ws) o = (o.0, each-window ws o.2)

pairs-of : (R : Window → Window → Type 0) → ((x y : Window) → After x y → R x y) → (ws : List Window) → Ordered ws → AllPairs R ws
pairs-of R of [] o = λ i j d lt within. absurd (omega arith)
pairs-of R of (w ∷ ws) o =
    AllPairs-cons R w ws (All-from_recursion (R w) ws (each-map (After w) (R w) ws (of w) o.1)) (pairs-of R of ws o.2)

pub are-windows : (ws : List Window) → Ordered ws → AreWindows ws
are-windows ws o = record {
  each = All-from_recursion IsWindow ws (each-window ws o);
  owners = pairs-of (λ one other. one.owner ≢ other.owner) (λ x y after same. true-false (x.owner == y.owner) (eq-eqb x.owner y.owner same) after.1) ws o;
  order = pairs-of IsBefore (λ x y after. after.0) ws o;
}

-- a window leads to a region that is live
live-target : (ws : List Window) (bodies : ℕ → BodyValue) (born : Option ℕ) (J : Slot ws bodies born) (w : Window) (body : BodyValue) → bodies w.target ≡ body
    → (AllByRecursion (λ x. leads_to w.target x ≡ false) ws → leads_to w.target w ≡ false) → is_some body ≡ true
live-target ws bodies born J w None is there =
    absurd (true-false (w.target == w.target) (eq-eqb w.target w.target refl)
    (there (filter-none (leads_to w.target) ws (sym (J.reached w.target) ∙ ap windows_of is))))
live-target ws bodies born J w (Some live) is there = refl

pub windows-match-regions : WindowsMatchRegions
windows-match-regions count guests is slot =
    let at = (matched-reached count guests is).slots slot in
    record {
      order = are-windows (guests.spaces slot).windows at.order;
      reached = at.reached;
      live = at.live;
      targets = λ k d within.
          let ws = (guests.spaces slot).windows in
          let w = get_or ws k d in
          live-target ws (guests.bodies slot) (birth_in guests.dir slot) at w (guests.bodies slot w.target) refl
          (λ none. All-from_recursion (λ x. leads_to w.target x ≡ false) ws none k d within);
      births = All-from_recursion (λ w. birth_in guests.dir slot ≡ Some w.birth) (guests.spaces slot).windows at.births;
    }
