-- `same_cell` decides whether two cells are equal.
use Rattle.std.specs.Prelude.{◌≡◌, ℕ, ◌==◌, ◌&&◌, Bool, true, false}
use Rattle.std.proofs.Common.{refl, ap, ◌∙◌, eq-eqb, eqb-true}
use Rattle.hv_event.specs.declared.event.CellId.{CellId}
use Rattle.hv_event.specs.declared.event.CellId.TheVariants as component
use Rattle.hv_event.specs.declared.event.ActorId.{ActorId}
use Rattle.hv_event.specs.declared.event.ActorId.TheVariants.{Hart, Terminal}
use Rattle.hv_model.specs.Cell.{Cell, Component, Actor, same_component, same_actor, same_cell}

both-true : (p q : Bool) → p ≡ true → q ≡ true → (p && q) ≡ true
both-true true true h k = refl
both-true true false h k = absurd (cc)
both-true false q h k = absurd (cc)

two-true : (p q : Bool) → (p && q) ≡ true → (p ≡ true) × (q ≡ true)
two-true true true h = (refl, refl)
two-true true false h = absurd (cc)
two-true false q h = absurd (cc)

pub same_component-self : (x : CellId) → same_component x x ≡ true
same_component-self component.Dir = refl
same_component-self component.Shelf = refl
same_component-self component.Files = refl
same_component-self (component.Space g) = eq-eqb g g refl
same_component-self (component.Queue h) = eq-eqb h h refl
same_component-self (component.Vcpu v) = eq-eqb v v refl
same_component-self (component.Body g j) = both-true (g == g) (j == j) (eq-eqb g g refl) (eq-eqb j j refl)
same_component-self (component.Area a) = eq-eqb a a refl

pub same_actor-self : (a : ActorId) → same_actor a a ≡ true
same_actor-self (Hart h) = eq-eqb h h refl
same_actor-self (Terminal t) = eq-eqb t t refl

pub same_cell-self : (x : Cell) → same_cell x x ≡ true
same_cell-self (Component x) = same_component-self x
same_cell-self (Actor a) = same_actor-self a

pub same_component-only : (x y : CellId) → same_component x y ≡ true → x ≡ y
same_component-only component.Dir component.Dir h = refl
same_component-only component.Shelf component.Shelf h = refl
same_component-only component.Files component.Files h = refl
same_component-only (component.Space g) (component.Space k) h = ap component.Space (eqb-true g k h)
same_component-only (component.Queue g) (component.Queue k) h = ap component.Queue (eqb-true g k h)
same_component-only (component.Vcpu v) (component.Vcpu k) h = ap component.Vcpu (eqb-true v k h)
same_component-only (component.Body g j) (component.Body k l) h =
    let both = two-true (g == k) (j == l) h in
    ap (λ (n : ℕ). component.Body n j) (eqb-true g k both.0) ∙ ap (component.Body k) (eqb-true j l both.1)
same_component-only (component.Area a) (component.Area k) h = ap component.Area (eqb-true a k h)
same_component-only x y h = absurd (cc)

pub same_actor-only : (a b : ActorId) → same_actor a b ≡ true → a ≡ b
same_actor-only (Hart g) (Hart h) e = ap Hart (eqb-true g h e)
same_actor-only (Terminal t) (Terminal u) e = ap Terminal (eqb-true t u e)
same_actor-only (Hart h) (Terminal t) e = absurd (cc)
same_actor-only (Terminal t) (Hart h) e = absurd (cc)

pub same_cell-only : (x y : Cell) → same_cell x y ≡ true → x ≡ y
same_cell-only (Component x) (Component y) e = ap Component (same_component-only x y e)
same_cell-only (Actor a) (Actor b) e = ap Actor (same_actor-only a b e)
same_cell-only (Component x) (Actor a) e = absurd (cc)
same_cell-only (Actor a) (Component x) e = absurd (cc)
