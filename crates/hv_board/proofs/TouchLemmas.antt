-- Which components an event touches, by their places.
use Rattle.std.proofs.Common.{◌≡◌, ◌==◌, Bool, true, false, ◌||◌, if◌then◌else◌, List, [], ◌∷◌, map, Option, Some, None, refl, sym, ap, subst, eq-eqb, eqb-true}
use Rattle.std.specs.List.{AllByRecursion, list_any}
use Rattle.hv_answer.specs.declared.reply.Reply.{Reply}
use Rattle.hv_event.specs.declared.event.ActorId.{ActorId}
use Rattle.hv_event.specs.declared.event.CellId.{CellId}
use Rattle.hv_machine.proofs.Lists.{same-bool}
use Rattle.hv_machine.specs.Machine.{touches}
use Rattle.hv_model.specs.Cell.{Component, same_cell, same_component}
use Rattle.hv_model.specs.CellLaws.{same_component-self, same_component-only}
use Rattle.hv_model.specs.declared.entry.Entry.{Entry}
use Rattle.hv_rules.specs.Carry.{Carry}
use Rattle.hv_model.specs.Origin.{Origin}
use Rattle.hv_model.specs.Rules.{machine, components_of}
use Rattle.hv_parts.specs.Takes.{PartTakes, AllTake}
use Rattle.hv_parts.specs.Value.{PartValue}
use Rattle.hv_step.specs.declared.step.Step.{Step}
use Rattle.hv_board.proofs.PlaceLemmas.{place-only}
use Rattle.hv_board.specs.Held.{held_at}
use Rattle.hv_board.specs.Places.{HasPlace, place_of}
use Rattle.hv_board.specs.declared.layout.Layout.{Layout}

any-component : (x : CellId) (xs : List CellId) → list_any (same_cell (Component x)) (map Component xs) ≡ list_any (same_component x) xs
any-component x [] = refl
any-component x (y ∷ ys) = ap (λ b. same_component x y || b) (any-component x ys)

-- An event touches a component that is among its components.
pub touch-component : (O : Origin) (e : Entry) (x : CellId) → touches (machine O) (Component x) e ≡ list_any (same_component x) (components_of O.opening.harts e)
touch-component O e x = any-component x (components_of O.opening.harts e)

-- Two components are the same where their places are.
same-place : (layout : Layout) (x y : CellId) → HasPlace layout x → HasPlace layout y → same_component x y ≡ (place_of layout y == place_of layout x)
same-place layout x y has with =
    same-bool (same_component x y) (place_of layout y == place_of layout x)
    (λ same. eq-eqb (place_of layout y) (place_of layout x) (ap (place_of layout) (sym (same_component-only x y same))))
    (λ at. subst (λ z. same_component x z ≡ true) (sym (place-only layout y x with has (eqb-true (place_of layout y) (place_of layout x) at))) (same_component-self x))

-- What is held at a component takes a step where the component is touched, and else nothing is held there.
abbrev pub HeldTakes : {P : Type 0} → (P → PartValue) → ActorId → CellId → Step → Reply → Carry → Bool → Option P → Option P → Type 0
HeldTakes f by x s r c true (Some old) (Some new) = PartTakes by x s r c (f old) (f new)
HeldTakes f by x s r c false None None = Unit {0}
HeldTakes f by x s r c touched old new = ⊥

pub held-takes : {P : Type 0} (f : P → PartValue) (layout : Layout) (by : ActorId) (x : CellId) (s : Step) (r : Reply) (c : Carry) (xs : List CellId) (ws ps : List P)
    → HasPlace layout x → AllByRecursion (HasPlace layout) xs → AllTake by xs s r c (map f ws) (map f ps)
    → HeldTakes f by x s r c (list_any (same_component x) xs) (held_at (map (place_of layout) xs) ws (place_of layout x)) (held_at (map (place_of layout) xs) ps (place_of layout x))
held-takes f layout by x s r c [] ws ps has all t = tt
held-takes f layout by x s r c (y ∷ ys) [] ps has all t = absurd t
held-takes f layout by x s r c (y ∷ ys) (w ∷ ws) [] has all t = absurd t
held-takes f layout by x s r c (y ∷ ys) (w ∷ ws) (p ∷ ps) has all t =
    let k = place_of layout x in
    let places = map (place_of layout) ys in
    let rest = held-takes f layout by x s r c ys ws ps has all.1 t.1 in
    let Goal : Bool → Type 0 = λ b. HeldTakes f by x s r c (b || list_any (same_component x) ys) (if place_of layout y == k then Some w else held_at places ws k) (if place_of layout y == k then Some p else held_at places ps k) in
    let Here : Bool → Type 0 = λ b. (place_of layout y == k) ≡ b → HeldTakes f by x s r c (b || list_any (same_component x) ys) (if b then Some w else held_at places ws k) (if b then Some p else held_at places ps k) in
    let here = elim (place_of layout y == k) as Here [
      | true ↦ λ at. subst (λ z. PartTakes by z s r c (f w) (f p)) (place-only layout y x all.0 has (eqb-true (place_of layout y) k at)) t.0
      | false ↦ λ at. rest
    ] refl in
    subst Goal (sym (same-place layout x y has all.0)) here
