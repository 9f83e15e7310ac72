-- Parts that are lifted are those of the board, so they have what is read there before.
use Rattle.std.proofs.Common.{◌==◌, true, false, eqb-true, eq-eqb, ◌≡◌, ℕ, List, [], ◌∷◌, length, map, Option, Some, refl, sym, ap, subst, ◌∙◌, arith}
use Rattle.std.proofs.lemmas.List.{length-map}
use Rattle.hv_board.proofs.HeldLemmas.{held_at-none_above}
use Rattle.hv_board.specs.Board.{part_at}
use Rattle.hv_board.specs.Carrying.{AreFrom, empty}
use Rattle.hv_board.specs.Held.{IsRising, held_at}
use Rattle.hv_board.specs.Lifted.{IsLifted, IsNext}
use Rattle.hv_board.specs.Places.{place_of}
use Rattle.hv_board.specs.declared.board.Board.{Board}
use Rattle.hv_board.specs.declared.lifted.Lifted.{Lifted}
use Rattle.hv_emu.specs.Device.{DevState}
use Rattle.hv_event.specs.declared.event.CellId.{CellId}
use Rattle.hv_event.specs.declared.event.CellId.TheVariants as component
use Rattle.hv_kinds.specs.declared.generation.Generation.{Generation}
use Rattle.hv_parts.specs.Kinds.{AreOf, IsPartOf}
use Rattle.hv_parts.specs.Value.{valued}
use Rattle.hv_parts.specs.declared.part.Part.{Part}
use Rattle.hv_parts.specs.declared.part.Part.TheVariants as part
use Rattle.hv_step.specs.declared.step.Step.{Step}
use Rattle.hv_board_steps.proofs.Back.{are-long}
use Rattle.hv_board_steps.specs.Granted.{IsGrantedAt, IsGrantedOn}

-- Each of some components of a board has the part that stands where it does.
abbrev pub AreOn : {E : Type 0} → Board E → List CellId → List (Part E) → Type 0
AreOn board [] [] = Unit {0}
AreOn board (x ∷ xs) (p ∷ ps) = (part_at board x ≡ Some p) × AreOn board xs ps
AreOn board xs ps = ⊥

parts-on :
    {E : Type 0} (board : Board E) (xs : List CellId) (ps : List (Part E)) → IsRising (map (place_of board.layout) xs) → length ps ≡ length xs
    → ((x : CellId) (p : Part E) → held_at (map (place_of board.layout) xs) ps (place_of board.layout x) ≡ Some p → part_at board x ≡ Some p)
    → AreOn board xs ps
parts-on board [] [] rising long each = tt
parts-on board [] (p ∷ ps) rising long each = absurd (omega (arith, long))
parts-on board (x ∷ xs) [] rising long each = absurd (omega (arith, long))
parts-on {E} board (x ∷ xs) (p ∷ ps) rising long each =
    let here = place_of board.layout x in
    let later : (y : CellId) (q : Part E) → held_at (map (place_of board.layout) xs) ps (place_of board.layout y) ≡ Some q → part_at board y ≡ Some q = λ y q at.
    let k = place_of board.layout y in
    elim (here == k) as (λ t. (here == k) ≡ t → part_at board y ≡ Some q) [
      | true ↦ λ same.
          let none = held_at-none_above (map (place_of board.layout) xs) ps here rising.0 in
          let there = ap (held_at (map (place_of board.layout) xs) ps) (eqb-true here k same) in
          absurd (cc)
      | false ↦ λ other. each y q (rw other at)
    ] refl in
    (each x p (rw (eq-eqb here here refl) refl), parts-on board xs ps rising.1 (omega (arith, long)) later)

module _ {E : Type 0} (state : E → DevState) where
  -- What is lifted for an event stands on the board before.
  pub lifted-on : (board after : Board E) (own : ℕ) (xs : List CellId) (lifted : Lifted E) → IsLifted state xs lifted after → IsNext state own xs board lifted → AreOn board xs lifted.parts.items
  lifted-on board after own xs lifted out next =
      let ps = lifted.parts.items in
      let same : after.layout ≡ board.layout = out.layout ∙ ap (λ (b : Board E). b.layout) next.before_is in
      let places : after.places.items ≡ map (place_of board.layout) xs = out.places ∙ (λ i. map (place_of (same i)) xs) in
      let were = subst (λ ks. AreFrom ks lifted.were.value.items lifted.before.value.cells.items) places out.from in
      let parts = subst (λ ws. AreFrom (map (place_of board.layout) xs) ws lifted.before.value.cells.items) (sym next.parts) were in
      let from = subst (λ (b : Board E). AreFrom (map (place_of board.layout) xs) ps b.cells.items) next.before_is parts in
      let rising = subst (λ l. IsRising (map (place_of l) xs)) same out.order.rising in
      parts-on board xs ps rising (sym (length-map ps (valued state)) ∙ are-long xs (map (valued state) ps) next.kinds)
      (λ x p at. from (place_of board.layout x) empty p at)

  granted-first : (board : Board E) (s : Step) (row : Option ℕ) (guest : Generation) (p : Part E) (ps : List (Part E)) → IsGrantedOn board s row guest
      → part_at board component.Dir ≡ Some p → IsPartOf component.Dir (valued state p) → IsGrantedAt (map (valued state) (p ∷ ps)) s row guest
  granted-first board s row guest (part.Dir d) ps granted on is = record { shown = granted.shown; granted = granted.granted d on }
  granted-first board s row guest (part.Shelf x) ps granted on is = absurd is
  granted-first board s row guest (part.Files x) ps granted on is = absurd is
  granted-first board s row guest (part.Space x) ps granted on is = absurd is
  granted-first board s row guest (part.Queue x) ps granted on is = absurd is
  granted-first board s row guest (part.Vcpu x) ps granted on is = absurd is
  granted-first board s row guest (part.Body x) ps granted on is = absurd is
  granted-first board s row guest (part.Area x) ps granted on is = absurd is

  -- The directory that is lifted first gives what that of the board gives.
  pub granted-at : (board : Board E) (s : Step) (row : Option ℕ) (guest : Generation) (later : List CellId) (ps : List (Part E)) → IsGrantedOn board s row guest
      → AreOn board (component.Dir ∷ later) ps → AreOf (component.Dir ∷ later) (map (valued state) ps) → IsGrantedAt (map (valued state) ps) s row guest
  granted-at board s row guest later [] granted on are = absurd are
  granted-at board s row guest later (p ∷ ps) granted on are = granted-first board s row guest p ps granted on.0 are.0
