-- Cells that are at their start, one more at a time.
use Rattle.std.proofs.Common.{◌≡◌, ◌<◌, ◌≤◌, ◌+◌, ◌==◌, ℕ, Bool, true, false, List, [], ◌∷◌, ◌++◌, length, slice_index_or, refl, sym, ap, subst, ◌∙◌, eqb-true, arith}
use Rattle.std.proofs.lemmas.List.{get_or_append_left, get_or_push, length_push}
use Rattle.hv_emu.specs.Device.{DevState}
use Rattle.hv_event.specs.declared.event.CellId.{CellId}
use Rattle.hv_model.specs.Cell.{Component}
use Rattle.hv_model.specs.Legal.{start, value_at_start}
use Rattle.hv_model.specs.Origin.{Origin}
use Rattle.hv_parts.specs.Kinds.{IsPartOf}
use Rattle.hv_text.specs.declared.limits.TheConstants.{GREATEST_STAMP}
use Rattle.hv_board.proofs.HeldLemmas.{eqb-false}
use Rattle.hv_board.proofs.KindLemmas.{value-kind}
use Rattle.hv_board.proofs.PlaceLemmas.{place-only}
use Rattle.hv_board.specs.Board.{IsFull, cell_of}
use Rattle.hv_board.specs.Carrying.{empty}
use Rattle.hv_board.specs.Holds.{HoldsAt}
use Rattle.hv_board.specs.Places.{HasPlace, place_of}
use Rattle.hv_board.specs.Started.{AreStarted}
use Rattle.hv_board.specs.declared.cell.Cell.{Cell}
use Rattle.hv_board.specs.declared.layout.Layout.{Layout}

module _ {E : Type 0} (state : E → DevState) (O : Origin) (layout : Layout) where
  pub started-push : (cells : List (Cell E)) (n : ℕ) (y : CellId) (cell : Cell E) → HasPlace layout y → place_of layout y ≡ n → HoldsAt state y (start O (Component y)) cell
      → AreStarted state O layout cells n → AreStarted state O layout (cells ++ cell ∷ []) (n + 1)
  started-push cells n y cell has at holds so =
      let more = cells ++ cell ∷ [] in
      let each : (x : CellId) → HasPlace layout x → place_of layout x < n + 1 → HoldsAt state x (start O (Component x)) (cell_of layout more x) = λ x there low.
      let k = place_of layout x in
      elim (n == k) as (λ b. (n == k) ≡ b → HoldsAt state x (start O (Component x)) (cell_of layout more x)) [
        | true ↦ λ same.
            let is : y ≡ x = place-only layout y x has there (at ∙ eqb-true n k same) in
            let here : cell_of layout more y ≡ cell = get_or_push cells cell empty (place_of layout y) (so.long ∙ sym at) in
            let At : CellId → Type 0 = λ z. HoldsAt state z (start O (Component z)) (cell_of layout more z) in
            subst At is (subst (HoldsAt state y (start O (Component y))) (sym here) holds)
        | false ↦ λ other.
            let apart = eqb-false n k other in
            let below : k < n = omega arith in
            let here : cell_of layout more x ≡ cell_of layout cells x = get_or_append_left cells (cell ∷ []) empty k (omega (arith, so.long)) in
            subst (HoldsAt state x (start O (Component x))) (sym here) (so.each x there below)
      ] refl in
      record { long = length_push cells cell ∙ ap (λ k. k + 1) so.long; each = each }

  -- The same count in other words.
  pub started-as : (cells : List (Cell E)) (n m : ℕ) → n ≡ m → AreStarted state O layout cells n → AreStarted state O layout cells m
  started-as cells n m same so = subst (AreStarted state O layout cells) same so

-- A cell at the start is full.
pub started-full : {E : Type 0} (state : E → DevState) (O : Origin) (x : CellId) (cell : Cell E) → HoldsAt state x (start O (Component x)) cell → IsFull state x cell
started-full state O x cell holds =
    let stamp : cell.stamp ≡ 0 = holds.stamp in
    record {
      part = holds.part;
      is = holds.is;
      kind = subst (IsPartOf x) (sym holds.value) (value-kind x (value_at_start O (Component x)));
      bounded = subst (λ n. n ≤ GREATEST_STAMP) (sym stamp) (omega arith);
    }
