-- The part of a component that leaves a board.
use Rattle.std.proofs.Common.{◌≡◌, ◌≢◌, ℕ, Some, refl, sym, ap, subst, ◌∙◌, arith, slice_index_or, slice_set}
use Rattle.std.specs.Prelude.{IsSome}
use Rattle.std.proofs.lemmas.List.{get_or_default, get_or-set_other}
use Rattle.std.proofs.lemmas.Option.{same_Some}
use Rattle.hv_emu.specs.Device.{DevState}
use Rattle.hv_event.specs.declared.event.CellId.{CellId}
use Rattle.hv_parts.specs.Kinds.{IsPartOf}
use Rattle.hv_parts.specs.Value.{valued}
use Rattle.hv_parts.specs.declared.part.Part.{Part}
use Rattle.hv_board.proofs.PlaceLemmas.{place-within}
use Rattle.hv_board.specs.Board.{IsWhole, cell_at}
use Rattle.hv_board.specs.Carrying.{empty}
use Rattle.hv_board.specs.Places.{HasPlace, place_of}
use Rattle.hv_board.specs.declared.board.Board.{Board}
use Rattle.hv_board.specs.declared.cell.Cell.{Cell}

module _ {E : Type 0} (state : E → DevState) (board : Board E) (whole : IsWhole state board) (x : CellId) (has : HasPlace board.layout x) where
  -- the cell at the place of a component is the component's
  pub cell-there : (d : Cell E) → slice_index_or board.cells.items (place_of board.layout x) d ≡ cell_at board x
  cell-there d =
      let within = place-within board.layout x has in
      get_or_default board.cells.items (place_of board.layout x) d empty (omega (arith, within, whole.long))

  -- also once the cell at another place has changed
  pub cell-stays : (other : ℕ) (new d : Cell E) → place_of board.layout x ≢ other → slice_index_or (slice_set board.cells.items other new) (place_of board.layout x) d ≡ cell_at board x
  cell-stays other new d apart = get_or-set_other board.cells.items other (place_of board.layout x) new d apart ∙ cell-there d

  -- it has a part, of the component's kind
  pub is-there : (cell : Cell E) → cell ≡ cell_at board x → IsSome cell.part
  is-there cell is = subst IsSome (sym (whole.each x has).is ∙ sym (ap (λ (c : Cell E). c.part) is)) refl

  pub kind-there : (cell : Cell E) (part : Part E) → cell ≡ cell_at board x → cell.part ≡ Some part → IsPartOf x (valued state part)
  kind-there cell part is held =
      let full = whole.each x has in
      let same : full.part ≡ part = same_Some full.part part (sym full.is ∙ (sym (ap (λ (c : Cell E). c.part) is) ∙ held)) in
      subst (λ (p : Part E). IsPartOf x (valued state p)) same full.kind
