-- What stands where a step on a region is made is what the board has.
use Rattle.std.proofs.Common.{◌≡◌, ◌<◌, ℕ, List, [], ◌∷◌, map, Option, Some, refl, sym, ap, subst, ◌∙◌, arith}
use Rattle.hv_board.specs.Board.{AreInOrder, part_at}
use Rattle.hv_board.specs.declared.board.Board.{Board}
use Rattle.hv_board.specs.declared.layout.Layout.{Layout}
use Rattle.hv_board_steps.proofs.Lifts.{AreOn}
use Rattle.hv_board_steps.specs.Values.{pool_of, pool_on, space_of, space_on}
use Rattle.hv_emu.specs.Device.{DevState}
use Rattle.hv_event.specs.declared.event.CellId.{CellId}
use Rattle.hv_event.specs.declared.event.CellId.TheVariants as component
use Rattle.hv_kinds.specs.declared.generation.Generation.{Generation}
use Rattle.hv_parts.specs.Value.{PartValue, valued}
use Rattle.hv_parts.specs.declared.part.Part.{Part}
use Rattle.hv_parts.specs.declared.part.Part.TheVariants as part
use Rattle.hv_region.specs.declared.window.Window.{Window}
use Rattle.hv_region_steps.specs.Regions.{pool_in, space_in}
use Rattle.hv_space.specs.Space.{SpaceState}
use Rattle.hv_text.specs.declared.limits.TheConstants.{GUEST_REGIONS, SLOTS}
use Rattle.hv_region_events.specs.Regions.{changed_parts, refused_parts}

module _ {E : Type 0} (state : E → DevState) where
  pool-here : (first : PartValue) (p : Part E) (vs : List PartValue) → pool_in (first ∷ valued state p ∷ vs) ≡ pool_of state (Some p)
  pool-here first (part.Dir x) vs = refl
  pool-here first (part.Shelf x) vs = refl
  pool-here first (part.Files x) vs = refl
  pool-here first (part.Space x) vs = refl
  pool-here first (part.Queue x) vs = refl
  pool-here first (part.Vcpu x) vs = refl
  pool-here first (part.Body x) vs = refl
  pool-here first (part.Area x) vs = refl

  space-here : (first second : PartValue) (p : Part E) (vs : List PartValue) → space_in (first ∷ second ∷ valued state p ∷ vs) ≡ space_of (Some p)
  space-here first second (part.Dir x) vs = refl
  space-here first second (part.Shelf x) vs = refl
  space-here first second (part.Files x) vs = refl
  space-here first second (part.Space x) vs = refl
  space-here first second (part.Queue x) vs = refl
  space-here first second (part.Vcpu x) vs = refl
  space-here first second (part.Body x) vs = refl
  space-here first second (part.Area x) vs = refl

  -- The pool stands second.
  pub pool-is :
      (board : Board E) (slot : ℕ) (later : List CellId) (ps : List (Part E)) → AreOn board (component.Dir ∷ component.Shelf ∷ component.Space slot ∷ later) ps
      → pool_on state board ≡ pool_in (map (valued state) ps)
  pool-is board slot later [] on = absurd on
  pool-is board slot later (p ∷ []) on = absurd on.1
  pool-is board slot later (p ∷ q ∷ ps) on =
      ap (pool_of state) on.1.0 ∙ sym (pool-here (valued state p) q (map (valued state) ps))

  -- The space stands third.
  pub space-is :
      (board : Board E) (slot : ℕ) (later : List CellId) (ps : List (Part E)) → AreOn board (component.Dir ∷ component.Shelf ∷ component.Space slot ∷ later) ps
      → space_on board slot ≡ space_in (map (valued state) ps)
  space-is board slot later [] on = absurd on
  space-is board slot later (p ∷ []) on = absurd on.1
  space-is board slot later (p ∷ q ∷ []) on = absurd on.1.1
  space-is board slot later (p ∷ q ∷ r ∷ ps) on =
      ap space_of on.1.1.0 ∙ sym (space-here (valued state p) (valued state q) r (map (valued state) ps))

  -- What holds of the windows and the devices of the board does so there.
  pub case-there :
      (P : List Window → List DevState → Type 0) (board : Board E) (slot : ℕ) (later : List CellId) (ps qs : List (Part E))
      → AreOn board (component.Dir ∷ component.Shelf ∷ component.Space slot ∷ later) ps → qs ≡ ps → P (space_on board slot).windows (pool_on state board)
      → P (space_in (map (valued state) qs)).windows (pool_in (map (valued state) qs))
  case-there P board slot later ps qs on same is =
      let spaces = subst (λ (space : SpaceState). P space.windows (pool_on state board)) (space-is board slot later ps on) is in
      let pools = subst (λ (pool : List DevState). P (space_in (map (valued state) ps)).windows pool) (pool-is board slot later ps on) spaces in
      subst (λ (rs : List (Part E)). P (space_in (map (valued state) rs)).windows (pool_in (map (valued state) rs))) (sym same) pools

-- What is touched stands in the order of locks.
pub refused-in-order : (layout : Layout) (guest : Generation) → guest.slot < SLOTS → AreInOrder layout (refused_parts guest)
refused-in-order layout guest few = record {
  rising = ((omega arith, (omega arith, tt)), ((omega arith, tt), (tt, tt)));
  have = (tt, (tt, (few, tt)));
}

pub changed-in-order :
    (layout : Layout) (guest : Generation) (row : ℕ) → guest.slot < SLOTS → row < GUEST_REGIONS → AreInOrder layout (changed_parts guest row)
changed-in-order layout guest row few low = record {
  rising = (
    (omega arith, (omega arith, (omega arith, tt))),
    ((omega arith, (omega arith, tt)), ((omega (arith, few), tt), (tt, tt))),
  );
  have = (tt, (tt, (few, ((few, low), tt))));
}
