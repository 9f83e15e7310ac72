-- A board that holds a state within bounds is within bounds.
use Rattle.std.proofs.Common.{◌≡◌, ℕ, ◌<◌, sym, ap, subst, ◌∙◌, List, [], length, arith, None, Some}
use Rattle.std.proofs.lemmas.Option.{same_Some}
use Rattle.hv_board.specs.Board.{part_at}
use Rattle.hv_board.specs.Holds.{Holds, part_value}
use Rattle.hv_board.specs.Places.{HasPlace}
use Rattle.hv_board.specs.declared.board.Board.{Board}
use Rattle.hv_body.specs.Body.{with_contents}
use Rattle.hv_body.specs.Contents.{map_device}
use Rattle.hv_body.specs.declared.live.Live.{Live}
use Rattle.hv_emu.specs.Device.{DevState}
use Rattle.hv_event.specs.declared.event.CellId.{CellId}
use Rattle.hv_event.specs.declared.event.CellId.TheVariants as component
use Rattle.hv_guest_steps.specs.Regions.{ShowWithin}
use Rattle.hv_machine.specs.Machine.{State}
use Rattle.hv_model.specs.Cell.{Component}
use Rattle.hv_model.specs.Origin.{Origin}
use Rattle.hv_model.specs.Rules.{machine}
use Rattle.hv_parts.specs.Value.{PartValue, valued}
use Rattle.hv_parts.specs.Value.{Space, Body, Area}
use Rattle.hv_parts.specs.declared.part.Part.{Part}
use Rattle.hv_parts.specs.declared.part.Part.TheVariants as part
use Rattle.hv_region.specs.declared.plan.Form.{Form}
use Rattle.hv_region.specs.declared.plan.Form.TheVariants.{Ram, Rom, Device, Real, Alias}
use Rattle.hv_rules.specs.Body.{BodyValue}
use Rattle.hv_space.specs.Space.{SpaceState, no_windows}
use Rattle.hv_text.specs.declared.limits.TheConstants.{GUEST_REGIONS, SLOTS}
use Rattle.hv_bound_laws.specs.Boards.{HoldsWithinBounds, IsBoardBounded, ShowsArea, length_of}
use Rattle.hv_bound_laws.specs.Bounds.{EndWithin, HasArea, IsBounded, LeadToRows}

-- what a part's value is of

abbrev space-in : PartValue → SpaceState
space-in (Space space) = space
space-in value = no_windows

abbrev body-in : PartValue → BodyValue
body-in (Body body) = body
body-in value = None

abbrev bytes-in : PartValue → List ℕ
bytes-in (Area bytes) = bytes
bytes-in value = []

module _ {E : Type 0} (state : E → DevState) where
  area-by : (p : Part E) (bytes : List ℕ) → valued state p ≡ Area bytes → length_of (Some p) ≡ length bytes
  area-by (part.Area b) bytes is = ap (λ (v : PartValue). length (bytes-in v)) is
  area-by (part.Dir directory) bytes is = absurd (cc is)
  area-by (part.Shelf shelf) bytes is = absurd (cc is)
  area-by (part.Files files) bytes is = absurd (cc is)
  area-by (part.Space space) bytes is = absurd (cc is)
  area-by (part.Queue queue) bytes is = absurd (cc is)
  area-by (part.Vcpu vcpu) bytes is = absurd (cc is)
  area-by (part.Body body) bytes is = absurd (cc is)

  module _ (O : Origin) (s : State (machine O)) (board : Board E) (holds : Holds state O s board) where
    -- a part has the value of its component
    value-at : (x : CellId) → HasPlace board.layout x → (p : Part E) → part_at board x ≡ Some p → valued state p ≡ part_value x (s (Component x)).value
    value-at x there p at =
        let h = holds.each x there in
        let same : p ≡ h.part = same_Some p h.part (sym at ∙ h.is) in
        ap (valued state) same ∙ h.value

    space-held : (slot : ℕ) (space : SpaceState) → slot < SLOTS → part_at board (component.Space slot) ≡ Some (part.Space space) → space ≡ (s (Component (component.Space slot))).value
    space-held slot space below at = ap space-in (value-at (component.Space slot) below (part.Space space) at)

    body-held : (slot row : ℕ) (live : Live E) → slot < SLOTS → row < GUEST_REGIONS → part_at board (component.Body slot row) ≡ Some (part.Body (Some live))
        → (s (Component (component.Body slot row))).value ≡ Some (with_contents live (map_device state live.contents))
    body-held slot row live in-slot in-row at = sym (ap body-in (value-at (component.Body slot row) (in-slot, in-row) (part.Body (Some live)) at))

    area-held : (area : ℕ) → area < board.layout.areas → length_of (part_at board (component.Area area)) ≡ length (s (Component (component.Area area))).value
    area-held area below =
        let h = holds.each (component.Area area) below in
        ap length_of h.is ∙ area-by h.part (s (Component (component.Area area))).value h.value

    shows-area : board.layout.areas ≡ length O.opening.areas → (size : ℕ) (form : Form) → HasArea O s size form → ShowsArea board size form
    shows-area areas size Ram has = tt
    shows-area areas size Rom has = tt
    shows-area areas size (Device names) has = tt
    shows-area areas size (Alias address) has = tt
    shows-area areas size (Real area offset) has =
        let first = has.0 in
        let last = has.1 in
        let below : area < board.layout.areas = omega (arith, first, areas) in
        let long = area-held area below in
        (below, omega (arith, last, long))

    pub board-bounded : board.layout.areas ≡ length O.opening.areas → IsBounded O s → IsBoardBounded board
    board-bounded areas b = record {
      spaces = λ slot space below at. subst (λ (x : SpaceState). ShowWithin x.windows) (sym (space-held slot space below at)) (b.spaces slot);
      rows = λ slot space below at. subst (λ (x : SpaceState). LeadToRows x.windows) (sym (space-held slot space below at)) (b.rows slot);
      ends = λ slot space below at. subst (λ (x : SpaceState). EndWithin x.windows) (sym (space-held slot space below at)) (b.ends slot);
      areas = λ slot row live in-slot in-row at.
          shows-area areas live.plan.size live.plan.form
          (b.areas slot row (with_contents live (map_device state live.contents)) (body-held slot row live in-slot in-row at));
      parents = λ slot row live in-slot in-row at.
          b.parents slot row (with_contents live (map_device state live.contents)) (body-held slot row live in-slot in-row at);
    }

pub holds-within : {E : Type 0} (state : E → DevState) (board : Board E) → HoldsWithinBounds state board
holds-within state board O s holds areas b = board-bounded state O s board holds areas b
