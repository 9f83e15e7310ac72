-- The directory admits a step at the parts that are lifted where it does so on the board.
use Rattle.std.proofs.Common.{◌≡◌, ℕ, List, [], ◌∷◌, map, Option, Some, None, refl, sym, ap, subst, ◌∙◌}
use Rattle.std.specs.Prelude.{IsSome}
use Rattle.hv_board.specs.Board.{IsWhole, part_at}
use Rattle.hv_board.specs.Carrying.{AreFrom, empty}
use Rattle.hv_board.specs.Lifted.{IsLifted, IsNext}
use Rattle.hv_board.specs.Places.{place_of}
use Rattle.hv_board.specs.declared.board.Board.{Board}
use Rattle.hv_board.specs.declared.lifted.Lifted.{Lifted}
use Rattle.hv_dir.specs.Directory.{DirState}
use Rattle.hv_emu.specs.Device.{DevState}
use Rattle.hv_event.specs.declared.event.CellId.{CellId}
use Rattle.hv_event.specs.declared.event.CellId.TheVariants as component
use Rattle.hv_kinds.specs.declared.generation.Generation.{Generation}
use Rattle.hv_parts.specs.Admission.{IsAdmittedBy}
use Rattle.hv_parts.specs.Kinds.{IsPartOf, AreOf}
use Rattle.hv_parts.specs.Value.{PartValue, valued, Dir}
use Rattle.hv_parts.specs.declared.part.Part.{Part}
use Rattle.hv_parts.specs.declared.part.Part.TheVariants as part
use Rattle.hv_rules.specs.Footprint.{past_dir, past_dir_if}
use Rattle.hv_step.specs.declared.step.ByGuest.{ByGuest}
use Rattle.hv_board_steps.specs.Vcpus.{IsAdmittedOn, IsShown}

module _ {E : Type 0} (state : E → DevState) where
  -- A part of the directory's kind is a directory.
  dir-part : (p : Part E) → IsPartOf component.Dir (valued state p) → (d : DirState) × (p ≡ part.Dir d)
  dir-part (part.Dir d) is = (d, refl)
  dir-part (part.Shelf x) is = absurd is
  dir-part (part.Files x) is = absurd is
  dir-part (part.Space x) is = absurd is
  dir-part (part.Queue x) is = absurd is
  dir-part (part.Vcpu x) is = absurd is
  dir-part (part.Body x) is = absurd is
  dir-part (part.Area x) is = absurd is

  -- A whole board has a directory.
  pub has-directory : (board : Board E) → IsWhole state board → (d : DirState) × (part_at board component.Dir ≡ Some (part.Dir d))
  has-directory board whole =
      let full = whole.each component.Dir tt in
      let d = dir-part full.part full.kind in
      (d.0, full.is ∙ ap Some d.1)

  shown-if : (guest : Option ByGuest) (d : DirState) → IsAdmittedBy (Dir d ∷ []) guest → IsShown guest
  shown-if None d is = tt
  shown-if (Some by) d is = is.there

  -- A step that is admitted shows a generation, if it is by guest.
  pub admitted-shown : (board : Board E) (guest : Option ByGuest) → IsWhole state board → IsAdmittedOn board guest → IsShown guest
  admitted-shown board guest whole is = let d = has-directory board whole in shown-if guest d.0 (is d.0 d.1)

  first-kind : (g : Option Generation) (later : List CellId) (v : PartValue) (vs : List PartValue) → IsSome g → AreOf (past_dir g (λ h. later)) (v ∷ vs) → IsPartOf component.Dir v
  first-kind None later v vs shown are = absurd (cc)
  first-kind (Some g) later v vs shown are = are.0

  no-first : (g : Option Generation) (later : List CellId) → AreOf (past_dir g (λ h. later)) [] → ⊥
  no-first None later are = are
  no-first (Some g) later are = are

  past-first : (g : Option Generation) (later : List CellId) → IsSome g → past_dir g (λ h. later) ≡ component.Dir ∷ later
  past-first None later shown = absurd (cc)
  past-first (Some g) later shown = refl

  -- The directory that is lifted first is that of the board.
  pub admitted-parts : (board : Board E) (guest : Option ByGuest) (later : List CellId) (ps : List (Part E)) → IsWhole state board → IsAdmittedOn board guest
      → AreOf (past_dir_if guest later) (map (valued state) ps) → AreFrom (map (place_of board.layout) (past_dir_if guest later)) ps board.cells.items
      → IsAdmittedBy (map (valued state) ps) guest
  admitted-parts board None later ps whole is are from = tt
  admitted-parts board (Some by) later [] whole is are from = absurd (no-first by.generation later are)
  admitted-parts board (Some by) later (p ∷ ps) whole is are from =
      let shown = admitted-shown board (Some by) whole is in
      let d = dir-part p (first-kind by.generation later (valued state p) (map (valued state) ps) shown are) in
      let places = subst (λ xs. AreFrom (map (place_of board.layout) xs) (p ∷ ps) board.cells.items) (past-first by.generation later shown) from in
      let here : part_at board component.Dir ≡ Some p = places 0 empty p refl in
      let admitted = is d.0 (here ∙ ap Some d.1) in
      let At : Part E → Type 0 = λ q. IsAdmittedBy (valued state q ∷ map (valued state) ps) (Some by) in
      subst At (sym d.1) (record { there = admitted.there; granted = admitted.granted })

  -- The same of the parts that are lifted for an event.
  pub admitted-lifted : (board after : Board E) (guest : Option ByGuest) (own : ℕ) (later xs : List CellId) (lifted : Lifted E) → IsWhole state board → IsAdmittedOn board guest
      → xs ≡ past_dir_if guest later → IsLifted state xs lifted after → IsNext state own xs board lifted → IsAdmittedBy (map (valued state) lifted.parts.items) guest
  admitted-lifted board after guest own later xs lifted whole is xs_are out next =
      let ps = lifted.parts.items in
      let same : after.layout ≡ board.layout = out.layout ∙ ap (λ (b : Board E). b.layout) next.before_is in
      let places : after.places.items ≡ map (place_of board.layout) (past_dir_if guest later) = out.places ∙ (λ i. map (place_of (same i)) (xs_are i)) in
      let were = subst (λ ks. AreFrom ks lifted.were.value.items lifted.before.value.cells.items) places out.from in
      let parts = subst (λ ws. AreFrom (map (place_of board.layout) (past_dir_if guest later)) ws lifted.before.value.cells.items) (sym next.parts) were in
      let from = subst (λ (b : Board E). AreFrom (map (place_of board.layout) (past_dir_if guest later)) ps b.cells.items) next.before_is parts in
      admitted-parts board guest later ps whole is (subst (λ ys. AreOf ys (map (valued state) ps)) xs_are next.kinds) from
