-- What stands where a step reaches memory is what the board has.
use Rattle.std.proofs.Common.{◌≡◌, ◌<◌, ◌≤◌, ◌+◌, ℕ, List, [], ◌∷◌, map, Option, None, Some, refl, sym, ap, subst, ◌∙◌, arith}
use Rattle.std.specs.Prelude.{IfSome}
use Rattle.hv_access_steps.specs.First.{HasBytes, IsLong, LastHas, area_first, area_for, behind, size_first, window_first, window_for}
use Rattle.hv_board.specs.Board.{AreInOrder, part_at}
use Rattle.hv_board.specs.declared.board.Board.{Board}
use Rattle.hv_board.specs.declared.layout.Layout.{Layout}
use Rattle.hv_board_steps.proofs.Lifts.{AreOn}
use Rattle.hv_board_steps.specs.Sound.{length_of}
use Rattle.hv_board_steps.specs.Values.{body_of, space_of}
use Rattle.hv_emu.specs.Device.{DevState}
use Rattle.hv_event.specs.declared.event.CellId.{CellId}
use Rattle.hv_event.specs.declared.event.CellId.TheVariants as component
use Rattle.hv_kinds.specs.declared.address.AddressType.TheVariants.{Memory}
use Rattle.hv_kinds.specs.declared.generation.Generation.{Generation}
use Rattle.hv_memory_steps.specs.Ranges.{shown_range}
use Rattle.hv_parts.specs.Kinds.{AreOf, IsPartOf}
use Rattle.hv_parts.specs.Value.{PartValue, valued}
use Rattle.hv_parts.specs.declared.part.Part.{Part}
use Rattle.hv_parts.specs.declared.part.Part.TheVariants as part
use Rattle.hv_region.specs.declared.window.Window.{Window}
use Rattle.hv_rules.specs.Body.{shared_in}
use Rattle.hv_rules.specs.Footprint.{reached_by}
use Rattle.hv_rules.specs.Windows.{window_at}
use Rattle.hv_step.specs.declared.step.Load.{Load}
use Rattle.hv_text.specs.declared.limits.TheConstants.{SLOTS}
use Rattle.hv_memory_events.specs.Reached.{HasBytesOn, LeadsToRow, area_on, load_parts, mem_parts, size_in, size_on, window_on}

module _ {E : Type 0} (state : E → DevState) where
  size-here : (s : Load) (p : Part E) (vs : List PartValue) → size_first s (valued state p ∷ vs) ≡ size_in (Some p) s.path
  size-here s (part.Dir x) vs = refl
  size-here s (part.Shelf x) vs = refl
  size-here s (part.Files x) vs = refl
  size-here s (part.Space x) vs = refl
  size-here s (part.Queue x) vs = refl
  size-here s (part.Vcpu x) vs = refl
  size-here s (part.Body x) vs = refl
  size-here s (part.Area x) vs = refl

  window-here : (address size : ℕ) (p : Part E) (vs : List PartValue) → window_first address size (valued state p ∷ vs) ≡ window_at (space_of (Some p)).windows Memory address size
  window-here address size (part.Dir x) vs = refl
  window-here address size (part.Shelf x) vs = refl
  window-here address size (part.Files x) vs = refl
  window-here address size (part.Space x) vs = refl
  window-here address size (part.Queue x) vs = refl
  window-here address size (part.Vcpu x) vs = refl
  window-here address size (part.Body x) vs = refl
  window-here address size (part.Area x) vs = refl

  body-here : (window : Window) (address size : ℕ) (p q : Part E) (vs : List PartValue) → IsPartOf (component.Space 0) (valued state p)
      → area_first (Some window) address size (valued state p ∷ valued state q ∷ vs) ≡ shared_in (shown_range (body_of state (Some q)) window address size)
  body-here window address size (part.Space x) (part.Dir y) vs is = refl
  body-here window address size (part.Space x) (part.Shelf y) vs is = refl
  body-here window address size (part.Space x) (part.Files y) vs is = refl
  body-here window address size (part.Space x) (part.Space y) vs is = refl
  body-here window address size (part.Space x) (part.Queue y) vs is = refl
  body-here window address size (part.Space x) (part.Vcpu y) vs is = refl
  body-here window address size (part.Space x) (part.Body y) vs is = refl
  body-here window address size (part.Space x) (part.Area y) vs is = refl
  body-here window address size (part.Dir x) q vs is = absurd is
  body-here window address size (part.Shelf x) q vs is = absurd is
  body-here window address size (part.Files x) q vs is = absurd is
  body-here window address size (part.Queue x) q vs is = absurd is
  body-here window address size (part.Vcpu x) q vs is = absurd is
  body-here window address size (part.Body x) q vs is = absurd is
  body-here window address size (part.Area x) q vs is = absurd is

  long-here : (end : ℕ) (p : Part E) → IsPartOf (component.Area 0) (valued state p) → end ≤ length_of (Some p) → IsLong end (valued state p)
  long-here end (part.Area bytes) is low = low
  long-here end (part.Dir x) is low = absurd is
  long-here end (part.Shelf x) is low = absurd is
  long-here end (part.Files x) is low = absurd is
  long-here end (part.Space x) is low = absurd is
  long-here end (part.Queue x) is low = absurd is
  long-here end (part.Vcpu x) is low = absurd is
  long-here end (part.Body x) is low = absurd is

  any-space : (slot : ℕ) (p : Part E) → IsPartOf (component.Space slot) (valued state p) → IsPartOf (component.Space 0) (valued state p)
  any-space slot (part.Space x) is = tt
  any-space slot (part.Dir x) is = is
  any-space slot (part.Shelf x) is = is
  any-space slot (part.Files x) is = is
  any-space slot (part.Queue x) is = is
  any-space slot (part.Vcpu x) is = is
  any-space slot (part.Body x) is = is
  any-space slot (part.Area x) is = is

  any-area : (number : ℕ) (p : Part E) → IsPartOf (component.Area number) (valued state p) → IsPartOf (component.Area 0) (valued state p)
  any-area number (part.Area x) is = tt
  any-area number (part.Dir x) is = is
  any-area number (part.Shelf x) is = is
  any-area number (part.Files x) is = is
  any-area number (part.Space x) is = is
  any-area number (part.Queue x) is = is
  any-area number (part.Vcpu x) is = is
  any-area number (part.Body x) is = is

  module _ (board : Board E) (guest : Generation) where
    -- The space is the board's that stands first.
    pub window-is : (address : ℕ) (size : Option ℕ) (later : List CellId) (ps : List (Part E)) → AreOn board (component.Space guest.slot ∷ later) ps
        → window_on board guest address size ≡ window_for address size (map (valued state) ps)
    window-is address None later ps on = refl
    window-is address (Some n) later [] on = absurd on
    window-is address (Some n) later (p ∷ ps) on =
        ap (λ (o : Option (Part E)). window_at (space_of o).windows Memory address n) on.0 ∙ sym (window-here address n p (map (valued state) ps))

    -- So is the body that stands second.
    pub area-is : (window : Option Window) (address : ℕ) (size : Option ℕ) (area : Option (ℕ × ℕ)) (ps : List (Part E))
        → AreOn board (component.Space guest.slot ∷ reached_by guest window area) ps
        → AreOf (component.Space guest.slot ∷ reached_by guest window area) (map (valued state) ps)
        → area_on state board guest window address size ≡ area_for window address size (map (valued state) ps)
    area-is window address None area ps on are = refl
    area-is None address (Some n) area ps on are = refl
    area-is (Some window) address (Some n) area [] on are = absurd on
    area-is (Some window) address (Some n) area (p ∷ []) on are = absurd on.1
    area-is (Some window) address (Some n) area (p ∷ q ∷ ps) on are =
        ap (λ (o : Option (Part E)). shared_in (shown_range (body_of state o) window address n)) on.1.0
        ∙ sym (body-here window address n p q (map (valued state) ps) (any-space guest.slot p are.0))

    last-has : (place : ℕ × ℕ) (n : ℕ) (ps : List (Part E)) → AreOn board (component.Area place.0 ∷ []) ps → AreOf (component.Area place.0 ∷ []) (map (valued state) ps)
        → place.1 + n ≤ length_of (part_at board (component.Area place.0)) → LastHas (place.1 + n) (map (valued state) ps)
    last-has place n [] on are low = absurd on
    last-has place n (p ∷ q ∷ ps) on are low = absurd on.1
    last-has place n (p ∷ []) on are low =
        long-here (place.1 + n) p (any-area place.0 p are.0) (subst (λ (o : Option (Part E)). place.1 + n ≤ length_of o) on.0 low)

    -- The area that stands last has its bytes.
    pub bytes-are : (window : Option Window) (address : ℕ) (n : ℕ) (area : Option (ℕ × ℕ)) (ps : List (Part E))
        → AreOn board (component.Space guest.slot ∷ reached_by guest window area) ps
        → AreOf (component.Space guest.slot ∷ reached_by guest window area) (map (valued state) ps)
        → area ≡ area_on state board guest window address (Some n) → HasBytesOn board (Some n) area → HasBytes n area (map (valued state) ps)
    bytes-are window address n None ps on are is has = tt
    bytes-are None address n (Some place) ps on are is has = absurd (cc)
    bytes-are (Some window) address n (Some place) [] on are is has = absurd on
    bytes-are (Some window) address n (Some place) (p ∷ []) on are is has = absurd on.1
    bytes-are (Some window) address n (Some place) (p ∷ q ∷ []) on are is has = absurd on.1.1
    bytes-are (Some window) address n (Some place) (p ∷ q ∷ r ∷ ps) on are is has = last-has place n (r ∷ ps) on.1.1 are.1.1 has

  -- The files are the board's that stand first.
  pub size-is : (board : Board E) (s : Load) (later : List CellId) (ps : List (Part E)) → AreOn board (component.Files ∷ later) ps
      → size_on board s.path ≡ size_first s (map (valued state) ps)
  size-is board s later [] on = absurd on
  size-is board s later (p ∷ ps) on = ap (λ (o : Option (Part E)). size_in o s.path) on.0 ∙ sym (size-here s p (map (valued state) ps))

  module _ (board : Board E) (guest : Generation) (window : Option Window) (area : Option (ℕ × ℕ)) where
    -- A load finds at the parts what it reaches on the board: the window,
    pub load-window-there :
        (s : Load) (ps qs : List (Part E)) → AreOn board (load_parts guest window area) ps → qs ≡ ps → window ≡ window_on board guest s.address (size_on board s.path)
        → (let values = behind (map (valued state) qs) in window ≡ window_for s.address (size_first s values) (behind values))
    load-window-there s [] qs on same is = absurd on
    load-window-there s (p ∷ []) qs on same is = absurd on.1
    load-window-there s (p ∷ q ∷ ps) qs on same is =
        let vs = map (valued state) ps in
        let later = component.Space guest.slot ∷ reached_by guest window area in
        let here = is ∙ window-is board guest s.address (size_on board s.path) (reached_by guest window area) ps on.1.1 in
        let sized = here ∙ ap (λ (o : Option ℕ). window_for s.address o vs) (size-is board s later (q ∷ ps) on.1) in
        subst (λ (l : List (Part E)). let values = behind (map (valued state) l) in window ≡ window_for s.address (size_first s values) (behind values)) (sym same) sized

    -- the area,
    pub load-area-there :
        (s : Load) (ps qs : List (Part E)) → AreOn board (load_parts guest window area) ps → AreOf (load_parts guest window area) (map (valued state) ps) → qs ≡ ps
        → area ≡ area_on state board guest window s.address (size_on board s.path)
        → (let values = behind (map (valued state) qs) in area ≡ area_for window s.address (size_first s values) (behind values))
    load-area-there s [] qs on are same is = absurd on
    load-area-there s (p ∷ []) qs on are same is = absurd on.1
    load-area-there s (p ∷ q ∷ ps) qs on are same is =
        let vs = map (valued state) ps in
        let later = component.Space guest.slot ∷ reached_by guest window area in
        let here = is ∙ area-is board guest window s.address (size_on board s.path) area ps on.1.1 are.1.1 in
        let sized = here ∙ ap (λ (o : Option ℕ). area_for window s.address o vs) (size-is board s later (q ∷ ps) on.1) in
        subst (λ (l : List (Part E)). let values = behind (map (valued state) l) in area ≡ area_for window s.address (size_first s values) (behind values)) (sym same) sized

    bytes-if :
        (address : ℕ) (size : Option ℕ) (ps : List (Part E)) → AreOn board (component.Space guest.slot ∷ reached_by guest window area) ps
        → AreOf (component.Space guest.slot ∷ reached_by guest window area) (map (valued state) ps) → area ≡ area_on state board guest window address size
        → HasBytesOn board size area → IfSome size (λ n. HasBytes n area (map (valued state) ps))
    bytes-if address None ps on are is has = tt
    bytes-if address (Some n) ps on are is has = bytes-are board guest window address n area ps on are is has

    -- and its bytes.
    pub load-bytes-there :
        (s : Load) (ps qs : List (Part E)) → AreOn board (load_parts guest window area) ps → AreOf (load_parts guest window area) (map (valued state) ps) → qs ≡ ps
        → area ≡ area_on state board guest window s.address (size_on board s.path) → HasBytesOn board (size_on board s.path) area
        → (let values = behind (map (valued state) qs) in IfSome (size_first s values) (λ size. HasBytes size area (behind values)))
    load-bytes-there s [] qs on are same is has = absurd on
    load-bytes-there s (p ∷ []) qs on are same is has = absurd on.1
    load-bytes-there s (p ∷ q ∷ ps) qs on are same is has =
        let vs = map (valued state) ps in
        let later = component.Space guest.slot ∷ reached_by guest window area in
        let here = bytes-if s.address (size_on board s.path) ps on.1.1 are.1.1 is has in
        let sized = subst (λ (o : Option ℕ). IfSome o (λ n. HasBytes n area vs)) (size-is board s later (q ∷ ps) on.1) here in
        subst (λ (l : List (Part E)). let values = behind (map (valued state) l) in IfSome (size_first s values) (λ size. HasBytes size area (behind values))) (sym same) sized

    -- So does a look find the window,
    pub mem-window-there :
        (address n : ℕ) (ps qs : List (Part E)) → AreOn board (mem_parts guest window area) ps → qs ≡ ps → window ≡ window_on board guest address (Some n)
        → window ≡ window_first address n (behind (map (valued state) qs))
    mem-window-there address n [] qs on same is = absurd on
    mem-window-there address n (p ∷ ps) qs on same is =
        subst (λ (l : List (Part E)). window ≡ window_first address n (behind (map (valued state) l))) (sym same)
        (is ∙ window-is board guest address (Some n) (reached_by guest window area) ps on.1)

    -- the area,
    pub mem-area-there :
        (address n : ℕ) (ps qs : List (Part E)) → AreOn board (mem_parts guest window area) ps → AreOf (mem_parts guest window area) (map (valued state) ps) → qs ≡ ps
        → area ≡ area_on state board guest window address (Some n) → area ≡ area_first window address n (behind (map (valued state) qs))
    mem-area-there address n [] qs on are same is = absurd on
    mem-area-there address n (p ∷ ps) qs on are same is =
        subst (λ (l : List (Part E)). area ≡ area_first window address n (behind (map (valued state) l))) (sym same)
        (is ∙ area-is board guest window address (Some n) area ps on.1 are.1)

    -- and its bytes.
    pub mem-bytes-there :
        (address n : ℕ) (ps qs : List (Part E)) → AreOn board (mem_parts guest window area) ps → AreOf (mem_parts guest window area) (map (valued state) ps) → qs ≡ ps
        → area ≡ area_on state board guest window address (Some n) → HasBytesOn board (Some n) area → HasBytes n area (behind (map (valued state) qs))
    mem-bytes-there address n [] qs on are same is has = absurd on
    mem-bytes-there address n (p ∷ ps) qs on are same is has =
        subst (λ (l : List (Part E)). HasBytes n area (behind (map (valued state) l))) (sym same) (bytes-are board guest window address n area ps on.1 are.1 is has)

-- What is touched stands in the order of locks.
pub load-in-order : (layout : Layout) (guest : Generation) (window : Option Window) (area : Option (ℕ × ℕ)) → guest.slot < SLOTS → LeadsToRow window
    → IfSome area (λ place. place.0 < layout.areas) → AreInOrder layout (load_parts guest window area)
load-in-order layout guest None area few low there = record {
  rising = ((omega arith, (omega arith, tt)), ((omega arith, tt), (tt, tt)));
  have = (tt, (tt, (few, tt)));
}
load-in-order layout guest (Some window) None few low there = record {
  rising = (
    (omega arith, (omega arith, (omega arith, tt))),
    ((omega arith, (omega arith, tt)), ((omega (arith, few), tt), (tt, tt))),
  );
  have = (tt, (tt, (few, ((few, low), tt))));
}
load-in-order layout guest (Some window) (Some place) few low there = record {
  rising = (
    (omega arith, (omega arith, (omega arith, (omega arith, tt)))),
    (
      (omega arith, (omega arith, (omega arith, tt))),
      ((omega (arith, few), (omega (arith, few), tt)), ((omega (arith, few, low), tt), (tt, tt))),
    ),
  );
  have = (tt, (tt, (few, ((few, low), (there, tt)))));
}

pub mem-in-order : (layout : Layout) (guest : Generation) (window : Option Window) (area : Option (ℕ × ℕ)) → guest.slot < SLOTS → LeadsToRow window
    → IfSome area (λ place. place.0 < layout.areas) → AreInOrder layout (mem_parts guest window area)
mem-in-order layout guest None area few low there = record { rising = ((omega arith, tt), (tt, tt)); have = (tt, (few, tt)) }
mem-in-order layout guest (Some window) None few low there = record {
  rising = ((omega arith, (omega arith, tt)), ((omega (arith, few), tt), (tt, tt)));
  have = (tt, (few, ((few, low), tt)));
}
mem-in-order layout guest (Some window) (Some place) few low there = record {
  rising = (
    (omega arith, (omega arith, (omega arith, tt))),
    ((omega (arith, few), (omega (arith, few), tt)), ((omega (arith, few, low), tt), (tt, tt))),
  );
  have = (tt, (few, ((few, low), (there, tt))));
}
