-- Parts that are put back with the values that they had.
use Rattle.std.proofs.Common.{◌≡◌, ◌<◌, ◌≤◌, ◌==◌, ℕ, Bool, true, false, if◌then◌else◌, List, [], ◌∷◌, length, map, slice_index_or, Option, Some, None, refl, sym, ap, subst, ◌∙◌, arith}
use Rattle.hv_emu.specs.Device.{DevState}
use Rattle.hv_event.specs.declared.event.CellId.{CellId}
use Rattle.hv_machine.specs.Machine.{CellState}
use Rattle.hv_model.specs.Cell.{Component}
use Rattle.hv_model.specs.Rules.{rules}
use Rattle.hv_parts.specs.Kinds.{IsPartOf}
use Rattle.hv_parts.specs.Value.{PartValue, valued}
use Rattle.hv_parts.specs.declared.part.Part.{Part}
use Rattle.hv_text.specs.declared.limits.TheConstants.{GREATEST_STAMP}
use Rattle.hv_board.proofs.KindLemmas.{value-kind, kind-value}
use Rattle.hv_board.proofs.PlaceLemmas.{place-within}
use Rattle.hv_board.specs.Board.{IsFull, cell_of}
use Rattle.hv_board.specs.Carrying.{AreFrom, AreOut, ArePut, empty, out_of, put_into}
use Rattle.hv_board.specs.Held.{held_at}
use Rattle.hv_board.specs.Holds.{HoldsAt}
use Rattle.hv_board.specs.Places.{HasPlace, count_of, place_of}
use Rattle.hv_board.specs.declared.cell.Cell.{Cell}
use Rattle.hv_board.specs.declared.layout.Layout.{Layout}

module _ {E : Type 0} (state : E → DevState) where
  -- What is held at a place has the value of what was held there.
  abbrev IsHeldAs : (was is : Option (Part E)) → Type 0
  IsHeldAs None None = Unit {0}
  IsHeldAs (Some w) (Some p) = valued state p ≡ valued state w
  IsHeldAs was is = ⊥

  held-here : (b : Bool) (w p : Part E) (was is : Option (Part E)) → valued state p ≡ valued state w → IsHeldAs was is
      → IsHeldAs (if b then Some w else was) (if b then Some p else is)
  held-here true w p was is same later = same
  held-here false w p was is same later = later

  first-same : (v w : PartValue) (vs ws : List PartValue) → v ∷ vs ≡ w ∷ ws → (v ≡ w) × (vs ≡ ws)
  first-same v w vs ws is = (cc, cc)

  held-as : (ks : List ℕ) (ws ps : List (Part E)) → map (valued state) ps ≡ map (valued state) ws → (k : ℕ) → IsHeldAs (held_at ks ws k) (held_at ks ps k)
  held-as [] ws ps same k = tt
  held-as (n ∷ ks) [] [] same k = tt
  held-as (n ∷ ks) [] (p ∷ ps) same k = absurd (cc same)
  held-as (n ∷ ks) (w ∷ ws) [] same k = absurd (cc same)
  held-as (n ∷ ks) (w ∷ ws) (p ∷ ps) same k =
      let both = first-same (valued state p) (valued state w) (map (valued state) ps) (map (valued state) ws) same in
      held-here (n == k) w p (held_at ks ws k) (held_at ks ps k) both.0 (held-as ks ws ps both.1 k)

  some-part : (p q : Part E) → Some p ≡ Some q → p ≡ q
  some-part p q e = cc

  -- A cell to which its part comes back with its value holds what it held.
  cell-same : (x : CellId) (s : CellState rules (Component x)) (old new : Cell E) (was is : Option (Part E)) → IsHeldAs was is
      → ((w : Part E) → was ≡ Some w → old.part ≡ Some w) → new ≡ put_into None (out_of old was) is → HoldsAt state x s old → HoldsAt state x s new
  cell-same x s old new None None same from back holds = subst (HoldsAt state x s) (sym back) holds
  cell-same x s old new None (Some p) same from back holds = absurd same
  cell-same x s old new (Some w) None same from back holds = absurd same
  cell-same x s old new (Some w) (Some p) same from back holds =
      let there : w ≡ holds.part = some-part w holds.part (sym (from w refl) ∙ holds.is) in
      record {
        part = p;
        is = ap (λ (cell : Cell E). cell.part) back;
        value = same ∙ (ap (valued state) there ∙ holds.value);
        stamp = ap (λ (cell : Cell E). cell.stamp) back ∙ holds.stamp;
      }

  -- Each component has its value and its stamp once parts are put back so.
  pub back-holds : (layout : Layout) (ks : List ℕ) (ws ps : List (Part E)) (olds mids news : List (Cell E)) → length olds ≡ count_of layout
      → map (valued state) ps ≡ map (valued state) ws → AreOut ks ws olds mids → AreFrom ks ws olds → ArePut None ks ps mids news
      → (x : CellId) → HasPlace layout x → (s : CellState rules (Component x)) → HoldsAt state x s (cell_of layout olds x) → HoldsAt state x s (cell_of layout news x)
  back-holds layout ks ws ps olds mids news long same out from put x has s holds =
      let k = place_of layout x in
      let within : k < length olds = omega (arith, place-within layout x has, long) in
      cell-same x s (cell_of layout olds x) (cell_of layout news x) (held_at ks ws k) (held_at ks ps k) (held-as ks ws ps same k) (λ w at. from k empty w at)
      (put.1 k empty (omega (arith, out.0, within)) ∙ ap (λ cell. put_into None cell (held_at ks ps k)) (out.1 k empty within)) holds

  -- Each cell is full then.
  pub back-full : (layout : Layout) (ks : List ℕ) (ws ps : List (Part E)) (olds mids news : List (Cell E)) → length olds ≡ count_of layout
      → map (valued state) ps ≡ map (valued state) ws → AreOut ks ws olds mids → AreFrom ks ws olds → ArePut None ks ps mids news
      → (x : CellId) → HasPlace layout x → IsFull state x (cell_of layout olds x) → IsFull state x (cell_of layout news x)
  back-full layout ks ws ps olds mids news long same out from put x has full =
      let is = kind-value x (valued state full.part) full.kind in
      let s : CellState rules (Component x) = record { value = is.0; stamp = (cell_of layout olds x).stamp } in
      let now = back-holds layout ks ws ps olds mids news long same out from put x has s (record { part = full.part; is = full.is; value = is.1; stamp = refl }) in
      record {
        part = now.part;
        is = now.is;
        kind = subst (IsPartOf x) (sym now.value) (value-kind x _);
        bounded = subst (λ n. n ≤ GREATEST_STAMP) (sym now.stamp) full.bounded;
      }
