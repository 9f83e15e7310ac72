-- Parts that are out of a board, and come back to it.
use Rattle.std.proofs.Common.{◌==◌, true, false, if◌then◌else◌, Option, eqb-true, eq-eqb, ◌≡◌, ◌<◌, ◌≤◌, ◌+◌, ℕ, suc, List, [], ◌∷◌, length, map, max, Some, None, refl, sym, ap, subst, ◌∙◌, arith}
use Rattle.std.specs.List.{AllByRecursion, list_any}
use Rattle.std.specs.Prelude.{All, IsSome}
use Rattle.hv_answer.specs.declared.reply.Reply.{Reply}
use Rattle.hv_emu.specs.Device.{DevState}
use Rattle.hv_event.specs.declared.event.ActorId.{ActorId}
use Rattle.hv_event.specs.declared.event.CellId.{CellId}
use Rattle.hv_handed.specs.Given.{given}
use Rattle.hv_handed.specs.declared.told.Made.{Made}
use Rattle.hv_machine.specs.Machine.{greatest, next_state}
use Rattle.hv_model.specs.Cell.{Component, Actor, same_component}
use Rattle.hv_model.specs.Rules.{components_of, machine}
use Rattle.hv_model.specs.declared.entry.Entry.{Entry}
use Rattle.hv_parts.specs.Kinds.{IsPartOf, AreOf}
use Rattle.hv_parts.specs.Takes.{AllTake, IsMadeAt}
use Rattle.hv_parts.specs.Value.{PartValue, valued}
use Rattle.hv_parts.specs.declared.part.Part.{Part}
use Rattle.hv_rules.specs.Carry.{Carry}
use Rattle.hv_step.specs.declared.step.Step.{Step}
use Rattle.hv_text.specs.declared.limits.TheConstants.{GREATEST_STAMP}
use Rattle.hv_board.proofs.EventLemmas.{Becomes, cell-becomes, cell-full, may-happen, next-holds}
use Rattle.hv_board.proofs.HeldLemmas.{all-at, held_at-none_above}
use Rattle.hv_board.proofs.PlaceLemmas.{places-within}
use Rattle.hv_board.proofs.StayLemmas.{back-holds, back-full}
use Rattle.hv_board.specs.Board.{AreInOrder, HasRoom, IsFull, IsWhole, cell_at, cell_of, greatest_at}
use Rattle.hv_board.specs.Carrying.{AreFrom, AreOut, ArePut, IsFullAt, empty}
use Rattle.hv_board.specs.Held.{IsRising, held_at}
use Rattle.hv_board.specs.Holds.{HoldsAt, HoldsAsBefore}
use Rattle.hv_board.specs.Lifted.{IsLifted, LeadsOn, entry_of}
use Rattle.hv_board.specs.Places.{HasPlace, count_of, place_of}
use Rattle.hv_board.specs.declared.board.Board.{Board}
use Rattle.hv_board.specs.declared.cell.Cell.{Cell}
use Rattle.hv_board.specs.declared.layout.Layout.{Layout}
use Rattle.hv_board.specs.declared.lifted.Lifted.{Lifted}

-- What is held at a place among others is held at one of them.
pub held-in : {T : Type 0} (P : ℕ → Type 0) (ks : List ℕ) (vs : List T) (k : ℕ) (v : T) → AllByRecursion P ks → held_at ks vs k ≡ Some v → P k
held-in P [] vs k v all at = absurd (cc)
held-in P (p ∷ ps) [] k v all at = absurd (cc)
held-in P (p ∷ ps) (w ∷ ws) k v all at =
    elim (p == k) as (λ t. (p == k) ≡ t → (if t then Some w else held_at ps ws k) ≡ Some v → P k) [
      | true ↦ λ same _. subst P (eqb-true p k same) all.0
      | false ↦ λ _ rest. held-in P ps ws k v all.1 rest
    ] refl at

-- Parts of full cells are of the kinds of their components.
pub parts-of : {E : Type 0} (state : E → DevState) (layout : Layout) (xs : List CellId) (ps : List (Part E)) → IsRising (map (place_of layout) xs) → AllByRecursion (HasPlace layout) xs
    → length ps ≡ length xs → ((x : CellId) (p : Part E) → HasPlace layout x → held_at (map (place_of layout) xs) ps (place_of layout x) ≡ Some p → IsPartOf x (valued state p))
    → AreOf xs (map (valued state) ps)
parts-of state layout [] [] rising all long each = tt
parts-of state layout [] (p ∷ ps) rising all long each = absurd (omega arith)
parts-of state layout (x ∷ xs) [] rising all long each = absurd (omega arith)
parts-of {E} state layout (x ∷ xs) (p ∷ ps) rising all long each =
    let here = place_of layout x in
    let first : IsPartOf x (valued state p) = each x p all.0 (rw (eq-eqb here here refl) refl) in
    let later : (y : CellId) (q : Part E) → HasPlace layout y → held_at (map (place_of layout) xs) ps (place_of layout y) ≡ Some q → IsPartOf y (valued state q) = λ y q has at.
    let k = place_of layout y in
    elim (here == k) as (λ t. (here == k) ≡ t → IsPartOf y (valued state q)) [
      | true ↦ λ same.
          let none = held_at-none_above (map (place_of layout) xs) ps here rising.0 in
          let there = ap (held_at (map (place_of layout) xs) ps) (eqb-true here k same) in
          absurd (cc)
      | false ↦ λ other. each y q has (rw other at)
    ] refl in
    (first, parts-of state layout xs ps rising.1 all.1 (omega arith) later)

-- As many components take a step as there are.
pub take-long : (by : ActorId) (xs : List CellId) (s : Step) (r : Reply) (c : Carry) (olds news : List PartValue) → AllTake by xs s r c olds news → length news ≡ length xs
take-long by [] s r c [] [] t = refl
take-long by (x ∷ xs) s r c (old ∷ olds) (new ∷ news) t = ap suc (take-long by xs s r c olds news t.1)
take-long by xs s r c olds news t = absurd t

module _ {E : Type 0} (state : E → DevState) (xs : List CellId) (lifted : Lifted E) (board : Board E) (is : IsLifted state xs lifted board) where
  -- The places of parts that are out rise among those of the board.
  pub out-places : IsRising board.places.items × All (λ k. k < length board.cells.items) board.places.items
  out-places =
      let long : length board.cells.items ≡ count_of board.layout = is.out.0 ∙ (is.whole.long ∙ ap count_of (sym is.layout)) in
      let all : All (λ k. k < count_of board.layout) board.places.items = subst (λ ks. All (λ k. k < count_of board.layout) ks) (sym is.places) (places-within board.layout xs is.order) in
      (subst IsRising (sym is.places) is.order.rising, λ k d low. omega (arith, all k d low, long))

  -- A board to which all parts come back with their values holds what it held before, and is whole.
  module _ (new : Board E) (layout : new.layout ≡ lifted.before.value.layout) (same : map (valued state) lifted.parts.items ≡ map (valued state) lifted.were.value.items)
      (put : ArePut None board.places.items lifted.parts.items board.cells.items new.cells.items) where
    abbrev Before : Layout
    Before = lifted.before.value.layout

    pub back-as-before : HoldsAsBefore state lifted.before.value new
    back-as-before O s holds =
        let Each : Layout → Type 0 = λ l. (x : CellId) → HasPlace l x → HoldsAt state x (s (Component x)) (cell_of l new.cells.items x) in
        let each : Each Before = λ x has. back-holds state Before board.places.items lifted.were.value.items lifted.parts.items lifted.before.value.cells.items board.cells.items new.cells.items is.whole.long same is.out is.from put x has (s (Component x)) (holds.each x has) in
        record { harts = holds.harts ∙ ap (λ (l : Layout). l.harts) (sym layout); each = subst Each (sym layout) each }

    pub back-whole : HasRoom new → IsWhole state new
    back-whole room =
        let Each : Layout → Type 0 = λ l. (x : CellId) → HasPlace l x → IsFull state x (cell_of l new.cells.items x) in
        let each : Each Before = λ x has. back-full state Before board.places.items lifted.were.value.items lifted.parts.items lifted.before.value.cells.items board.cells.items new.cells.items is.whole.long same is.out is.from put x has (is.whole.each x has) in
        record {
          long = put.0 ∙ (is.out.0 ∙ (is.whole.long ∙ ap count_of (sym layout)));
          each = subst Each (sym layout) each;
          room = room;
        }

module _ {E : Type 0} (state : E → DevState) (by : ActorId) (xs : List CellId) (step : Step) (made : Made E) (lifted : Lifted E) (board new : Board E)
    (is : IsLifted state xs lifted board) (at : IsMadeAt state board.layout.harts by xs step made lifted.were.value.items lifted.parts.items)
    (put : ArePut (Some lifted.stamp) board.places.items lifted.parts.items board.cells.items new.cells.items) (layout : new.layout ≡ board.layout) where
  abbrev L : Layout
  L = board.layout

  abbrev olds : List (Cell E)
  olds = lifted.before.value.cells.items

  abbrev carry : Carry
  carry = given state made.handed.value

  become : (x : CellId) → HasPlace L x → Becomes state by x step made.reply carry lifted.stamp (list_any (same_component x) xs) (cell_of L olds x) (cell_of L new.cells.items x)
  become x has =
      let ws = lifted.were.value.items in
      let ps = lifted.parts.items in
      let mids = board.cells.items in
      let news = new.cells.items in
      cell-becomes state L by step made.reply carry lifted.stamp xs ws ps olds mids news is.order.have at.taken (is.whole.long ∙ ap count_of (sym is.layout))
      (subst (λ ks. AreOut ks ws olds mids) is.places is.out) (subst (λ ks. AreFrom ks ws olds) is.places is.from) (subst (λ ks. ArePut (Some lifted.stamp) ks ps mids news) is.places put) x has

  -- The board is whole again once the parts are back.
  pub put-whole : HasRoom new → IsWhole state new
  put-whole room =
      let Full : List (Cell E) → Layout → Type 0 = λ cells l. (x : CellId) → HasPlace l x → IsFull state x (cell_of l cells x) in
      let before : Full olds L = subst (Full olds) (sym is.layout) is.whole.each in
      let after : Full new.cells.items L = λ x has. cell-full state (entry_of state by 0 lifted.stamp step made) x (list_any (same_component x) xs) (cell_of L olds x) (cell_of L new.cells.items x) is.stamp (before x has) (become x has) in
      record {
        long = put.0 ∙ (is.out.0 ∙ (is.whole.long ∙ ap count_of (sym is.layout ∙ sym layout)));
        each = subst (Full new.cells.items) (sym layout) after;
        room = room;
      }

  -- The event leads from each state that the board held to the one that it holds.
  pub put-event : (index : ℕ) → LeadsOn state lifted.before.value new xs (entry_of state by index lifted.stamp step made)
  put-event index O s holds own next =
      let e : Entry = entry_of state by index lifted.stamp step made in
      let Held : Layout → Type 0 = λ l. (x : CellId) → HasPlace l x → HoldsAt state x (s (Component x)) (cell_of l olds x) in
      let held : Held L = subst Held (sym is.layout) holds.each in
      let harts : O.opening.harts ≡ L.harts = holds.harts ∙ ap (λ (l : Layout). l.harts) (sym is.layout) in
      let touched : components_of O.opening.harts e ≡ xs = ap (λ n. components_of n e) harts ∙ at.touched in
      let Next : Layout → Type 0 = λ l. e.event.stamp ≡ max (s (Actor by)).stamp (greatest (map (λ x. (cell_of l olds x).stamp) xs)) + 1 in
      let Holding : Layout → Type 0 = λ l. (x : CellId) → HasPlace l x → HoldsAt state x (next_state (machine O) s e (Component x)) (cell_of l new.cells.items x) in
      record {
        may = may-happen state O s e L xs olds new.cells.items touched is.order.have held become own (subst Next (sym is.layout) next);
        holds = record {
          harts = harts ∙ ap (λ (l : Layout). l.harts) (sym layout);
          each = subst Holding (sym layout) (next-holds state O s e L xs olds new.cells.items touched is.order.have held become);
        };
      }

module _ {E : Type 0} (state : E → DevState) (board : Board E) (xs : List CellId) (whole : IsWhole state board) (order : AreInOrder board.layout xs) where
  full-at : (ys : List CellId) → AllByRecursion (HasPlace board.layout) ys → AllByRecursion (IsFullAt board.cells.items) (map (place_of board.layout) ys)
  full-at [] all = tt
  full-at (y ∷ ys) all = (subst (λ (o : Option (Part E)). IsSome o) (sym (whole.each y all.0).is) refl, full-at ys all.1)

  -- The places of the components of a whole board are full.
  pub places-full : All (IsFullAt board.cells.items) (map (place_of board.layout) xs)
  places-full k d low = all-at (IsFullAt board.cells.items) (map (place_of board.layout) xs) k d (full-at xs order.have) low

  -- Parts that are taken out of a whole board are of the kinds of their components.
  pub parts-kinds : (ps : List (Part E)) → length ps ≡ length xs → AreFrom (map (place_of board.layout) xs) ps board.cells.items → AreOf xs (map (valued state) ps)
  parts-kinds ps long from =
      parts-of state board.layout xs ps order.rising order.have long
      (λ x p has at.
      let full = whole.each x has in
      let there : (cell_of board.layout board.cells.items x).part ≡ Some p = from (place_of board.layout x) empty p at in
      let same : Some full.part ≡ Some p = sym full.is ∙ there in
      let is : full.part ≡ p = cc in
      subst (λ q. IsPartOf x (valued state q)) is full.kind)

stamps-within : {E : Type 0} (state : E → DevState) (board : Board E) (xs : List CellId) → IsWhole state board → AllByRecursion (HasPlace board.layout) xs
    → greatest (map (λ x. (cell_at board x).stamp) xs) ≤ GREATEST_STAMP
stamps-within state board [] whole all = omega arith
stamps-within state board (x ∷ xs) whole all =
    let first = (whole.each x all.0).bounded in
    let rest = stamps-within state board xs whole all.1 in
    omega (arith, first, rest)

-- The greatest stamp of a whole board's components and of an actor is one that an event can have.
pub greatest-within : {E : Type 0} (state : E → DevState) (board : Board E) (xs : List CellId) (own : ℕ) → IsWhole state board → AreInOrder board.layout xs → own ≤ GREATEST_STAMP
    → greatest_at board own xs ≤ GREATEST_STAMP
greatest-within state board xs own whole order bounded =
    let all = stamps-within state board xs whole order.have in
    omega (arith, all, bounded)
