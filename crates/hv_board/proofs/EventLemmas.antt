-- An event at a board is one of the abstract machine.
use Rattle.std.proofs.Common.{◌≡◌, ◌≤◌, ◌<◌, ◌+◌, ℕ, Bool, true, false, if◌then◌else◌, List, [], ◌∷◌, length, map, max, Option, Some, None, refl, sym, ap, subst, ◌∙◌, arith}
use Rattle.std.specs.List.{AllByRecursion, list_any}
use Rattle.hv_answer.specs.declared.reply.Reply.{Reply}
use Rattle.hv_emu.specs.Device.{DevState}
use Rattle.hv_event.specs.declared.event.ActorId.{ActorId}
use Rattle.hv_event.specs.declared.event.CellId.{CellId}
use Rattle.hv_machine.proofs.Lists.{all-map}
use Rattle.hv_machine.proofs.RunLemmas.{all-at}
use Rattle.hv_machine.proofs.MergingLemmas.{all-touched}
use Rattle.hv_machine.specs.Machine.{CellState, State, MayHappen, greatest, cell_after, next_state, touches}
use Rattle.hv_model.proofs.BoardLemmas.{has-actors}
use Rattle.hv_model.specs.Cell.{Cell, Component, Actor, same_component}
use Rattle.hv_model.specs.CellLaws.{same_component-only}
use Rattle.hv_model.specs.declared.entry.Entry.{Entry}
use Rattle.hv_rules.specs.Carry.{Carry}
use Rattle.hv_model.specs.Origin.{Origin}
use Rattle.hv_model.specs.Rules.{IsAllowedAt, components_of, footprint_of, machine, rules}
use Rattle.hv_parts.specs.Kinds.{IsPartOf}
use Rattle.hv_parts.specs.Takes.{PartTakes, AllTake}
use Rattle.hv_parts.specs.Value.{valued}
use Rattle.hv_parts.specs.declared.part.Part.{Part}
use Rattle.hv_step.specs.declared.step.Step.{Step}
use Rattle.hv_text.specs.declared.limits.TheConstants.{GREATEST_STAMP}
use Rattle.hv_board.proofs.KindLemmas.{value-kind, kind-value, part-agrees}
use Rattle.hv_board.proofs.PlaceLemmas.{place-within}
use Rattle.hv_board.proofs.TouchLemmas.{touch-component, HeldTakes, held-takes}
use Rattle.hv_board.specs.Board.{IsFull, cell_of}
use Rattle.hv_board.specs.Carrying.{AreFrom, AreOut, ArePut, empty, out_of, put_into}
use Rattle.hv_board.specs.Held.{held_at}
use Rattle.hv_board.specs.Holds.{HoldsAt, part_value}
use Rattle.hv_board.specs.Places.{HasPlace, count_of, place_of}
use Rattle.hv_board.specs.declared.cell.Cell.{Cell as BoardCell}
use Rattle.hv_board.specs.declared.layout.Layout.{Layout}

module _ {E : Type 0} (state : E → DevState) where
  some-part : (p q : Part E) → Some p ≡ Some q → p ≡ q
  some-part p q e = cc

  -- A cell that is touched has a part that takes the step, and then the new one with the event's stamp; another stays.
  abbrev pub Becomes : ActorId → CellId → Step → Reply → Carry → (stamp : ℕ) → Bool → BoardCell E → BoardCell E → Type 0
  Becomes by x s r c stamp true old new =
      (w p : Part E) × (old.part ≡ Some w) × (new ≡ record { part = Some p; stamp = stamp }) × PartTakes by x s r c (valued state w) (valued state p)
  Becomes by x s r c stamp false old new = new ≡ old

  becomes : (by : ActorId) (x : CellId) (s : Step) (r : Reply) (c : Carry) (stamp : ℕ) (b : Bool) (old new : BoardCell E) (o n : Option (Part E))
      → HeldTakes (valued state) by x s r c b o n → ((w : Part E) → o ≡ Some w → old.part ≡ Some w) → new ≡ put_into (Some stamp) (out_of old o) n
      → Becomes by x s r c stamp b old new
  becomes by x s r c stamp true old new (Some w) (Some p) t from is = (w, p, from w refl, is, t)
  becomes by x s r c stamp true old new (Some w) None t from is = absurd t
  becomes by x s r c stamp true old new None n t from is = absurd t
  becomes by x s r c stamp false old new None None t from is = is
  becomes by x s r c stamp false old new None (Some p) t from is = absurd t
  becomes by x s r c stamp false old new (Some w) n t from is = absurd t

  -- Each cell of a board becomes what the step makes of it, once the parts are put back.
  pub cell-becomes : (layout : Layout) (by : ActorId) (s : Step) (r : Reply) (c : Carry) (stamp : ℕ) (xs : List CellId) (ws ps : List (Part E)) (olds mids news : List (BoardCell E))
      → AllByRecursion (HasPlace layout) xs → AllTake by xs s r c (map (valued state) ws) (map (valued state) ps) → length olds ≡ count_of layout
      → AreOut (map (place_of layout) xs) ws olds mids → AreFrom (map (place_of layout) xs) ws olds → ArePut (Some stamp) (map (place_of layout) xs) ps mids news
      → (x : CellId) → HasPlace layout x → Becomes by x s r c stamp (list_any (same_component x) xs) (cell_of layout olds x) (cell_of layout news x)
  cell-becomes layout by s r c stamp xs ws ps olds mids news all t long out from put x has =
      let k = place_of layout x in
      let places = map (place_of layout) xs in
      let within : k < length olds = omega (arith, place-within layout x has, long) in
      becomes by x s r c stamp (list_any (same_component x) xs) (cell_of layout olds x) (cell_of layout news x) (held_at places ws k) (held_at places ps k)
      (held-takes (valued state) layout by x s r c xs ws ps has all t) (λ w at. from k empty w at)
      (put.1 k empty (omega (arith, out.0)) ∙ ap (λ cell. put_into (Some stamp) cell (held_at places ps k)) (out.1 k empty within))

  -- The part of a cell that holds a component takes its step from the component's value.
  takes-value : (e : Entry) (x : CellId) (s : CellState rules (Component x)) (old : BoardCell E) (w p : Part E) → HoldsAt state x s old → old.part ≡ Some w
      → PartTakes e.event.actor x e.event.step e.event.reply e.carry (valued state w) (valued state p) → PartTakes e.event.actor x e.event.step e.event.reply e.carry (part_value x s.value) (valued state p)
  takes-value e x s old w p holds is t =
      let same : w ≡ holds.part = some-part w holds.part (sym is ∙ holds.is) in
      subst (λ v. PartTakes e.event.actor x e.event.step e.event.reply e.carry v (valued state p)) (ap (valued state) same ∙ holds.value) t

  -- A touched component agrees to the event.
  pub cell-agrees : (e : Entry) (x : CellId) (s : CellState rules (Component x)) (b : Bool) (old new : BoardCell E) → HoldsAt state x s old
      → Becomes e.event.actor x e.event.step e.event.reply e.carry e.event.stamp b old new → b ≡ true → IsAllowedAt (Component x) s.value e
  cell-agrees e x s true old new holds becomes touched =
      (part-agrees x s.value e (valued state becomes.1) (takes-value e x s old becomes.0 becomes.1 holds becomes.2 becomes.4)).0
  cell-agrees e x s false old new holds becomes touched = absurd (cc)

  -- A cell holds its component after the event.
  pub cell-holds : (e : Entry) (x : CellId) (s : CellState rules (Component x)) (b : Bool) (old new : BoardCell E) → HoldsAt state x s old
      → Becomes e.event.actor x e.event.step e.event.reply e.carry e.event.stamp b old new → HoldsAt state x (if b then cell_after rules (Component x) s e else s) new
  cell-holds e x s true old new holds becomes =
      record {
        part = becomes.1;
        is = ap (λ (cell : BoardCell E). cell.part) becomes.3;
        value = (part-agrees x s.value e (valued state becomes.1) (takes-value e x s old becomes.0 becomes.1 holds becomes.2 becomes.4)).1;
        stamp = ap (λ (cell : BoardCell E). cell.stamp) becomes.3;
      }
  cell-holds e x s false old new holds becomes = subst (HoldsAt state x s) (sym becomes) holds

  -- A cell is full after the event.
  pub cell-full : (e : Entry) (x : CellId) (b : Bool) (old new : BoardCell E) → e.event.stamp ≤ GREATEST_STAMP → IsFull state x old
      → Becomes e.event.actor x e.event.step e.event.reply e.carry e.event.stamp b old new → IsFull state x new
  cell-full e x true old new bounded full becomes =
      let is = kind-value x (valued state full.part) full.kind in
      let s : CellState rules (Component x) = record { value = is.0; stamp = old.stamp } in
      let held : HoldsAt state x s old = record { part = full.part; is = full.is; value = is.1; stamp = refl } in
      let now = cell-holds e x s true old new held becomes in
      record {
        part = now.part;
        is = now.is;
        kind = subst (IsPartOf x) (sym now.value) (value-kind x _);
        bounded = subst (λ n. n ≤ GREATEST_STAMP) (sym now.stamp) bounded;
      }
  cell-full e x false old new bounded full becomes = subst (IsFull state x) (sym becomes) full

module _ {E : Type 0} (state : E → DevState) (O : Origin) (s : State (machine O)) (e : Entry) (layout : Layout) (xs : List CellId) (olds news : List (BoardCell E))
    (touched : components_of O.opening.harts e ≡ xs) (have : AllByRecursion (HasPlace layout) xs)
    (holds : (x : CellId) → HasPlace layout x → HoldsAt state x (s (Component x)) (cell_of layout olds x))
    (become : (x : CellId) → HasPlace layout x → Becomes state e.event.actor x e.event.step e.event.reply e.carry e.event.stamp (list_any (same_component x) xs) (cell_of layout olds x) (cell_of layout news x)) where
  touches-is : (x : CellId) → touches (machine O) (Component x) e ≡ list_any (same_component x) xs
  touches-is x = touch-component O e x ∙ ap (λ ys. list_any (same_component x) ys) touched

  -- The board holds each component after the event.
  pub next-holds : (x : CellId) → HasPlace layout x → HoldsAt state x (next_state (machine O) s e (Component x)) (cell_of layout news x)
  next-holds x has =
      let Goal : Bool → Type 0 = λ b. HoldsAt state x (if b then cell_after rules (Component x) (s (Component x)) e else s (Component x)) (cell_of layout news x) in
      subst Goal (sym (touches-is x))
      (cell-holds state e x (s (Component x)) (list_any (same_component x) xs) (cell_of layout olds x) (cell_of layout news x) (holds x has) (become x has))

  component-agrees : (x : CellId) → touches (machine O) (Component x) e ≡ true → IsAllowedAt (Component x) (s (Component x)).value e
  component-agrees x t =
      let there : list_any (same_component x) xs ≡ true = sym (touches-is x) ∙ t in
      let has : HasPlace layout x = all-at same_component same_component-only (HasPlace layout) x xs have there in
      cell-agrees state e x (s (Component x)) (list_any (same_component x) xs) (cell_of layout olds x) (cell_of layout news x) (holds x has) (become x has) there

  agrees : (own : IsAllowedAt (Actor e.event.actor) (s (Actor e.event.actor)).value e) (x : Cell) → touches (machine O) x e ≡ true → IsAllowedAt x (s x).value e
  agrees own (Component x) t = component-agrees x t
  agrees own (Actor a) t = subst (λ y. IsAllowedAt y (s y).value e) (sym ((has-actors O).no_other e (Actor a) refl t)) own

  stamps : (ys : List CellId) → AllByRecursion (HasPlace layout) ys → map (λ y. (s y).stamp) (map Component ys) ≡ map (λ x. (cell_of layout olds x).stamp) ys
  stamps [] all = refl
  stamps (y ∷ ys) all = let first = (holds y all.0).stamp in let rest = stamps ys all.1 in cc

  -- The event may happen where its actor agrees to it, and its stamp is the next one.
  pub may-happen : IsAllowedAt (Actor e.event.actor) (s (Actor e.event.actor)).value e
      → e.event.stamp ≡ max (s (Actor e.event.actor)).stamp (greatest (map (λ x. (cell_of layout olds x).stamp) xs)) + 1 → MayHappen (machine O) s e
  may-happen own next =
      let Touched : Cell → Type 0 = λ x. touches (machine O) x e ≡ true in
      let Allowed : Cell → Type 0 = λ x. IsAllowedAt x (s x).value e in
      let cells = footprint_of O.opening.harts e in
      let same : map (λ y. (s y).stamp) (map Component (components_of O.opening.harts e)) ≡ map (λ x. (cell_of layout olds x).stamp) xs =
      ap (λ ys. map (λ y. (s y).stamp) (map Component ys)) touched ∙ stamps xs have in
      record {
        agreed = all-map Touched Allowed (agrees own) cells (all-touched (machine O) cells);
        stamped = next ∙ ap (λ ns. max (s (Actor e.event.actor)).stamp (greatest ns) + 1) (sym same);
      }
