-- A step keeps the match of windows and regions.
use Rattle.std.proofs.Common.{◌≡◌, ℕ, ◌<◌, ◌==◌, Bool, true, false, ◌&&◌, ◌||◌, cond, refl, sym, ap, subst, ◌∙◌, List, [], ◌∷◌, find, Option, None, Some, Result, Ok, Err, IsSomeAnd, IfSome, eqb-true, eq-eqb}
use Rattle.std.specs.List.{list_any}
use Rattle.std.specs.Option.{option_map_or}
use Rattle.std.proofs.lemmas.Option.{same_Some}
use Rattle.hv_answer.specs.declared.reply.Reply.{Reply}
use Rattle.hv_answer.specs.declared.reply.Reply.TheVariants as reply
use Rattle.hv_body.specs.Windows.{put_in_order}
use Rattle.hv_dir.specs.Directory.{DirState}
use Rattle.hv_emu.specs.Device.{DevState}
use Rattle.hv_event.specs.declared.event.ActorId.{ActorId}
use Rattle.hv_event.specs.declared.event.CellId.{CellId}
use Rattle.hv_event.specs.declared.event.CellId.TheVariants.{Dir, Shelf, Space, Body}
use Rattle.hv_kinds.specs.declared.changes.SignalChanges.{SignalChanges}
use Rattle.hv_kinds.specs.declared.generation.Generation.{Generation}
use Rattle.hv_laws.specs.Board.{Made}
use Rattle.hv_laws.proofs.Frame.{after-step, false-true, or-true, touched, untouched}
use Rattle.hv_model.specs.Cell.{same_component}
use Rattle.hv_refusal.specs.declared.refusal.Refusal.{Refusal}
use Rattle.hv_region.specs.Plans.{IsRegionPlan}
use Rattle.hv_region.specs.declared.plan.RegionPlan.{RegionPlan}
use Rattle.hv_region.specs.declared.window.Window.{Window}
use Rattle.hv_rules.specs.Body.{BodyValue, BodyAgrees, body_after, built, dropped}
use Rattle.hv_rules.specs.Carry.{Carry}
use Rattle.hv_rules.specs.Dir.{Admits, DirAgrees, dir_after, guest_in}
use Rattle.hv_rules.specs.Dir.{with_region as with_row}
use Rattle.hv_rules.specs.Footprint.{changed_body, components, if_made, past_dir}
use Rattle.hv_rules.specs.Shelf.{Gives, ShelfAgrees, shelf_after, device_for, unless_stopped}
use Rattle.hv_rules.specs.Space.{AgreesToDrop, SpaceAgrees, space_after, is_of, is_own, refusal_in, target_of, unless_refused, with_region, without_region}
use Rattle.hv_rules.specs.Windows.{Region, region_of, window_of}
use Rattle.hv_space.specs.Space.{SpaceState}
use Rattle.hv_step.specs.declared.step.Add.{Add}
use Rattle.hv_step.specs.declared.step.Drop.{Drop}
use Rattle.hv_step.specs.declared.step.Step.{Step}
use Rattle.hv_step.specs.declared.step.Step.TheVariants as step
use Rattle.hv_text.specs.declared.limits.TheConstants.{GUEST_REGIONS}
use Rattle.hv_window_laws.specs.Guests.{Guests, Changes, IsInOrder, IsRegion, IsStep}
use Rattle.hv_window_laws.specs.Windows.{birth_in}
use Rattle.hv_window_laws.proofs.Births.{Placed, Kept, admitted-born, dir-kept, unchanged}
use Rattle.hv_window_laws.proofs.Frames.{Alike, alike-same, body-alike, changes_windows, slot-alike, space-same}
use Rattle.hv_window_laws.proofs.Lists.{not-same, or-none}
use Rattle.hv_window_laws.proofs.Slots.{Slot, added-alias, added-own, dropped-alias, dropped-own}

-- each slot's windows match its regions, and each guest stands at its slot
pub record Matched (guests : Guests) : Type 0 where
  pub placed : Placed guests.dir
  pub slots : (g : ℕ) → Slot (guests.spaces g).windows (guests.bodies g) (birth_in guests.dir g)

-- what a step changes, by the components that it touches

module _ (cs : List CellId) (before after : Guests) (made : Made) (changes : Changes cs before after made) where
  abbrev DirOk : Type 0
  DirOk = DirAgrees before.dir made.step made.reply made.carry

  abbrev SpaceOk : ℕ → Type 0
  SpaceOk g = SpaceAgrees (before.spaces g) made.step made.reply made.carry

  abbrev BodyOk : ℕ → ℕ → Type 0
  BodyOk g j = BodyAgrees j (before.bodies g j) made.step made.reply made.carry

  abbrev dir_then : DirState
  dir_then = dir_after before.dir made.step made.reply made.carry

  abbrev space_then : ℕ → SpaceState
  space_then g = space_after (before.spaces g) made.step made.reply made.carry

  abbrev body_then : ℕ → ℕ → BodyValue
  body_then g j = body_after j (before.bodies g j) made.step made.reply made.carry

  pub dir-step : (P : DirState → Type 0) → (DirOk → P dir_then) → P before.dir → P after.dir
  dir-step P new old =
      after-step P (list_any (same_component Dir) cs) DirOk dir_then before.dir after.dir changes.dir (λ t agreed. new agreed) (λ t. old)

  pub dir-agreed : list_any (same_component Dir) cs ≡ true → DirOk
  dir-agreed t = (touched (list_any (same_component Dir) cs) DirOk dir_then before.dir after.dir t changes.dir).0

  pub shelf-agreed : list_any (same_component Shelf) cs ≡ true → ShelfAgrees before.shelf made.step made.reply made.carry
  shelf-agreed t =
      (touched (list_any (same_component Shelf) cs) (ShelfAgrees before.shelf made.step made.reply made.carry)
      (shelf_after before.shelf made.step made.reply made.carry) before.shelf after.shelf t changes.shelf).0

  pub space-step : (g : ℕ) (P : SpaceState → Type 0) → P (space_then g) → P (before.spaces g) → P (after.spaces g)
  space-step g P new old =
      after-step P (list_any (same_component (Space g)) cs) (SpaceOk g) (space_then g) (before.spaces g) (after.spaces g) (changes.spaces g) (λ t agreed. new) (λ t. old)

  pub space-touched : (g : ℕ) → list_any (same_component (Space g)) cs ≡ true → SpaceOk g × (after.spaces g ≡ space_then g)
  space-touched g t = touched (list_any (same_component (Space g)) cs) (SpaceOk g) (space_then g) (before.spaces g) (after.spaces g) t (changes.spaces g)

  pub space-untouched : (g : ℕ) → list_any (same_component (Space g)) cs ≡ false → after.spaces g ≡ before.spaces g
  space-untouched g t = untouched (list_any (same_component (Space g)) cs) (SpaceOk g) (space_then g) (before.spaces g) (after.spaces g) t (changes.spaces g)

  pub body-step : (g j : ℕ) (P : BodyValue → Type 0) → P (body_then g j) → P (before.bodies g j) → P (after.bodies g j)
  body-step g j P new old =
      after-step P (list_any (same_component (Body g j)) cs) (BodyOk g j) (body_then g j) (before.bodies g j) (after.bodies g j) (changes.bodies g j) (λ t agreed. new) (λ t. old)

  pub body-touched : (g j : ℕ) → list_any (same_component (Body g j)) cs ≡ true → after.bodies g j ≡ body_then g j
  body-touched g j t = (touched (list_any (same_component (Body g j)) cs) (BodyOk g j) (body_then g j) (before.bodies g j) (after.bodies g j) t (changes.bodies g j)).1

  pub body-untouched : (g j : ℕ) → list_any (same_component (Body g j)) cs ≡ false → after.bodies g j ≡ before.bodies g j
  body-untouched g j t = untouched (list_any (same_component (Body g j)) cs) (BodyOk g j) (body_then g j) (before.bodies g j) (after.bodies g j) t (changes.bodies g j)

  -- a step that adds and drops no region
  pub frame-kept : changes_windows made.step ≡ false → IsInOrder before made.step made.carry → Matched before → Matched after
  frame-kept keeps order J =
      let kept : Kept before after.dir =
      dir-step (Kept before) (λ agreed. dir-kept before made.step made.reply made.carry J.placed order agreed) (unchanged before J.placed) in
      record {
        placed = kept.placed;
        slots = λ g.
            slot-alike (before.spaces g).windows (before.bodies g) (birth_in before.dir g) (after.spaces g).windows (after.bodies g) (birth_in after.dir g)
            (space-step g (λ x. x.windows ≡ (before.spaces g).windows)
            (ap (λ x. x.windows) (space-same (before.spaces g) made.step made.reply made.carry keeps)) refl)
            (λ j. body-step g j (Alike j (before.bodies g j)) (body-alike j (before.bodies g j) made.step made.reply made.carry keeps) (refl, refl))
            (kept.births g (J.slots g).births) (J.slots g);
      }

  -- a slot of which nothing is touched
  pub slot-untouched : (g : ℕ) → list_any (same_component (Space g)) cs ≡ false → ((j : ℕ) → list_any (same_component (Body g j)) cs ≡ false)
      → Slot (before.spaces g).windows (before.bodies g) (birth_in before.dir g) → Slot (after.spaces g).windows (after.bodies g) (birth_in before.dir g)
  slot-untouched g space bodies J =
      slot-alike (before.spaces g).windows (before.bodies g) (birth_in before.dir g) (after.spaces g).windows (after.bodies g) (birth_in before.dir g)
      (ap (λ x. x.windows) (space-untouched g space))
      (λ j. alike-same j (before.bodies g j) (after.bodies g j) (body-untouched g j (bodies j)))
      J.births J

  -- a slot whose windows and bodies stay
  pub slot-kept : (g : ℕ) → space_then g ≡ before.spaces g → ((j : ℕ) → body_then g j ≡ before.bodies g j)
      → Slot (before.spaces g).windows (before.bodies g) (birth_in before.dir g) → Slot (after.spaces g).windows (after.bodies g) (birth_in before.dir g)
  slot-kept g space bodies J =
      slot-alike (before.spaces g).windows (before.bodies g) (birth_in before.dir g) (after.spaces g).windows (after.bodies g) (birth_in before.dir g)
      (space-step g (λ x. x.windows ≡ (before.spaces g).windows) (ap (λ x. x.windows) space) refl)
      (λ j. body-step g j (Alike j (before.bodies g j)) (alike-same j (before.bodies g j) (body_then g j) (bodies j)) (refl, refl))
      J.births J

-- the components of another slot

elsewhere : (g k j row : ℕ) → (g == k) ≡ false → (((g == k) && (j == row)) || false) ≡ false
elsewhere g k j row other = or-none ((g == k) && (j == row)) false (first (g == k) (j == row) other) refl
  where
    first : (a b : Bool) → a ≡ false → (a && b) ≡ false
    first true b e = cc
    first false b e = refl

bodies-elsewhere : (gen : Generation) (row : Option ℕ) (target : Option (ℕ × ℕ)) (g j : ℕ) → (g == gen.slot) ≡ false → list_any (same_component (Body g j)) (changed_body gen row target) ≡ false
bodies-elsewhere gen None target g j other = refl
bodies-elsewhere gen (Some row) None g j other = elsewhere g gen.slot j row other
bodies-elsewhere gen (Some row) (Some t) g j other = elsewhere g gen.slot j t.0 other

no-space : (gen : Generation) (row : Option ℕ) (target : Option (ℕ × ℕ)) (g : ℕ) → list_any (same_component (Space g)) (changed_body gen row target) ≡ false
no-space gen None target g = refl
no-space gen (Some row) None g = refl
no-space gen (Some row) (Some t) g = refl

made-list : (P : List CellId → Type 0) (r : Reply) (cs : List CellId) → P cs → P [] → P (if_made r cs)
made-list P (reply.Add (Ok ch)) cs made none = made
made-list P (reply.Drop (Ok ch)) cs made none = made
made-list P _ cs made none = none

-- the same row of a slot, and another
row-here : (k row : ℕ) → (((k == k) && (row == row)) || false) ≡ true
row-here k row = or-true ((k == k) && (row == row)) false (both (k == k) (row == row) (eq-eqb k k refl) (eq-eqb row row refl))
  where
    both : (a b : Bool) → a ≡ true → b ≡ true → (a && b) ≡ true
    both true b e f = f
    both false b e f = cc

row-other : (k row j : ℕ) → (row == j) ≡ false → (((k == k) && (j == row)) || false) ≡ false
row-other k row j other = or-none ((k == k) && (j == row)) false (second (k == k) (j == row) (not-same row j other)) refl
  where
    second : (a b : Bool) → b ≡ false → (a && b) ≡ false
    second true b e = e
    second false b e = refl

abbrev made-of : ActorId → Step → Reply → Carry → Made
made-of by s r c = record { by = by; step = s; reply = r; carry = c }

-- a step on a slot that the directory admits
module _ (before after : Guests) (J : Matched before) (by : ActorId) (s : Step) (r : Reply) (c : Carry) (gen : Generation)
    (changes : Changes (Dir ∷ Shelf ∷ Space gen.slot ∷ if_made r (changed_body gen c.row c.target)) before after (made-of by s r c)) where
  abbrev cs-of : List CellId
  cs-of = Dir ∷ Shelf ∷ Space gen.slot ∷ if_made r (changed_body gen c.row c.target)

  abbrev SlotThen : ℕ → Type 0
  SlotThen g = Slot (after.spaces g).windows (after.bodies g) (birth_in before.dir g)

  space-else : (g : ℕ) → (g == gen.slot) ≡ false → list_any (same_component (Space g)) cs-of ≡ false
  space-else g other =
      or-none (g == gen.slot) (list_any (same_component (Space g)) (if_made r (changed_body gen c.row c.target))) other
      (made-list (λ l. list_any (same_component (Space g)) l ≡ false) r (changed_body gen c.row c.target) (no-space gen c.row c.target g) refl)

  body-else : (g j : ℕ) → (g == gen.slot) ≡ false → list_any (same_component (Body g j)) cs-of ≡ false
  body-else g j other =
      made-list (λ l. list_any (same_component (Body g j)) l ≡ false) r (changed_body gen c.row c.target) (bodies-elsewhere gen c.row c.target g j other) refl

  slot-else : (g : ℕ) → (g == gen.slot) ≡ false → SlotThen g
  slot-else g other = slot-untouched cs-of before after (made-of by s r c) changes g (space-else g other) (λ j. body-else g j other) (J.slots g)

  pub space-here : SpaceAgrees (before.spaces gen.slot) s r c × (after.spaces gen.slot ≡ space_after (before.spaces gen.slot) s r c)
  space-here =
      space-touched cs-of before after (made-of by s r c) changes gen.slot
      (or-true (gen.slot == gen.slot) (list_any (same_component (Space gen.slot)) (if_made r (changed_body gen c.row c.target))) (eq-eqb gen.slot gen.slot refl))

  pub each-slot : SlotThen gen.slot → (g : ℕ) → SlotThen g
  each-slot here g = at (g == gen.slot) refl
    where
      at : (b : Bool) → (g == gen.slot) ≡ b → SlotThen g
      at true is = subst SlotThen (sym (eqb-true g gen.slot is)) here
      at false is = slot-else g is

-- a region that a step gives
record Given (row : Option ℕ) (plan : Option (RegionPlan × ℕ)) (gen : Generation) (P : Region → Type 0) : Type 0 where
  number : ℕ
  planned : RegionPlan × ℕ
  has_row : row ≡ Some number
  has_plan : plan ≡ Some planned
  holds : P (record { birth = gen.birth; row = number; plan = planned.0; vcpus = planned.1 })

given-by : (g : Generation) (gen : Option Generation) (row : Option ℕ) (plan : Option (RegionPlan × ℕ)) (P : Region → Type 0) → gen ≡ Some g → IsSomeAnd (region_of gen row plan) P → Given row plan g P
given-by g None row plan P is holds = absurd holds
given-by g (Some x) None plan P is holds = absurd holds
given-by g (Some x) (Some n) None P is holds = absurd holds
given-by g (Some x) (Some n) (Some p) P is holds = record {
  number = n;
  planned = p;
  has_row = refl;
  has_plan = refl;
  holds = subst (λ y. P (record { birth = y.birth; row = n; plan = p.0; vcpus = p.1 })) (same_Some x g is) holds;
}

abbrev is_add_made : Reply → Bool
is_add_made (reply.Add (Ok ch)) = true
is_add_made r = false

abbrev is_drop_made : Reply → Bool
is_drop_made (reply.Drop (Ok ch)) = true
is_drop_made r = false

gives : (stopped : Option Refusal) (d : Result (Option DevState) Refusal) (ch : SignalChanges) (c : Carry) → Gives (unless_stopped stopped d) (reply.Add (Ok ch)) c → (stopped ≡ None) × (d ≡ Ok c.device)
gives (Some why) d ch c is = absurd (false-true (sym (ap is_add_made is.0)))
gives None (Ok given) ch c is = (refl, ap Ok (sym is.1))
gives None (Err why) ch c is = absurd (false-true (sym (ap is_add_made is.0)))

module _ (before after : Guests) (J : Matched before) (by : ActorId) (s : Add) (ch : SignalChanges) (c : Carry) (gen : Generation) (shows : s.generation ≡ Some gen)
    (order : IsRegion c.row c.plan)
    (changes : Changes (Dir ∷ Shelf ∷ Space gen.slot ∷ changed_body gen c.row c.target) before after (made-of by (step.Add s) (reply.Add (Ok ch)) c)) where
  abbrev add-made : Made
  add-made = made-of by (step.Add s) (reply.Add (Ok ch)) c

  abbrev add-cs : List CellId
  add-cs = Dir ∷ Shelf ∷ Space gen.slot ∷ changed_body gen c.row c.target

  abbrev add-ws : List Window
  add-ws = (before.spaces gen.slot).windows

  add-here : SpaceAgrees (before.spaces gen.slot) (step.Add s) (reply.Add (Ok ch)) c × (after.spaces gen.slot ≡ space_after (before.spaces gen.slot) (step.Add s) (reply.Add (Ok ch)) c)
  add-here = space-here before after J by (step.Add s) (reply.Add (Ok ch)) c gen changes

  abbrev Wants : Region → Type 0
  Wants region = (c.stopped ≡ refusal_in add-ws region) × (c.target ≡ unless_refused (refusal_in add-ws region) (target_of add-ws region.plan region.plan.form))

  add-given : Given c.row c.plan gen Wants
  add-given = given-by gen s.generation c.row c.plan Wants shows add-here.0

  abbrev region : Region
  region = record { birth = gen.birth; row = add-given.number; plan = add-given.planned.0; vcpus = add-given.planned.1 }

  is-region : region_of s.generation c.row c.plan ≡ Some region
  is-region =
      ap (λ x. region_of x c.row c.plan) shows ∙ ap (λ x. region_of (Some gen) x c.plan) add-given.has_row
      ∙ ap (λ x. region_of (Some gen) (Some add-given.number) x) add-given.has_plan

  from-shelf : (c.stopped ≡ None) × (device_for before.shelf region.plan.form ≡ Ok c.device)
  from-shelf =
      gives c.stopped (device_for before.shelf region.plan.form) ch c
      (subst (λ x. IsSomeAnd x (λ plan. Gives (unless_stopped c.stopped (device_for before.shelf plan.0.form)) (reply.Add (Ok ch)) c)) add-given.has_plan
      (shelf-agreed add-cs before after add-made changes refl))

  add-allowed : refusal_in add-ws region ≡ None
  add-allowed = sym add-given.holds.0 ∙ from-shelf.0

  add-target : target_of add-ws region.plan region.plan.form ≡ c.target
  add-target = sym (add-given.holds.1 ∙ ap (λ x. unless_refused x (target_of add-ws region.plan region.plan.form)) add-allowed)

  add-row : region.row < GUEST_REGIONS
  add-row = subst (λ x. IfSome x (λ row. row < GUEST_REGIONS)) add-given.has_row order.is_row

  add-plan : IsRegionPlan region.plan
  add-plan = subst (λ x. IfSome x (λ plan. IsRegionPlan plan.0)) add-given.has_plan order.is_plan

  add-birth : birth_in before.dir gen.slot ≡ Some region.birth
  add-birth =
      let agreed = dir-agreed add-cs before after add-made changes refl in
      let d = before.dir in
      let refused = λ (why : Refusal). reply.Add (Err why) in
      admitted-born d s.name s.stage region.row gen refused (reply.Add (Ok ch)) c J.placed
      (subst (λ x. Admits (with_row x (guest_in d s.name s.stage)) (Some gen) refused (reply.Add (Ok ch)) c) add-given.has_row
      (subst (λ x. Admits (with_row c.row (guest_in d s.name s.stage)) x refused (reply.Add (Ok ch)) c) shows agreed))

  abbrev AddThen : List Window → Type 0
  AddThen ws = Slot ws (after.bodies gen.slot) (birth_in before.dir gen.slot)

  add-windows : (after.spaces gen.slot).windows ≡ put_in_order (window_of region c.target) add-ws
  add-windows =
      ap (λ x. x.windows) add-here.1
      ∙ ap (λ x. (option_map_or (with_region (before.spaces gen.slot) c.target) x (before.spaces gen.slot)).windows) is-region

  add-body : (j : ℕ) (target : Option (ℕ × ℕ)) → c.target ≡ target
      → body_after j (before.bodies gen.slot j) (step.Add s) (reply.Add (Ok ch)) c ≡ built region c.device target (before.bodies gen.slot j)
  add-body j target is =
      let body = before.bodies gen.slot j in
      ap (λ x. option_map_or (λ region. built region c.device c.target body) x body) is-region ∙ ap (λ x. built region c.device x body) is

  add-list : (target : Option (ℕ × ℕ)) → c.target ≡ target → changed_body gen c.row c.target ≡ changed_body gen (Some region.row) target
  add-list target is = ap (λ x. changed_body gen x c.target) add-given.has_row ∙ ap (changed_body gen (Some region.row)) is

  add-at : (target : Option (ℕ × ℕ)) → c.target ≡ target → AddThen (put_in_order (window_of region target) add-ws)
  add-at None is =
      added-own add-ws (before.bodies gen.slot) (birth_in before.dir gen.slot) (J.slots gen.slot) region add-row add-plan add-birth add-allowed
      before.shelf c.device (add-target ∙ is) from-shelf.1 (after.bodies gen.slot)
      (body-touched add-cs before after add-made changes gen.slot region.row
      (ap (λ l. list_any (same_component (Body gen.slot region.row)) l) (add-list None is) ∙ row-here gen.slot region.row)
      ∙ add-body region.row None is)
      (λ j other. body-untouched add-cs before after add-made changes gen.slot j
      (ap (λ l. list_any (same_component (Body gen.slot j)) l) (add-list None is) ∙ row-other gen.slot region.row j other))
  add-at (Some t) is =
      added-alias add-ws (before.bodies gen.slot) (birth_in before.dir gen.slot) (J.slots gen.slot) region add-row add-plan add-birth add-allowed
      t (add-target ∙ is) (after.bodies gen.slot)
      (body-touched add-cs before after add-made changes gen.slot t.0
      (ap (λ l. list_any (same_component (Body gen.slot t.0)) l) (add-list (Some t) is) ∙ row-here gen.slot t.0)
      ∙ add-body t.0 (Some t) is)
      (λ j other. body-untouched add-cs before after add-made changes gen.slot j
      (ap (λ l. list_any (same_component (Body gen.slot j)) l) (add-list (Some t) is) ∙ row-other gen.slot t.0 j other))

  pub add-slot : AddThen (after.spaces gen.slot).windows
  add-slot = subst AddThen (sym add-windows) (add-at c.target refl)

-- a row that a step gives
record Row (row : Option ℕ) (P : ℕ → Type 0) : Type 0 where
  number : ℕ
  has : row ≡ Some number
  holds : P number

row-by : (row : Option ℕ) (P : ℕ → Type 0) → IsSomeAnd row P → Row row P
row-by None P holds = absurd holds
row-by (Some n) P holds = record { number = n; has = refl; holds = holds }

module _ (before after : Guests) (J : Matched before) (by : ActorId) (s : Drop) (ch : SignalChanges) (c : Carry) (gen : Generation)
    (changes : Changes (Dir ∷ Shelf ∷ Space gen.slot ∷ changed_body gen c.row c.target) before after (made-of by (step.Drop s) (reply.Drop (Ok ch)) c)) where
  abbrev drop-made : Made
  drop-made = made-of by (step.Drop s) (reply.Drop (Ok ch)) c

  abbrev drop-cs : List CellId
  drop-cs = Dir ∷ Shelf ∷ Space gen.slot ∷ changed_body gen c.row c.target

  abbrev drop-ws : List Window
  drop-ws = (before.spaces gen.slot).windows

  drop-here : SpaceAgrees (before.spaces gen.slot) (step.Drop s) (reply.Drop (Ok ch)) c × (after.spaces gen.slot ≡ space_after (before.spaces gen.slot) (step.Drop s) (reply.Drop (Ok ch)) c)
  drop-here = space-here before after J by (step.Drop s) (reply.Drop (Ok ch)) c gen changes

  drop-row : Row c.row (λ row. AgreesToDrop (find (is_of row) drop-ws) (reply.Drop (Ok ch)) c.target)
  drop-row = row-by c.row (λ row. AgreesToDrop (find (is_of row) drop-ws) (reply.Drop (Ok ch)) c.target) drop-here.0

  abbrev row : ℕ
  row = drop-row.number

  drop-windows : (after.spaces gen.slot).windows ≡ (without_region (before.spaces gen.slot) row).windows
  drop-windows = ap (λ x. x.windows) drop-here.1 ∙ ap (λ x. (option_map_or (without_region (before.spaces gen.slot)) x (before.spaces gen.slot)).windows) drop-row.has

  drop-body : (j : ℕ) (target : Option (ℕ × ℕ)) → c.target ≡ target
      → body_after j (before.bodies gen.slot j) (step.Drop s) (reply.Drop (Ok ch)) c ≡ dropped row target (before.bodies gen.slot j)
  drop-body j target is =
      let body = before.bodies gen.slot j in
      ap (λ x. option_map_or (λ gone. dropped gone c.target body) x body) drop-row.has ∙ ap (λ x. dropped row x body) is

  drop-list : (target : Option (ℕ × ℕ)) → c.target ≡ target → changed_body gen c.row c.target ≡ changed_body gen (Some row) target
  drop-list target is = ap (λ x. changed_body gen x c.target) drop-row.has ∙ ap (changed_body gen (Some row)) is

  abbrev DropThen : Type 0
  DropThen = Slot (without_region (before.spaces gen.slot) row).windows (after.bodies gen.slot) (birth_in before.dir gen.slot)

  drop-of : (w : Window) (b : Bool) → is_own w ≡ b → find (is_of row) drop-ws ≡ Some w → c.target ≡ cond b None (Some (w.target, w.offset)) → DropThen
  drop-of w true own found is =
      dropped-own drop-ws (before.bodies gen.slot) (birth_in before.dir gen.slot) (J.slots gen.slot) row w found own (after.bodies gen.slot)
      (body-touched drop-cs before after drop-made changes gen.slot row
      (ap (λ l. list_any (same_component (Body gen.slot row)) l) (drop-list None is) ∙ row-here gen.slot row)
      ∙ drop-body row None is)
      (λ j other. body-untouched drop-cs before after drop-made changes gen.slot j
      (ap (λ l. list_any (same_component (Body gen.slot j)) l) (drop-list None is) ∙ row-other gen.slot row j other))
  drop-of w false alias found is =
      let t : ℕ × ℕ = (w.target, w.offset) in
      dropped-alias drop-ws (before.bodies gen.slot) (birth_in before.dir gen.slot) (J.slots gen.slot) row w found alias (after.bodies gen.slot)
      (body-touched drop-cs before after drop-made changes gen.slot w.target
      (ap (λ l. list_any (same_component (Body gen.slot w.target)) l) (drop-list (Some t) is) ∙ row-here gen.slot w.target)
      ∙ drop-body w.target (Some t) is)
      (λ j other. body-untouched drop-cs before after drop-made changes gen.slot j
      (ap (λ l. list_any (same_component (Body gen.slot j)) l) (drop-list (Some t) is) ∙ row-other gen.slot w.target j other))

  drop-at : (found : Option Window) → find (is_of row) drop-ws ≡ found → AgreesToDrop found (reply.Drop (Ok ch)) c.target → DropThen
  drop-at None is agreed = absurd (false-true (sym (ap is_drop_made agreed.0)))
  drop-at (Some w) is agreed = drop-of w (is_own w) refl is agreed.1

  pub drop-slot : Slot (after.spaces gen.slot).windows (after.bodies gen.slot) (birth_in before.dir gen.slot)
  drop-slot =
      subst (λ l. Slot l (after.bodies gen.slot) (birth_in before.dir gen.slot)) (sym drop-windows)
      (drop-at (find (is_of row) drop-ws) refl drop-row.holds)

-- an addition and a removal keep each slot

module _ (before after : Guests) (J : Matched before) (by : ActorId) where
  -- where the directory refuses it, nothing else is touched
  refused-slots : (s : Step) (r : Reply) (c : Carry) → Changes (Dir ∷ []) before after (made-of by s r c) → (g : ℕ) → Slot (after.spaces g).windows (after.bodies g) (birth_in before.dir g)
  refused-slots s r c changes g = slot-untouched (Dir ∷ []) before after (made-of by s r c) changes g refl (λ j. refl) (J.slots g)

  -- an addition isn't answered as a removal, nor the other way round
  add-no-drop : (s : Add) (ch : SignalChanges) (c : Carry) (d : Result (Option DevState) Refusal) → Gives d (reply.Drop (Ok ch)) c → ⊥
  add-no-drop s ch c (Ok given) is = false-true is.0
  add-no-drop s ch c (Err why) is = false-true (sym (ap is_drop_made is.0))

  shelf-no-drop : (s : Add) (ch : SignalChanges) (c : Carry) (plan : Option (RegionPlan × ℕ))
      → IsSomeAnd plan (λ plan. Gives (unless_stopped c.stopped (device_for before.shelf plan.0.form)) (reply.Drop (Ok ch)) c) → ⊥
  shelf-no-drop s ch c None is = is
  shelf-no-drop s ch c (Some plan) is = add-no-drop s ch c (unless_stopped c.stopped (device_for before.shelf plan.0.form)) is

  space-no-add : (ch : SignalChanges) (target : Option (ℕ × ℕ)) (found : Option Window) → AgreesToDrop found (reply.Add (Ok ch)) target → ⊥
  space-no-add ch target None is = false-true (sym (ap is_add_made is.0))
  space-no-add ch target (Some w) is = false-true is.0

  row-no-add : (ch : SignalChanges) (c : Carry) (ws : List Window) (row : Option ℕ) → IsSomeAnd row (λ row. AgreesToDrop (find (is_of row) ws) (reply.Add (Ok ch)) c.target) → ⊥
  row-no-add ch c ws None is = is
  row-no-add ch c ws (Some row) is = space-no-add ch c.target (find (is_of row) ws) is

  add-past : (s : Add) (r : Reply) (c : Carry) (gen : Generation) → s.generation ≡ Some gen → IsRegion c.row c.plan
      → Changes (Dir ∷ Shelf ∷ Space gen.slot ∷ if_made r (changed_body gen c.row c.target)) before after (made-of by (step.Add s) r c)
      → (g : ℕ) → Slot (after.spaces g).windows (after.bodies g) (birth_in before.dir g)
  add-past s (reply.Add (Ok ch)) c gen shows order changes =
      each-slot before after J by (step.Add s) (reply.Add (Ok ch)) c gen changes (add-slot before after J by s ch c gen shows order changes)
  add-past s (reply.Drop (Ok ch)) c gen shows order changes =
      absurd (shelf-no-drop s ch c c.plan
      (shelf-agreed (Dir ∷ Shelf ∷ Space gen.slot ∷ changed_body gen c.row c.target) before after (made-of by (step.Add s) (reply.Drop (Ok ch)) c) changes refl))
  add-past s r c gen shows order changes =
      each-slot before after J by (step.Add s) r c gen changes
      (slot-kept (Dir ∷ Shelf ∷ Space gen.slot ∷ []) before after (made-of by (step.Add s) r c) changes gen.slot refl (λ j. refl) (J.slots gen.slot))

  drop-past : (s : Drop) (r : Reply) (c : Carry) (gen : Generation)
      → Changes (Dir ∷ Shelf ∷ Space gen.slot ∷ if_made r (changed_body gen c.row c.target)) before after (made-of by (step.Drop s) r c)
      → (g : ℕ) → Slot (after.spaces g).windows (after.bodies g) (birth_in before.dir g)
  drop-past s (reply.Drop (Ok ch)) c gen changes =
      each-slot before after J by (step.Drop s) (reply.Drop (Ok ch)) c gen changes (drop-slot before after J by s ch c gen changes)
  drop-past s (reply.Add (Ok ch)) c gen changes =
      absurd (row-no-add ch c (before.spaces gen.slot).windows c.row
      (space-here before after J by (step.Drop s) (reply.Add (Ok ch)) c gen changes).0)
  drop-past s r c gen changes =
      each-slot before after J by (step.Drop s) r c gen changes
      (slot-kept (Dir ∷ Shelf ∷ Space gen.slot ∷ []) before after (made-of by (step.Drop s) r c) changes gen.slot refl (λ j. refl) (J.slots gen.slot))

  abbrev later : Reply → Carry → Generation → List CellId
  later r c g = Shelf ∷ Space g.slot ∷ if_made r (changed_body g c.row c.target)

  add-slots : (s : Add) (r : Reply) (c : Carry) (o : Option Generation) → s.generation ≡ o → IsRegion c.row c.plan
      → Changes (past_dir o (later r c)) before after (made-of by (step.Add s) r c) → (g : ℕ) → Slot (after.spaces g).windows (after.bodies g) (birth_in before.dir g)
  add-slots s r c None shows order changes = refused-slots (step.Add s) r c changes
  add-slots s r c (Some gen) shows order changes = add-past s r c gen shows order changes

  drop-slots : (s : Drop) (r : Reply) (c : Carry) (o : Option Generation)
      → Changes (past_dir o (later r c)) before after (made-of by (step.Drop s) r c) → (g : ℕ) → Slot (after.spaces g).windows (after.bodies g) (birth_in before.dir g)
  drop-slots s r c None changes = refused-slots (step.Drop s) r c changes
  drop-slots s r c (Some gen) changes = drop-past s r c gen changes

  -- the directory stays
  same-dir : (cs : List CellId) (made : Made) → Changes cs before after made → dir_after before.dir made.step made.reply made.carry ≡ before.dir
      → ((g : ℕ) → Slot (after.spaces g).windows (after.bodies g) (birth_in before.dir g)) → Matched after
  same-dir cs made changes stays slots =
      let same : after.dir ≡ before.dir = dir-step cs before after made changes (λ d. d ≡ before.dir) (λ agreed. stays) refl in
      record {
        placed = subst Placed (sym same) J.placed;
        slots = λ g. subst (λ d. Slot (after.spaces g).windows (after.bodies g) (birth_in d g)) (sym same) (slots g);
      }

  pub kept-by : (count : ℕ) (s : Step) (r : Reply) (c : Carry) → IsInOrder before s c → Changes (components count by s r c) before after (made-of by s r c) → Matched after
  kept-by count (step.Add s) r c order changes =
      same-dir (components count by (step.Add s) r c) (made-of by (step.Add s) r c) changes refl (add-slots s r c s.generation refl order changes)
  kept-by count (step.Drop s) r c order changes =
      same-dir (components count by (step.Drop s) r c) (made-of by (step.Drop s) r c) changes refl (drop-slots s r c s.generation changes)
  kept-by count s r c order changes = frame-kept (components count by s r c) before after (made-of by s r c) changes refl order J

pub matched-kept : (count : ℕ) (before after : Guests) (made : Made) → IsStep count before after made → Matched before → Matched after
matched-kept count before after made is J = kept-by before after J made.by count made.step made.reply made.carry is.in_order is.components
