-- Each step on guests is answered in one way, and hands over one thing.
use Rattle.std.proofs.Common.{◌≡◌, ℕ, ◌==◌, ◌&&◌, Bool, true, false, List, [], ◌∷◌, ◌++◌, map, refl, sym, ap, subst, ◌∙◌}
use Rattle.std.specs.Prelude.{Result, Ok, Err, Option, None, Some, MatchBool, nat_lt, if◌then◌else◌, find}
use Rattle.std.specs.Result.{result_ok}
use Rattle.std.specs.List.{AllByRecursion}
use Rattle.std.proofs.lemmas.Bool.{false≢true}
use Rattle.std.proofs.Common.{eq-eqb}
use Rattle.hv_machine.specs.Machine.{State}
use Rattle.hv_answer.specs.declared.reply.Reply.{Reply}
use Rattle.hv_answer.specs.declared.reply.Reply.TheVariants as reply
use Rattle.hv_emu.specs.Device.{DevState}
use Rattle.hv_event.specs.declared.event.ActorId.TheVariants.{Terminal}
use Rattle.hv_event.specs.declared.event.CellId.{CellId}
use Rattle.hv_event.specs.declared.event.CellId.TheVariants as component
use Rattle.hv_kinds.specs.declared.generation.Generation.{Generation}
use Rattle.hv_kinds.specs.declared.changes.SignalChanges.{SignalChanges}
use Rattle.hv_kinds.specs.declared.pins.Pins.{Pins}
use Rattle.hv_kinds.specs.declared.stage.Stage.{Stage}
use Rattle.hv_region.specs.declared.plan.RegionPlan.{RegionPlan}
use Rattle.hv_region.specs.declared.plan.VcpuPlan.{VcpuPlan}
use Rattle.hv_region.specs.declared.window.Window.{Window}
use Rattle.hv_refusal.specs.declared.refusal.Refusal.{Refusal}
use Rattle.hv_refusal.specs.declared.refusal.Refusal.TheVariants as refusal
use Rattle.hv_body.specs.Body.{device_of}
use Rattle.hv_rules.specs.Body.{BodyValue, changes, built, dropped, parent_of, unless_alias, signalled, TakesLevel, ShowsLevel, ShowsPins, is_born, line_in}
use Rattle.hv_rules.specs.Carry.{Carry, nothing}
use Rattle.hv_rules.specs.Dir.{Admits, region_alone, with_region}
use Rattle.hv_rules.specs.Footprint.{components, if_made, changed_body, past_dir, all_queues}
use Rattle.hv_rules.specs.Shelf.{device_for, unless_stopped, Gives, AgreesToDrop as ShelfAgreesToDrop}
use Rattle.hv_rules.specs.Space.{is_of, AgreesToDrop}
use Rattle.hv_rules.specs.Vcpu.{AgreesToPin}
use Rattle.hv_rules.specs.Windows.{Region}
use Rattle.hv_step.specs.declared.step.ByGuest.{ByGuest}
use Rattle.hv_step.specs.declared.step.Step.{Step}
use Rattle.hv_step.specs.declared.step.Step.TheVariants as step
use Rattle.hv_vcpu.specs.Vcpu.{VcpuValue, wakes, with_pins}
use Rattle.hv_model.specs.Cell.{Cell, Component}
use Rattle.hv_model.specs.declared.entry.Entry.{Entry}
use Rattle.hv_model.specs.Origin.{Origin}
use Rattle.hv_model.specs.Rules.{machine, IsAllowedAt}

-- two things that are the same third one
pub both : {A : Type 0} {x y z : A} → x ≡ z → y ≡ z → x ≡ y
both p q = p ∙ sym q

-- what the directory admits is what a step shows
pub admits-shown : (res : Result Generation Refusal) (shown : Option Generation) (refused : Refusal → Reply) (r : Reply) (c : Carry) → Admits res shown refused r c → shown ≡ result_ok res
admits-shown (Ok g) shown refused r c h = h
admits-shown (Err why) shown refused r c h = h.0

-- a region that the plan hasn't is refused
not-shown : (g : Generation) (res : Result Generation Refusal) → Some g ≡ result_ok (with_region None res) → ⊥
not-shown g (Ok found) h = cc h
not-shown g (Err why) h = cc h

-- a step that shows nothing was refused
pub admits-refused : (res : Result Generation Refusal) (refused : Refusal → Reply) (r q : Reply) (c d : Carry) → Admits res None refused r c → Admits res None refused q d
    → (r ≡ q) × (c ≡ region_alone c) × (d ≡ region_alone d)
admits-refused (Ok g) refused r q c d h k = absurd (cc h)
admits-refused (Err why) refused r q c d h k = (both h.1 k.1, h.2, k.2)

-- the last of components
last-agrees : (P : Cell → Type 0) (qs : List CellId) (x : CellId) → AllByRecursion P (map Component (qs ++ x ∷ [])) → P (Component x)
last-agrees P [] x h = h.0
last-agrees P (q ∷ qs) x h = last-agrees P qs x h.1

-- the first of a step by guest
pub dir-agrees : (P : Cell → Type 0) (gen : Option Generation) (later : Generation → List CellId) → AllByRecursion P (map Component (past_dir gen later)) → P (Component component.Dir)
dir-agrees P None later h = h.0
dir-agrees P (Some g) later h = h.0

-- a sample is answered in one way
sample-once : (level here : Bool) (source : ℕ) (body : BodyValue) (r q : Reply) → ShowsLevel level r → ShowsLevel level q → TakesLevel here source body r → TakesLevel here source body q → r ≡ q
sample-once level false source body r q x y h k = both h k
sample-once level true source body (reply.Sample (Some one)) (reply.Sample (Some other)) x y h k =
    let levels : one.level ≡ other.level = both x y in
    let changed : one.changes ≡ other.changes = h ∙ ap (λ (l : Bool). changes body (signalled source l body)) levels ∙ sym k in
    λ i. reply.Sample (Some (record { level = levels i; changes = changed i }))
sample-once level true source body (reply.Sample (Some one)) (reply.Sample None) x y h k = absurd k
sample-once level true source body (reply.Sample (Some one)) q x y h k = absurd k
sample-once level true source body (reply.Sample None) q x y h k = absurd h
sample-once level true source body r q x y h k = absurd h

-- and a pin
pin-once : (v : VcpuValue) (row birth : ℕ) (pins : Pins) (r q : Reply) (c d : Carry) → AgreesToPin v row birth r c → AgreesToPin v row birth q d → ShowsPins pins r → ShowsPins pins q
    → (r ≡ q) × (c.priority ≡ d.priority)
pin-once v row birth pins (reply.Pin None) (reply.Pin None) c d h k x y = (refl, both h.1 k.1)
pin-once v row birth pins (reply.Pin None) (reply.Pin (Some other)) c d h k x y = absurd (false≢true (sym h.0 ∙ k.0))
pin-once v row birth pins (reply.Pin None) q c d h k x y = absurd k
pin-once v row birth pins (reply.Pin (Some one)) (reply.Pin None) c d h k x y = absurd (false≢true (sym k.0 ∙ h.0))
pin-once v row birth pins (reply.Pin (Some one)) (reply.Pin (Some other)) c d h k x y =
    let shown : one.pins ≡ other.pins = both x y in
    let woke : one.woke ≡ other.woke = h.1 ∙ ap (λ (p : Pins). wakes (with_pins row p v)) shown ∙ sym k.1 in
    ((λ i. reply.Pin (Some (record { pins = shown i; woke = woke i }))), both h.2 k.2)
pin-once v row birth pins (reply.Pin (Some one)) q c d h k x y = absurd k
pin-once v row birth pins r q c d h k x y = absurd h

-- what additions and removals hand over, steps on a row, additions of VCPUs, and steps that make a VCPU ready
abbrev pub added : Option ℕ → Option (RegionPlan × ℕ) → Option Refusal → Option (ℕ × ℕ) → Option DevState → Option (ℕ × ℕ) → Carry
added row plan stopped target device parent =
    record nothing { row = row; plan = plan; stopped = stopped; target = target; device = device; parent = parent }

abbrev pub removed : Option ℕ → Option (ℕ × ℕ) → Option DevState → Option (ℕ × ℕ) → Carry
removed row target device parent = record nothing { row = row; target = target; device = device; parent = parent }

abbrev pub on_row : Option ℕ → Option (ℕ × ℕ) → Carry
on_row row parent = record nothing { row = row; parent = parent }

abbrev pub with_plan : Option (ℕ × VcpuPlan) → Carry
with_plan plan = record nothing { vcpu = plan }

abbrev pub readied : Option ℕ → Carry
readied priority = record nothing { priority = priority }

module _ (O : Origin) (s : State (machine O)) (t : ℕ) where
  abbrev pub by : Step → Reply → Carry → Entry
  by st r c = record { event = record { actor = Terminal t; index = 0; stamp = 0; step = st; reply = r }; carry = c }

  -- the components agree to a step of the terminal
  abbrev pub Agreed : Step → Reply → Carry → Type 0
  Agreed st r c = AllByRecursion (λ x. IsAllowedAt x (s x).value (by st r c)) (map Component (components O.opening.harts (Terminal t) st r c))

  abbrev pub At : Step → Reply → Carry → Cell → Type 0
  At st r c x = IsAllowedAt x (s x).value (by st r c)

  abbrev body : ℕ → ℕ → BodyValue
  body slot row = (s (Component (component.Body slot row))).value

  abbrev windows : ℕ → List Window
  windows slot = (s (Component (component.Space slot))).value.windows

  abbrev shelf : List DevState
  shelf = (s (Component component.Shelf)).value

  abbrev vcpu : ℕ → VcpuValue
  vcpu v = (s (Component (component.Vcpu v))).value

  -- samples: of two regions, in the order of their rows, or of one
  abbrev sample : (row parent source : ℕ) → Generation → Step
  sample row parent source g = step.Sample (record { row = row; parent = parent; source = source; generation = g })

  -- the row's region shows its level, and the parent takes it
  level-of : (X Y : Type 0) (b : Bool) → b ≡ true → MatchBool b X Y → X
  level-of X Y b is h = subst (λ (c : Bool). MatchBool c X Y) is h

  sampled-of : (row parent source : ℕ) (g : Generation) (r q : Reply) (c d : Carry)
      → At (sample row parent source g) r c (Component (component.Body g.slot row)) → At (sample row parent source g) q d (Component (component.Body g.slot row))
      → At (sample row parent source g) r c (Component (component.Body g.slot parent)) → At (sample row parent source g) q d (Component (component.Body g.slot parent)) → r ≡ q
  sampled-of row parent source g r q c d h k x y =
      let own = eq-eqb row row refl in
      let other = eq-eqb parent parent refl in
      sample-once (is_born g.birth (body g.slot row) && line_in (body g.slot row)) (is_born g.birth (body g.slot parent)) source (body g.slot parent) r q
      (level-of _ _ (row == row) own h.0) (level-of _ _ (row == row) own k.0) (level-of _ _ (parent == parent) other x.1) (level-of _ _ (parent == parent) other y.1)

  abbrev in_order : (row parent slot : ℕ) → Bool → List CellId
  in_order row parent slot b =
      if b then component.Body slot row ∷ component.Body slot parent ∷ [] else component.Body slot parent ∷ component.Body slot row ∷ []

  sampled-by : (row parent source : ℕ) (g : Generation) (b : Bool) (r q : Reply) (c d : Carry)
      → AllByRecursion (At (sample row parent source g) r c) (map Component (in_order row parent g.slot b))
      → AllByRecursion (At (sample row parent source g) q d) (map Component (in_order row parent g.slot b)) → r ≡ q
  sampled-by row parent source g true r q c d h k = sampled-of row parent source g r q c d h.0 k.0 h.1.0 k.1.0
  sampled-by row parent source g false r q c d h k = sampled-of row parent source g r q c d h.1.0 k.1.0 h.0 k.0

  pub sampled-once : (row parent source : ℕ) (g : Generation) (r q : Reply) (c d : Carry) → Agreed (sample row parent source g) r c → Agreed (sample row parent source g) q d → r ≡ q
  sampled-once row parent source g r q c d h k = sampled-by row parent source g (nat_lt row parent) r q c d h k

  -- a reset of a device in a row
  abbrev reset_of : (name region : List ℕ) → Option Generation → Step
  reset_of name region gen = step.Devreset (record { name = name; region = region; generation = gen })

  pub reset-once : (name region : List ℕ) (gen : Option Generation) (row : Option ℕ) (p q : Option (ℕ × ℕ)) (r u : Reply)
      → Agreed (reset_of name region gen) r (on_row row p) → Agreed (reset_of name region gen) u (on_row row q) → (r ≡ u) × (p ≡ q)
  reset-once name region None row p q r u h k =
      let refused = admits-refused _ (λ why. reply.Devreset (Err why)) r u (on_row row p) (on_row row q) h.0 k.0 in
      let parent : Carry → Option (ℕ × ℕ) = λ c. c.parent in
      (refused.0, both (ap parent refused.1) (ap parent refused.2))
  reset-once name region (Some g) None p q r u h k =
      absurd (not-shown g _ (admits-shown _ (Some g) (λ why. reply.Devreset (Err why)) r (on_row None p) h.0))
  reset-once name region (Some g) (Some j) p q r u h k = (both h.1.0.0 k.1.0.0, both h.1.0.1 k.1.0.1)

  -- additions
  abbrev add_of : (name region : List ℕ) → Stage → Option Generation → Step
  add_of name region stage gen = step.Add (record { name = name; region = region; stage = stage; generation = gen })

  module _ (name region : List ℕ) (stage : Stage) (g : Generation) (j : ℕ) (plan : RegionPlan × ℕ) (stopped : Option Refusal) where
    abbrev adding : Step
    adding = add_of name region stage (Some g)

    abbrev giving : (target : Option (ℕ × ℕ)) → Option DevState → Option (ℕ × ℕ) → Carry
    giving target device parent = added (Some j) (Some plan) stopped target device parent

    abbrev Bodies : (target : Option (ℕ × ℕ)) → Option DevState → Option (ℕ × ℕ) → Reply → Type 0
    Bodies target device parent r = AllByRecursion (At adding r (giving target device parent)) (map Component (if_made r (changed_body g (Some j) target)))

    abbrev place : Region
    place = record { birth = g.birth; row = j; plan = plan.0; vcpus = plan.1 }

    -- the body that is built says what changes
    built-once : (target : Option (ℕ × ℕ)) (one other : Option DevState) (p q : Option (ℕ × ℕ)) (x y : SignalChanges) (b : BodyValue) → one ≡ other
        → (reply.Add (Ok x) ≡ reply.Add (Ok (changes b (built place one target b)))) × (p ≡ plan.0.parent)
        → (reply.Add (Ok y) ≡ reply.Add (Ok (changes b (built place other target b)))) × (q ≡ plan.0.parent)
        → (reply.Add (Ok x) ≡ reply.Add (Ok y)) × (one ≡ other) × (p ≡ q)
    built-once target one other p q x y b devices h k =
        (h.0 ∙ ap (λ (d : Option DevState). reply.Add (Ok (changes b (built place d target b)))) devices ∙ sym k.0, devices, both h.1 k.1)

    made-once : (target : Option (ℕ × ℕ)) (one other : Option DevState) (p q : Option (ℕ × ℕ)) (x y : SignalChanges) → one ≡ other
        → Bodies target one p (reply.Add (Ok x)) → Bodies target other q (reply.Add (Ok y))
        → (reply.Add (Ok x) ≡ reply.Add (Ok y)) × (one ≡ other) × (p ≡ q)
    made-once None one other p q x y devices h k = built-once None one other p q x y (body g.slot j) devices h.0 k.0
    made-once (Some at) one other p q x y devices h k = built-once (Some at) one other p q x y (body g.slot at.0) devices h.0 k.0

    -- what the shelf gives decides
    given-once : (target : Option (ℕ × ℕ)) (due : Result (Option DevState) Refusal) (one other : Option DevState) (p q : Option (ℕ × ℕ)) (r u : Reply)
        → Gives due r (giving target one p) → Gives due u (giving target other q) → Bodies target one p r → Bodies target other q u
        → (r ≡ u) × (one ≡ other) × (p ≡ q)
    given-once target (Err why) one other p q r u h k x y = (both h.0 k.0, both h.1 k.1, both h.2 k.2)
    given-once target (Ok device) one other p q (reply.Add (Ok x)) (reply.Add (Ok y)) h k b d = made-once target one other p q x y (both h.1 k.1) b d
    given-once target (Ok device) one other p q (reply.Add (Ok x)) u h k b d = absurd (false≢true k.0)
    given-once target (Ok device) one other p q r u h k b d = absurd (false≢true h.0)

  add-same : (name region : List ℕ) (stage : Stage) (g : Generation) (j : ℕ) (plan : RegionPlan × ℕ) (stopped : Option Refusal) (target : Option (ℕ × ℕ))
      (one other : Option DevState) (p q : Option (ℕ × ℕ)) (r u : Reply)
      → Agreed (add_of name region stage (Some g)) r (added (Some j) (Some plan) stopped target one p)
      → Agreed (add_of name region stage (Some g)) u (added (Some j) (Some plan) stopped target other q)
      → (r ≡ u) × (one ≡ other) × (p ≡ q)
  add-same name region stage g j plan stopped target one other p q r u h k =
      given-once name region stage g j plan stopped target (unless_stopped stopped (device_for shelf plan.0.form)) one other p q r u h.1.0 k.1.0 h.1.1.1 k.1.1.1

  pub add-once : (name region : List ℕ) (stage : Stage) (gen : Option Generation) (row : Option ℕ) (plan : Option (RegionPlan × ℕ))
      (a b : Option Refusal) (m n : Option (ℕ × ℕ)) (one other : Option DevState) (p q : Option (ℕ × ℕ)) (r u : Reply)
      → Agreed (add_of name region stage gen) r (added row plan a m one p) → Agreed (add_of name region stage gen) u (added row plan b n other q)
      → (r ≡ u) × (added row plan a m one p ≡ added row plan b n other q)
  add-once name region stage None row plan a b m n one other p q r u h k =
      let refused = admits-refused _ (λ why. reply.Add (Err why)) r u (added row plan a m one p) (added row plan b n other q) h.0 k.0 in
      (refused.0, refused.1 ∙ sym refused.2)
  add-once name region stage (Some g) None plan a b m n one other p q r u h k = absurd h.1.1.0
  add-once name region stage (Some g) (Some j) None a b m n one other p q r u h k = absurd h.1.1.0
  add-once name region stage (Some g) (Some j) (Some plan) a b m n one other p q r u h k =
      let stops : a ≡ b = both h.1.1.0.0 k.1.1.0.0 in
      let leads : m ≡ n = both h.1.1.0.1 k.1.1.0.1 in
      let Stopped : Option Refusal → Type 0 = λ z. Agreed (add_of name region stage (Some g)) u (added (Some j) (Some plan) z n other q) in
      let Leads : Option (ℕ × ℕ) → Type 0 = λ z. Agreed (add_of name region stage (Some g)) u (added (Some j) (Some plan) a z other q) in
      let same = add-same name region stage g j plan a m one other p q r u h (subst Leads (sym leads) (subst Stopped (sym stops) k)) in
      (same.0, λ i. added (Some j) (Some plan) (stops i) (leads i) (same.1 i) (same.2 i))

  -- removals
  abbrev drop_of : (name region : List ℕ) → Stage → Option Generation → Step
  drop_of name region stage gen = step.Drop (record { name = name; region = region; stage = stage; generation = gen })

  module _ (name region : List ℕ) (stage : Stage) (g : Generation) (j : ℕ) (target : Option (ℕ × ℕ)) where
    abbrev dropping : Step
    dropping = drop_of name region stage (Some g)

    abbrev Left : Option DevState → Option (ℕ × ℕ) → Reply → Type 0
    Left device parent r = AllByRecursion (At dropping r (removed (Some j) target device parent)) (map Component (if_made r (changed_body g (Some j) target)))

    -- the body that is dropped says what changes, and what it hands over
    abbrev Says : BodyValue → Option DevState → Option (ℕ × ℕ) → SignalChanges → Type 0
    Says b device parent x =
        (reply.Drop (Ok x) ≡ reply.Drop (Ok (changes b (dropped j target b)))) × (device ≡ unless_alias target (device_of b)) × (parent ≡ unless_alias target (parent_of b))

    says-once : (b : BodyValue) (one other : Option DevState) (p q : Option (ℕ × ℕ)) (x y : SignalChanges) → Says b one p x → Says b other q y
        → (reply.Drop (Ok x) ≡ reply.Drop (Ok y)) × (one ≡ other) × (p ≡ q)
    says-once b one other p q x y h k = (both h.0 k.0, both h.1 k.1, both h.2 k.2)

  dropped-once : (name region : List ℕ) (stage : Stage) (g : Generation) (j : ℕ) (target : Option (ℕ × ℕ)) (one other : Option DevState) (p q : Option (ℕ × ℕ)) (x y : SignalChanges)
      → Left name region stage g j target one p (reply.Drop (Ok x)) → Left name region stage g j target other q (reply.Drop (Ok y))
      → (reply.Drop (Ok x) ≡ reply.Drop (Ok y)) × (one ≡ other) × (p ≡ q)
  dropped-once name region stage g j None one other p q x y h k = says-once name region stage g j None (body g.slot j) one other p q x y h.0 k.0
  dropped-once name region stage g j (Some at) one other p q x y h k = says-once name region stage g j (Some at) (body g.slot at.0) one other p q x y h.0 k.0

  -- a region that has no window is handed over by nothing
  refused-drop : (r : Reply) (device : Option DevState) (parent : Option (ℕ × ℕ)) (why : Refusal) (c : Carry) → r ≡ reply.Drop (Err why) → ShelfAgreesToDrop r c → (c.device ≡ None) × (c.parent ≡ None)
  refused-drop r device parent why c is h = subst (λ (z : Reply). ShelfAgreesToDrop z c) is h

  drop-by : (name region : List ℕ) (stage : Stage) (g : Generation) (j : ℕ) (w : Option Window) (m n : Option (ℕ × ℕ)) (one other : Option DevState) (p q : Option (ℕ × ℕ)) (r u : Reply)
      → ShelfAgreesToDrop r (removed (Some j) m one p) → ShelfAgreesToDrop u (removed (Some j) n other q)
      → AgreesToDrop w r m → AgreesToDrop w u n → Left name region stage g j m one p r → Left name region stage g j n other q u
      → (r ≡ u) × (m ≡ n) × (one ≡ other) × (p ≡ q)
  drop-by name region stage g j None m n one other p q r u a b h k x y =
      let none = refused-drop r one p refusal.NotLive (removed (Some j) m one p) h.0 a in
      let nothing' = refused-drop u other q refusal.NotLive (removed (Some j) n other q) k.0 b in
      (both h.0 k.0, both h.1 k.1, both none.0 nothing'.0, both none.1 nothing'.1)
  drop-by name region stage g j (Some w) m n one other p q (reply.Drop (Ok x)) (reply.Drop (Ok y)) a b h k d e =
      let leads : m ≡ n = both h.1 k.1 in
      let There : Option (ℕ × ℕ) → Type 0 = λ z. Left name region stage g j z other q (reply.Drop (Ok y)) in
      let same = dropped-once name region stage g j m one other p q x y d (subst There (sym leads) e) in
      (same.0, leads, same.1, same.2)
  drop-by name region stage g j (Some w) m n one other p q (reply.Drop (Ok x)) u a b h k d e = absurd (false≢true k.0)
  drop-by name region stage g j (Some w) m n one other p q r u a b h k d e = absurd (false≢true h.0)

  pub drop-once : (name region : List ℕ) (stage : Stage) (gen : Option Generation) (row : Option ℕ) (m n : Option (ℕ × ℕ)) (one other : Option DevState) (p q : Option (ℕ × ℕ)) (r u : Reply)
      → Agreed (drop_of name region stage gen) r (removed row m one p) → Agreed (drop_of name region stage gen) u (removed row n other q)
      → (r ≡ u) × (removed row m one p ≡ removed row n other q)
  drop-once name region stage None row m n one other p q r u h k =
      let refused = admits-refused _ (λ why. reply.Drop (Err why)) r u (removed row m one p) (removed row n other q) h.0 k.0 in
      (refused.0, refused.1 ∙ sym refused.2)
  drop-once name region stage (Some g) None m n one other p q r u h k = absurd h.1.1.0
  drop-once name region stage (Some g) (Some j) m n one other p q r u h k =
      let same = drop-by name region stage g j (find (is_of j) (windows g.slot)) m n one other p q r u h.1.0 k.1.0 h.1.1.0 k.1.1.0 h.1.1.1 k.1.1.1 in
      (same.0, λ i. removed (Some j) (same.1 i) (same.2 i) (same.3 i))

  -- changes of VCPUs: those that make one ready hand over its priority
  abbrev kick_of : (v : ℕ) → Option ByGuest → Step
  kick_of v guest = step.Kick (record { vcpu = v; guest = guest })

  abbrev resume_of : (v : ℕ) → Option ByGuest → Step
  resume_of v guest = step.Resume (record { vcpu = v; guest = guest })

  refused-priority : (p : Option ℕ) → readied p ≡ region_alone (readied p) → p ≡ None
  refused-priority p h = let priority : Carry → Option ℕ = λ c. c.priority in ap priority h

  pub kick-once : (v : ℕ) (guest : Option ByGuest) (p q : Option ℕ) (r u : Reply) → Agreed (kick_of v guest) r (readied p) → Agreed (kick_of v guest) u (readied q) → (r ≡ u) × (p ≡ q)
  kick-once v None p q r u h k = (both h.1.0.0 k.1.0.0, both h.1.0.1 k.1.0.1)
  kick-once v (Some guest) p q r u h k = kicked-by guest.name guest.generation v p q r u h k
    where
      kicked-by : (name : List ℕ) (gen : Option Generation) (v : ℕ) (p q : Option ℕ) (r u : Reply)
          → Agreed (kick_of v (Some (record { name = name; generation = gen }))) r (readied p) → Agreed (kick_of v (Some (record { name = name; generation = gen }))) u (readied q)
          → (r ≡ u) × (p ≡ q)
      kicked-by name None v p q r u h k =
          let refused = admits-refused _ (λ why. reply.Kick (Err why)) r u (readied p) (readied q) h.0 k.0 in
          (refused.0, both (refused-priority p refused.1) (refused-priority q refused.2))
      kicked-by name (Some g) v p q r u h k = (both h.1.1.0.0 k.1.1.0.0, both h.1.1.0.1 k.1.1.0.1)

  pub resume-once : (v : ℕ) (guest : Option ByGuest) (p q : Option ℕ) (r u : Reply) → Agreed (resume_of v guest) r (readied p) → Agreed (resume_of v guest) u (readied q) → (r ≡ u) × (p ≡ q)
  resume-once v None p q r u h k = (both h.1.0.0 k.1.0.0, both h.1.0.1 k.1.0.1)
  resume-once v (Some guest) p q r u h k = resumed-by guest.name guest.generation v p q r u h k
    where
      resumed-by : (name : List ℕ) (gen : Option Generation) (v : ℕ) (p q : Option ℕ) (r u : Reply)
          → Agreed (resume_of v (Some (record { name = name; generation = gen }))) r (readied p) → Agreed (resume_of v (Some (record { name = name; generation = gen }))) u (readied q)
          → (r ≡ u) × (p ≡ q)
      resumed-by name None v p q r u h k =
          let refused = admits-refused _ (λ why. reply.Resume (Err why)) r u (readied p) (readied q) h.0 k.0 in
          (refused.0, both (refused-priority p refused.1) (refused-priority q refused.2))
      resumed-by name (Some g) v p q r u h k = (both h.1.1.0.0 k.1.1.0.0, both h.1.1.0.1 k.1.1.0.1)

  abbrev queues : List CellId
  queues = all_queues O.opening.harts

  -- the others go over all queues
  pub pause-once : (v : ℕ) (guest : Option ByGuest) (r u : Reply) → (let st = step.Pause (record { vcpu = v; guest = guest }) in Agreed st r nothing)
      → (let st = step.Pause (record { vcpu = v; guest = guest }) in Agreed st u nothing) → r ≡ u
  pause-once v None r u h k =
      let st = step.Pause (record { vcpu = v; guest = None }) in
      both (last-agrees (At st r nothing) queues (component.Vcpu v) h) (last-agrees (At st u nothing) queues (component.Vcpu v) k)
  pause-once v (Some guest) r u h k = paused-by guest.name guest.generation r u h k
    where
      paused-by : (name : List ℕ) (gen : Option Generation) (r u : Reply)
          → (let st = step.Pause (record { vcpu = v; guest = Some (record { name = name; generation = gen }) }) in Agreed st r nothing)
          → (let st = step.Pause (record { vcpu = v; guest = Some (record { name = name; generation = gen }) }) in Agreed st u nothing) → r ≡ u
      paused-by name None r u h k = (admits-refused _ (λ why. reply.Pause (Err why)) r u nothing nothing h.0 k.0).0
      paused-by name (Some g) r u h k =
          let st = step.Pause (record { vcpu = v; guest = Some (record { name = name; generation = Some g }) }) in
          both (last-agrees (At st r nothing) queues (component.Vcpu v) h.1) (last-agrees (At st u nothing) queues (component.Vcpu v) k.1)

  pub halt-once : (v : ℕ) (guest : Option ByGuest) (r u : Reply) → (let st = step.Halt (record { vcpu = v; guest = guest }) in Agreed st r nothing)
      → (let st = step.Halt (record { vcpu = v; guest = guest }) in Agreed st u nothing) → r ≡ u
  halt-once v None r u h k =
      let st = step.Halt (record { vcpu = v; guest = None }) in
      both (last-agrees (At st r nothing) queues (component.Vcpu v) h) (last-agrees (At st u nothing) queues (component.Vcpu v) k)
  halt-once v (Some guest) r u h k = halted-by guest.name guest.generation r u h k
    where
      halted-by : (name : List ℕ) (gen : Option Generation) (r u : Reply)
          → (let st = step.Halt (record { vcpu = v; guest = Some (record { name = name; generation = gen }) }) in Agreed st r nothing)
          → (let st = step.Halt (record { vcpu = v; guest = Some (record { name = name; generation = gen }) }) in Agreed st u nothing) → r ≡ u
      halted-by name None r u h k = (admits-refused _ (λ why. reply.Halt (Err why)) r u nothing nothing h.0 k.0).0
      halted-by name (Some g) r u h k =
          let st = step.Halt (record { vcpu = v; guest = Some (record { name = name; generation = Some g }) }) in
          both (last-agrees (At st r nothing) queues (component.Vcpu v) h.1) (last-agrees (At st u nothing) queues (component.Vcpu v) k.1)

  pub vreset-once : (v : ℕ) (guest : Option ByGuest) (r u : Reply) → (let st = step.Reset (record { vcpu = v; guest = guest }) in Agreed st r nothing)
      → (let st = step.Reset (record { vcpu = v; guest = guest }) in Agreed st u nothing) → r ≡ u
  vreset-once v None r u h k =
      let st = step.Reset (record { vcpu = v; guest = None }) in
      both (last-agrees (At st r nothing) queues (component.Vcpu v) h) (last-agrees (At st u nothing) queues (component.Vcpu v) k)
  vreset-once v (Some guest) r u h k = reset-by guest.name guest.generation r u h k
    where
      reset-by : (name : List ℕ) (gen : Option Generation) (r u : Reply)
          → (let st = step.Reset (record { vcpu = v; guest = Some (record { name = name; generation = gen }) }) in Agreed st r nothing)
          → (let st = step.Reset (record { vcpu = v; guest = Some (record { name = name; generation = gen }) }) in Agreed st u nothing) → r ≡ u
      reset-by name None r u h k = (admits-refused _ (λ why. reply.Reset (Err why)) r u nothing nothing h.0 k.0).0
      reset-by name (Some g) r u h k =
          let st = step.Reset (record { vcpu = v; guest = Some (record { name = name; generation = Some g }) }) in
          both (last-agrees (At st r nothing) queues (component.Vcpu v) h.1) (last-agrees (At st u nothing) queues (component.Vcpu v) k.1)

  pub vdrop-once : (v : ℕ) (r u : Reply) → (let st = step.Vdrop (record { vcpu = v }) in Agreed st r nothing) → (let st = step.Vdrop (record { vcpu = v }) in Agreed st u nothing) → r ≡ u
  vdrop-once v r u h k =
      let st = step.Vdrop (record { vcpu = v }) in
      both (last-agrees (At st r nothing) queues (component.Vcpu v) h) (last-agrees (At st u nothing) queues (component.Vcpu v) k)

  -- an addition of a VCPU whose plan is handed over
  pub vadd-once : (v birth : ℕ) (plan : Option (ℕ × VcpuPlan)) (r u : Reply)
      → (let st = step.Vadd (record { vcpu = v; birth = birth }) in Agreed st r (with_plan plan))
      → (let st = step.Vadd (record { vcpu = v; birth = birth }) in Agreed st u (with_plan plan)) → r ≡ u
  vadd-once v birth None r u h k = absurd h.0
  vadd-once v birth (Some plan) r u h k = both h.0 k.0

  -- a pin
  pub pinned-once : (row v : ℕ) (g : Generation) (r u : Reply) (p q : Option ℕ)
      → (let st = step.Pin (record { row = row; vcpu = v; generation = g }) in Agreed st r (readied p))
      → (let st = step.Pin (record { row = row; vcpu = v; generation = g }) in Agreed st u (readied q)) → (r ≡ u) × (p ≡ q)
  pinned-once row v g r u p q h k = pin-once (vcpu v) row g.birth _ r u (readied p) (readied q) h.1.0 k.1.0 h.1.1.0 k.1.1.0
