-- Where the bytes end that a look at memory shows.
use Rattle.std.proofs.Common.{◌≡◌, ℕ, ◌<◌, ◌≤◌, ◌+◌, ◌-◌, ◌^◌, ◌⊎◌, inl, inr, Bool, true, false, cond, refl, sym, ap, subst, ◌∙◌, List, [], ◌∷◌, length, take, drop, Option, None, Some, Result, Ok, Err, arith, min, nat_le}
use Rattle.std.specs.Prelude.{IsSomeAnd, IfOk, find, if◌then◌else◌, slice_range}
use Rattle.std.specs.List.{All, AllByRecursion}
use Rattle.std.proofs.lemmas.Bool.Decides.{nat_tests}
use Rattle.std.proofs.lemmas.List.{length-take}
use Rattle.std.proofs.lemmas.List.Elements.{All-head, All-tail}
use Rattle.std.proofs.lemmas.Option.{same_Some}
use Rattle.hv_answer.specs.declared.reply.Reply.{Reply}
use Rattle.hv_answer.specs.declared.reply.Reply.TheVariants as reply
use Rattle.hv_body.specs.Windows.{offset_in}
use Rattle.hv_body.specs.declared.contents.Contents.{Contents}
use Rattle.hv_body.specs.declared.contents.Contents.TheVariants.{Writable, ReadOnly, Emulated, Shared}
use Rattle.hv_dir.specs.Directory.{AreEntries}
use Rattle.hv_emu.specs.Device.{DevState}
use Rattle.hv_event.specs.declared.event.ActorId.{ActorId}
use Rattle.hv_event.specs.declared.event.CellId.TheVariants as component
use Rattle.hv_kinds.specs.declared.address.AddressType.{AddressType}
use Rattle.hv_kinds.specs.declared.address.AddressType.TheVariants.{Memory, Io}
use Rattle.hv_kinds.specs.declared.generation.Generation.{Generation}
use Rattle.hv_kinds.specs.declared.stage.Stage.TheVariants.{Made}
use Rattle.hv_machine.specs.Machine.{MayHappen, State}
use Rattle.hv_model.specs.Cell.{Component}
use Rattle.hv_model.specs.declared.entry.Entry.{Entry}
use Rattle.hv_model.specs.Origin.{Origin}
use Rattle.hv_model.specs.Rules.{machine}
use Rattle.hv_refusal.specs.declared.refusal.Refusal.{Refusal}
use Rattle.hv_refusal.specs.declared.refusal.Refusal.TheVariants as refusal
use Rattle.hv_region.specs.Addresses.{end_of}
use Rattle.hv_region.specs.declared.window.Window.{Window}
use Rattle.hv_rules.specs.Body.{BodyValue, Range, memory, area, no_memory, ShowsMemory, range_in, range_of, shared_in}
use Rattle.hv_rules.specs.Carry.{Carry}
use Rattle.hv_rules.specs.Dir.{guest_in}
use Rattle.hv_rules.specs.Footprint.{components, reached_by, shared_area}
use Rattle.hv_rules.specs.Space.{HandsWindow}
use Rattle.hv_rules.specs.Windows.{has_range, window_at}
use Rattle.hv_rules.proofs.WindowLemmas.{and_right}
use Rattle.hv_shown.specs.Appends.{IsStepShown}
use Rattle.hv_step.specs.declared.step.Mem.{Mem}
use Rattle.hv_step.specs.declared.step.Step.{Step}
use Rattle.hv_step.specs.declared.step.Step.TheVariants as step
use Rattle.hv_text.specs.declared.limits.TheConstants.{SLOTS}
use Rattle.hv_reply_laws.proofs.Slots.{given-below}
use Rattle.hv_reply_laws.proofs.Touched.{Agrees, past, touched-agree}
use Rattle.hv_reply_laws.specs.Replied.{WindowsEndWithin}

found-step : (Q : Window → Type 0) (p : Window → Bool) (x : Window) (found : Option Window) (w : Window) (b : Bool) → p x ≡ b
    → cond b (Some x) found ≡ Some w → Q x → (found ≡ Some w → (p w ≡ true) × Q w) → (p w ≡ true) × Q w
found-step Q p x found w true passes is has others =
    let same : x ≡ w = same_Some x w is in (subst (λ (y : Window). p y ≡ true) same passes, subst Q same has)
found-step Q p x found w false fails is has others = others is

found-has : (Q : Window → Type 0) (p : Window → Bool) (windows : List Window) (w : Window) → find p windows ≡ Some w → All Q windows → (p w ≡ true) × Q w
found-has Q p [] w is all = absurd (cc is)
found-has Q p (x ∷ windows) w is all =
    found-step Q p x (find p windows) w (p x) refl is (All-head Q x windows all) (λ there. found-has Q p windows w there (All-tail Q x windows all))

range-ends : (kind : AddressType) (address size : ℕ) (w : Window) → has_range kind address size w ≡ true → address + size ≤ w.base + w.size
range-ends kind address size w e = let to = and_right _ (nat_le (address + size) (w.base + w.size)) e in grind (arith, nat_tests, to)

most : (kind : AddressType) → end_of kind ≤ 2 ^ 56
most Memory = omega arith
most Io = omega arith

-- a range that a window holds ends within memory
window-ends : (windows : List Window) (address count : ℕ) (w : Window) → All (λ window. window.base + window.size ≤ end_of window.kind) windows
    → window_at windows Memory address count ≡ Some w → address + count ≤ 2 ^ 56
window-ends windows address count w all is =
    let has = found-has (λ window. window.base + window.size ≤ end_of window.kind) (has_range Memory address count) windows w is all in
    let it = range-ends Memory address count w has.0 in
    let m = most w.kind in
    omega (arith, it, m, has.1)

-- and its bytes are as many as the range has
slice-short : (bytes : List ℕ) (from count : ℕ) → length (slice_range bytes from (from + count)) ≤ count
slice-short bytes from count = let l = length-take (from + count - from) (drop from bytes) in omega (arith, l)

contents-short : (contents : Contents DevState) (offset count : ℕ) (bytes : List ℕ) → range_in contents offset count ≡ memory bytes → length bytes ≤ count
contents-short (Writable own) offset count bytes is = let same : slice_range own offset (offset + count) ≡ bytes = cc is in subst (λ (b : List ℕ). length b ≤ count) same (slice-short own offset count)
contents-short (ReadOnly own) offset count bytes is = let same : slice_range own offset (offset + count) ≡ bytes = cc is in subst (λ (b : List ℕ). length b ≤ count) same (slice-short own offset count)
contents-short (Emulated device) offset count bytes is = absurd (cc is)
contents-short (Shared number start) offset count bytes is = absurd (cc is)

range-short : (body : BodyValue) (offset count : ℕ) (bytes : List ℕ) → range_of body offset count ≡ memory bytes → length bytes ≤ count
range-short None offset count bytes is = absurd (cc is)
range-short (Some live) offset count bytes is = by (nat_le (offset + count) live.plan.size) is
  where
    by : (b : Bool) → (if b then range_in live.contents offset count else no_memory) ≡ memory bytes → length bytes ≤ count
    by true is = contents-short live.contents offset count bytes is
    by false is = absurd (cc is)

module _ (O : Origin) (s : State (machine O)) (by : ActorId) (are : AreEntries (s (Component component.Dir)).value.entries) (ends : WindowsEndWithin O s) where
  -- a reply with few bytes can be shown
  few-shown : (st : Mem) (r : Reply) (answer : Result (List ℕ) Refusal) → r ≡ reply.Mem answer → IfOk answer (λ bytes. st.address + length bytes ≤ 2 ^ 64) → IsStepShown (step.Mem st) r
  few-shown st r answer is few = subst (IsStepShown (step.Mem st)) (sym is) few

  bytes-few : (st : Mem) (bytes : List ℕ) → st.address + st.count ≤ 2 ^ 56 → length bytes ≤ st.count → st.address + length bytes ≤ 2 ^ 64
  bytes-few st bytes held short = omega (arith, held, short)

  some-mem : (w : Option Window) (F : Window → Range) (Q : Window → Type 0) (r : Reply) → IsSomeAnd w (λ x. ShowsMemory (F x) r × Q x) → (x : Window) × ShowsMemory (F x) r × Q x
  some-mem None F Q r is = absurd is
  some-mem (Some x) F Q r is = (x, is.0, is.1)

  some-area : (place : Option (ℕ × ℕ)) (F : ℕ × ℕ → List ℕ) (r : Reply) → IsSomeAnd place (λ p. r ≡ reply.Mem (Ok (F p))) → (p : ℕ × ℕ) × (r ≡ reply.Mem (Ok (F p)))
  some-area None F r is = absurd is
  some-area (Some place) F r is = (place, is)

  area-shown : (st : Mem) (r : Reply) (c : Carry) (number offset : ℕ) → c.area ≡ Some (number, offset) → st.address + st.count ≤ 2 ^ 56
      → AllByRecursion (Agrees O s by (step.Mem st) r c) (shared_area c.area) → IsStepShown (step.Mem st) r
  area-shown st r c number offset is held all =
      let at = subst (λ (a : Option (ℕ × ℕ)). AllByRecursion (Agrees O s by (step.Mem st) r c) (shared_area a)) is all in
      let bytes = (s (Component (component.Area number))).value in
      let found = some-area c.area (λ place. slice_range bytes place.1 (place.1 + st.count)) r at.0 in
      let shown = slice_range bytes found.0.1 (found.0.1 + st.count) in
      few-shown st r (Ok shown) found.1 (bytes-few st shown held (slice-short bytes found.0.1 st.count))

  range-shown : (st : Mem) (r : Reply) (c : Carry) (body : BodyValue) (offset : ℕ) (range : Range) → range_of body offset st.count ≡ range → ShowsMemory range r
      → c.area ≡ shared_in range → st.address + st.count ≤ 2 ^ 56 → AllByRecursion (Agrees O s by (step.Mem st) r c) (shared_area c.area) → IsStepShown (step.Mem st) r
  range-shown st r c body offset (memory bytes) range_is is area_is held all =
      few-shown st r (Ok bytes) is (bytes-few st bytes held (range-short body offset st.count bytes range_is))
  range-shown st r c body offset (area number start) range_is is area_is held all = area-shown st r c number start area_is held all
  range-shown st r c body offset no_memory range_is is area_is held all = few-shown st r (Err refusal.NotMemory) is tt

  hands-shown : (st : Mem) (r : Reply) (c : Carry) (g : Generation) (found : Option Window) → g.slot < SLOTS
      → window_at (s (Component (component.Space g.slot))).value.windows Memory st.address st.count ≡ found → HandsWindow found (reply.Mem (Err refusal.NoWindow)) r c
      → AllByRecursion (Agrees O s by (step.Mem st) r c) (reached_by g c.window c.area) → IsStepShown (step.Mem st) r
  hands-shown st r c g None slot found_is is all = few-shown st r (Err refusal.NoWindow) is.0 tt
  hands-shown st r c g (Some window) slot found_is is all =
      let held = window-ends (s (Component (component.Space g.slot))).value.windows st.address st.count window (ends g.slot slot) found_is in
      let here = subst (λ (w : Option Window). AllByRecursion (Agrees O s by (step.Mem st) r c) (reached_by g w c.area)) is all in
      let body = (s (Component (component.Body g.slot window.target))).value in
      let found =
      some-mem c.window (λ w. range_of body (offset_in w st.address) st.count) (λ w. c.area ≡ shared_in (range_of body (offset_in w st.address) st.count)) r here.0 in
      range-shown st r c body (offset_in found.0 st.address) (range_of body (offset_in found.0 st.address) st.count) refl found.1 found.2 held here.1

  pub mem-shown : (st : Mem) (r : Reply) (c : Carry) → AllByRecursion (Agrees O s by (step.Mem st) r c) (components O.opening.harts by (step.Mem st) r c) → IsStepShown (step.Mem st) r
  mem-shown st r c all =
      elim (past (Agrees O s by (step.Mem st) r c) (guest_in (s (Component component.Dir)).value st.name Made) st.generation
      (λ g. component.Space g.slot ∷ reached_by g c.window c.area) (λ why. reply.Mem (Err why)) r c all (λ at. at)) [
        | inl admitted ↦
            let g = admitted.guest in
            hands-shown st r c g (window_at (s (Component (component.Space g.slot))).value.windows Memory st.address st.count)
            (given-below (s (Component component.Dir)).value st.name Made g are admitted.is) refl admitted.agree.0 admitted.agree.1
        | inr refused ↦ few-shown st r (Err refused.why) refused.reply tt
      ]

-- what a look at memory shows, where the entry may happen
step-shown : (O : Origin) (s : State (machine O)) (by : ActorId) (st : Step) (r : Reply) (c : Carry) (look : Mem) → AreEntries (s (Component component.Dir)).value.entries → WindowsEndWithin O s
    → st ≡ step.Mem look → AllByRecursion (Agrees O s by st r c) (components O.opening.harts by st r c) → IsStepShown st r
step-shown O s by st r c look are ends is all =
    subst (λ (x : Step). IsStepShown x r) (sym is)
    (mem-shown O s by are ends look r c (subst (λ (x : Step). AllByRecursion (Agrees O s by x r c) (components O.opening.harts by x r c)) is all))

pub memory-shown : (O : Origin) (s : State (machine O)) (e : Entry) (look : Mem) → AreEntries (s (Component component.Dir)).value.entries → WindowsEndWithin O s
    → MayHappen (machine O) s e → e.event.step ≡ step.Mem look → IsStepShown e.event.step e.event.reply
memory-shown O s e look are ends may is = step-shown O s e.event.actor e.event.step e.event.reply e.carry look are ends is (touched-agree O s e may)
