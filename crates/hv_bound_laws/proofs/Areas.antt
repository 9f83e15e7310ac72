-- Areas keep as many bytes as they have at the start: what reaches them lies in regions that end within them.
use Rattle.std.proofs.Common.{◌≡◌, ℕ, ◌+◌, ◌≤◌, ◌==◌, ◌&&◌, ◌||◌, Bool, true, false, cond, nat_le, refl, sym, subst, ◌∙◌, List, ◌∷◌, find, length, arith, Option, None, Some, IsSomeAnd, is_some, option_map, eqb-true, eq-eqb}
use Rattle.std.specs.List.{AllByRecursion, list_any}
use Rattle.std.specs.Option.{option_map_or}
use Rattle.std.proofs.lemmas.Option.{same_Some}
use Rattle.byteorder.specs.Endian.{little_bytes}
use Rattle.byteorder.specs.Numbers.{length-bytes_low_first}
use Rattle.hv_answer.specs.declared.reply.Reply.{Reply}
use Rattle.hv_body.proofs.FormLemmas.{length_with}
use Rattle.hv_body.specs.Contents.{answer_of, loaded, stored}
use Rattle.hv_body.specs.Windows.{holds, offset_in, offset_of}
use Rattle.hv_body.specs.declared.contents.Contents.{Contents}
use Rattle.hv_body.specs.declared.contents.Contents.TheVariants.{Writable, ReadOnly, Emulated, Shared}
use Rattle.hv_body.specs.declared.live.Live.{Live}
use Rattle.hv_body.specs.declared.place.Answer.{Answer}
use Rattle.hv_body.specs.declared.place.Answer.TheVariants.{Answered, Denied, NotHere}
use Rattle.hv_body.specs.declared.place.Place.{Place}
use Rattle.hv_emu.specs.Access.{load, store}
use Rattle.hv_emu.specs.Device.{DevState, device_access}
use Rattle.hv_event.specs.declared.event.ActorId.{ActorId}
use Rattle.hv_event.specs.declared.event.CellId.{CellId}
use Rattle.hv_event.specs.declared.event.CellId.TheVariants.{Files, Space, Vcpu, Body, Area}
use Rattle.hv_kinds.specs.declared.access.Direction.{Direction}
use Rattle.hv_kinds.specs.declared.access.Direction.TheVariants.{Read, Write}
use Rattle.hv_kinds.specs.declared.address.AddressType.{AddressType}
use Rattle.hv_kinds.specs.declared.generation.Generation.{Generation}
use Rattle.hv_model.specs.Cell.{same_component}
use Rattle.hv_model.specs.Legal.{area_at_start}
use Rattle.hv_model.specs.Origin.{Origin}
use Rattle.hv_plan.specs.Rules.{LiesInArea}
use Rattle.hv_region.specs.declared.plan.Form.TheVariants.{Real}
use Rattle.hv_region.specs.declared.plan.RegionPlan.{RegionPlan}
use Rattle.hv_region.specs.declared.window.Window.{Window}
use Rattle.hv_rules.specs.Area.{accessed_area, area_after, loaded_area}
use Rattle.hv_rules.specs.Body.{BodyAgrees, BodyValue, access_answer, answer_to, area_in, no_memory, range_in, range_of, shared_in}
use Rattle.hv_rules.specs.Carry.{Carry}
use Rattle.hv_rules.specs.Footprint.{components, past_dir, reached, reached_by}
use Rattle.hv_rules.specs.Windows.{guest_place}
use Rattle.hv_step.specs.declared.step.Access.{Access}
use Rattle.hv_step.specs.declared.step.Load.{Load}
use Rattle.hv_step.specs.declared.step.Step.{Step}
use Rattle.hv_step.specs.declared.step.Step.TheVariants as step
use Rattle.hv_window_laws.proofs.Lists.{and-left, and-right, found-is, le-is}
use Rattle.hv_bound_laws.specs.Openings.{IsOpeningGood}
use Rattle.hv_bound_laws.proofs.Bodies.{BodyFits, Fits, IsWithin, shared_of}
use Rattle.hv_bound_laws.proofs.Plans.{region-good, start-long}

-- the place in an area to which an offset of a region leads

abbrev reach-of : Option (ℕ × ℕ) → (offset : ℕ) → Option (ℕ × ℕ)
reach-of None offset = None
reach-of (Some part) offset = Some (part.0, part.1 + offset)

range-part : (contents : Contents DevState) (offset size : ℕ) → shared_in (range_in contents offset size) ≡ reach-of (shared_of contents) offset
range-part (Writable bytes) offset size = refl
range-part (ReadOnly bytes) offset size = refl
range-part (Emulated device) offset size = refl
range-part (Shared area start) offset size = refl

answered-none : (answer : Option ℕ) → area_in (answer_of answer) ≡ None
answered-none None = refl
answered-none (Some value) = refl

chosen-none : (b : Bool) → area_in (cond b (Answered 0) Denied) ≡ None
chosen-none true = refl
chosen-none false = refl

loaded-part : (contents : Contents DevState) (offset size : ℕ) → area_in (loaded contents offset size) ≡ reach-of (shared_of contents) offset
loaded-part (Writable bytes) offset size = refl
loaded-part (ReadOnly bytes) offset size = refl
loaded-part (Emulated device) offset size = answered-none (device_access device (load offset size)).answer
loaded-part (Shared area start) offset size = refl

stored-part : (contents : Contents DevState) (offset size value : ℕ) → area_in (stored contents offset size value) ≡ reach-of (shared_of contents) offset
stored-part (Writable bytes) offset size value = refl
stored-part (ReadOnly bytes) offset size value = refl
stored-part (Emulated device) offset size value = chosen-none (is_some (device_access device (store offset size value)).answer)
stored-part (Shared area start) offset size value = refl

-- where an access begins that a window holds, it ends within the region

held-within : (size : ℕ) (place : Place) (w : Window) → holds place w ≡ true → IsWithin size w → offset_in w place.addr + place.size ≤ size
held-within size place w held within =
    let last = nat_le (place.addr + place.size) (w.base + w.size) in
    let to = le-is (place.addr + place.size) (w.base + w.size) (and-right _ last held) in
    let from = le-is w.base place.addr (and-right _ (nat_le w.base place.addr) (and-left _ last held)) in
    omega (arith, to, from, within)

offset-within : (size : ℕ) (windows : List Window) (place : Place) (offset : ℕ) → AllByRecursion (IsWithin size) windows → offset_of windows place ≡ Some offset → offset + place.size ≤ size
offset-within size windows place offset all is = by (find (holds place) windows) refl is
  where
    by : (found : Option Window) → find (holds place) windows ≡ found → option_map (λ (w : Window). offset_in w place.addr) found ≡ Some offset → offset + place.size ≤ size
    by None at is = absurd (cc is)
    by (Some w) at is =
        let it = found-is (IsWithin size) (holds place) windows w all at in
        let same : offset_in w place.addr ≡ offset = same_Some (offset_in w place.addr) offset is in
        subst (λ (n : ℕ). n + place.size ≤ size) same (held-within size place w it.0 it.1)

-- what is of some option

some-of : {A : Type 0} (P : A → Type 0) (o : Option A) (x : A) → o ≡ Some x → IsSomeAnd o P → P x
some-of P o x is some = subst (λ (o : Option _). IsSomeAnd o P) is some

body-here : (g j : ℕ) (rest : Bool) → (((g == g) && (j == j)) || rest) ≡ true
body-here g j rest = by (g == g) (j == j) (eq-eqb g g refl) (eq-eqb j j refl)
  where
    by : (a b : Bool) → a ≡ true → b ≡ true → ((a && b) || rest) ≡ true
    by true true one two = refl
    by true false one two = absurd (cc two)
    by false b one two = absurd (cc one)

last-here : (a k : ℕ) → ((a == k) || false) ≡ true → a ≡ k
last-here a k is = eqb-true a k (by (a == k) is)
  where
    by : (b : Bool) → (b || false) ≡ true → b ≡ true
    by true is = refl
    by false is = is

-- the place of an access
abbrev at-place : Access → AddressType × ℕ → Place
at-place s at = record { birth = s.generation.birth; kind = at.0; addr = at.1; size = s.size }

module _ (O : Origin) (good : IsOpeningGood O) where
  -- a place that a region's bytes reach ends within its area
  abbrev EndsIn : (place : ℕ × ℕ) → (size : ℕ) → Type 0
  EndsIn place size = place.1 + size ≤ length (area_at_start O place.0)

  part-fits : (row : ℕ) (plan : RegionPlan) (part : Option (ℕ × ℕ)) (windows : List Window) → Fits O.opening.plans row plan part windows
      → (offset size : ℕ) → offset + size ≤ plan.size → (place : ℕ × ℕ) → reach-of part offset ≡ Some place → EndsIn place size
  part-fits row plan None windows fits offset size le place is = absurd (cc is)
  part-fits row plan (Some p) windows fits offset size le place is =
      let lies : LiesInArea O.opening.areas plan.size (Real p.0 p.1) =
      subst (LiesInArea O.opening.areas plan.size) fits.shared (region-good O.opening.harts O.opening.areas O.opening.plans good row plan fits.planned).lies in
      let long : p.1 + plan.size ≤ length (area_at_start O p.0) = start-long O p.0 (p.1 + plan.size) lies in
      let same : (p.0, p.1 + offset) ≡ place = same_Some (p.0, p.1 + offset) place is in
      subst (λ (q : ℕ × ℕ). EndsIn q size) same (omega (arith, long, le))

  live-fits : (row : ℕ) (live : Live DevState) → BodyFits O.opening.plans row (Some live) → (offset size : ℕ) → offset + size ≤ live.plan.size
      → (place : ℕ × ℕ) → reach-of (shared_of live.contents) offset ≡ Some place → EndsIn place size
  live-fits row live fits = part-fits row live.plan (shared_of live.contents) live.windows fits

  range-fits : (row : ℕ) (body : BodyValue) (offset size : ℕ) → BodyFits O.opening.plans row body → (place : ℕ × ℕ) → shared_in (range_of body offset size) ≡ Some place → EndsIn place size
  range-fits row None offset size fits place is = absurd (cc is)
  range-fits row (Some live) offset size fits place is = by (nat_le (offset + size) live.plan.size) refl is
    where
      by : (b : Bool) → nat_le (offset + size) live.plan.size ≡ b → shared_in (cond b (range_in live.contents offset size) no_memory) ≡ Some place → EndsIn place size
      by true le is = live-fits row live fits offset size (le-is (offset + size) live.plan.size le) place (sym (range-part live.contents offset size) ∙ is)
      by false le is = absurd (cc is)

  answer-fits : (row : ℕ) (live : Live DevState) → BodyFits O.opening.plans row (Some live) → (at : Place) (answer : (offset : ℕ) → Answer)
      → ((offset : ℕ) → area_in (answer offset) ≡ reach-of (shared_of live.contents) offset)
      → (place : ℕ × ℕ) → area_in (option_map_or answer (offset_of live.windows at) NotHere) ≡ Some place → EndsIn place at.size
  answer-fits row live fits at answer part place is = by (offset_of live.windows at) refl is
    where
      by : (found : Option ℕ) → offset_of live.windows at ≡ found → area_in (option_map_or answer found NotHere) ≡ Some place → EndsIn place at.size
      by None none is = absurd (cc is)
      by (Some offset) found is =
          live-fits row live fits offset at.size (offset-within live.plan.size live.windows at offset fits.within found) place (sym (part offset) ∙ is)

  access-at : (row : ℕ) (body : BodyValue) → BodyFits O.opening.plans row body → (way : Direction) (value : ℕ) (at : Place) (place : ℕ × ℕ)
      → area_in (access_answer body way value at) ≡ Some place → EndsIn place at.size
  access-at row None fits Read value at place is = absurd (cc is)
  access-at row None fits Write value at place is = absurd (cc is)
  access-at row (Some live) fits Read value at place is =
      answer-fits row live fits at (λ offset. loaded live.contents offset at.size) (λ offset. loaded-part live.contents offset at.size) place is
  access-at row (Some live) fits Write value at place is =
      answer-fits row live fits at (λ offset. stored live.contents offset at.size value) (λ offset. stored-part live.contents offset at.size value) place is

  access-fits : (row : ℕ) (body : BodyValue) → BodyFits O.opening.plans row body → (s : Access) (place : ℕ × ℕ) → area_in (answer_to body s) ≡ Some place → EndsIn place s.size
  access-fits row body fits s place is = by (guest_place s.address) is
    where
      by : (at : Option (AddressType × ℕ)) → area_in (option_map_or (access_answer body s.direction s.value) (option_map (at-place s) at) NotHere) ≡ Some place → EndsIn place s.size
      by None is = absurd (cc is)
      by (Some p) is = access-at row body fits s.direction s.value (at-place s p) place is

  module _ (bodies : (slot row : ℕ) → BodyValue) (fits : (slot row : ℕ) → BodyFits O.opening.plans row (bodies slot row))
      (a : ℕ) (bytes : List ℕ) (long : length bytes ≡ length (area_at_start O a)) where
    -- what a step touches agrees to it
    abbrev Agree : List CellId → Step → Reply → Carry → Type 0
    Agree cs x r c = (g j : ℕ) → list_any (same_component (Body g j)) cs ≡ true → BodyAgrees j (bodies g j) x r c

    ends-here : (place : ℕ × ℕ) (size : ℕ) → a ≡ place.0 → EndsIn place size → place.1 + size ≤ length bytes
    ends-here place size here ends =
        let of-this : place.1 + size ≤ length (area_at_start O a) = subst (λ (n : ℕ). place.1 + size ≤ length (area_at_start O n)) (sym here) ends in
        omega (arith, of-this, long)

    load-long : (s : Load) (r : Reply) (c : Carry) (gen : Option Generation) (window : Option Window) (area : Option (ℕ × ℕ)) (file : Option (List ℕ))
        → c.window ≡ window → c.area ≡ area → c.bytes ≡ file
        → list_any (same_component (Area a)) (past_dir gen (λ g. Files ∷ Space g.slot ∷ reached_by g window area)) ≡ true
        → Agree (past_dir gen (λ g. Files ∷ Space g.slot ∷ reached_by g window area)) (step.Load s) r c
        → length (loaded_area bytes area file) ≡ length bytes
    load-long s r c None window area file window-is area-is file-is touched agree = absurd (cc touched)
    load-long s r c (Some g) None area file window-is area-is file-is touched agree = absurd (cc touched)
    load-long s r c (Some g) (Some w) None file window-is area-is file-is touched agree = absurd (cc touched)
    load-long s r c (Some g) (Some w) (Some p) None window-is area-is file-is touched agree = refl
    load-long s r c (Some g) (Some w) (Some p) (Some others) window-is area-is file-is touched agree =
        let body = bodies g.slot w.target in
        let by-window = some-of _ c.window w window-is (agree g.slot w.target (body-here g.slot w.target ((false || false)))) in
        let by-file = some-of _ c.bytes others file-is by-window in
        let ends = range-fits w.target body (offset_in w s.address) (length others) (fits g.slot w.target) p (sym by-file.1 ∙ area-is) in
        length_with bytes p.1 others (ends-here p (length others) (last-here a p.0 touched) ends)

    accessed-long : (way : Direction) (offset size value : ℕ) → offset + size ≤ length bytes → length (accessed_area bytes way offset size value) ≡ length bytes
    accessed-long Read offset size value le = refl
    accessed-long Write offset size value le =
        let count : length (little_bytes size value) ≡ size = length-bytes_low_first 0 size value in
        length_with bytes offset (little_bytes size value) (omega (arith, count, le))

    access-long : (s : Access) (r : Reply) (c : Carry) (area : Option (ℕ × ℕ)) → c.area ≡ area
        → list_any (same_component (Area a)) (Vcpu s.vcpu ∷ reached s.generation s.row area) ≡ true
        → Agree (Vcpu s.vcpu ∷ reached s.generation s.row area) (step.Access s) r c
        → length (option_map_or (λ (place : ℕ × ℕ). accessed_area bytes s.direction place.1 s.size s.value) area bytes) ≡ length bytes
    access-long s r c None area-is touched agree = refl
    access-long s r c (Some p) area-is touched agree =
        let body = bodies s.generation.slot s.row in
        let it = agree s.generation.slot s.row (body-here s.generation.slot s.row (false || false)) in
        let ends = access-fits s.row body (fits s.generation.slot s.row) s p (sym it.1 ∙ area-is) in
        accessed-long s.direction p.1 s.size s.value (ends-here p s.size (last-here a p.0 touched) ends)

    pub area-long : (harts : ℕ) (by : ActorId) (x : Step) (r : Reply) (c : Carry) → list_any (same_component (Area a)) (components harts by x r c) ≡ true
        → Agree (components harts by x r c) x r c → length (area_after bytes x r c) ≡ length (area_at_start O a)
    area-long harts by (step.Load s) r c touched agree = load-long s r c s.generation c.window c.area c.bytes refl refl refl touched agree ∙ long
    area-long harts by (step.Access s) r c touched agree = access-long s r c c.area refl touched agree ∙ long
    area-long harts by x r c touched agree = long
