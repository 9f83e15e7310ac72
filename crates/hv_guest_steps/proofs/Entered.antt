-- Windows that come into a space.
use Rattle.std.proofs.Common.{◌≡◌, ℕ, ◌+◌, ◌-◌, ◌≤◌, List, [], ◌∷◌, Bool, true, false, ◌&&◌, cond, refl, subst, arith, nat_le, Option, Some, None}
use Rattle.std.specs.Prelude.{Result, Ok, Err, find, filter, option_map}
use Rattle.std.specs.List.{All}
use Rattle.std.proofs.lemmas.Bool.Decides.{nat_tests}
use Rattle.std.proofs.lemmas.Option.{same_Some}
use Rattle.std.proofs.lemmas.List.Elements.{All-head, All-tail}
use Rattle.hv_body.specs.Windows.{meets, offset_in, put_in_order}
use Rattle.hv_body.proofs.WindowLemmas.{all_put}
use Rattle.hv_kinds.specs.declared.address.AddressType.{AddressType}
use Rattle.hv_kinds.specs.declared.address.AddressType.TheVariants.{Memory, Io}
use Rattle.hv_region.specs.Addresses.{end_of}
use Rattle.hv_region.specs.Windows.{Adds, AreWindows, IsWindow}
use Rattle.hv_region.specs.declared.plan.Form.{Form}
use Rattle.hv_region.specs.declared.plan.Form.TheVariants.{Ram, Rom, Device, Real, Alias}
use Rattle.hv_region.specs.declared.plan.RegionPlan.{RegionPlan}
use Rattle.hv_region.specs.declared.window.Window.{Window}
use Rattle.hv_region.specs.declared.window.RegionRefusal.{RegionRefusal}
use Rattle.hv_region.specs.declared.window.RegionRefusal.TheVariants.{Overlap, OutOfRange, AliasTarget}
use Rattle.hv_rules.specs.Space.{is_own, least_row, target_of}
use Rattle.hv_rules.specs.Windows.{Region, has_range, window_of}
use Rattle.hv_rules.proofs.MeetingLemmas.{met_is, put_is}
use Rattle.hv_rules.proofs.WindowLemmas.{and_left, and_right}
use Rattle.hv_guest_steps.specs.Additions.{CanBe}
use Rattle.hv_guest_steps.specs.Regions.{ShowWithin}

-- a window that meets none is put by its address
pub put_among : (old new : List Window) (window : Window) (answer : Result (Unit {0}) RegionRefusal) → Adds old window answer new → AreWindows new
    → IsWindow window → least_row (filter (meets window) old) ≡ None → new ≡ put_in_order window old
put_among old new window (Ok unit) adds are is none = (put_is old new window are adds).1
put_among old new window (Err OutOfRange) adds are is none = let past = adds.0 in let range = is.range in absurd (omega arith)
put_among old new window (Err (Overlap owner)) adds are is none = let met = met_is old new window owner adds in absurd (cc (met, none))
put_among old new window (Err AliasTarget) adds are is none = absurd adds

-- the window of a region that can be
pub is_window : (region : Region) (target : Option (ℕ × ℕ)) → CanBe region → IsWindow (window_of region target)
is_window region None can = record { some = can.by_rules.some; range = can.by_rules.range; owner = can.row }
is_window region (Some target) can = record { some = can.by_rules.some; range = can.by_rules.range; owner = can.row }

-- an alias's window meets the same windows as the region's own
pub same_met : (region : Region) (target : Option (ℕ × ℕ)) (windows : List Window)
    → least_row (filter (meets (window_of region target)) windows) ≡ least_row (filter (meets (window_of region None)) windows)
same_met region None windows = refl
same_met region (Some target) windows = refl

-- nothing is shown behind as many bytes as memory has addresses

below : (kind : AddressType) (base size : ℕ) → base + size ≤ end_of kind → size ≤ end_of Memory
below Memory base size le = omega arith
below Io base size le = omega arith

-- a window that is found passes, and has what all have

found_step : (P : Window → Type 0) (p : Window → Bool) (x : Window) (found : Option Window) (w : Window) (b : Bool) → p x ≡ b
    → cond b (Some x) found ≡ Some w → P x → (found ≡ Some w → (p w ≡ true) × P w) → (p w ≡ true) × P w
found_step P p x found w true passes is has others =
    let same : x ≡ w = same_Some x w is in
    (subst (λ (y : Window). p y ≡ true) same passes, subst P same has)
found_step P p x found w false fails is has others = others is

pub found_has : (P : Window → Type 0) (p : Window → Bool) (ws : List Window) (w : Window) → find p ws ≡ Some w → All P ws → (p w ≡ true) × P w
found_has P p [] w e all = absurd (cc e)
found_has P p (x ∷ ws) w e all =
    found_step P p x (find p ws) w (p x) refl e (All-head P x ws all) (λ is. found_has P p ws w is (All-tail P x ws all))

ends : (kind : AddressType) (address size : ℕ) (w : Window) → has_range kind address size w ≡ true → (w.base ≤ address) × (address + size ≤ w.base + w.size)
ends kind address size w e =
    let to = and_right _ (nat_le (address + size) (w.base + w.size)) e in
    let from = and_right _ (nat_le w.base address) (and_left _ (nat_le (address + size) (w.base + w.size)) e) in
    (grind (arith, nat_tests, from), grind (arith, nat_tests, to))

shown_of : (windows : List Window) (plan : RegionPlan) (address : ℕ) (target : ℕ × ℕ) (found : Option Window)
    → find (λ w. is_own w && has_range plan.kind address plan.size w) windows ≡ found → Some target ≡ option_map (λ w. (w.owner, offset_in w address)) found
    → ShowWithin windows → target.1 + plan.size ≤ end_of Memory
shown_of windows plan address target None is there within = absurd (cc there)
shown_of windows plan address target (Some w) is there within =
    let has = found_has (λ w. w.offset + w.size ≤ end_of Memory) (λ w. is_own w && has_range plan.kind address plan.size w) windows w is within in
    let it = ends plan.kind address plan.size w (and_right (is_own w) (has_range plan.kind address plan.size w) has.0) in
    let from = it.0 in
    let to = it.1 in
    let shown = has.1 in
    let same : target ≡ (w.owner, offset_in w address) = same_Some target (w.owner, offset_in w address) there in
    let at : target.1 ≡ address - w.base + w.offset = λ i. (same i).1 in
    omega arith

target_within : (windows : List Window) (plan : RegionPlan) (form : Form) (target : ℕ × ℕ) → Some target ≡ target_of windows plan form
    → ShowWithin windows → target.1 + plan.size ≤ end_of Memory
target_within windows plan Ram target is within = absurd (cc is)
target_within windows plan Rom target is within = absurd (cc is)
target_within windows plan (Device names) target is within = absurd (cc is)
target_within windows plan (Real area offset) target is within = absurd (cc is)
target_within windows plan (Alias address) target is within =
    shown_of windows plan address target (find (λ w. is_own w && has_range plan.kind address plan.size w) windows) refl is within

pub shows_within : (windows : List Window) (region : Region) (target : Option (ℕ × ℕ)) → CanBe region
    → target ≡ target_of windows region.plan region.plan.form → ShowWithin windows
    → (window_of region target).offset + (window_of region target).size ≤ end_of Memory
shows_within windows region None can is within =
    let fits = below region.plan.kind region.plan.base region.plan.size can.by_rules.range in
    omega arith
shows_within windows region (Some target) can is within = target_within windows region.plan region.plan.form target is within

-- also with the new one
pub within_put : (windows : List Window) (region : Region) (target : Option (ℕ × ℕ)) → CanBe region
    → target ≡ target_of windows region.plan region.plan.form → ShowWithin windows → ShowWithin (put_in_order (window_of region target) windows)
within_put windows region target can is within =
    all_put (λ w. w.offset + w.size ≤ end_of Memory) true windows (put_in_order (window_of region target) windows) (window_of region target) refl
    (shows_within windows region target can is within) within
