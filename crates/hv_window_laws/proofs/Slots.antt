-- The windows of one slot match its regions: an addition and a removal keep it.
use Rattle.std.proofs.Common.{◌≡◌, ℕ, ◌+◌, ◌-◌, ◌<◌, ◌≤◌, Bool, true, false, not, ◌&&◌, ◌==◌, nat_lt, nat_le, cond, refl, sym, ap, subst, ◌∙◌, List, [], ◌∷◌, filter, find, replicate, arith, Option, None, Some, Ok, option_map, ok_or, is_none, eqb-true, eq-eqb}
use Rattle.std.specs.Bool.{then_some}
use Rattle.std.specs.List.{AllByRecursion, list_any}
use Rattle.std.specs.Option.{option_or}
use Rattle.std.proofs.lemmas.Option.{same_Some}
use Rattle.hv_body.specs.Body.{may_add, with_window, without_window, with_windows}
use Rattle.hv_body.specs.Contents.{new_contents}
use Rattle.hv_body.specs.Windows.{is_type, is_new_owner, lies_within, lies_apart, meets, offset_in, put_in_order}
use Rattle.hv_body.specs.declared.contents.Contents.{Contents}
use Rattle.hv_body.specs.declared.contents.Contents.TheVariants.{Writable, ReadOnly, Emulated, Shared}
use Rattle.hv_body.specs.declared.live.Live.{Live}
use Rattle.hv_dir.specs.Pool.{taken}
use Rattle.hv_emu.specs.Device.{DevState, after_attach}
use Rattle.hv_refusal.specs.declared.refusal.Refusal.TheVariants as refusal
use Rattle.hv_region.specs.Addresses.{end_of}
use Rattle.hv_region.specs.Plans.{IsRegionPlan}
use Rattle.hv_region.specs.Windows.{IsWindow, without_owner, without_target}
use Rattle.hv_region.specs.declared.plan.Form.{Form}
use Rattle.hv_region.specs.declared.plan.Form.TheVariants.{Ram, Rom, Device, Real, Alias}
use Rattle.hv_region.specs.declared.plan.RegionPlan.{RegionPlan}
use Rattle.hv_region.specs.declared.window.Window.{Window}
use Rattle.hv_rules.specs.Body.{BodyValue, built}
use Rattle.hv_rules.specs.Shelf.{device_for}
use Rattle.hv_rules.specs.Space.{is_of, is_own, lacks_target, least_row, refusal_in, target_at, target_of}
use Rattle.hv_rules.specs.Windows.{Region, has_range, window_of}
use Rattle.hv_text.specs.declared.limits.TheConstants.{GUEST_REGIONS}
use Rattle.hv_window_laws.specs.Windows.{windows_of, leads_to, is_own_of, own_of}
use Rattle.hv_window_laws.proofs.Lists.{le-is, le-true, lt-true, and-left, and-right, and-true, is-false, not-true, not-false, each-filter, each-map, each-not, any-not, any-filter, each-of, filter-none, filter-under, filter-apart, filter-swap, find-under, find-apart, find-none, found-is, not-found, After, Ordered, ordered-filter, each-put, put-out, put-in, find-put-out, find-put-in, put-ordered, not-same}

-- the windows of a slot, the contents of its regions, and the birth of its guest
pub record Slot (ws : List Window) (bodies : ℕ → BodyValue) (born : Option ℕ) : Type 0 where
  pub order : Ordered ws
  pub reached : (j : ℕ) → windows_of (bodies j) ≡ filter (leads_to j) ws
  pub live : (j : ℕ) → find (is_own_of j) ws ≡ option_map (own_of j) (bodies j)
  pub births : AllByRecursion (λ w. born ≡ Some w.birth) ws

-- small things on options and tests

no-map : {A B : Type 0} (f : A → B) (o : Option A) → option_map f o ≡ None → o ≡ None
no-map f None is = refl
no-map f (Some x) is = absurd (cc)

both-tests : (a b c : ℕ) → (a == b) ≡ true → (a == c) ≡ false → (b == c) ≡ false
both-tests a b c same other = subst (λ n. (n == c) ≡ false) (eqb-true a b same) other

and-left-false : (a b : Bool) → a ≡ false → (a && b) ≡ false
and-left-false true b e = cc
and-left-false false b e = refl

and-right-false : (a b : Bool) → b ≡ false → (a && b) ≡ false
and-right-false true b e = e
and-right-false false b e = refl

true-false : (b : Bool) → b ≡ true → b ≡ false → ⊥
true-false b p q = cc

-- an addition that isn't refused

record Free (ws : List Window) (region : Region) : Type 0 where
  owner : list_any (is_of region.row) ws ≡ false
  apart : AllByRecursion (λ w. meets (window_of region None) w ≡ false) ws
  target : lacks_target ws region.plan region.plan.form ≡ false

least-none : (ws : List Window) → least_row ws ≡ None → ws ≡ []
least-none [] is = refl
least-none (w ∷ ws) is = absurd (cc)

unrefused : (a : Bool) (m : Option ℕ) (l : Bool)
    → option_or (then_some a refusal.Live) (option_or (option_map refusal.Overlap m) (then_some l refusal.AliasTarget)) ≡ None
    → (a ≡ false) × (m ≡ None) × (l ≡ false)
unrefused true m l is = absurd (cc)
unrefused false (Some r) l is = absurd (cc)
unrefused false None true is = absurd (cc)
unrefused false None false is = (refl, refl, refl)

free : (ws : List Window) (region : Region) → refusal_in ws region ≡ None → Free ws region
free ws region is =
    let w = window_of region None in
    let parts = unrefused (list_any (is_of region.row) ws) (least_row (filter (meets w) ws)) (lacks_target ws region.plan region.plan.form) is in
    record {
      owner = parts.0;
      apart = filter-none (meets w) ws (least-none (filter (meets w) ws) parts.1);
      target = parts.2;
    }

-- the window of a region that can be
is-window : (region : Region) → region.row < GUEST_REGIONS → IsRegionPlan region.plan → (target : Option (ℕ × ℕ)) → IsWindow (window_of region target)
is-window region row plan None = record { some = plan.some; range = plan.range; owner = row }
is-window region row plan (Some t) = record { some = plan.some; range = plan.range; owner = row }

-- the contents of a region that is no alias
record Makes (form : Form) (size : ℕ) (device : Option DevState) : Type 0 where
  contents : Contents DevState
  are : new_contents form size device ≡ Some contents

made-device : (region : Region) (names : List (List ℕ)) (split : Option (DevState × List DevState)) (given : Option DevState)
    → ok_or (option_map (λ s. Some s.0) split) refusal.NoEmulator ≡ Ok given
    → Makes (Device names) region.plan.size (option_map (λ cold. after_attach cold region.vcpus) given)
made-device region names None given is = absurd (cc)
made-device region names (Some split) None is = absurd (cc)
made-device region names (Some split) (Some d) is = record { contents = Emulated (after_attach d region.vcpus); are = refl }

makes : (ws : List Window) (region : Region) (form : Form) (shelf : List DevState) (given : Option DevState)
    → lacks_target ws region.plan form ≡ false → target_of ws region.plan form ≡ None → device_for shelf form ≡ Ok given
    → Makes form region.plan.size (option_map (λ cold. after_attach cold region.vcpus) given)
makes ws region Ram shelf None some target is = record { contents = Writable (replicate region.plan.size 0); are = refl }
makes ws region Ram shelf (Some d) some target is = absurd (cc)
makes ws region Rom shelf None some target is = record { contents = ReadOnly (replicate region.plan.size 0); are = refl }
makes ws region Rom shelf (Some d) some target is = absurd (cc)
makes ws region (Device names) shelf given some target is = made-device region names (taken shelf names) given is
makes ws region (Real area offset) shelf None some target is = record { contents = Shared area offset; are = refl }
makes ws region (Real area offset) shelf (Some d) some target is = absurd (cc)
makes ws region (Alias address) shelf given some target is =
    let none = ap is_none target in absurd (true-false (is_none (target_at ws region.plan address)) none some)

-- the region's own window that an alias shows
record Shown (ws : List Window) (plan : RegionPlan) (t : ℕ × ℕ) : Type 0 where
  address : ℕ
  window : Window
  found : find (λ w. is_own w && has_range plan.kind address plan.size w) ws ≡ Some window
  is : (window.owner, offset_in window address) ≡ t

shown-by : (ws : List Window) (plan : RegionPlan) (t : ℕ × ℕ) (address : ℕ) (found : Option Window)
    → find (λ w. is_own w && has_range plan.kind address plan.size w) ws ≡ found
    → option_map (λ w. (w.owner, offset_in w address)) found ≡ Some t → Shown ws plan t
shown-by ws plan t address None found is = absurd (cc)
shown-by ws plan t address (Some w) found is =
    record { address = address; window = w; found = found; is = same_Some (w.owner, offset_in w address) t is }

shown : (ws : List Window) (plan : RegionPlan) (form : Form) (t : ℕ × ℕ) → target_of ws plan form ≡ Some t → Shown ws plan t
shown ws plan (Alias address) t is =
    shown-by ws plan t address (find (λ w. is_own w && has_range plan.kind address plan.size w) ws) refl is
shown ws plan Ram t is = absurd (cc)
shown ws plan Rom t is = absurd (cc)
shown ws plan (Device names) t is = absurd (cc)
shown ws plan (Real area offset) t is = absurd (cc)

same-way : (a b : ℕ) → (a == b) ≡ true → (b == a) ≡ true
same-way a b is = eq-eqb b a (sym (eqb-true a b is))

-- an own window that passes a test is found as that of its row
own-first : (x : Window) (xs : List Window) → is_own x ≡ true → find (is_own_of x.owner) (x ∷ xs) ≡ Some x
own-first x xs own =
    ap (λ (b : Bool). cond b (Some x) (find (is_own_of x.owner) xs))
    (and-true (x.owner == x.owner) (x.target == x.owner) (eq-eqb x.owner x.owner refl) (same-way x.owner x.target own))

own-step : (r : Window → Bool) (x : Window) (xs : List Window) (w : Window) (b : Bool) → (is_own x && r x) ≡ b → AllByRecursion (After x) xs
    → cond b (Some x) (find (λ w. is_own w && r w) xs) ≡ Some w → (find (λ w. is_own w && r w) xs ≡ Some w → find (is_own_of w.owner) xs ≡ Some w)
    → find (is_own_of w.owner) (x ∷ xs) ≡ Some w
own-step r x xs w true is after found later =
    subst (λ y. find (is_own_of y.owner) (x ∷ xs) ≡ Some y) (same_Some x w found) (own-first x xs (and-left (is_own x) (r x) is))
own-step r x xs w false is after found later =
    let behind = found-is (After x) (λ w. is_own w && r w) xs w after found in
    ap (λ (b : Bool). cond b (Some x) (find (is_own_of w.owner) xs)) (and-left-false (x.owner == w.owner) (x.target == w.owner) behind.1.1)
    ∙ later found

own-found : (r : Window → Bool) (ws : List Window) (w : Window) → Ordered ws → find (λ w. is_own w && r w) ws ≡ Some w → find (is_own_of w.owner) ws ≡ Some w
own-found r [] w o found = absurd (cc)
own-found r (x ∷ xs) w o found = own-step r x xs w (is_own x && r x) refl o.1 found (λ later. own-found r xs w o.2 later)

-- the contents that have this own window
record Lives (bodies : ℕ → BodyValue) (w : Window) : Type 0 where
  live : Live DevState
  there : bodies w.owner ≡ Some live
  own : own_of w.owner live ≡ w

lives : (bodies : ℕ → BodyValue) (w : Window) (body : BodyValue) → bodies w.owner ≡ body → option_map (own_of w.owner) body ≡ Some w → Lives bodies w
lives bodies w None is own = absurd (cc)
lives bodies w (Some live) is own = record { live = live; there = is; own = same_Some (own_of w.owner live) w own }

-- an alias shows a part of its region
shows-part : (base address size wide offset plan : ℕ) → base ≤ address → address + size ≤ base + wide → 0 ≡ offset → plan ≡ wide
    → address - base + offset + size ≤ plan
shows-part base address size wide offset plan from to none same = omega arith

-- two numbers that differ aren't both this one
not-both : (a b c : ℕ) → (a == b) ≡ true → (c == b) ≡ false → (a == c) ≡ false
not-both a b c is other = is-false (a == c) (λ same. true-false (c == b) (subst (λ n. (n == b) ≡ true) (eqb-true a c same) is) other)

-- a row has one window
one-step : (row : ℕ) (x : Window) (xs : List Window) (w : Window) (b : Bool) → (x.owner == row) ≡ b → AllByRecursion (After x) xs → cond b (Some x) (find (is_of row) xs) ≡ Some w
    → (find (is_of row) xs ≡ Some w → AllByRecursion (λ y. is_of row y ≡ true → y.target ≡ w.target) xs)
    → AllByRecursion (λ y. is_of row y ≡ true → y.target ≡ w.target) (x ∷ xs)
one-step row x xs w true is after found later = (
  λ of. ap (λ y. y.target) (same_Some x w found),
  each-map (After x) (λ y. is_of row y ≡ true → y.target ≡ w.target) xs
      (λ y behind of. absurd (true-false (x.owner == y.owner)
      (eq-eqb x.owner y.owner (eqb-true x.owner row is ∙ sym (eqb-true y.owner row of))) behind.1)) after,
)
one-step row x xs w false is after found later = (λ of. absurd (true-false (x.owner == row) of is), later found)

one-owner : (row : ℕ) (ws : List Window) (w : Window) → Ordered ws → find (is_of row) ws ≡ Some w → AllByRecursion (λ y. is_of row y ≡ true → y.target ≡ w.target) ws
one-owner row [] w o found = tt
one-owner row (x ∷ xs) w o found = one-step row x xs w (x.owner == row) refl o.1 found (λ later. one-owner row xs w o.2 later)

without-reached : (row : ℕ) (body : BodyValue) → windows_of (without_window body row) ≡ without_owner row (windows_of body)
without-reached row None = refl
without-reached row (Some live) = refl

without-own : (j row : ℕ) (body : BodyValue) → option_map (own_of j) body ≡ option_map (own_of j) (without_window body row)
without-own j row None = refl
without-own j row (Some live) = refl

module _ (ws : List Window) (bodies : ℕ → BodyValue) (born : Option ℕ) (J : Slot ws bodies born) where
  -- a row that has no window has no contents, and no window leads to it
  no-owner : (row : ℕ) → list_any (is_of row) ws ≡ false → find (is_own_of row) ws ≡ None
  no-owner row none =
      find-none (is_own_of row) ws
      (each-map (λ w. is_of row w ≡ false) (λ w. is_own_of row w ≡ false) ws (λ w is. and-left-false (is_of row w) (leads_to row w) is) (each-not (is_of row) ws none))

  pub no-body : (row : ℕ) → find (is_own_of row) ws ≡ None → bodies row ≡ None
  no-body row none = no-map (own_of row) (bodies row) (sym (J.live row) ∙ none)

  pub none-leads : (row : ℕ) → find (is_own_of row) ws ≡ None → filter (leads_to row) ws ≡ []
  none-leads row none = sym (J.reached row) ∙ ap windows_of (no-body row none)

  module _ (region : Region) (row : region.row < GUEST_REGIONS) (plan : IsRegionPlan region.plan) (birth : born ≡ Some region.birth)
      (allowed : refusal_in ws region ≡ None) where
    not-refused : Free ws region
    not-refused = free ws region allowed

    owners : AllByRecursion (λ w. (w.owner == region.row) ≡ false) ws
    owners = each-not (is_of region.row) ws not-refused.owner

    abbrev placed : Option (ℕ × ℕ) → List Window
    placed target = put_in_order (window_of region target) ws

    placed-order : (target : Option (ℕ × ℕ)) → Ordered (placed target)
    placed-order None = put-ordered (window_of region None) ws (is-window region row plan None) not-refused.apart owners J.order
    placed-order (Some t) = put-ordered (window_of region (Some t)) ws (is-window region row plan (Some t)) not-refused.apart owners J.order

    placed-births : (target : Option (ℕ × ℕ)) → AllByRecursion (λ w. born ≡ Some w.birth) (placed target)
    placed-births None = each-put (λ w. born ≡ Some w.birth) (window_of region None) ws birth J.births
    placed-births (Some t) = each-put (λ w. born ≡ Some w.birth) (window_of region (Some t)) ws birth J.births

    unowned : find (is_own_of region.row) ws ≡ None
    unowned = no-owner region.row not-refused.owner

    -- a region of its own
    module _ (shelf : List DevState) (given : Option DevState) (target : target_of ws region.plan region.plan.form ≡ None) (device : device_for shelf region.plan.form ≡ Ok given)
        (next : ℕ → BodyValue) (here : next region.row ≡ built region given None (bodies region.row))
        (others : (j : ℕ) → (region.row == j) ≡ false → next j ≡ bodies j) where
      own-made : Makes region.plan.form region.plan.size (option_map (λ cold. after_attach cold region.vcpus) given)
      own-made = makes ws region region.plan.form shelf given not-refused.target target device

      own-body : next region.row ≡ Some (record { birth = region.birth; plan = region.plan; contents = own-made.contents; windows = window_of region None ∷ [] })
      own-body =
          here
          ∙ ap (option_map (λ contents. record { birth = region.birth; plan = region.plan; contents = contents; windows = window_of region None ∷ [] })) own-made.are

      own-reached : (j : ℕ) (b : Bool) → (region.row == j) ≡ b → windows_of (next j) ≡ filter (leads_to j) (placed None)
      own-reached j true is =
          subst (λ n. windows_of (next n) ≡ filter (leads_to n) (placed None)) (eqb-true region.row j is)
          (ap windows_of own-body
          ∙ sym (put-in (leads_to region.row) (window_of region None) ws (eq-eqb region.row region.row refl) J.order
          ∙ ap (put_in_order (window_of region None)) (none-leads region.row unowned)))
      own-reached j false is =
          ap windows_of (others j is) ∙ J.reached j ∙ sym (put-out (leads_to j) (window_of region None) ws is)

      own-live : (j : ℕ) (b : Bool) → (region.row == j) ≡ b → find (is_own_of j) (placed None) ≡ option_map (own_of j) (next j)
      own-live j true is =
          subst (λ n. find (is_own_of n) (placed None) ≡ option_map (own_of n) (next n)) (eqb-true region.row j is)
          (find-put-in (is_own_of region.row) (window_of region None) ws
          (and-true (region.row == region.row) (region.row == region.row) (eq-eqb region.row region.row refl) (eq-eqb region.row region.row refl))
          (not-found (is_own_of region.row) ws unowned)
          ∙ sym (ap (option_map (own_of region.row)) own-body))
      own-live j false is =
          find-put-out (is_own_of j) (window_of region None) ws (and-left-false (region.row == j) (region.row == j) is)
          ∙ J.live j ∙ sym (ap (option_map (own_of j)) (others j is))

      pub added-own : Slot (placed None) next born
      added-own = record {
        order = placed-order None;
        reached = λ j. own-reached j (region.row == j) refl;
        live = λ j. own-live j (region.row == j) refl;
        births = placed-births None;
      }

    -- an alias of a region, whose own window this is
    module _ (w : Window) (address : ℕ) (found : find (λ w. is_own w && has_range region.plan.kind address region.plan.size w) ws ≡ Some w) where
      abbrev aim : ℕ × ℕ
      aim = (w.owner, offset_in w address)

      abbrev alias-window : Window
      alias-window = window_of region (Some aim)

      alias-own : find (is_own_of w.owner) ws ≡ Some w
      alias-own = own-found (has_range region.plan.kind address region.plan.size) ws w J.order found

      alias-found : ((is_own w && has_range region.plan.kind address region.plan.size w) ≡ true) × (born ≡ Some w.birth) × ((w.owner == region.row) ≡ false)
      alias-found =
          let test : Window → Bool = λ w. is_own w && has_range region.plan.kind address region.plan.size w in
          let one = found-is (λ x. born ≡ Some x.birth) test ws w J.births found in
          let other = found-is (λ x. (x.owner == region.row) ≡ false) test ws w owners found in
          (one.0, one.1, other.1)

      alias-live : Lives bodies w
      alias-live = lives bodies w (bodies w.owner) refl (sym (J.live w.owner) ∙ alias-own)

      live-windows : alias-live.live.windows ≡ filter (leads_to w.owner) ws
      live-windows = sym (ap windows_of alias-live.there) ∙ J.reached w.owner

      none-there : (q : Window → Bool) → list_any q ws ≡ false → list_any q alias-live.live.windows ≡ false
      none-there q none = subst (λ l. list_any q l ≡ false) (sym live-windows) (any-filter q (leads_to w.owner) ws none)

      same-birth : (region.birth == alias-live.live.birth) ≡ true
      same-birth =
          eq-eqb region.birth alias-live.live.birth
          (same_Some region.birth w.birth (sym birth ∙ alias-found.1) ∙ sym (ap (λ x. x.birth) alias-live.own))

      new-owner : is_new_owner alias-live.live.windows alias-window ≡ true
      new-owner =
          and-true (nat_lt region.row GUEST_REGIONS) (not (list_any (is_of region.row) alias-live.live.windows))
          (lt-true region.row GUEST_REGIONS row)
          (not-true (list_any (is_of region.row) alias-live.live.windows) (none-there (is_of region.row) not-refused.owner))

      within : lies_within alias-live.live.plan.size alias-window ≡ true
      within =
          let size = region.plan.size in
          let tests = and-right (is_own w) (has_range region.plan.kind address size w) alias-found.0 in
          let last = nat_le (address + size) (w.base + w.size) in
          let first = nat_le 1 size && is_type w.kind region.plan.kind && nat_le w.base address in
          let from = le-is w.base address (and-right (nat_le 1 size && is_type w.kind region.plan.kind) (nat_le w.base address) (and-left first last tests)) in
          let to = le-is (address + size) (w.base + w.size) (and-right first last tests) in
          and-true (nat_le 1 size) (nat_le (offset_in w address + size) alias-live.live.plan.size)
          (le-true 1 size plan.some)
          (le-true (offset_in w address + size) alias-live.live.plan.size
          (shows-part w.base address size w.size w.offset alias-live.live.plan.size from to
          (ap (λ x. x.offset) alias-live.own) (ap (λ x. x.size) alias-live.own)))

      lies-apart : lies_apart alias-live.live.windows alias-window ≡ true
      lies-apart =
          and-true (nat_le (region.plan.base + region.plan.size) (end_of region.plan.kind)) (not (list_any (meets alias-window) alias-live.live.windows))
          (le-true (region.plan.base + region.plan.size) (end_of region.plan.kind) plan.range)
          (not-true (list_any (meets alias-window) alias-live.live.windows)
          (none-there (meets alias-window) (any-not (meets alias-window) ws not-refused.apart)))

      may-add : may_add alias-live.live alias-window ≡ true
      may-add =
          let one = region.birth == alias-live.live.birth in
          let two = is_new_owner alias-live.live.windows alias-window in
          let three = lies_within alias-live.live.plan.size alias-window in
          let four = lies_apart alias-live.live.windows alias-window in
          and-true (one && two && three) four (and-true (one && two) three (and-true one two same-birth new-owner) within) lies-apart

      not-own : (j : ℕ) (b : Bool) → (region.row == j) ≡ b → is_own_of j alias-window ≡ false
      not-own j true is =
          and-right-false (region.row == j) (w.owner == j)
          (subst (λ n. (w.owner == n) ≡ false) (eqb-true region.row j is) alias-found.2)
      not-own j false is = and-left-false (region.row == j) (w.owner == j) is

      module _ (next : ℕ → BodyValue) (here : next w.owner ≡ built region None (Some aim) (bodies w.owner))
          (others : (j : ℕ) → (w.owner == j) ≡ false → next j ≡ bodies j) where
        alias-body : next w.owner ≡ Some (with_windows alias-live.live (put_in_order alias-window alias-live.live.windows))
        alias-body =
            let L = alias-live.live in
            here ∙ ap (λ b. with_window b alias-window) alias-live.there
            ∙ ap (λ (b : Bool). Some (cond b (with_windows L (put_in_order alias-window L.windows)) L)) may-add

        alias-reached : (j : ℕ) (b : Bool) → (w.owner == j) ≡ b → windows_of (next j) ≡ filter (leads_to j) (placed (Some aim))
        alias-reached j true is =
            subst (λ n. windows_of (next n) ≡ filter (leads_to n) (placed (Some aim))) (eqb-true w.owner j is)
            (ap windows_of alias-body ∙ ap (put_in_order alias-window) live-windows
            ∙ sym (put-in (leads_to w.owner) alias-window ws (eq-eqb w.owner w.owner refl) J.order))
        alias-reached j false is = ap windows_of (others j is) ∙ J.reached j ∙ sym (put-out (leads_to j) alias-window ws is)

        alias-lives : (j : ℕ) (b : Bool) → (w.owner == j) ≡ b → option_map (own_of j) (bodies j) ≡ option_map (own_of j) (next j)
        alias-lives j true is =
            subst (λ n. option_map (own_of n) (bodies n) ≡ option_map (own_of n) (next n)) (eqb-true w.owner j is)
            (ap (option_map (own_of w.owner)) alias-live.there ∙ sym (ap (option_map (own_of w.owner)) alias-body))
        alias-lives j false is = sym (ap (option_map (own_of j)) (others j is))

        added-aim : Slot (placed (Some aim)) next born
        added-aim = record {
          order = placed-order (Some aim);
          reached = λ j. alias-reached j (w.owner == j) refl;
          live = λ j. find-put-out (is_own_of j) alias-window ws (not-own j (region.row == j) refl) ∙ J.live j ∙ alias-lives j (w.owner == j) refl;
          births = placed-births (Some aim);
        }

    pub added-alias : (t : ℕ × ℕ) → target_of ws region.plan region.plan.form ≡ Some t → (next : ℕ → BodyValue)
        → next t.0 ≡ built region None (Some t) (bodies t.0) → ((j : ℕ) → (t.0 == j) ≡ false → next j ≡ bodies j) → Slot (placed (Some t)) next born
    added-alias t target next =
        let at = shown ws region.plan region.plan.form t target in
        subst
        (λ u. next u.0 ≡ built region None (Some u) (bodies u.0) → ((j : ℕ) → (u.0 == j) ≡ false → next j ≡ bodies j) → Slot (placed (Some u)) next born)
        at.is (added-aim at.window at.address at.found next)

  -- the window of a row is dropped
  module _ (row : ℕ) (w : Window) (found : find (is_of row) ws ≡ Some w) where
    abbrev left : List Window
    left = without_target row (without_owner row ws)

    abbrev not-of : Window → Bool
    not-of x = not (x.owner == row)

    abbrev not-to : Window → Bool
    not-to x = not (x.target == row)

    found-owner : w.owner ≡ row
    found-owner = eqb-true w.owner row (found-is (λ x. Unit {0}) (is_of row) ws w (each-of (λ x. Unit {0}) ws (λ x. tt)) found).0

    -- its window is the one that a row has
    only-one : AllByRecursion (λ x. is_of row x ≡ true → x.target ≡ w.target) ws
    only-one = one-owner row ws w J.order found

    left-order : Ordered left
    left-order = ordered-filter not-to (filter not-of ws) (ordered-filter not-of ws J.order)

    left-births : AllByRecursion (λ x. born ≡ Some x.birth) left
    left-births = each-filter (λ x. born ≡ Some x.birth) not-to (filter not-of ws) (each-filter (λ x. born ≡ Some x.birth) not-of ws J.births)

    left-live : (j : ℕ) → (row == j) ≡ false → find (is_own_of j) left ≡ find (is_own_of j) ws
    left-live j other =
        find-under (is_own_of j) not-to (filter not-of ws)
        (λ x is. not-true (x.target == row) (not-both x.target j row (and-right (x.owner == j) (x.target == j) is) other))
        ∙ find-under (is_own_of j) not-of ws
        (λ x is. not-true (x.owner == row) (not-both x.owner j row (and-left (x.owner == j) (x.target == j) is) other))

    gone-live : find (is_own_of row) left ≡ None
    gone-live =
        find-apart (is_own_of row) not-to (filter not-of ws)
        (λ x out. and-right-false (x.owner == row) (x.target == row) (not-false (x.target == row) out))

    gone-reached : filter (leads_to row) left ≡ []
    gone-reached = filter-apart (leads_to row) not-to (filter not-of ws) (λ x out. not-false (x.target == row) out)

    past-target : (j : ℕ) → (row == j) ≡ false → filter (leads_to j) left ≡ filter (leads_to j) (filter not-of ws)
    past-target j other =
        filter-under (leads_to j) not-to (filter not-of ws)
        (each-of (λ x. leads_to j x ≡ true → not-to x ≡ true) (filter not-of ws) (λ x is. not-true (x.target == row) (not-both x.target j row is other)))

    kept-reached : (j : ℕ) → (row == j) ≡ false → (w.target == j) ≡ false → filter (leads_to j) left ≡ filter (leads_to j) ws
    kept-reached j other unaimed =
        past-target j other
        ∙ filter-under (leads_to j) not-of ws
        (each-map (λ x. is_of row x ≡ true → x.target ≡ w.target) (λ x. leads_to j x ≡ true → not-of x ≡ true) ws
        (λ x one is. not-true (x.owner == row) (is-false (x.owner == row) (λ of.
        true-false (w.target == j) (subst (λ n. (n == j) ≡ true) (one of) is) unaimed))) only-one)

    -- it is the region's own
    module _ (own : is_own w ≡ true) (next : ℕ → BodyValue) (here : next row ≡ None) (others : (j : ℕ) → (row == j) ≡ false → next j ≡ bodies j) where
      own-target : w.target ≡ row
      own-target = sym (eqb-true w.owner w.target own) ∙ found-owner

      empty-reached : (j : ℕ) (b : Bool) → (row == j) ≡ b → windows_of (next j) ≡ filter (leads_to j) left
      empty-reached j true is =
          subst (λ n. windows_of (next n) ≡ filter (leads_to n) left) (eqb-true row j is) (ap windows_of here ∙ sym gone-reached)
      empty-reached j false is =
          ap windows_of (others j is) ∙ J.reached j ∙ sym (kept-reached j is (subst (λ n. (n == j) ≡ false) (sym own-target) is))

      empty-live : (j : ℕ) (b : Bool) → (row == j) ≡ b → find (is_own_of j) left ≡ option_map (own_of j) (next j)
      empty-live j true is =
          subst (λ n. find (is_own_of n) left ≡ option_map (own_of n) (next n)) (eqb-true row j is) (gone-live ∙ sym (ap (option_map (own_of row)) here))
      empty-live j false is = left-live j is ∙ J.live j ∙ sym (ap (option_map (own_of j)) (others j is))

      pub dropped-own : Slot left next born
      dropped-own = record {
        order = left-order;
        reached = λ j. empty-reached j (row == j) refl;
        live = λ j. empty-live j (row == j) refl;
        births = left-births;
      }

    -- it is that of an alias
    module _ (alias : is_own w ≡ false) (next : ℕ → BodyValue) (here : next w.target ≡ without_window (bodies w.target) row)
        (others : (j : ℕ) → (w.target == j) ≡ false → next j ≡ bodies j) where
      unaimed : (w.target == row) ≡ false
      unaimed = not-same row w.target (subst (λ n. (n == w.target) ≡ false) found-owner alias)

      no-own : find (is_own_of row) ws ≡ None
      no-own =
          find-none (is_own_of row) ws
          (each-map (λ x. is_of row x ≡ true → x.target ≡ w.target) (λ x. is_own_of row x ≡ false) ws
          (λ x one. is-false (is_own_of row x) (λ is.
          true-false (w.target == row)
          (subst (λ n. (n == row) ≡ true) (one (and-left (x.owner == row) (x.target == row) is)) (and-right (x.owner == row) (x.target == row) is)) unaimed))
          only-one)

      still-none : next row ≡ None
      still-none = others row unaimed ∙ no-body row no-own

      rest-reached : (j : ℕ) (b : Bool) → (w.target == j) ≡ b → (row == j) ≡ false → windows_of (next j) ≡ filter (leads_to j) left
      rest-reached j true is other =
          let t = w.target in
          subst (λ n. (row == n) ≡ false → windows_of (next n) ≡ filter (leads_to n) left) (eqb-true t j is)
          (λ apart. ap windows_of here ∙ without-reached row (bodies t) ∙ ap (without_owner row) (J.reached t)
          ∙ sym (past-target t apart ∙ filter-swap (leads_to t) not-of ws)) other
      rest-reached j false is other = ap windows_of (others j is) ∙ J.reached j ∙ sym (kept-reached j other is)

      fewer-reached : (j : ℕ) (b : Bool) → (row == j) ≡ b → windows_of (next j) ≡ filter (leads_to j) left
      fewer-reached j true is =
          subst (λ n. windows_of (next n) ≡ filter (leads_to n) left) (eqb-true row j is) (ap windows_of still-none ∙ sym gone-reached)
      fewer-reached j false is = rest-reached j (w.target == j) refl is

      same-own : (j : ℕ) (b : Bool) → (w.target == j) ≡ b → option_map (own_of j) (bodies j) ≡ option_map (own_of j) (next j)
      same-own j true is =
          subst (λ n. option_map (own_of n) (bodies n) ≡ option_map (own_of n) (next n)) (eqb-true w.target j is)
          (without-own w.target row (bodies w.target) ∙ sym (ap (option_map (own_of w.target)) here))
      same-own j false is = sym (ap (option_map (own_of j)) (others j is))

      fewer-live : (j : ℕ) (b : Bool) → (row == j) ≡ b → find (is_own_of j) left ≡ option_map (own_of j) (next j)
      fewer-live j true is =
          subst (λ n. find (is_own_of n) left ≡ option_map (own_of n) (next n)) (eqb-true row j is)
          (gone-live ∙ sym (ap (option_map (own_of row)) still-none))
      fewer-live j false is = left-live j is ∙ J.live j ∙ same-own j (w.target == j) refl

      pub dropped-alias : Slot left next born
      dropped-alias = record {
        order = left-order;
        reached = λ j. fewer-reached j (row == j) refl;
        live = λ j. fewer-live j (row == j) refl;
        births = left-births;
      }
