-- An access reaches the one region to which the window leads that holds it.
use Rattle.std.proofs.Common.{◌≡◌, ℕ, ◌+◌, ◌≤◌, ◌==◌, nat_le, Bool, true, false, ◌&&◌, cond, refl, sym, ap, ◌∙◌, arith, eq-eqb, List, [], ◌∷◌, filter, find, Option, None, Some}
use Rattle.std.specs.Bool.{then_some}
use Rattle.std.specs.List.{AllByRecursion}
use Rattle.std.proofs.lemmas.Option.{same_Some}
use Rattle.hv_body.specs.Windows.{holds, is_type}
use Rattle.hv_body.specs.declared.place.Place.{Place}
use Rattle.hv_kinds.specs.declared.address.AddressType.{AddressType}
use Rattle.hv_kinds.specs.declared.address.AddressType.TheVariants.{Memory, Io}
use Rattle.hv_laws.proofs.Frame.{true-false}
use Rattle.hv_region.specs.Addresses.{guest_address}
use Rattle.hv_region.specs.Windows.{IsBefore}
use Rattle.hv_region.specs.declared.window.Window.{Window}
use Rattle.hv_rules.specs.Windows.{has_range, window_at}
use Rattle.hv_window_laws.specs.Windows.{AccessesAreHeldByRange, AccessesReachOneRegion, birth_in, if_leads, leads_to}
use Rattle.hv_window_laws.proofs.Lists.{After, Ordered, and-left, and-right, and-true, each-filter, each-map, find-none, is-false, le-is, le-true, not-found}
use Rattle.hv_window_laws.proofs.Runs.{matched-reached}

-- of two windows of which one ends before the other, not both hold an access
apart : (k l : AddressType) (m : AddressType) (b s c a n : ℕ) → is_type k m ≡ true → is_type l m ≡ true → guest_address k b + s ≤ guest_address l c → 1 ≤ n → a + n ≤ b + s → c ≤ a → ⊥
apart Memory Memory Memory b s c a n one other before some to from = omega arith
apart Io Io Io b s c a n one other before some to from = omega arith
apart Memory Memory Io b s c a n one other before some to from = cc
apart Io Io Memory b s c a n one other before some to from = cc
apart Memory Io Memory b s c a n one other before some to from = cc
apart Memory Io Io b s c a n one other before some to from = cc
apart Io Memory Memory b s c a n one other before some to from = cc
apart Io Memory Io b s c a n one other before some to from = cc

module _ (place : Place) (some : 1 ≤ place.size) where
  holds-type : (w : Window) → holds place w ≡ true → is_type w.kind place.kind ≡ true
  holds-type w is =
      and-right (w.birth == place.birth) (is_type w.kind place.kind)
      (and-left ((w.birth == place.birth) && is_type w.kind place.kind) (nat_le w.base place.addr)
      (and-left ((w.birth == place.birth) && is_type w.kind place.kind && nat_le w.base place.addr) (nat_le (place.addr + place.size) (w.base + w.size)) is))

  holds-from : (w : Window) → holds place w ≡ true → w.base ≤ place.addr
  holds-from w is =
      le-is w.base place.addr
      (and-right ((w.birth == place.birth) && is_type w.kind place.kind) (nat_le w.base place.addr)
      (and-left ((w.birth == place.birth) && is_type w.kind place.kind && nat_le w.base place.addr) (nat_le (place.addr + place.size) (w.base + w.size)) is))

  holds-to : (w : Window) → holds place w ≡ true → place.addr + place.size ≤ w.base + w.size
  holds-to w is =
      le-is (place.addr + place.size) (w.base + w.size)
      (and-right ((w.birth == place.birth) && is_type w.kind place.kind && nat_le w.base place.addr) (nat_le (place.addr + place.size) (w.base + w.size)) is)

  not-both : (x y : Window) → holds place x ≡ true → IsBefore x y → holds place y ≡ false
  not-both x y here before =
      is-false (holds place y) (λ there.
      apart x.kind y.kind place.kind x.base x.size y.base place.addr place.size (holds-type x here) (holds-type y there) before some (holds-to x here) (holds-from y there))

  -- the first that holds it, among those that lead to a row
  lead-step : (row : ℕ) (x : Window) (xs : List Window) (a b : Bool) → holds place x ≡ a → leads_to row x ≡ b → AllByRecursion (After x) xs
      → find (holds place) (filter (leads_to row) xs) ≡ if_leads row (find (holds place) xs)
      → find (holds place) (cond b (x ∷ filter (leads_to row) xs) (filter (leads_to row) xs)) ≡ if_leads row (cond a (Some x) (find (holds place) xs))
  lead-step row x xs true true is leads after same =
      ap (λ (t : Bool). cond t (Some x) (find (holds place) (filter (leads_to row) xs))) is ∙ sym (ap (λ (t : Bool). then_some t x) leads)
  lead-step row x xs true false is leads after same =
      find-none (holds place) (filter (leads_to row) xs)
      (each-filter (λ y. holds place y ≡ false) (leads_to row) xs
      (each-map (After x) (λ y. holds place y ≡ false) xs (λ y behind. not-both x y is behind.0) after))
      ∙ sym (ap (λ (t : Bool). then_some t x) leads)
  lead-step row x xs false true is leads after same = ap (λ (t : Bool). cond t (Some x) (find (holds place) (filter (leads_to row) xs))) is ∙ same
  lead-step row x xs false false is leads after same = same

  pub leads : (row : ℕ) (ws : List Window) → Ordered ws → find (holds place) (filter (leads_to row) ws) ≡ if_leads row (find (holds place) ws)
  leads row [] o = refl
  leads row (x ∷ xs) o = lead-step row x xs (holds place x) (leads_to row x) refl refl o.1 (leads row xs o.2)

  -- of windows of the guest's birth, the one that holds it is the one that has its range
  abbrev in-range : Window → Bool
  in-range w = has_range place.kind place.addr place.size w

  same-tests : (w : Window) → w.birth ≡ place.birth → holds place w ≡ in-range w
  same-tests w born =
      ap (λ (b : Bool). b && is_type w.kind place.kind && nat_le w.base place.addr && nat_le (place.addr + place.size) (w.base + w.size))
      (eq-eqb w.birth place.birth born ∙ sym (le-true 1 place.size some))

  find-same : (xs : List Window) → AllByRecursion (λ w. holds place w ≡ in-range w) xs → find (holds place) xs ≡ find in-range xs
  find-same [] all = refl
  find-same (x ∷ xs) all =
      ap (λ (b : Bool). cond b (Some x) (find (holds place) xs)) all.0 ∙ ap (λ (f : Option Window). cond (in-range x) (Some x) f) (find-same xs all.1)

  pub held-by-range : (ws : List Window) (born : Option ℕ) → born ≡ Some place.birth → AllByRecursion (λ w. born ≡ Some w.birth) ws
      → find (holds place) ws ≡ window_at ws place.kind place.addr place.size
  held-by-range ws born is births =
      find-same ws (each-map (λ w. born ≡ Some w.birth) (λ w. holds place w ≡ in-range w) ws
      (λ w has. same-tests w (same_Some w.birth place.birth (sym has ∙ is))) births)

  -- where no window has the range, none holds it
  has-range : (w : Window) → holds place w ≡ true → in-range w ≡ true
  has-range w is =
      and-true (nat_le 1 place.size && is_type w.kind place.kind && nat_le w.base place.addr) (nat_le (place.addr + place.size) (w.base + w.size))
      (and-true (nat_le 1 place.size && is_type w.kind place.kind) (nat_le w.base place.addr)
      (and-true (nat_le 1 place.size) (is_type w.kind place.kind) (le-true 1 place.size some) (holds-type w is))
      (le-true w.base place.addr (holds-from w is)))
      (le-true (place.addr + place.size) (w.base + w.size) (holds-to w is))

  pub none-holds : (ws : List Window) → window_at ws place.kind place.addr place.size ≡ None → find (holds place) ws ≡ None
  none-holds ws none =
      find-none (holds place) ws
      (each-map (λ w. in-range w ≡ false) (λ w. holds place w ≡ false) ws
      (λ w out. is-false (holds place w) (λ is. true-false (in-range w) (has-range w is) out)) (not-found in-range ws none))

pub accesses-reach-one : AccessesReachOneRegion
accesses-reach-one count guests is slot row place some =
    let at = (matched-reached count guests is).slots slot in
    ap (find (holds place)) (at.reached row) ∙ leads place some row (guests.spaces slot).windows at.order

pub accesses-held : AccessesAreHeldByRange
accesses-held count guests is slot place some born =
    let at = (matched-reached count guests is).slots slot in
    held-by-range place some (guests.spaces slot).windows (birth_in guests.dir slot) born at.births
