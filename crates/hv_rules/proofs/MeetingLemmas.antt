-- The window that an addition meets, or where it is put, is the one that the rules name.
use Rattle.std.proofs.Common.{◌≡◌, ℕ, zero, suc, ◌+◌, ◌<◌, ◌≤◌, List, [], ◌∷◌, length, get_or, Bool, true, false, not, ◌||◌, nat_lt, cond, refl, sym, ap, subst, ◌∙◌, arith, Option, Some, None}
use Rattle.std.specs.Prelude.{min, filter, Ok, Err}
use Rattle.std.specs.List.{All, list_any}
use Rattle.std.proofs.lemmas.List.Elements.{All-head, All-tail}
use Rattle.hv_kinds.specs.declared.address.AddressType.{AddressType}
use Rattle.hv_region.specs.Addresses.{end_of}
use Rattle.hv_region.specs.Windows.{Adds, AreWindows, IsLeastMet, Meets}
use Rattle.hv_region.specs.declared.window.Window.{Window}
use Rattle.hv_region.specs.declared.window.RegionRefusal.TheVariants.{Overlap}
use Rattle.hv_body.specs.Windows.{is_type, meets, lies_apart, put_in_order}
use Rattle.hv_body.proofs.WindowLemmas.{added}
use Rattle.hv_rules.specs.Space.{least_row, lesser}
use Rattle.hv_rules.proofs.WindowLemmas.{type_same, type_is, and_left, and_right, and_true, le_true, lt_is, lt_true, is_false}

-- the test of meeting says that windows meet

meets_is : (window there : Window) → meets window there ≡ true → Meets there window
meets_is window there e =
    let back = and_right _ (nat_lt window.base (there.base + there.size)) e in
    let front = and_left _ (nat_lt window.base (there.base + there.size)) e in
    record {
      type = type_is there.kind window.kind (and_left (is_type there.kind window.kind) (nat_lt there.base (window.base + window.size)) front);
      front = lt_is there.base (window.base + window.size) (and_right (is_type there.kind window.kind) (nat_lt there.base (window.base + window.size)) front);
      back = lt_is window.base (there.base + there.size) back;
    }

meets_true : (window there : Window) → Meets there window → meets window there ≡ true
meets_true window there it =
    and_true _ _
    (and_true _ _ (subst (λ (k : AddressType). is_type there.kind k ≡ true) it.type (type_same there.kind))
    (lt_true there.base (window.base + window.size) it.front))
    (lt_true window.base (there.base + there.size) it.back)

-- where none passes, none is left

filter_none : (p : Window → Bool) (ws : List Window) → All (λ w. p w ≡ false) ws → filter p ws ≡ []
filter_none p [] none = refl
filter_none p (w ∷ ws) none =
    ap (λ (b : Bool). cond b (w ∷ filter p ws) (filter p ws)) (All-head (λ x. p x ≡ false) w ws none)
    ∙ filter_none p ws (All-tail (λ x. p x ≡ false) w ws none)

any_none : (p : Window → Bool) (ws : List Window) → All (λ w. p w ≡ false) ws → list_any p ws ≡ false
any_none p [] none = refl
any_none p (w ∷ ws) none =
    or_none (p w) (list_any p ws) (All-head (λ x. p x ≡ false) w ws none) (any_none p ws (All-tail (λ x. p x ≡ false) w ws none))
  where
    or_none : (a b : Bool) → a ≡ false → b ≡ false → (a || b) ≡ false
    or_none true b e f = cc
    or_none false b e f = f

-- the least row

min_left : (o m : ℕ) → o ≤ m → min o m ≡ o
min_left o m le = omega arith

min_right : (o m : ℕ) → o ≤ m → min m o ≡ o
min_right o m le = omega arith

lesser_low : (o m : ℕ) (r : Option ℕ) → o ≤ m → lesser o r ≡ o → min o (lesser m r) ≡ o
lesser_low o m None le e = min_left o m le
lesser_low o m (Some k) le e = omega arith

floor_step : (p : Window → Bool) (o : ℕ) (w : Window) (ws : List Window) (b : Bool) → (b ≡ true → o ≤ w.owner)
    → lesser o (least_row (filter p ws)) ≡ o → lesser o (least_row (cond b (w ∷ filter p ws) (filter p ws))) ≡ o
floor_step p o w ws true low rest = lesser_low o w.owner (least_row (filter p ws)) (low refl) rest
floor_step p o w ws false low rest = rest

floor : (p : Window → Bool) (o : ℕ) (ws : List Window) → All (λ w. p w ≡ true → o ≤ w.owner) ws → lesser o (least_row (filter p ws)) ≡ o
floor p o [] low = refl
floor p o (w ∷ ws) low =
    floor_step p o w ws (p w) (All-head (λ x. p x ≡ true → o ≤ x.owner) w ws low)
    (floor p o ws (All-tail (λ x. p x ≡ true → o ≤ x.owner) w ws low))

least_step : (p : Window → Bool) (o : ℕ) (w : Window) (ws : List Window) (b : Bool) → (b ≡ true → o ≤ w.owner)
    → least_row (filter p ws) ≡ Some o → least_row (cond b (w ∷ filter p ws) (filter p ws)) ≡ Some o
least_step p o w ws true low rest = ap (λ (r : Option ℕ). Some (lesser w.owner r)) rest ∙ ap Some (min_right o w.owner (low refl))
least_step p o w ws false low rest = rest

least_at : (p : Window → Bool) (ws : List Window) (w : Window) (k : ℕ) → k < length ws → get_or ws k w ≡ w → p w ≡ true
    → All (λ x. p x ≡ true → w.owner ≤ x.owner) ws → least_row (filter p ws) ≡ Some w.owner
least_at p [] w k lt is passes low = absurd (omega arith)
least_at p (x ∷ ws) w zero lt is passes low =
    subst (λ (y : Window). least_row (filter p (y ∷ ws)) ≡ Some w.owner) (sym is)
    (ap (λ (b : Bool). least_row (cond b (w ∷ filter p ws) (filter p ws))) passes
    ∙ ap Some (floor p w.owner ws (All-tail (λ y. p y ≡ true → w.owner ≤ y.owner) x ws low)))
least_at p (x ∷ ws) w (suc k) lt is passes low =
    least_step p w.owner x ws (p x) (All-head (λ y. p y ≡ true → w.owner ≤ y.owner) x ws low)
    (least_at p ws w k (omega arith) is passes (All-tail (λ y. p y ≡ true → w.owner ≤ y.owner) x ws low))

least_met : (ws : List Window) (window : Window) (owner : ℕ) → IsLeastMet ws window owner → least_row (filter (meets window) ws) ≡ Some owner
least_met ws window owner it =
    least_at (meets window) ws it.met it.there.0 it.there.1 it.there.2 (meets_true window it.met it.meets)
    (λ k d lt e. subst (λ (n : ℕ). n ≤ (get_or ws k d).owner) (sym it.is) (it.least k d lt (meets_is window (get_or ws k d) e)))
    ∙ ap Some it.is

-- what an addition gives

none_met : (ws : List Window) (window : Window) → All (λ there. Meets there window → ⊥) ws → All (λ there. meets window there ≡ false) ws
none_met ws window none = λ k d lt. is_false (meets window (get_or ws k d)) (λ e. none k d lt (meets_is window (get_or ws k d) e))

pub put_is : (old new : List Window) (window : Window) → AreWindows new → Adds old window (Ok tt) new
    → (least_row (filter (meets window) old) ≡ None) × (new ≡ put_in_order window old)
put_is old new window are adds =
    let none = none_met old window adds.1 in
    let apart : lies_apart old window ≡ true =
    and_true _ _ (le_true (window.base + window.size) (end_of window.kind) adds.0) (ap not (any_none (meets window) old none)) in (
      ap least_row (filter_none (meets window) old none),
      added old new window (Ok tt) adds are ∙ ap (λ (b : Bool). cond b (put_in_order window old) old) apart,
    )

pub met_is : (old new : List Window) (window : Window) (owner : ℕ) → Adds old window (Err (Overlap owner)) new
    → least_row (filter (meets window) old) ≡ Some owner
met_is old new window owner adds = least_met old window owner adds.1
