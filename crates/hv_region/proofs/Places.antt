-- Windows in their order.
use Rattle.std.proofs.Common.{◌≡◌, ◌≢◌, ℕ, ◌+◌, ◌<◌, ◌≤◌, List, ◌∷◌, ◌++◌, length, get_or, take, drop, Bool, refl, sym, subst, ◌∙◌, inl, inr, arith, take-append-drop, length-drop, get_or-drop}
use Rattle.std.specs.List.{All, AllPairs, filter, insert}
use Rattle.std.proofs.lemmas.Bool.{cases_lt}
use Rattle.std.proofs.lemmas.List.Elements.{All-cons, All-take, All-drop, All-weaker, All-filter}
use Rattle.std.proofs.lemmas.List.Kept.{AllPairs-cons, AllPairs-filter}
use Rattle.hv_kinds.specs.declared.address.AddressType.{AddressType}
use Rattle.hv_kinds.specs.declared.address.AddressType.TheVariants.{Memory, Io}
use Rattle.hv_region.specs.Addresses.{end_of, guest_address}
use Rattle.hv_region.specs.Windows.{IsWindow, IsBefore, IsInRange, AreWindows, HasNone, Meets, IsPlaceFor, IsPutInto, start_of}
use Rattle.hv_region.specs.declared.window.Window.{Window}
use Rattle.hv_region.proofs.Lists.{all_put, pairs_put, few, same_item}

-- of two ranges without a common address, the one that doesn't begin later ends before the other begins
apart_in_order : (k l : AddressType) (b s c t : ℕ) → b + s ≤ end_of k → c + t ≤ end_of l → 1 ≤ s → 1 ≤ t → (k ≡ l → b < c + t → c < b + s → ⊥)
    → guest_address k b ≤ guest_address l c → guest_address k b + s ≤ guest_address l c
apart_in_order Memory Memory b s c t one other some more apart first =
    elim (cases_lt c (b + s)) [ inl meet ↦ absurd (apart refl (omega arith) meet) | inr end ↦ end ]
apart_in_order Memory Io b s c t one other some more apart first = omega arith
apart_in_order Io Memory b s c t one other some more apart first = absurd (omega arith)
apart_in_order Io Io b s c t one other some more apart first =
    elim (cases_lt c (b + s)) [ inl meet ↦ absurd (apart refl (omega arith) meet) | inr end ↦ omega arith ]

ends_before : (there window : Window) → IsInRange window → 1 ≤ window.size → IsWindow there → (Meets there window → ⊥) → start_of there < start_of window → IsBefore there window
ends_before there window range some is apart first =
    apart_in_order there.kind window.kind there.base there.size window.base window.size is.range range is.some some (λ type front back. apart (record { type = type; front = front; back = back })) (omega arith)

begins_behind : (there window : Window) → IsInRange window → 1 ≤ window.size → IsWindow there → (Meets there window → ⊥) → start_of window ≤ start_of there → IsBefore window there
begins_behind there window range some is apart first =
    apart_in_order window.kind there.kind window.base window.size there.base there.size range is.range some is.some (λ type front back. apart (record { type = sym type; front = back; back = front })) first

-- what holds of all items in two ways holds in both at once
all_both : {X : Type 0} (P Q R : X → Type 0) (xs : List X) → ((x : X) → P x → Q x → R x) → All P xs → All Q xs → All R xs
all_both P Q R xs both p q = λ k d lt. both _ (p k d lt) (q k d lt)

all_three : {X : Type 0} (P Q S R : X → Type 0) (xs : List X) → ((x : X) → P x → Q x → S x → R x) → All P xs → All Q xs → All S xs → All R xs
all_three P Q S R xs all p q s = λ k d lt. all _ (p k d lt) (q k d lt) (s k d lt)

-- a window that meets none stands well at its place
pub put_well : (old : List Window) (window : Window) (place : ℕ) → AreWindows old → IsInRange window → 1 ≤ window.size → window.owner < 16 → HasNone old window.owner → All (λ there. Meets there window → ⊥) old → IsPlaceFor old window place → AreWindows (insert old place window)
put_well old window place are range some small free apart at =
    let parts : take place old ++ drop place old ≡ old = take-append-drop place old in
    record {
      each = all_put IsWindow (take place old) (drop place old) window (subst (All IsWindow) (sym parts) are.each) (record { some = some; range = range; owner = small });
      owners =
          pairs_put (λ one other. one.owner ≢ other.owner) (take place old) (drop place old) window (subst (AllPairs (λ one other. one.owner ≢ other.owner)) (sym parts) are.owners)
          (All-take (λ there. there.owner ≢ window.owner) place old free)
          (All-weaker (λ there. there.owner ≢ window.owner) (λ there. window.owner ≢ there.owner) (λ there other same. other (sym same)) (drop place old) (All-drop (λ there. there.owner ≢ window.owner) place old free));
      order =
          pairs_put IsBefore (take place old) (drop place old) window (subst (AllPairs IsBefore) (sym parts) are.order)
          (all_three IsWindow (λ there. Meets there window → ⊥) (λ there. start_of there < start_of window) (λ there. IsBefore there window) (take place old) (λ there is none first. ends_before there window range some is none first)
          (All-take IsWindow place old are.each) (All-take (λ there. Meets there window → ⊥) place old apart) at.before)
          (all_three IsWindow (λ there. Meets there window → ⊥) (λ there. start_of window ≤ start_of there) (λ there. IsBefore window there) (drop place old) (λ there is none first. begins_behind there window range some is none first)
          (All-drop IsWindow place old are.each) (All-drop (λ there. Meets there window → ⊥) place old apart) at.behind);
    }

-- it stands among the others
pub put_into : (old : List Window) (window : Window) (place : ℕ) → IsPutInto old window (insert old place window)
put_into old window place = record { before = take place old; behind = drop place old; was = sym (take-append-drop place old); is = refl }

-- a region without a window leaves room for one more
pub room : (old : List Window) (owner : ℕ) (window : Window) → window.owner ≡ owner → owner < 16 → AreWindows old → HasNone old owner → length old < 16
room old owner window is small are free =
    let pairs = AllPairs-cons (λ (one : Window) (other : Window). one.owner ≢ other.owner) window old (λ k d lt same. free k d lt (sym same ∙ is)) are.owners in
    let below = All-cons (λ (there : Window). there.owner < 16) window old (omega arith) (λ k d lt. (are.each k d lt).owner) in
    few (λ (there : Window). there.owner) 16 (window ∷ old) pairs below

-- there are no more windows than regions
pub at_most_all : (windows : List Window) → AreWindows windows → length windows ≤ 16
at_most_all windows are = few (λ (there : Window). there.owner) 16 windows are.owners (λ k d lt. (are.each k d lt).owner)

-- some of the windows keep the rules
pub kept : (test : Window → Bool) (windows : List Window) → AreWindows windows → AreWindows (filter test windows)
kept test windows are = record {
  each = All-filter test IsWindow windows are.each;
  owners = AllPairs-filter (λ one other. one.owner ≢ other.owner) test windows are.owners;
  order = AllPairs-filter IsBefore test windows are.order;
}

-- behind a window that doesn't begin before this one, none does
pub all_behind : (windows : List Window) (window : Window) (place : ℕ) (first : Window) → AreWindows windows → place < length windows → start_of window ≤ start_of (get_or windows place first) → All (λ there. start_of window ≤ start_of there) (drop place windows)
all_behind windows window place first are within here = λ k d lt.
    let far : place + k < length windows = omega (arith, length-drop place windows) in
    let same : get_or (drop place windows) k d ≡ get_or windows (place + k) d = get_or-drop place windows k d in
    let first_is : get_or windows place first ≡ get_or windows place d = same_item windows place first d within in
    let least : start_of window ≤ start_of (get_or windows place d) = subst (λ (w : Window). start_of window ≤ start_of w) first_is here in
    let begins : start_of window ≤ start_of (get_or windows (place + k) d) =
    elim (cases_lt 0 k) [
      | inl more ↦ omega (arith, are.order place (place + k) d (omega arith) far)
      | inr none ↦
          let is : place + k ≡ place = omega arith in
          subst (λ (n : ℕ). start_of window ≤ start_of (get_or windows n d)) (sym is) least
    ] in
    subst (λ (w : Window). start_of window ≤ start_of w) (sym same) begins

-- a window to stand in for one that isn't there
abbrev pub nowhere : Window
nowhere = record { owner = 0; target = 0; birth = 0; kind = Memory; base = 0; size = 0; offset = 0 }
