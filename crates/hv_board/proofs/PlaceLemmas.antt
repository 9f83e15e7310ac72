-- Where components stand.
use Rattle.std.proofs.Common.{◌≡◌, ◌<◌, ◌≤◌, ◌+◌, ℕ, List, [], ◌∷◌, length, map, ap, refl, arith}
use Rattle.std.specs.List.{AllByRecursion}
use Rattle.std.specs.Prelude.{All}
use Rattle.std.proofs.lemmas.List.{length-map}
use Rattle.hv_machine.proofs.Lists.{all-map}
use Rattle.hv_event.specs.declared.event.CellId.{CellId}
use Rattle.hv_event.specs.declared.event.CellId.TheVariants as component
use Rattle.hv_board.proofs.HeldLemmas.{all-at}
use Rattle.hv_board.specs.Board.{AreInOrder}
use Rattle.hv_board.specs.Held.{IsRising}
use Rattle.hv_board.specs.Places.{HasPlace, count_of, place_of}
use Rattle.hv_board.specs.declared.layout.Layout.{Layout}

-- A component's place is one of the board's.
pub place-within : (layout : Layout) (x : CellId) → HasPlace layout x → place_of layout x < count_of layout
place-within layout component.Dir has = omega arith
place-within layout component.Shelf has = omega arith
place-within layout component.Files has = omega arith
place-within layout (component.Space slot) has = omega arith
place-within layout (component.Queue hart) has = omega arith
place-within layout (component.Vcpu vcpu) has = omega arith
place-within layout (component.Body slot row) has = omega (arith, has.0, has.1)
place-within layout (component.Area area) has = omega arith

-- Two components have two places.
pub place-only : (layout : Layout) (x y : CellId) → HasPlace layout x → HasPlace layout y → place_of layout x ≡ place_of layout y → x ≡ y
place-only layout component.Dir component.Dir has with same = refl
place-only layout component.Shelf component.Shelf has with same = refl
place-only layout component.Files component.Files has with same = refl
place-only layout (component.Space g) (component.Space h) has with same = let number : g ≡ h = omega arith in ap component.Space number
place-only layout (component.Queue g) (component.Queue h) has with same = let number : g ≡ h = omega arith in ap component.Queue number
place-only layout (component.Vcpu g) (component.Vcpu h) has with same = let number : g ≡ h = omega arith in ap component.Vcpu number
place-only layout (component.Body g i) (component.Body h j) has with same =
    let slot : g ≡ h = omega (arith, has.1, with.1) in
    let row : i ≡ j = omega (arith, has.1, with.1) in
    λ k. component.Body (slot k) (row k)
place-only layout (component.Area g) (component.Area h) has with same = let number : g ≡ h = omega arith in ap component.Area number
place-only layout x y has with same = absurd (omega arith)

-- Numbers that rise from one on to below another are at most as many as lie between.
rising-count : (ks : List ℕ) (m n : ℕ) → IsRising ks → AllByRecursion (λ k. m ≤ k) ks → AllByRecursion (λ k. k < n) ks → m ≤ n → length ks + m ≤ n
rising-count [] m n r above below h = omega arith
rising-count (k ∷ ks) m n r above below h =
    let first : m ≤ k = above.0 in
    let last : k < n = below.0 in
    let rest : length ks + (k + 1) ≤ n = rising-count ks (k + 1) n r.1 (all-map (λ q. k < q) (λ q. k + 1 ≤ q) (λ q h. omega arith) ks r.0) below.1 (omega arith) in
    omega arith

within : (layout : Layout) (xs : List CellId) → AllByRecursion (HasPlace layout) xs → AllByRecursion (λ k. k < count_of layout) (map (place_of layout) xs)
within layout [] all = tt
within layout (x ∷ xs) all = (place-within layout x all.0, within layout xs all.1)

-- Components in the order of locks are at most as many as the board has.
pub few-in-order : (layout : Layout) (xs : List CellId) → AreInOrder layout xs → length xs ≤ count_of layout
few-in-order layout xs order =
    let ks = map (place_of layout) xs in
    let below = within layout xs order.have in
    let counted : length ks + 0 ≤ count_of layout = rising-count ks 0 (count_of layout) order.rising (all-map (λ k. k < count_of layout) (λ k. 0 ≤ k) (λ k h. omega arith) ks below) below (omega arith) in
    omega (arith, length-map xs (place_of layout))

-- The places of components in order are the board's.
pub places-within : (layout : Layout) (xs : List CellId) → AreInOrder layout xs → All (λ k. k < count_of layout) (map (place_of layout) xs)
places-within layout xs order k d low = all-at (λ k. k < count_of layout) (map (place_of layout) xs) k d (within layout xs order.have) low
