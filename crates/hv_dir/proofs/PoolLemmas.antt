-- What a search among parts finds among the devices that they are.
use Rattle.std.proofs.Common.{◌≡◌, ℕ, suc, ◌+◌, ◌<◌, Bool, not, cond, List, [], ◌∷◌, ◌++◌, map, take, drop, length, sym, refl, ap, ◌∙◌, arith, Option, Some, None, position, nat_lt, slice_get, get_or, drop-cons}
use Rattle.std.specs.List.{prefix_len, remove}
use Rattle.std.specs.Option.{option_and_then, option_map, option_or}
use Rattle.std.proofs.lemmas.List.{take-map, drop-map, length-map}
use mathlib.Core.List.{map-append}
use Rattle.std.proofs.lemmas.Option.{slice_get-map, slice_get-get_or}
use Rattle.hv_emu.specs.Device.{DevState, has_name}
use Rattle.hv_dir.specs.Pool.{place_of, taken_at, taken}
use Rattle.hv_dir.proofs.Places.{position_within}

module _ {A B : Type 0} (f : A → B) where
  prefix_len-map : (p : B → Bool) (xs : List A) → prefix_len (λ x. p (f x)) xs ≡ prefix_len p (map f xs)
  prefix_len-map p [] = refl
  prefix_len-map p (x ∷ xs) = ap (λ (n : ℕ). cond (p (f x)) (1 + n) 0) (prefix_len-map p xs)

  -- the first part whose device passes stands where the first such device does
  pub position-map : (p : B → Bool) (xs : List A) → position (λ x. p (f x)) xs ≡ position p (map f xs)
  position-map p xs = λ i. cond (nat_lt (prefix_len-map (λ x. not (p x)) xs i) (sym (length-map xs f) i)) (Some (prefix_len-map (λ x. not (p x)) xs i)) None

  -- a part is removed with its device
  pub remove-map : (xs : List A) (k : ℕ) → map f (remove xs k) ≡ remove (map f xs) k
  remove-map xs k = map-append f (take k xs) (drop (suc k) xs) ∙ (λ i. sym (take-map f k xs) i ++ sym (drop-map f (suc k) xs) i)

no_some : {A X : Type 0} (x : A) → None ≡ Some x → X
no_some x e = cc

within_either : (first next : Option ℕ) (n k : ℕ) → ((j : ℕ) → first ≡ Some j → j < n) → ((j : ℕ) → next ≡ Some j → j < n) → option_or first next ≡ Some k → k < n
within_either None next n k a b e = b k e
within_either (Some j) next n k a b e = a k e

-- the place of a device is one of the pool
pub place_within : (devices : List DevState) (names : List (List ℕ)) (k : ℕ) → place_of devices names ≡ Some k → k < length devices
place_within devices [] k e = no_some k e
place_within devices (n ∷ ns) k e = within_either (position (λ d. has_name d n) devices) (place_of devices ns) (length devices) k (λ j h. position_within (λ d. has_name d n) devices j h) (λ j h. place_within devices ns j h) e

-- a name that no device has is passed over
pub place_step : (devices : List DevState) (names : List (List ℕ)) (i : ℕ) (name : List ℕ) → i < length names → name ≡ get_or names i name → position (λ d. has_name d name) devices ≡ None
    → place_of devices (drop i names) ≡ place_of devices (drop (i + 1) names)
place_step devices names i name inside is none =
    ap (place_of devices) (drop-cons names i name inside)
    ∙ (ap (λ y. option_or (position (λ d. has_name d y) devices) (place_of devices (drop (suc i) names))) (sym is)
    ∙ (ap (λ o. option_or o (place_of devices (drop (suc i) names))) none ∙ (let e : suc i ≡ i + 1 = omega arith in ap (λ (n : ℕ). place_of devices (drop n names)) e)))

device_at : {A : Type 0} (f : A → DevState) (parts : List A) (devices : List DevState) (k : ℕ) (part : A) → map f parts ≡ devices → k < length devices → part ≡ get_or parts k part → slice_get devices k ≡ Some (f part)
device_at f parts devices k part same within is =
    let inside : k < length parts = let l = length-map parts f in let m : length (map f parts) ≡ length devices = ap length same in omega arith in
    ap (λ l. slice_get l k) (sym same) ∙ (slice_get-map f parts k ∙ (ap (option_map f) (slice_get-get_or parts k part inside) ∙ ap (λ y. Some (f y)) (sym is)))

-- the part that is removed at the place of a taking is the device that is taken
pub taken_is : {A : Type 0} (f : A → DevState) (parts left : List A) (devices : List DevState) (names : List (List ℕ)) (k : ℕ) (part : A) → map f parts ≡ devices → place_of devices names ≡ Some k
    → part ≡ get_or parts k part → left ≡ remove parts k → taken devices names ≡ Some (f part, map f left)
taken_is f parts left devices names k part same place is removed =
    ap (option_and_then (taken_at devices)) place
    ∙ (ap (option_map (λ device. (device, remove devices k))) (device_at f parts devices k part same (place_within devices names k place) is)
    ∙ ap (λ (rest : List DevState). Some (f part, rest)) (ap (λ l. remove l k) (sym same) ∙ (sym (remove-map f parts k) ∙ ap (map f) (sym removed))))

-- nothing is taken where no device has one of the names
pub nothing_taken : (devices : List DevState) (names : List (List ℕ)) → place_of devices names ≡ None → taken devices names ≡ None
nothing_taken devices names place = ap (option_and_then (taken_at devices)) place
