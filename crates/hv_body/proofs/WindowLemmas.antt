-- Windows of which no two hold one access, in the order of their addresses.
use Rattle.std.proofs.Common.{◌≡◌, ℕ, zero, suc, ◌+◌, ◌<◌, ◌≤◌, List, [], ◌∷◌, ◌++◌, length, get_or, Bool, true, false, not, ◌&&◌, ◌||◌, take, take_all, slice_get, ◌==◌, nat_lt, nat_le, cond, refl, sym, ap, subst, ◌∙◌, inl, inr, arith, Option, Some, None, tests}
use Rattle.std.specs.Prelude.{if◌then◌else◌, Result, Ok, Err}
use Rattle.std.specs.List.{All, AllPairs, Contains, find, list_any}
use Rattle.std.proofs.lemmas.Bool.Decides.{nat_tests}
use Rattle.std.proofs.lemmas.List.Elements.{All-cons, All-head, All-tail, All-contains, Contains-append_right}
use Rattle.std.proofs.lemmas.List.{take_more}
use Rattle.std.proofs.lemmas.Option.{slice_get_within, get_or_from_slice_get, slice_get_cases}
use Rattle.hv_kinds.specs.declared.address.AddressType.{AddressType}
use Rattle.hv_kinds.specs.declared.address.AddressType.TheVariants.{Memory, Io}
use Rattle.hv_region.specs.Addresses.{end_of, guest_address}
use Rattle.hv_region.specs.Windows.{Adds, AreWindows, Holds, IsBefore, IsPutInto, IsWindow, Meets, start_of}
use Rattle.hv_region.specs.declared.window.Window.{Window}
use Rattle.hv_region.specs.declared.window.RegionRefusal.{RegionRefusal}
use Rattle.hv_region.specs.declared.window.RegionRefusal.TheVariants.{Overlap, OutOfRange, AliasTarget}
use Rattle.hv_body.specs.Windows.{is_type, holds, meets, lies_apart, lies_within, put_in_order}
use Rattle.hv_body.specs.declared.place.Place.{Place}

is_type_same : (k : AddressType) → is_type k k ≡ true
is_type_same Memory = refl
is_type_same Io = refl

type_is : (k l : AddressType) → is_type k l ≡ true → k ≡ l
type_is Memory Memory e = refl
type_is Memory Io e = cc
type_is Io Memory e = cc
type_is Io Io e = refl

and_left : (a b : Bool) → (a && b) ≡ true → a ≡ true
and_left true b e = refl
and_left false b e = cc

and_right : (a b : Bool) → (a && b) ≡ true → b ≡ true
and_right true b e = e
and_right false b e = cc

and_true : (a b : Bool) → a ≡ true → b ≡ true → (a && b) ≡ true
and_true true b e f = f
and_true false b e f = cc

eqb_is : (a b : ℕ) → (a == b) ≡ true → a ≡ b
eqb_is a b e = grind (arith, nat_tests)

pub eqb_true : (a b : ℕ) → a ≡ b → (a == b) ≡ true
eqb_true a b e = grind (arith, nat_tests)

pub eqb_false : (a b : ℕ) → (a ≡ b → ⊥) → (a == b) ≡ false
eqb_false a b e = grind (arith, nat_tests)

le_is : (a b : ℕ) → nat_le a b ≡ true → a ≤ b
le_is a b e = grind (arith, nat_tests)

le_true : (a b : ℕ) → a ≤ b → nat_le a b ≡ true
le_true a b e = grind (arith, nat_tests)

lt_is : (a b : ℕ) → nat_lt a b ≡ true → a < b
lt_is a b e = grind (arith, nat_tests)

lt_true : (a b : ℕ) → a < b → nat_lt a b ≡ true
lt_true a b e = grind (arith, nat_tests)

lt_false : (a b : ℕ) → b ≤ a → nat_lt a b ≡ false
lt_false a b e = grind (arith, nat_tests)

or_left : (a b : Bool) → (a || b) ≡ false → a ≡ false
or_left true b e = cc
or_left false b e = refl

or_right : (a b : Bool) → (a || b) ≡ false → b ≡ false
or_right true b e = cc
or_right false b e = e

or_none : (a b : Bool) → a ≡ false → b ≡ false → (a || b) ≡ false
or_none true b e f = cc
or_none false b e f = f

is_false : (b : Bool) → (b ≡ true → ⊥) → b ≡ false
is_false true wrong = absurd (wrong refl)
is_false false wrong = refl

-- the test of an access says that the window holds it
holds_is : (place : Place) (window : Window) → 1 ≤ place.size → holds place window ≡ true → Holds window place.kind place.addr place.size
holds_is place window some e =
    let to = and_right _ (nat_le (place.addr + place.size) (window.base + window.size)) e in
    let front = and_left _ (nat_le (place.addr + place.size) (window.base + window.size)) e in
    let from = and_right _ (nat_le window.base place.addr) front in
    let both = and_left _ (nat_le window.base place.addr) front in
    record {
      some = some;
      type = type_is window.kind place.kind (and_right (window.birth == place.birth) (is_type window.kind place.kind) both);
      from = le_is window.base place.addr from;
      to = le_is (place.addr + place.size) (window.base + window.size) to;
    }

birth_is : (place : Place) (window : Window) → holds place window ≡ true → window.birth ≡ place.birth
birth_is place window e =
    eqb_is window.birth place.birth
    (and_left (window.birth == place.birth) (is_type window.kind place.kind)
    (and_left _ (nat_le window.base place.addr) (and_left _ (nat_le (place.addr + place.size) (window.base + window.size)) e)))

holds_true : (place : Place) (window : Window) → window.birth ≡ place.birth → Holds window place.kind place.addr place.size → holds place window ≡ true
holds_true place window birth it =
    and_true _ _
    (and_true _ _
    (and_true _ _ (eqb_true window.birth place.birth birth)
    (subst (λ (k : AddressType). is_type window.kind k ≡ true) it.type (is_type_same window.kind)))
    (le_true window.base place.addr it.from))
    (le_true (place.addr + place.size) (window.base + window.size) it.to)

apart : (k : AddressType) (b s c a n : ℕ) → guest_address k b + s ≤ guest_address k c → 1 ≤ n → a + n ≤ b + s → c ≤ a → ⊥
apart Memory b s c a n before some to from = omega arith
apart Io b s c a n before some to from = omega arith

-- of two windows of which one ends before the other, not both hold an access
not_both : (one other : Window) (k : AddressType) (a n : ℕ) → IsBefore one other → Holds one k a n → Holds other k a n → ⊥
not_both one other k a n before first second =
    apart k one.base one.size other.base a n
    (subst (λ (l : AddressType). guest_address l one.base + one.size ≤ guest_address k other.base) first.type
    (subst (λ (l : AddressType). guest_address one.kind one.base + one.size ≤ guest_address l other.base) second.type before))
    first.some first.to second.from

pairs_head : (x : Window) (xs : List Window) → AllPairs IsBefore (x ∷ xs) → All (IsBefore x) xs
pairs_head x xs pairs = λ k d lt. pairs 0 (suc k) d (omega arith) (omega arith)

pairs_tail : (x : Window) (xs : List Window) → AllPairs IsBefore (x ∷ xs) → AllPairs IsBefore xs
pairs_tail x xs pairs = λ i j d lt in'. pairs (suc i) (suc j) d (omega arith) (omega arith)

find_none : (p : Window → Bool) (xs : List Window) → All (λ x. p x ≡ false) xs → find p xs ≡ None
find_none p [] none = refl
find_none p (x ∷ xs) none =
    ap (λ (b : Bool). cond b (Some x) (find p xs)) (All-head (λ x. p x ≡ false) x xs none) ∙ find_none p xs (All-tail (λ x. p x ≡ false) x xs none)

-- the one window that holds an access, or that the access is of another generation
abbrev pub OnlyIfBorn : Place → Window → Option Window → Type 0
OnlyIfBorn place window found =
    (window.birth ≡ place.birth → found ≡ Some window) × ((window.birth ≡ place.birth → ⊥) → found ≡ None)

found_first : (place : Place) (window : Window) (xs : List Window) → 1 ≤ place.size → AllPairs IsBefore (window ∷ xs) → Holds window place.kind place.addr place.size
    → OnlyIfBorn place window (find (holds place) (window ∷ xs))
found_first place window xs some pairs it =
    let others : find (holds place) xs ≡ None =
    find_none (holds place) xs
    (λ k d lt. is_false (holds place (get_or xs k d))
    (λ e. not_both window (get_or xs k d) place.kind place.addr place.size (pairs_head window xs pairs k d lt) it (holds_is place (get_or xs k d) some e))) in (
      λ born. ap (λ (b : Bool). cond b (Some window) (find (holds place) xs)) (holds_true place window born it),
      λ other. ap (λ (b : Bool). cond b (Some window) (find (holds place) xs)) (is_false (holds place window) (λ e. other (birth_is place window e))) ∙ others,
    )

found_later : (place : Place) (window x : Window) (xs : List Window) → holds place x ≡ false → OnlyIfBorn place window (find (holds place) xs) → OnlyIfBorn place window (find (holds place) (x ∷ xs))
found_later place window x xs passed found = (
  λ born. ap (λ (b : Bool). cond b (Some x) (find (holds place) xs)) passed ∙ found.0 born,
  λ other. ap (λ (b : Bool). cond b (Some x) (find (holds place) xs)) passed ∙ found.1 other,
)

found_at : (place : Place) (window : Window) (xs : List Window) (k : ℕ) → 1 ≤ place.size → AllPairs IsBefore xs → k < length xs → get_or xs k window ≡ window → Holds window place.kind place.addr place.size
    → OnlyIfBorn place window (find (holds place) xs)
found_at place window [] k some pairs lt is it = absurd (omega arith)
found_at place window (x ∷ xs) zero some pairs lt is it =
    subst (λ (w : Window). OnlyIfBorn place window (find (holds place) (w ∷ xs))) (sym is)
    (found_first place window xs some (subst (λ (w : Window). AllPairs IsBefore (w ∷ xs)) is pairs) it)
found_at place window (x ∷ xs) (suc k) some pairs lt is it =
    let within : k < length xs = omega arith in
    let before : IsBefore x window = subst (IsBefore x) is (pairs_head x xs pairs k window within) in
    found_later place window x xs
    (is_false (holds place x) (λ e. not_both x window place.kind place.addr place.size before (holds_is place x some e) it))
    (found_at place window xs k some (pairs_tail x xs pairs) within is it)

-- a window of the list that holds an access is the first that does, if it is of its generation, and else none does
pub only : (place : Place) (windows : List Window) (window : Window) → 1 ≤ place.size → AreWindows windows → Contains windows window → Holds window place.kind place.addr place.size
    → OnlyIfBorn place window (find (holds place) windows)
only place windows window some are there it = found_at place window windows there.0 some are.order there.1 there.2 it

-- where no window holds an access, none is found
pub nothing : (place : Place) (windows : List Window) → 1 ≤ place.size → All (λ window. Holds window place.kind place.addr place.size → ⊥) windows → find (holds place) windows ≡ None
nothing place windows some none =
    find_none (holds place) windows (λ k d lt. is_false (holds place (get_or windows k d)) (λ e. none k d lt (holds_is place (get_or windows k d) some e)))

-- what is put among others in order

any_false : (p : Window → Bool) (xs : List Window) → All (λ x. p x ≡ false) xs → list_any p xs ≡ false
any_false p [] none = refl
any_false p (x ∷ xs) none = grind (arith, tests, All-head (λ x. p x ≡ false) x xs none, any_false p xs (All-tail (λ x. p x ≡ false) x xs none))

any_true : (p : Window → Bool) (xs : List Window) (k : ℕ) (d : Window) → k < length xs → p (get_or xs k d) ≡ true → list_any p xs ≡ true
any_true p [] k d lt e = absurd (omega arith)
any_true p (x ∷ xs) zero d lt e = grind (arith, tests, e)
any_true p (x ∷ xs) (suc k) d lt e = grind (arith, tests, any_true p xs k d (omega arith) e)

meets_is : (window there : Window) → meets window there ≡ true → Meets there window
meets_is window there e =
    let back = and_right _ (nat_lt window.base (there.base + there.size)) e in
    let front = and_left _ (nat_lt window.base (there.base + there.size)) e in
    record {
      type = type_is there.kind window.kind (and_left (is_type there.kind window.kind) (nat_lt there.base (window.base + window.size)) front);
      front = lt_is there.base (window.base + window.size) (and_right (is_type there.kind window.kind) (nat_lt there.base (window.base + window.size)) front);
      back = lt_is window.base (there.base + there.size) back;
    }

meets_true : (window there : Window) → Meets there window → meets window there ≡ true
meets_true window there it =
    and_true _ _
    (and_true _ _ (subst (λ (k : AddressType). is_type there.kind k ≡ true) it.type (is_type_same there.kind))
    (lt_true there.base (window.base + window.size) it.front))
    (lt_true window.base (there.base + there.size) it.back)

step_before : (x window : Window) (xs : List Window) → 1 ≤ x.size → IsBefore x window → put_in_order window (x ∷ xs) ≡ x ∷ put_in_order window xs
step_before x window xs some before =
    ap (λ (b : Bool). cond b (x ∷ put_in_order window xs) (window ∷ x ∷ xs)) (lt_true (start_of x) (start_of window) (omega arith))

step_behind : (x window : Window) (xs : List Window) → IsBefore window x → put_in_order window (x ∷ xs) ≡ window ∷ x ∷ xs
step_behind x window xs before =
    ap (λ (b : Bool). cond b (x ∷ put_in_order window xs) (window ∷ x ∷ xs)) (lt_false (start_of x) (start_of window) (omega arith))

in_order : (window : Window) (before behind : List Window) → All IsWindow (before ++ window ∷ behind) → AllPairs IsBefore (before ++ window ∷ behind)
    → put_in_order window (before ++ behind) ≡ before ++ window ∷ behind
in_order window [] [] each pairs = refl
in_order window [] (x ∷ xs) each pairs = step_behind x window xs (pairs_head window (x ∷ xs) pairs 0 x (omega arith))
in_order window (x ∷ xs) behind each pairs =
    let it : IsWindow x = All-head IsWindow x (xs ++ window ∷ behind) each in
    let there : IsBefore x window =
    All-contains (IsBefore x) (xs ++ window ∷ behind) window (pairs_head x (xs ++ window ∷ behind) pairs)
    (Contains-append_right xs (window ∷ behind) window (0, omega arith, refl)) in
    step_before x window (xs ++ behind) it.some there
    ∙ ap (λ (l : List Window). x ∷ l) (in_order window xs behind (All-tail IsWindow x (xs ++ window ∷ behind) each) (pairs_tail x (xs ++ window ∷ behind) pairs))

and_no_left : (a b : Bool) → a ≡ false → (a && b) ≡ false
and_no_left true b e = cc
and_no_left false b e = refl

and_no_right : (a b : Bool) → b ≡ false → (a && b) ≡ false
and_no_right true b e = e
and_no_right false b e = refl

chosen : (b : Bool) (put old new : List Window) → b ≡ true → new ≡ put → new ≡ cond b put old
chosen b put old new fits is = is ∙ sym (ap (λ (c : Bool). cond c put old) fits)

kept : (b : Bool) (put old new : List Window) → b ≡ false → new ≡ old → new ≡ cond b put old
kept b put old new fails is = is ∙ sym (ap (λ (c : Bool). cond c put old) fails)

put_is : (old new : List Window) (window : Window) (put : IsPutInto old window new) → AreWindows new → new ≡ put_in_order window old
put_is old new window put are =
    put.is
    ∙ (sym (in_order window put.before put.behind (subst (All IsWindow) put.is are.each) (subst (AllPairs IsBefore) put.is are.order))
    ∙ ap (put_in_order window) (sym put.was))

-- what an addition leaves: a window that lies apart is put in order, and else all is as it was
pub added : (old new : List Window) (window : Window) (answer : Result (Unit {0}) RegionRefusal) → Adds old window answer new → AreWindows new
    → new ≡ (if lies_apart old window then put_in_order window old else old)
added old new window (Ok unit) adds are =
    let none : list_any (meets window) old ≡ false =
    any_false (meets window) old (λ k d lt. is_false (meets window (get_or old k d)) (λ e. adds.1 k d lt (meets_is window (get_or old k d) e))) in
    chosen (lies_apart old window) (put_in_order window old) old new
    (and_true _ _ (le_true (window.base + window.size) (end_of window.kind) adds.0) (ap not none))
    (put_is old new window adds.2 are)
added old new window (Err OutOfRange) adds are =
    let past : nat_le (window.base + window.size) (end_of window.kind) ≡ false =
    is_false (nat_le (window.base + window.size) (end_of window.kind)) (λ e. let le = le_is (window.base + window.size) (end_of window.kind) e in let lt = adds.0 in omega arith) in
    kept (lies_apart old window) (put_in_order window old) old new (and_no_left _ (not (list_any (meets window) old)) past) adds.1
added old new window (Err (Overlap owner)) adds are =
    let met = adds.1 in
    let some : list_any (meets window) old ≡ true =
    any_true (meets window) old met.there.0 met.met met.there.1
    (subst (λ (w : Window). meets window w ≡ true) (sym met.there.2) (meets_true window met.met met.meets)) in
    kept (lies_apart old window) (put_in_order window old) old new
    (and_no_right (nat_le (window.base + window.size) (end_of window.kind)) (not (list_any (meets window) old)) (ap not some)) adds.2
added old new window (Err AliasTarget) adds are = absurd adds

-- a search among the windows, one by one

any_push : (p : Window → Bool) (xs : List Window) (y : Window) → list_any p xs ≡ false → p y ≡ false → list_any p (xs ++ y ∷ []) ≡ false
any_push p [] y none fails = grind (arith, tests, fails)
any_push p (x ∷ xs) y none fails =
    let first : p x ≡ false = or_left (p x) (list_any p xs) none in
    or_none (p x) (list_any p (xs ++ y ∷ [])) first (any_push p xs y (or_right (p x) (list_any p xs) none) fails)

-- one more window that isn't it
pub any_more : (p : Window → Bool) (xs : List Window) (i : ℕ) (x : Window) → slice_get xs i ≡ Some x → list_any p (take i xs) ≡ false → p x ≡ false → list_any p (take (i + 1) xs) ≡ false
any_more p xs i x is none fails =
    let within : i < length xs = slice_get_within xs i x is in
    let there : get_or xs i x ≡ x = get_or_from_slice_get xs i x x is in
    subst (λ (l : List Window). list_any p l ≡ false)
    (sym (take_more xs i x within ∙ ap (λ (w : Window). take i xs ++ w ∷ []) there))
    (any_push p (take i xs) x none fails)

-- the window at an index is it
pub any_at : (p : Window → Bool) (xs : List Window) (i : ℕ) (x : Window) → slice_get xs i ≡ Some x → p x ≡ true → list_any p xs ≡ true
any_at p xs i x is passes =
    any_true p xs i x (slice_get_within xs i x is) (subst (λ (w : Window). p w ≡ true) (sym (get_or_from_slice_get xs i x x is)) passes)

-- behind the last window none is left
pub any_end : (p : Window → Bool) (xs : List Window) (i : ℕ) → slice_get xs i ≡ None → list_any p (take i xs) ≡ false → list_any p xs ≡ false
any_end p xs i is none =
    let past : length xs ≤ i = elim ((slice_get_cases xs i).1) [ inl found ↦ absurd (cc (found.2, is)) | inr past ↦ past.0 ] in
    subst (λ (l : List Window). list_any p l ≡ false) (take_all i xs past) none

all_either : (P : Window → Type 0) (b : Bool) (xs ys : List Window) → All P xs → All P ys → All P (cond b xs ys)
all_either P true xs ys first second = first
all_either P false xs ys first second = second

all_in_order : (P : Window → Type 0) (window : Window) (xs : List Window) → P window → All P xs → All P (put_in_order window xs)
all_in_order P window [] here all = All-cons P window [] here all
all_in_order P window (x ∷ xs) here all =
    all_either P (nat_lt (start_of x) (start_of window)) (x ∷ put_in_order window xs) (window ∷ x ∷ xs)
    (All-cons P x (put_in_order window xs) (All-head P x xs all) (all_in_order P window xs here (All-tail P x xs all)))
    (All-cons P window (x ∷ xs) here all)

-- what holds of a window and of those that were there holds of those that are there then
pub all_put : (P : Window → Type 0) (b : Bool) (old new : List Window) (window : Window) → new ≡ cond b (put_in_order window old) old → P window → All P old → All P new
all_put P b old new window is here all =
    subst (All P) (sym is) (all_either P b (put_in_order window old) old (all_in_order P window old here all) all)

-- a window that lies within a region shows nothing behind it
pub shows_within : (size : ℕ) (window : Window) → lies_within size window ≡ true → window.offset + window.size ≤ size
shows_within size window e = le_is (window.offset + window.size) size (and_right (nat_le 1 window.size) (nat_le (window.offset + window.size) size) e)
