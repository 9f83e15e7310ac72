-- The window that a search gives is the one that the rules name.
use Rattle.std.proofs.Common.{◌≡◌, ℕ, zero, suc, ◌+◌, ◌-◌, ◌^◌, ◌<◌, ◌≤◌, List, [], ◌∷◌, length, get_or, Bool, true, false, ◌&&◌, ◌==◌, nat_lt, nat_le, cond, refl, sym, ap, subst, ◌∙◌, arith, Option, Some, None}
use Rattle.std.specs.Prelude.{Result, Ok, Err}
use Rattle.std.specs.List.{All, AllPairs, find}
use Rattle.std.specs.Bool.{then_some}
use Rattle.std.specs.Result.{result_ok}
use Rattle.std.proofs.lemmas.Bool.Decides.{nat_tests}
use Rattle.std.proofs.lemmas.List.Elements.{All-head, All-tail}
use Rattle.hv_kinds.specs.declared.address.AddressType.{AddressType}
use Rattle.hv_kinds.specs.declared.address.AddressType.TheVariants.{Memory, Io}
use Rattle.hv_region.specs.Addresses.{end_of, guest_address, IsPlaceOf}
use Rattle.hv_region.specs.Windows.{AreWindows, Finds, FindsTarget, Holds, IsBefore}
use Rattle.hv_region.specs.declared.window.Window.{Window}
use Rattle.hv_region.specs.declared.window.RegionRefusal.{RegionRefusal}
use Rattle.hv_region.specs.declared.window.RegionRefusal.TheVariants.{Overlap, OutOfRange, AliasTarget}
use Rattle.hv_body.specs.Windows.{is_type}
use Rattle.hv_rules.specs.Space.{is_own}
use Rattle.hv_rules.specs.Windows.{guest_place, has_range, window_at}

pub type_same : (k : AddressType) → is_type k k ≡ true
type_same Memory = refl
type_same Io = refl

pub type_is : (k l : AddressType) → is_type k l ≡ true → k ≡ l
type_is Memory Memory e = refl
type_is Memory Io e = cc
type_is Io Memory e = cc
type_is Io Io e = refl

pub and_left : (a b : Bool) → (a && b) ≡ true → a ≡ true
and_left true b e = refl
and_left false b e = cc

pub and_right : (a b : Bool) → (a && b) ≡ true → b ≡ true
and_right true b e = e
and_right false b e = cc

pub and_true : (a b : Bool) → a ≡ true → b ≡ true → (a && b) ≡ true
and_true true b e f = f
and_true false b e f = cc

eq_is : (a b : ℕ) → (a == b) ≡ true → a ≡ b
eq_is a b e = grind (arith, nat_tests)

eq_true : (a b : ℕ) → a ≡ b → (a == b) ≡ true
eq_true a b e = grind (arith, nat_tests)

le_is : (a b : ℕ) → nat_le a b ≡ true → a ≤ b
le_is a b e = grind (arith, nat_tests)

pub le_true : (a b : ℕ) → a ≤ b → nat_le a b ≡ true
le_true a b e = grind (arith, nat_tests)

pub lt_is : (a b : ℕ) → nat_lt a b ≡ true → a < b
lt_is a b e = grind (arith, nat_tests)

pub lt_true : (a b : ℕ) → a < b → nat_lt a b ≡ true
lt_true a b e = grind (arith, nat_tests)

lt_false : (a b : ℕ) → b ≤ a → nat_lt a b ≡ false
lt_false a b e = grind (arith, nat_tests)

pub is_false : (b : Bool) → (b ≡ true → ⊥) → b ≡ false
is_false true wrong = absurd (wrong refl)
is_false false wrong = refl

-- an instruction's address means one place

below_memory : (a : ℕ) → a < 2 ^ 56 → Some (Memory, a) ≡ guest_place a
below_memory a lt =
    sym (ap
    (λ (b : Bool). cond b (Some (Memory, a)) (then_some (nat_lt (a - 2 ^ 56) (2 ^ 32)) (Io, a - 2 ^ 56)))
    (lt_true a (2 ^ 56) lt))

in_io : (a : ℕ) → a < 2 ^ 32 → Some (Io, a) ≡ guest_place (2 ^ 56 + a)
in_io a lt =
    let back : 2 ^ 56 + a - 2 ^ 56 ≡ a = omega arith in
    sym (ap
    (λ (b : Bool). cond b (Some (Memory, 2 ^ 56 + a)) (then_some (nat_lt (2 ^ 56 + a - 2 ^ 56) (2 ^ 32)) (Io, 2 ^ 56 + a - 2 ^ 56)))
    (lt_false (2 ^ 56 + a) (2 ^ 56) (omega arith))
    ∙ (ap (λ (n : ℕ). then_some (nat_lt n (2 ^ 32)) (Io, n)) back
    ∙ ap (λ (b : Bool). then_some b (Io, a)) (lt_true a (2 ^ 32) lt)))

at_kind : (k : AddressType) (a address : ℕ) → a < end_of k → guest_address k a ≡ address → Some (k, a) ≡ guest_place address
at_kind Memory a address lt is = subst (λ (n : ℕ). Some (Memory, a) ≡ guest_place n) is (below_memory a lt)
at_kind Io a address lt is = subst (λ (n : ℕ). Some (Io, a) ≡ guest_place n) is (in_io a lt)

behind_all : (a : ℕ) → 2 ^ 56 + 2 ^ 32 ≤ a → None ≡ guest_place a
behind_all a le =
    sym (ap
    (λ (b : Bool). cond b (Some (Memory, a)) (then_some (nat_lt (a - 2 ^ 56) (2 ^ 32)) (Io, a - 2 ^ 56)))
    (lt_false a (2 ^ 56) (omega arith))
    ∙ ap (λ (b : Bool). then_some b (Io, a - 2 ^ 56)) (lt_false (a - 2 ^ 56) (2 ^ 32) (omega arith)))

pub place_is : (address : ℕ) (place : Option (AddressType × ℕ)) → IsPlaceOf address place → place ≡ guest_place address
place_is address None behind = behind_all address behind
place_is address (Some place) is = at_kind place.0 place.1 address is.0 is.1

-- a window has a range exactly where it holds it

holds_is : (k : AddressType) (a n : ℕ) (w : Window) → has_range k a n w ≡ true → Holds w k a n
holds_is k a n w e =
    let to = and_right _ (nat_le (a + n) (w.base + w.size)) e in
    let front = and_left _ (nat_le (a + n) (w.base + w.size)) e in
    let from = and_right _ (nat_le w.base a) front in
    let both = and_left _ (nat_le w.base a) front in
    record {
      some = le_is 1 n (and_left (nat_le 1 n) (is_type w.kind k) both);
      type = type_is w.kind k (and_right (nat_le 1 n) (is_type w.kind k) both);
      from = le_is w.base a from;
      to = le_is (a + n) (w.base + w.size) to;
    }

holds_true : (k : AddressType) (a n : ℕ) (w : Window) → Holds w k a n → has_range k a n w ≡ true
holds_true k a n w it =
    and_true _ _
    (and_true _ _
    (and_true _ _ (le_true 1 n it.some) (subst (λ (l : AddressType). is_type w.kind l ≡ true) it.type (type_same w.kind)))
    (le_true w.base a it.from))
    (le_true (a + n) (w.base + w.size) it.to)

-- of two windows of which one ends before the other, not both hold a range

apart : (k : AddressType) (b s c a n : ℕ) → guest_address k b + s ≤ guest_address k c → 1 ≤ n → a + n ≤ b + s → c ≤ a → ⊥
apart Memory b s c a n before some to from = omega arith
apart Io b s c a n before some to from = omega arith

not_both : (one other : Window) (k : AddressType) (a n : ℕ) → IsBefore one other → Holds one k a n → Holds other k a n → ⊥
not_both one other k a n before first second =
    apart k one.base one.size other.base a n
    (subst (λ (l : AddressType). guest_address l one.base + one.size ≤ guest_address k other.base) first.type
    (subst (λ (l : AddressType). guest_address one.kind one.base + one.size ≤ guest_address l other.base) second.type before))
    first.some first.to second.from

-- a window that passes a test, which no two windows pass, is the one that is found

abbrev pub NotBoth : (p : Window → Bool) → Window → Window → Type 0
NotBoth p one other = p one ≡ true → p other ≡ true → ⊥

find_none : (p : Window → Bool) (ws : List Window) → All (λ w. p w ≡ false) ws → find p ws ≡ None
find_none p [] none = refl
find_none p (w ∷ ws) none =
    ap (λ (b : Bool). cond b (Some w) (find p ws)) (All-head (λ x. p x ≡ false) w ws none)
    ∙ find_none p ws (All-tail (λ x. p x ≡ false) w ws none)

pairs_tail : (p : Window → Bool) (w : Window) (ws : List Window) → AllPairs (NotBoth p) (w ∷ ws) → AllPairs (NotBoth p) ws
pairs_tail p w ws pairs = λ i j d lt in'. pairs (suc i) (suc j) d (omega arith) (omega arith)

find_at : (p : Window → Bool) (ws : List Window) (w : Window) (k : ℕ) → k < length ws → get_or ws k w ≡ w → p w ≡ true
    → AllPairs (NotBoth p) ws → find p ws ≡ Some w
find_at p [] w k lt is passes pairs = absurd (omega arith)
find_at p (x ∷ ws) w zero lt is passes pairs =
    subst (λ (y : Window). find p (y ∷ ws) ≡ Some w) (sym is) (ap (λ (b : Bool). cond b (Some w) (find p ws)) passes)
find_at p (x ∷ ws) w (suc k) lt is passes pairs =
    let within : k < length ws = omega arith in
    let here : NotBoth p x w = subst (NotBoth p x) is (pairs zero (suc k) w (omega arith) lt) in
    ap (λ (b : Bool). cond b (Some x) (find p ws)) (is_false (p x) (λ e. here e passes))
    ∙ find_at p ws w k within is passes (pairs_tail p x ws pairs)

-- no two windows of a list hold a range

one_holds : (ws : List Window) (k : AddressType) (a n : ℕ) → AreWindows ws → AllPairs (NotBoth (has_range k a n)) ws
one_holds ws k a n are =
    λ i j d lt in' one other.
    not_both (get_or ws i d) (get_or ws j d) k a n (are.order i j d lt in') (holds_is k a n (get_or ws i d) one)
    (holds_is k a n (get_or ws j d) other)

pub window_is : (ws : List Window) (k : AddressType) (a n : ℕ) (found : Option Window) → AreWindows ws → Finds ws k a n found
    → found ≡ window_at ws k a n
window_is ws k a n None are none =
    sym (find_none (has_range k a n) ws (λ i d lt. is_false (has_range k a n (get_or ws i d)) (λ e. none i d lt (holds_is k a n (get_or ws i d) e))))
window_is ws k a n (Some w) are it =
    sym (find_at (has_range k a n) ws w it.0.0 it.0.1 it.0.2 (holds_true k a n w it.1) (one_holds ws k a n are))

-- the same of a region's own windows

abbrev pub owns : AddressType → (address size : ℕ) → Window → Bool
owns k a n w = is_own w && has_range k a n w

one_owns : (ws : List Window) (k : AddressType) (a n : ℕ) → AreWindows ws → AllPairs (NotBoth (owns k a n)) ws
one_owns ws k a n are =
    λ i j d lt in' one other.
    one_holds ws k a n are i j d lt in'
    (and_right (is_own (get_or ws i d)) (has_range k a n (get_or ws i d)) one)
    (and_right (is_own (get_or ws j d)) (has_range k a n (get_or ws j d)) other)

pub target_is : (ws : List Window) (k : AddressType) (a n : ℕ) (found : Result Window RegionRefusal) → AreWindows ws
    → FindsTarget ws k a n found → result_ok found ≡ find (λ w. is_own w && has_range k a n w) ws
target_is ws k a n (Ok w) are it =
    sym (find_at (owns k a n) ws w it.0.0 it.0.1 it.0.2
    (and_true (is_own w) (has_range k a n w) (eq_true w.owner w.target it.1) (holds_true k a n w it.2)) (one_owns ws k a n are))
target_is ws k a n (Err AliasTarget) are none =
    sym (find_none (owns k a n) ws
    (λ i d lt. is_false (owns k a n (get_or ws i d)) (λ e.
    none i d lt
    (eq_is (get_or ws i d).owner (get_or ws i d).target (and_left (is_own (get_or ws i d)) (has_range k a n (get_or ws i d)) e))
    (holds_is k a n (get_or ws i d) (and_right (is_own (get_or ws i d)) (has_range k a n (get_or ws i d)) e)))))
target_is ws k a n (Err OutOfRange) are wrong = absurd wrong
target_is ws k a n (Err (Overlap owner)) are wrong = absurd wrong
