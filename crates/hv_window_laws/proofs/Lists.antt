-- Lists of which a test keeps a part, and windows in order.
use Rattle.std.proofs.Common.{◌≡◌, ℕ, ◌+◌, ◌<◌, ◌≤◌, Bool, true, false, not, ◌&&◌, ◌||◌, ◌==◌, nat_lt, nat_le, cond, refl, sym, ap, subst, ◌∙◌, List, [], ◌∷◌, filter, find, arith, Option, None, Some}
use Rattle.std.specs.List.{AllByRecursion, list_any}
use Rattle.std.proofs.lemmas.Bool.Decides.{nat_tests}
use Rattle.std.proofs.lemmas.Option.{same_Some}
use Rattle.hv_kinds.specs.declared.address.AddressType.{AddressType}
use Rattle.hv_kinds.specs.declared.address.AddressType.TheVariants.{Memory, Io}
use Rattle.hv_region.specs.Addresses.{end_of, guest_address}
use Rattle.hv_region.specs.Windows.{IsBefore, IsWindow, start_of}
use Rattle.hv_region.specs.declared.window.Window.{Window}
use Rattle.hv_body.specs.Windows.{is_type, meets, put_in_order}

pub lt-is : (a b : ℕ) → nat_lt a b ≡ true → a < b
lt-is a b e = grind (arith, nat_tests)

pub lt-isnt : (a b : ℕ) → nat_lt a b ≡ false → b ≤ a
lt-isnt a b e = grind (arith, nat_tests)

pub lt-false : (a b : ℕ) → b ≤ a → nat_lt a b ≡ false
lt-false a b e = grind (arith, nat_tests)

pub lt-true : (a b : ℕ) → a < b → nat_lt a b ≡ true
lt-true a b e = grind (arith, nat_tests)

pub le-is : (a b : ℕ) → nat_le a b ≡ true → a ≤ b
le-is a b e = grind (arith, nat_tests)

pub le-true : (a b : ℕ) → a ≤ b → nat_le a b ≡ true
le-true a b e = grind (arith, nat_tests)

pub or-left : (a b : Bool) → (a || b) ≡ false → a ≡ false
or-left true b e = cc
or-left false b e = refl

pub or-right : (a b : Bool) → (a || b) ≡ false → b ≡ false
or-right true b e = cc
or-right false b e = e

pub or-none : (a b : Bool) → a ≡ false → b ≡ false → (a || b) ≡ false
or-none true b e f = cc
or-none false b e f = f

pub and-left : (a b : Bool) → (a && b) ≡ true → a ≡ true
and-left true b e = refl
and-left false b e = cc

pub and-right : (a b : Bool) → (a && b) ≡ true → b ≡ true
and-right true b e = e
and-right false b e = cc

pub and-true : (a b : Bool) → a ≡ true → b ≡ true → (a && b) ≡ true
and-true true b e f = f
and-true false b e f = cc

pub and-not : (a b : Bool) → a ≡ true → (a && b) ≡ false → b ≡ false
and-not true b e f = f
and-not false b e f = cc

pub is-false : (b : Bool) → (b ≡ true → ⊥) → b ≡ false
is-false true wrong = absurd (wrong refl)
is-false false wrong = refl

pub not-true : (b : Bool) → b ≡ false → not b ≡ true
not-true true e = cc
not-true false e = refl

pub not-false : (b : Bool) → not b ≡ true → b ≡ false
not-false true e = cc
not-false false e = refl

-- what holds of each element

module _ {X : Type 0} where
  each-cond : (P : X → Type 0) (b : Bool) (x : X) (xs : List X) → P x → AllByRecursion P xs → AllByRecursion P (cond b (x ∷ xs) xs)
  each-cond P true x xs here rest = (here, rest)
  each-cond P false x xs here rest = rest

  pub each-filter : (P : X → Type 0) (p : X → Bool) (xs : List X) → AllByRecursion P xs → AllByRecursion P (filter p xs)
  each-filter P p [] all = tt
  each-filter P p (x ∷ xs) all = each-cond P (p x) x (filter p xs) all.0 (each-filter P p xs all.1)

  pub each-map : (P Q : X → Type 0) (xs : List X) → ((x : X) → P x → Q x) → AllByRecursion P xs → AllByRecursion Q xs
  each-map P Q [] f all = tt
  each-map P Q (x ∷ xs) f all = (f x all.0, each-map P Q xs f all.1)

  pub each-both : (P Q : X → Type 0) (xs : List X) → AllByRecursion P xs → AllByRecursion Q xs → AllByRecursion (λ x. P x × Q x) xs
  each-both P Q [] one other = tt
  each-both P Q (x ∷ xs) one other = ((one.0, other.0), each-both P Q xs one.1 other.1)

  pub each-of : (P : X → Type 0) (xs : List X) → ((x : X) → P x) → AllByRecursion P xs
  each-of P [] f = tt
  each-of P (x ∷ xs) f = (f x, each-of P xs f)

  pub each-not : (q : X → Bool) (xs : List X) → list_any q xs ≡ false → AllByRecursion (λ x. q x ≡ false) xs
  each-not q [] none = tt
  each-not q (x ∷ xs) none = (or-left (q x) (list_any q xs) none, each-not q xs (or-right (q x) (list_any q xs) none))

  pub any-not : (q : X → Bool) (xs : List X) → AllByRecursion (λ x. q x ≡ false) xs → list_any q xs ≡ false
  any-not q [] none = refl
  any-not q (x ∷ xs) none = or-none (q x) (list_any q xs) none.0 (any-not q xs none.1)

  pub any-filter : (q p : X → Bool) (xs : List X) → list_any q xs ≡ false → list_any q (filter p xs) ≡ false
  any-filter q p xs none = any-not q (filter p xs) (each-filter (λ x. q x ≡ false) p xs (each-not q xs none))

  -- a list of which a test keeps nothing
  filter-none-step : (p : X → Bool) (x : X) (xs : List X) (b : Bool) → cond b (x ∷ xs) xs ≡ [] → (b ≡ false) × (xs ≡ [])
  filter-none-step p x xs true none = absurd (cc)
  filter-none-step p x xs false none = (refl, none)

  pub filter-none : (p : X → Bool) (xs : List X) → filter p xs ≡ [] → AllByRecursion (λ x. p x ≡ false) xs
  filter-none p [] none = tt
  filter-none p (x ∷ xs) none =
      let at = filter-none-step p x (filter p xs) (p x) none in
      (at.0, filter-none p xs at.1)

  pub none-filter : (p : X → Bool) (xs : List X) → AllByRecursion (λ x. p x ≡ false) xs → filter p xs ≡ []
  none-filter p [] none = refl
  none-filter p (x ∷ xs) none = ap (λ (b : Bool). cond b (x ∷ filter p xs) (filter p xs)) none.0 ∙ none-filter p xs none.1

  -- a test on what another test keeps
  under-step : (p : X → Bool) (x : X) (rest kept : List X) (a b : Bool) → p x ≡ a → (a ≡ true → b ≡ true) → filter p kept ≡ filter p rest
      → filter p (cond b (x ∷ kept) kept) ≡ cond a (x ∷ filter p rest) (filter p rest)
  under-step p x rest kept a true is keeps same = ap (λ (b : Bool). cond b (x ∷ filter p kept) (filter p kept)) is ∙ ap (λ (l : List X). cond a (x ∷ l) l) same
  under-step p x rest kept true false is keeps same = absurd (let no = keeps refl in cc)
  under-step p x rest kept false false is keeps same = same

  pub filter-under : (p q : X → Bool) (xs : List X) → AllByRecursion (λ x. p x ≡ true → q x ≡ true) xs → filter p (filter q xs) ≡ filter p xs
  filter-under p q [] keeps = refl
  filter-under p q (x ∷ xs) keeps = under-step p x xs (filter q xs) (p x) (q x) refl keeps.0 (filter-under p q xs keeps.1)

  apart-step : (p : X → Bool) (x : X) (kept : List X) (b : Bool) → (b ≡ true → p x ≡ false) → filter p kept ≡ [] → filter p (cond b (x ∷ kept) kept) ≡ []
  apart-step p x kept true out none = ap (λ (b : Bool). cond b (x ∷ filter p kept) (filter p kept)) (out refl) ∙ none
  apart-step p x kept false out none = none

  pub filter-apart : (p q : X → Bool) (xs : List X) → ((x : X) → q x ≡ true → p x ≡ false) → filter p (filter q xs) ≡ []
  filter-apart p q [] out = refl
  filter-apart p q (x ∷ xs) out = apart-step p x (filter q xs) (q x) (out x) (filter-apart p q xs out)

  swap-step : (p q : X → Bool) (x : X) (one other : List X) (a b : Bool) → p x ≡ a → q x ≡ b → filter p one ≡ filter q other
      → filter p (cond b (x ∷ one) one) ≡ filter q (cond a (x ∷ other) other)
  swap-step p q x one other true true is has same =
      ap (λ (b : Bool). cond b (x ∷ filter p one) (filter p one)) is ∙ ap (λ (l : List X). x ∷ l) same ∙ sym (ap (λ (b : Bool). cond b (x ∷ filter q other) (filter q other)) has)
  swap-step p q x one other true false is has same = same ∙ sym (ap (λ (b : Bool). cond b (x ∷ filter q other) (filter q other)) has)
  swap-step p q x one other false true is has same = ap (λ (b : Bool). cond b (x ∷ filter p one) (filter p one)) is ∙ same
  swap-step p q x one other false false is has same = same

  pub filter-swap : (p q : X → Bool) (xs : List X) → filter p (filter q xs) ≡ filter q (filter p xs)
  filter-swap p q [] = refl
  filter-swap p q (x ∷ xs) = swap-step p q x (filter q xs) (filter p xs) (p x) (q x) refl refl (filter-swap p q xs)

  -- the first that passes, among those that another test keeps
  find-step : (p : X → Bool) (x : X) (xs kept : List X) (a b : Bool) → p x ≡ a → (a ≡ true → b ≡ true) → find p kept ≡ find p xs
      → find p (cond b (x ∷ kept) kept) ≡ cond a (Some x) (find p xs)
  find-step p x xs kept a true is keeps same = ap (λ (b : Bool). cond b (Some x) (find p kept)) is ∙ ap (λ (f : Option X). cond a (Some x) f) same
  find-step p x xs kept true false is keeps same = absurd (let no = keeps refl in cc)
  find-step p x xs kept false false is keeps same = same

  pub find-under : (p q : X → Bool) (xs : List X) → ((x : X) → p x ≡ true → q x ≡ true) → find p (filter q xs) ≡ find p xs
  find-under p q [] keeps = refl
  find-under p q (x ∷ xs) keeps = find-step p x xs (filter q xs) (p x) (q x) refl (keeps x) (find-under p q xs keeps)

  pub find-none : (p : X → Bool) (xs : List X) → AllByRecursion (λ x. p x ≡ false) xs → find p xs ≡ None
  find-none p [] none = refl
  find-none p (x ∷ xs) none = ap (λ (b : Bool). cond b (Some x) (find p xs)) none.0 ∙ find-none p xs none.1

  filtered-step : (P : X → Type 0) (q : X → Bool) (x : X) (kept : List X) (b : Bool) → (b ≡ true → P x) → AllByRecursion P kept → AllByRecursion P (cond b (x ∷ kept) kept)
  filtered-step P q x kept true f rest = (f refl, rest)
  filtered-step P q x kept false f rest = rest

  pub each-filtered : (P : X → Type 0) (q : X → Bool) (xs : List X) → ((x : X) → q x ≡ true → P x) → AllByRecursion P (filter q xs)
  each-filtered P q [] f = tt
  each-filtered P q (x ∷ xs) f = filtered-step P q x (filter q xs) (q x) (f x) (each-filtered P q xs f)

  pub find-apart : (p q : X → Bool) (xs : List X) → ((x : X) → q x ≡ true → p x ≡ false) → find p (filter q xs) ≡ None
  find-apart p q xs out = find-none p (filter q xs) (each-filtered (λ x. p x ≡ false) q xs out)

  -- what is found passes, and it has what each has
  found-step : (P : X → Type 0) (p : X → Bool) (x y : X) (later : Option X) (b : Bool) → p x ≡ b → P x → (later ≡ Some y → (p y ≡ true) × P y)
      → cond b (Some x) later ≡ Some y → (p y ≡ true) × P y
  found-step P p x y later true passes here rest found =
      let same : x ≡ y = same_Some x y found in
      (subst (λ z. p z ≡ true) same passes, subst P same here)
  found-step P p x y later false fails here rest found = rest found

  pub found-is : (P : X → Type 0) (p : X → Bool) (xs : List X) (y : X) → AllByRecursion P xs → find p xs ≡ Some y → (p y ≡ true) × P y
  found-is P p [] y all is = absurd (cc)
  found-is P p (x ∷ xs) y all is = found-step P p x y (find p xs) (p x) refl all.0 (λ later. found-is P p xs y all.1 later) is

  -- nothing is found where none passes
  pub not-found : (p : X → Bool) (xs : List X) → find p xs ≡ None → AllByRecursion (λ x. p x ≡ false) xs
  not-found p [] is = tt
  not-found p (x ∷ xs) is = at (p x) refl is (λ later. not-found p xs later)
    where
      at : (b : Bool) → p x ≡ b → cond b (Some x) (find p xs) ≡ None → (find p xs ≡ None → AllByRecursion (λ y. p y ≡ false) xs) → AllByRecursion (λ y. p y ≡ false) (x ∷ xs)
      at true passes found rest = absurd (cc)
      at false fails found rest = (fails, rest found)

-- windows in order

-- a window ends before another begins, and they are of two regions
abbrev pub After : Window → Window → Type 0
After x y = IsBefore x y × ((x.owner == y.owner) ≡ false)

-- windows in order, of regions of their own
abbrev pub Ordered : List Window → Type 0
Ordered [] = Unit {0}
Ordered (x ∷ xs) = IsWindow x × AllByRecursion (After x) xs × Ordered xs

pub ordered-filter : (p : Window → Bool) (ws : List Window) → Ordered ws → Ordered (filter p ws)
ordered-filter p [] o = tt
ordered-filter p (x ∷ ws) o = at (p x) (ordered-filter p ws o.2)
  where
    at : (b : Bool) → Ordered (filter p ws) → Ordered (cond b (x ∷ filter p ws) (filter p ws))
    at true rest = (o.0, each-filter (After x) p ws o.1, rest)
    at false rest = rest

-- what holds of a window and of each of others holds of each once it is put among them
put-step : (P : Window → Type 0) (w x : Window) (xs rest : List Window) (b : Bool) → P w → P x → AllByRecursion P xs → AllByRecursion P rest
    → AllByRecursion P (cond b (x ∷ rest) (w ∷ x ∷ xs))
put-step P w x xs rest true new here all put = (here, put)
put-step P w x xs rest false new here all put = (new, (here, all))

pub each-put : (P : Window → Type 0) (w : Window) (xs : List Window) → P w → AllByRecursion P xs → AllByRecursion P (put_in_order w xs)
each-put P w [] new all = (new, tt)
each-put P w (x ∷ xs) new all = put-step P w x xs (put_in_order w xs) (nat_lt (start_of x) (start_of w)) new all.0 all.1 (each-put P w xs new all.1)

-- a test that doesn't keep what is put
out-step : (p : Window → Bool) (w x : Window) (xs rest : List Window) (b : Bool) → p w ≡ false → filter p rest ≡ filter p xs
    → filter p (cond b (x ∷ rest) (w ∷ x ∷ xs)) ≡ filter p (x ∷ xs)
out-step p w x xs rest true out same = ap (λ (l : List Window). cond (p x) (x ∷ l) l) same
out-step p w x xs rest false out same = ap (λ (b : Bool). cond b (w ∷ filter p (x ∷ xs)) (filter p (x ∷ xs))) out

pub put-out : (p : Window → Bool) (w : Window) (xs : List Window) → p w ≡ false → filter p (put_in_order w xs) ≡ filter p xs
put-out p w [] out = ap (λ (b : Bool). cond b (w ∷ []) []) out
put-out p w (x ∷ xs) out = out-step p w x xs (put_in_order w xs) (nat_lt (start_of x) (start_of w)) out (put-out p w xs out)

-- a test that keeps what is put
abbrev Follows : Window → Window → Type 0
Follows w x = nat_lt (start_of x) (start_of w) ≡ false

put-front : (w : Window) (xs : List Window) → AllByRecursion (Follows w) xs → put_in_order w xs ≡ w ∷ xs
put-front w [] all = refl
put-front w (x ∷ xs) all = ap (λ (b : Bool). cond b (x ∷ put_in_order w xs) (w ∷ x ∷ xs)) all.0

later-step : (w x : Window) (kept put : List Window) (c : Bool) → nat_lt (start_of x) (start_of w) ≡ true → put ≡ put_in_order w kept
    → cond c (x ∷ put) put ≡ put_in_order w (cond c (x ∷ kept) kept)
later-step w x kept put true before same =
    ap (λ (l : List Window). x ∷ l) same ∙ sym (ap (λ (b : Bool). cond b (x ∷ put_in_order w kept) (w ∷ x ∷ kept)) before)
later-step w x kept put false before same = same

follow : (w x : Window) (xs : List Window) → nat_lt (start_of x) (start_of w) ≡ false → AllByRecursion (After x) xs → AllByRecursion (Follows w) (x ∷ xs)
follow w x xs behind after = (
  behind,
  each-map (After x) (Follows w) xs
      (λ y before. let le = lt-isnt (start_of x) (start_of w) behind in let past = before.0 in lt-false (start_of y) (start_of w) (omega arith)) after,
)

in-step : (p : Window → Bool) (w x : Window) (xs : List Window) (b : Bool) → nat_lt (start_of x) (start_of w) ≡ b → p w ≡ true
    → AllByRecursion (After x) xs → filter p (put_in_order w xs) ≡ put_in_order w (filter p xs)
    → filter p (cond b (x ∷ put_in_order w xs) (w ∷ x ∷ xs)) ≡ put_in_order w (filter p (x ∷ xs))
in-step p w x xs true before keeps after same = later-step w x (filter p xs) (filter p (put_in_order w xs)) (p x) before same
in-step p w x xs false behind keeps after same =
    ap (λ (b : Bool). cond b (w ∷ filter p (x ∷ xs)) (filter p (x ∷ xs))) keeps
    ∙ sym (put-front w (filter p (x ∷ xs)) (each-filter (Follows w) p (x ∷ xs) (follow w x xs behind after)))

pub put-in : (p : Window → Bool) (w : Window) (xs : List Window) → p w ≡ true → Ordered xs → filter p (put_in_order w xs) ≡ put_in_order w (filter p xs)
put-in p w [] keeps o = ap (λ (b : Bool). cond b (w ∷ []) []) keeps
put-in p w (x ∷ xs) keeps o = in-step p w x xs (nat_lt (start_of x) (start_of w)) refl keeps o.1 (put-in p w xs keeps o.2)

-- the first that passes, once another is put
find-put-step : (p : Window → Bool) (w x : Window) (xs rest : List Window) (b : Bool) → p w ≡ false → find p rest ≡ find p xs
    → find p (cond b (x ∷ rest) (w ∷ x ∷ xs)) ≡ find p (x ∷ xs)
find-put-step p w x xs rest true out same = ap (λ (f : Option Window). cond (p x) (Some x) f) same
find-put-step p w x xs rest false out same = ap (λ (b : Bool). cond b (Some w) (find p (x ∷ xs))) out

pub find-put-out : (p : Window → Bool) (w : Window) (xs : List Window) → p w ≡ false → find p (put_in_order w xs) ≡ find p xs
find-put-out p w [] out = ap (λ (b : Bool). cond b (Some w) None) out
find-put-out p w (x ∷ xs) out = find-put-step p w x xs (put_in_order w xs) (nat_lt (start_of x) (start_of w)) out (find-put-out p w xs out)

find-in-step : (p : Window → Bool) (w x : Window) (xs rest : List Window) (b : Bool) → p w ≡ true → p x ≡ false → find p rest ≡ Some w
    → find p (cond b (x ∷ rest) (w ∷ x ∷ xs)) ≡ Some w
find-in-step p w x xs rest true keeps out found = ap (λ (b : Bool). cond b (Some x) (find p rest)) out ∙ found
find-in-step p w x xs rest false keeps out found = ap (λ (b : Bool). cond b (Some w) (find p (x ∷ xs))) keeps

pub find-put-in : (p : Window → Bool) (w : Window) (xs : List Window) → p w ≡ true → AllByRecursion (λ x. p x ≡ false) xs → find p (put_in_order w xs) ≡ Some w
find-put-in p w [] keeps none = ap (λ (b : Bool). cond b (Some w) None) keeps
find-put-in p w (x ∷ xs) keeps none =
    find-in-step p w x xs (put_in_order w xs) (nat_lt (start_of x) (start_of w)) keeps none.0 (find-put-in p w xs keeps none.1)

-- a window that meets none is put in order

pub type-same : (k : AddressType) → is_type k k ≡ true
type-same Memory = refl
type-same Io = refl

apart-test : (b s c n : ℕ) → (nat_lt b (c + n) && nat_lt c (b + s)) ≡ false → nat_lt b c ≡ true → b + s ≤ c
apart-test b s c n apart before =
    let less = lt-is b c before in
    let in-front = lt-true b (c + n) (omega arith) in
    lt-isnt c (b + s) (and-not (nat_lt b (c + n)) (nat_lt c (b + s)) in-front apart)

apart-before : (k l : AddressType) (b s c n : ℕ) → b + s ≤ end_of k → c + n ≤ end_of l
    → (is_type k l && nat_lt b (c + n) && nat_lt c (b + s)) ≡ false → nat_lt (guest_address k b) (guest_address l c) ≡ true → guest_address k b + s ≤ guest_address l c
apart-before Memory Memory b s c n one other apart before = apart-test b s c n apart before
apart-before Memory Io b s c n one other apart before = omega arith
apart-before Io Memory b s c n one other apart before = absurd (let less = lt-is (guest_address Io b) c before in omega arith)
apart-before Io Io b s c n one other apart before =
    let less = lt-is (guest_address Io b) (guest_address Io c) before in
    let far = apart-test b s c n apart (lt-true b c (omega arith)) in
    omega arith

-- what is put meets none of them: it begins before one, or behind it
apart-behind : (k l : AddressType) (b s c n : ℕ) → b + s ≤ end_of k → c + n ≤ end_of l → 1 ≤ s → 1 ≤ n
    → (is_type k l && nat_lt b (c + n) && nat_lt c (b + s)) ≡ false → nat_lt (guest_address k b) (guest_address l c) ≡ false → guest_address l c + n ≤ guest_address k b
apart-behind Memory Memory b s c n one other some more apart behind =
    let le = lt-isnt b c behind in
    lt-isnt b (c + n) (is-false (nat_lt b (c + n)) (λ lt.
    let no = and-not (nat_lt b (c + n)) (nat_lt c (b + s)) lt apart in
    let yes = lt-true c (b + s) (omega arith) in cc))
apart-behind Memory Io b s c n one other some more apart behind = absurd (let le = lt-isnt b (guest_address Io c) behind in omega arith)
apart-behind Io Memory b s c n one other some more apart behind = omega arith
apart-behind Io Io b s c n one other some more apart behind =
    let le = lt-isnt (guest_address Io b) (guest_address Io c) behind in
    let far : c + n ≤ b =
    lt-isnt b (c + n) (is-false (nat_lt b (c + n)) (λ lt.
    let no = and-not (nat_lt b (c + n)) (nat_lt c (b + s)) lt apart in
    let yes = lt-true c (b + s) (omega arith) in cc)) in
    omega arith

before-is : (x w : Window) → IsWindow x → IsWindow w → meets w x ≡ false → nat_lt (start_of x) (start_of w) ≡ true → IsBefore x w
before-is x w one other apart before = apart-before x.kind w.kind x.base x.size w.base w.size one.range other.range apart before

behind-is : (x w : Window) → IsWindow x → IsWindow w → meets w x ≡ false → nat_lt (start_of x) (start_of w) ≡ false → IsBefore w x
behind-is x w one other apart behind = apart-behind x.kind w.kind x.base x.size w.base w.size one.range other.range one.some other.some apart behind

pub not-same : (a b : ℕ) → (a == b) ≡ false → (b == a) ≡ false
not-same a b e = grind (arith, nat_tests)

put-ordered-step : (w x : Window) (xs rest : List Window) (b : Bool) → nat_lt (start_of x) (start_of w) ≡ b → IsWindow w → meets w x ≡ false → (x.owner == w.owner) ≡ false
    → AllByRecursion (λ y. (y.owner == w.owner) ≡ false) xs → Ordered (x ∷ xs) → Ordered rest
    → (b ≡ true → AllByRecursion (After x) rest) → Ordered (cond b (x ∷ rest) (w ∷ x ∷ xs))
put-ordered-step w x xs rest true is new apart other others o put after = (o.0, after refl, put)
put-ordered-step w x xs rest false is new apart other others o put after =
    let first : IsBefore w x = behind-is x w o.0 new apart is in (
      new,
      (
        (first, not-same x.owner w.owner other),
        each-map (λ y. After x y × ((y.owner == w.owner) ≡ false)) (After w) xs
            (λ y at. (let far = at.0.0 in omega arith, not-same y.owner w.owner at.1))
            (each-both (After x) (λ y. (y.owner == w.owner) ≡ false) xs o.1 others),
      ),
      o,
    )

pub put-ordered : (w : Window) (xs : List Window) → IsWindow w → AllByRecursion (λ x. meets w x ≡ false) xs → AllByRecursion (λ x. (x.owner == w.owner) ≡ false) xs
    → Ordered xs → Ordered (put_in_order w xs)
put-ordered w [] new apart others o = (new, tt, tt)
put-ordered w (x ∷ xs) new apart others o =
    put-ordered-step w x xs (put_in_order w xs) (nat_lt (start_of x) (start_of w)) refl new apart.0 others.0 others.1 o
    (put-ordered w xs new apart.1 others.1 o.2)
    (λ before. each-put (After x) w xs (before-is x w o.0 new apart.0 before, others.0) o.1)
