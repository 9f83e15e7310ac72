-- The steps of lines, where they are begun.
use Rattle.std.proofs.Common.{◌≡◌, ℕ, zero, suc, ◌+◌, ◌<◌, ◌≤◌, ◌⊎◌, inl, inr, Bool, true, false, if◌then◌else◌, refl, sym, ap, subst, List, [], ◌∷◌, ◌++◌, append_assoc, replicate, Option, None, Some, slice_get, arith}
use Rattle.std.specs.List.{AllByRecursion}
use Rattle.hv_kinds.specs.declared.stage.Stage.TheVariants.{Making, Made, Ending}
use Rattle.hv_region.specs.declared.plan.RegionPlan.{RegionPlan}
use Rattle.hv_rules.specs.Line.{Ask, Change, add, add_vcpu, change, claim, create, destroy, drop, drop_vcpu, each, each_vcpu, has_device, is_built, is_built_alias, is_owned, look, looks, of_rows, reset, reset_device, rest, rests, steps_of, turn}
use Rattle.hv_text.specs.declared.limits.TheConstants.{GUEST_VCPUS, VCPUS}
use Rattle.hv_order_laws.specs.Lines.{AddsRegions, AddsVcpus, ArePlain, Drops, IsAmong}

-- steps of one kind

abbrev IsAdd : Ask → Type 0
IsAdd (add row) = Unit {0}
IsAdd _ = ⊥

abbrev IsAddVcpu : Ask → Type 0
IsAddVcpu (add_vcpu index) = index < GUEST_VCPUS
IsAddVcpu _ = ⊥

abbrev IsDrop : Ask → Type 0
IsDrop (drop_vcpu index) = index < GUEST_VCPUS
IsDrop (drop stage row) = stage ≡ Ending
IsDrop _ = ⊥

pub all-append : {A : Type 0} (P : A → Type 0) (xs ys : List A) → AllByRecursion P xs → AllByRecursion P ys → AllByRecursion P (xs ++ ys)
all-append P [] ys one two = two
all-append P (x ∷ xs) ys one two = (one.0, all-append P xs ys one.1 two)

all-each : (P : Ask → Type 0) (ask : ℕ → Ask) (count most : ℕ) → count ≤ most → ((n : ℕ) → n < most → P (ask n)) → AllByRecursion P (each ask count)
all-each P ask zero most h are = tt
all-each P ask (suc n) most h are = all-append P (each ask n) (ask n ∷ []) (all-each P ask n most (omega arith) are) (are n (omega arith), tt)

all-if : (P : Ask → Type 0) (ask : ℕ → Ask) (b : Bool) (row : ℕ) → P (ask row) → AllByRecursion P (if b then ask row ∷ [] else [])
all-if P ask true row is = (is, tt)
all-if P ask false row is = tt

all-rows : (P : Ask → Type 0) (ask : ℕ → Ask) (chosen : RegionPlan → Bool) (row : ℕ) (regions : List RegionPlan) → ((n : ℕ) → P (ask n))
    → AllByRecursion P (of_rows ask chosen row regions)
all-rows P ask chosen row [] are = tt
all-rows P ask chosen row (region ∷ regions) are =
    all-append P (if chosen region then ask row ∷ [] else []) (of_rows ask chosen (row + 1) regions)
    (all-if P ask (chosen region) row (are row)) (all-rows P ask chosen (row + 1) regions are)

-- what stands before the others

regions-first : (xs ys : List Ask) → AllByRecursion IsAdd xs → AddsRegions ys → AddsRegions (xs ++ ys)
regions-first [] ys all more = more
regions-first (add row ∷ xs) ys all more = regions-first xs ys all.1 more
regions-first (_ ∷ xs) ys all more = absurd all.0

vcpus-first : (xs ys : List Ask) → AllByRecursion IsAddVcpu xs → AddsVcpus ys → AddsVcpus (xs ++ ys)
vcpus-first [] ys all more = more
vcpus-first (add_vcpu index ∷ xs) ys all more = (all.0, vcpus-first xs ys all.1 more)
vcpus-first (_ ∷ xs) ys all more = absurd all.0

vcpus-regions : (todo : List Ask) → AddsVcpus todo → AddsRegions todo
vcpus-regions [] adds = adds
vcpus-regions (add row ∷ todo) adds = absurd adds
vcpus-regions (_ ∷ todo) adds = adds

drops-first : (xs ys : List Ask) → AllByRecursion IsDrop xs → Drops ys → Drops (xs ++ ys)
drops-first [] ys all more = more
drops-first (drop_vcpu index ∷ xs) ys all more = (all.0, drops-first xs ys all.1 more)
drops-first (drop stage row ∷ xs) ys all more = (all.0, drops-first xs ys all.1 more)
drops-first (_ ∷ xs) ys all more = absurd all.0

-- a line that makes a guest, once the name is claimed

abbrev pub to_make : (vcpus : ℕ) → List RegionPlan → List Ask
to_make vcpus regions = of_rows add is_built 0 regions ++ of_rows add is_built_alias 0 regions ++ each add_vcpu vcpus ++ turn Making (Some Made) ∷ []

pub make-steps : (name : List ℕ) (vcpus : ℕ) (regions : List RegionPlan) → steps_of (create name) vcpus regions ≡ claim ∷ to_make vcpus regions
make-steps name vcpus regions = refl

pub makes-first : (vcpus : ℕ) (regions : List RegionPlan) → vcpus ≤ GUEST_VCPUS → AddsRegions (to_make vcpus regions)
makes-first vcpus regions few =
    let built = of_rows add is_built 0 regions in
    let aliases = of_rows add is_built_alias 0 regions in
    let vcpu-steps = each add_vcpu vcpus in
    let last = turn Making (Some Made) ∷ [] in
    let last-adds : AddsVcpus last = (refl, refl, refl) in
    subst AddsRegions (sym (append_assoc (built ++ aliases) vcpu-steps last))
    (regions-first (built ++ aliases) (vcpu-steps ++ last)
    (all-append IsAdd built aliases (all-rows IsAdd add is_built 0 regions (λ n. tt)) (all-rows IsAdd add is_built_alias 0 regions (λ n. tt)))
    (vcpus-regions (vcpu-steps ++ last)
    (vcpus-first vcpu-steps last (all-each IsAddVcpu add_vcpu vcpus GUEST_VCPUS few (λ n below. below)) last-adds)))

-- a line that ends a guest, once its stage is turned

abbrev pub to_end : (vcpus : ℕ) → List RegionPlan → List Ask
to_end vcpus regions = each drop_vcpu vcpus ++ of_rows (drop Ending) is_owned 0 regions ++ turn Ending None ∷ []

pub end-steps : (name : List ℕ) (vcpus : ℕ) (regions : List RegionPlan) → steps_of (destroy name) vcpus regions ≡ turn Made (Some Ending) ∷ to_end vcpus regions
end-steps name vcpus regions = refl

pub ends-first : (vcpus : ℕ) (regions : List RegionPlan) → vcpus ≤ GUEST_VCPUS → Drops (to_end vcpus regions)
ends-first vcpus regions few =
    let vcpu-steps = each drop_vcpu vcpus in
    let owned = of_rows (drop Ending) is_owned 0 regions in
    drops-first (vcpu-steps ++ owned) (turn Ending None ∷ [])
    (all-append IsDrop vcpu-steps owned (all-each IsDrop drop_vcpu vcpus GUEST_VCPUS few (λ n below. below)) (all-rows IsDrop (drop Ending) is_owned 0 regions (λ n. refl)))
    (refl, refl, refl)

-- among its steps are a drop of each VCPU and of each row that the guest owns

among-left : (a : Ask) (xs ys : List Ask) → IsAmong a xs → IsAmong a (xs ++ ys)
among-left a [] ys is = absurd is
among-left a (x ∷ xs) ys (inl here) = inl here
among-left a (x ∷ xs) ys (inr later) = inr (among-left a xs ys later)

among-right : (a : Ask) (xs ys : List Ask) → IsAmong a ys → IsAmong a (xs ++ ys)
among-right a [] ys is = is
among-right a (x ∷ xs) ys is = inr (among-right a xs ys is)

last-or : (i n : ℕ) → i < suc n → (i ≡ n) ⊎ (i < n)
last-or i n h = grind arith

among-each : (ask : ℕ → Ask) (count i : ℕ) → i < count → IsAmong (ask i) (each ask count)
among-each ask zero i h = absurd (omega arith)
among-each ask (suc n) i h =
    elim (last-or i n h) [
      | inl same ↦ among-right (ask i) (each ask n) (ask n ∷ []) (inl (ap ask same))
      | inr below ↦ among-left (ask i) (each ask n) (ask n ∷ []) (among-each ask n i below)
    ]

among-if : (ask : ℕ → Ask) (b : Bool) (row : ℕ) → b ≡ true → IsAmong (ask row) (if b then ask row ∷ [] else [])
among-if ask true row is = inl refl
among-if ask false row is = absurd (cc is)

abbrev IsChosen : (RegionPlan → Bool) → Option RegionPlan → Type 0
IsChosen chosen None = ⊥
IsChosen chosen (Some region) = chosen region ≡ true

among-rows : (ask : ℕ → Ask) (chosen : RegionPlan → Bool) (row k : ℕ) (regions : List RegionPlan) (region : RegionPlan) → slice_get regions k ≡ Some region → chosen region ≡ true
    → IsAmong (ask (row + k)) (of_rows ask chosen row regions)
among-rows ask chosen row k [] region at is = absurd (cc at)
among-rows ask chosen row zero (r ∷ regions) region at is =
    let here : chosen r ≡ true = subst (IsChosen chosen) (sym at) is in
    let same : row + 0 ≡ row = omega arith in
    among-left (ask (row + 0)) (if chosen r then ask row ∷ [] else []) (of_rows ask chosen (row + 1) regions)
    (subst (λ (n : ℕ). IsAmong (ask n) (if chosen r then ask row ∷ [] else [])) (sym same) (among-if ask (chosen r) row here))
among-rows ask chosen row (suc k) (r ∷ regions) region at is =
    let same : row + 1 + k ≡ row + suc k = omega arith in
    among-right (ask (row + suc k)) (if chosen r then ask row ∷ [] else []) (of_rows ask chosen (row + 1) regions)
    (subst (λ (n : ℕ). IsAmong (ask n) (of_rows ask chosen (row + 1) regions)) same (among-rows ask chosen (row + 1) k regions region at is))

pub drops-vcpu : (vcpus : ℕ) (regions : List RegionPlan) (i : ℕ) → i < vcpus → IsAmong (drop_vcpu i) (to_end vcpus regions)
drops-vcpu vcpus regions i below =
    let vcpu-steps = each drop_vcpu vcpus in
    let owned = of_rows (drop Ending) is_owned 0 regions in
    among-left (drop_vcpu i) (vcpu-steps ++ owned) (turn Ending None ∷ []) (among-left (drop_vcpu i) vcpu-steps owned (among-each drop_vcpu vcpus i below))

pub drops-row : (vcpus : ℕ) (regions : List RegionPlan) (k : ℕ) (region : RegionPlan) → slice_get regions k ≡ Some region → is_owned region ≡ true
    → IsAmong (drop Ending k) (to_end vcpus regions)
drops-row vcpus regions k region at own =
    let vcpu-steps = each drop_vcpu vcpus in
    let owned = of_rows (drop Ending) is_owned 0 regions in
    let same : 0 + k ≡ k = omega arith in
    among-left (drop Ending k) (vcpu-steps ++ owned) (turn Ending None ∷ []) (among-right (drop Ending k) vcpu-steps owned
    (subst (λ (n : ℕ). IsAmong (drop Ending n) owned) same (among-rows (drop Ending) is_owned 0 k regions region at own)))

-- the steps of any other line are plain

abbrev IsPlain : Ask → Type 0
IsPlain ask = ArePlain (ask ∷ [])

plain-list : (xs : List Ask) → AllByRecursion IsPlain xs → ArePlain xs
plain-list [] all = tt
plain-list (rest ∷ xs) all = plain-list xs all.1
plain-list (look vcpu ∷ xs) all = plain-list xs all.1
plain-list (change asked index ∷ xs) all = plain-list xs all.1
plain-list (reset_device row ∷ xs) all = plain-list xs all.1
plain-list (_ ∷ xs) all = absurd all.0

all-rests : (count : ℕ) → AllByRecursion IsPlain (replicate count rest)
all-rests zero = tt
all-rests (suc n) = (tt, all-rests n)

pub plain-rests : (count vcpus : ℕ) (regions : List RegionPlan) → ArePlain (steps_of (rests count) vcpus regions)
plain-rests count vcpus regions = plain-list (replicate count rest) (all-rests count)

pub plain-looks : (vcpus : ℕ) (regions : List RegionPlan) → ArePlain (steps_of looks vcpus regions)
plain-looks vcpus regions = plain-list (each look VCPUS) (all-each IsPlain look VCPUS VCPUS (omega arith) (λ n below. tt))

plain-changes : (asked : Change) (vcpus : ℕ) → AllByRecursion IsPlain (each (change asked) vcpus)
plain-changes asked vcpus = all-each IsPlain (change asked) vcpus vcpus (omega arith) (λ n below. tt)

pub plain-each : (asked : Change) (name : List ℕ) (vcpus : ℕ) (regions : List RegionPlan) → ArePlain (steps_of (each_vcpu asked name) vcpus regions)
plain-each reset name vcpus regions =
    plain-list (each (change reset) vcpus ++ of_rows reset_device has_device 0 regions)
    (all-append IsPlain (each (change reset) vcpus) (of_rows reset_device has_device 0 regions) (plain-changes reset vcpus) (all-rows IsPlain reset_device has_device 0 regions (λ n. tt)))
plain-each asked name vcpus regions = plain-list (each (change asked) vcpus) (plain-changes asked vcpus)
