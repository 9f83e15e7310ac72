-- That a guest without faults keeps the rules.
use Rattle.std.proofs.Common.{◌≡◌, ℕ, zero, suc, ◌+◌, ◌%◌, ◌<◌, ◌≤◌, Bool, true, false, not, cond, ◌||◌, eqb, leb, List, [], ◌∷◌, ◌++◌, length, get_or, map, refl, sym, ap, subst, ◌∙◌, arith}
use Rattle.std.specs.Prelude.{Option, Some, None, unwrap_or, is_some, is_none, slice_get, codes, if◌then◌else◌}
use Rattle.std.specs.List.{All, enumerate_from, position_from}
use Rattle.std.specs.Option.{option_map_or, option_map, option_and_then}
use Rattle.std.proofs.lemmas.Bool.{false≢true, and_parts}
use Rattle.std.proofs.lemmas.Bool.Decides.{nat_tests}
use Rattle.std.proofs.lemmas.List.Elements.{All-cons, All-nil}
use Rattle.hv_text.specs.Path.{path_text}
use Rattle.hv_kinds.specs.declared.address.AddressType.{AddressType}
use Rattle.hv_kinds.specs.declared.address.AddressType.TheVariants.{Memory}
use Rattle.hv_dtree.specs.declared.node.Node.{Node}
use Rattle.hv_region.specs.Addresses.{end_of}
use Rattle.hv_region.specs.Plans.{IsVcpuPlan, IsRegionPlan, FitsForm, IsLink}
use Rattle.hv_plan.specs.Properties.{is_within, text_of, cell_of}
use Rattle.hv_plan.specs.Links.{link_of, interrupts, parent_phandle, has_phandle, region_plan}
use Rattle.hv_plan.specs.Rules.{LiesInArea, HasBytes}
use Rattle.hv_plan.specs.Vcpus.{when, vcpu_causes, vcpu_plan, is_vcpu, start_of, priority_of, slice_of}
use Rattle.hv_plan.specs.Regions.{region_causes, is_range, is_part, keeps_sort, has_no_area, form_by, sort_of, type_of, base_of, size_of, offset_of, area_of, is_named, source_of}
use Rattle.hv_plan.specs.declared.sort.Sort.{Sort}
use Rattle.hv_plan.specs.declared.sort.Sort.TheVariants.{Ram, Rom, Device, Real, Alias}
use Rattle.hv_plan.specs.Guests.{faults_from}
use Rattle.hv_kinds.specs.declared.cause.Cause.{Cause}

-- both parts of an empty list are empty
pub no_parts : {X : Type 0} (xs ys : List X) → xs ++ ys ≡ [] → (xs ≡ []) × (ys ≡ [])
no_parts [] ys is = (refl, is)
no_parts (x ∷ xs) ys is = absurd (cc is)

pub no_map : {X Y : Type 0} (f : X → Y) (xs : List X) → map f xs ≡ [] → xs ≡ []
no_map f [] is = refl
no_map f (x ∷ xs) is = absurd (cc is)

-- a cause that isn't there
pub not_when : (test : Bool) (cause : Cause) → when test cause ≡ [] → test ≡ false
not_when true cause is = absurd (cc is)
not_when false cause is = refl

pub passes_when : (test : Bool) (cause : Cause) → when (not test) cause ≡ [] → test ≡ true
passes_when true cause is = refl
passes_when false cause is = absurd (cc is)

-- where items have no faults, none has a cause
pub no_causes : {X : Type 0} (above : List (List ℕ)) (name : X → List ℕ) (causes : ℕ → X → List Cause) (row : ℕ) (items : List X) → faults_from above name causes row items ≡ []
    → (k : ℕ) (d : X) → k < length items → causes (row + k) (get_or items k d) ≡ []
no_causes above name causes row [] none k d lt = absurd (omega arith)
no_causes above name causes row (x ∷ items) none zero d lt =
    let here : row ≡ row + 0 = omega arith in
    subst (λ (n : ℕ). causes n x ≡ []) here (no_map (λ cause. (path_text (above ++ name x ∷ []), cause)) (causes row x) (no_parts _ _ none).0)
no_causes above name causes row (x ∷ items) none (suc k) d lt =
    let there : row + 1 + k ≡ row + suc k = omega arith in
    subst (λ (n : ℕ). causes n (get_or items k d) ≡ []) there (no_causes above name causes (row + 1) items (no_parts _ _ none).1 k d (omega arith))

-- the bounds of a number that is there
pub bounds : (low high n : ℕ) → is_within low high (Some n) ≡ true → (low ≤ n) × (n ≤ high)
bounds low high n is = grind (arith, nat_tests)

vcpu_by : (start priority slice : Option ℕ) → option_map_or (λ s. eqb (s % 4) 0) start false ≡ true → is_within 0 7 priority ≡ true → is_within 1 1000 slice ≡ true
    → IsVcpuPlan (record { start = unwrap_or start 0; priority = unwrap_or priority 0; slice = unwrap_or slice 0 })
vcpu_by None priority slice begins urgent long = absurd (false≢true begins)
vcpu_by (Some start) None slice begins urgent long = absurd (false≢true urgent)
vcpu_by (Some start) (Some priority) None begins urgent long = absurd (false≢true long)
vcpu_by (Some start) (Some priority) (Some slice) begins urgent long = record {
  start = grind (arith, nat_tests);
  priority = omega (arith, (bounds 0 7 priority urgent).1);
  least_slice = (bounds 1 1000 slice long).0;
  most_slice = (bounds 1 1000 slice long).1;
}

-- a VCPU of which nothing is wrong keeps the rules
pub good_vcpu : (node : Node) → vcpu_causes node ≡ [] → IsVcpuPlan (vcpu_plan node)
good_vcpu node none =
    let good : is_vcpu node ≡ true = passes_when _ _ (no_parts _ _ none).1 in
    let parts = and_parts _ (is_within 1 1000 (slice_of node)) good in
    let front = and_parts _ (is_within 0 7 (priority_of node)) parts.0 in
    vcpu_by (start_of node) (priority_of node) (slice_of node) front.0 front.1 parts.1

-- where something holds of each item with its row, it holds of all
pub all_rows : {X : Type 0} (P : ℕ × X → Type 0) (row : ℕ) (xs : List X) → ((k : ℕ) (d : X) → k < length xs → P (row + k, get_or xs k d)) → All P (enumerate_from row xs)
all_rows P row [] each = All-nil P
all_rows P row (x ∷ xs) each =
    let here : row + 0 ≡ row = omega arith in
    All-cons P (row, x) (enumerate_from (row + 1) xs) (subst (λ (n : ℕ). P (n, x)) here (each 0 x (omega arith)))
    (all_rows P (row + 1) xs (λ k d lt. let there : row + suc k ≡ row + 1 + k = omega arith in subst (λ (n : ℕ). P (n, get_or xs k d)) there (each (suc k) d (omega arith))))

-- what a search finds is there
found_at : {X : Type 0} (test : X → Bool) (row : ℕ) (xs : List X) (found : ℕ) → position_from test row xs ≡ Some found → (k : ℕ) × (x : X) × (found ≡ row + k) × (k < length xs) × (slice_get xs k ≡ Some x)
found_at test row [] found is = absurd (cc is)
found_at test row (x ∷ xs) found is = found_first (test x) row x xs found is (found_at test (row + 1) xs found) where
  found_first : (b : Bool) (row : ℕ) (x : _) (xs : List _) (found : ℕ) → cond b (Some row) (position_from test (row + 1) xs) ≡ Some found
      → (position_from test (row + 1) xs ≡ Some found → (k : ℕ) × (y : _) × (found ≡ row + 1 + k) × (k < length xs) × (slice_get xs k ≡ Some y))
      → (k : ℕ) × (y : _) × (found ≡ row + k) × (k < length (x ∷ xs)) × (slice_get (x ∷ xs) k ≡ Some y)
  found_first true row x xs found is more = let same : row ≡ found = cc is in (0, x, omega arith, omega arith, refl)
  found_first false row x xs found is more = let rest = more is in (suc rest.0, rest.1, omega arith, omega arith, rest.4)

-- a range that is one
range_by : (kind : Option AddressType) (base size : Option ℕ) → is_range kind base size ≡ true → (1 ≤ unwrap_or size 0) × (unwrap_or base 0 + unwrap_or size 0 ≤ end_of (unwrap_or kind Memory))
range_by None base size is = absurd (false≢true is)
range_by (Some kind) None size is = absurd (false≢true is)
range_by (Some kind) (Some base) None is = absurd (false≢true is)
range_by (Some kind) (Some base) (Some size) is =
    let parts = and_parts (leb 1 size) (leb (base + size) (end_of kind)) is in
    let some : leb 1 size ≡ true = parts.0 in
    let range : leb (base + size) (end_of kind) ≡ true = parts.1 in
    (grind (arith, nat_tests), grind (arith, nat_tests))

at_most : (low high : ℕ) (number : Option ℕ) → is_within low high number ≡ true → unwrap_or number 0 ≤ high
at_most low high None is = absurd (false≢true is)
at_most low high (Some number) is = (bounds low high number is).1

form_fits : (areas : List (List ℕ × ℕ)) (node : Node) (sort : Option Sort) → is_none sort ≡ false → keeps_sort areas node sort ≡ true → FitsForm (unwrap_or (size_of node) 0) (form_by areas node sort)
form_fits areas node None some keeps = absurd (false≢true (sym some))
form_fits areas node (Some Ram) some keeps = at_most 1 16777216 (size_of node) keeps
form_fits areas node (Some Rom) some keeps = at_most 1 16777216 (size_of node) keeps
form_fits areas node (Some Device) some keeps = tt
form_fits areas node (Some Real) some keeps = tt
form_fits areas node (Some Alias) some keeps = tt

part_by : (offset size : Option ℕ) (area : List ℕ × ℕ) → is_part offset size (Some area.1) ≡ true → is_some size ≡ true → unwrap_or offset 0 + unwrap_or size 0 ≤ area.1
part_by None size area is some = absurd (false≢true is)
part_by (Some offset) None area is some = absurd (false≢true some)
part_by (Some offset) (Some size) area is some = grind (arith, nat_tests)

has_bytes : (areas : List (List ℕ × ℕ)) (row : ℕ) (offset size : Option ℕ) (area : List ℕ × ℕ) → slice_get areas row ≡ Some area → is_part offset size (option_map (λ it. it.1) (slice_get areas row)) ≡ true → is_some size ≡ true
    → HasBytes (unwrap_or offset 0 + unwrap_or size 0) (slice_get areas row)
has_bytes areas row offset size area there is some =
    let part : is_part offset size (Some area.1) ≡ true = subst (λ (it : Option (List ℕ × ℕ)). is_part offset size (option_map (λ a. a.1) it) ≡ true) there is in
    subst (HasBytes (unwrap_or offset 0 + unwrap_or size 0)) (sym there) (part_by offset size area part some)

-- a real region lies in its area
area_found : (areas : List (List ℕ × ℕ)) (name : Option (List ℕ)) (found : ℕ) → option_and_then (λ n. position_from (is_named n) 0 areas) name ≡ Some found → (area : List ℕ × ℕ) × (slice_get areas found ≡ Some area)
area_found areas None found is = absurd (cc is)
area_found areas (Some name) found is =
    let at = found_at (is_named name) 0 areas found is in
    let same : found ≡ at.0 = omega (arith, at.2) in
    (at.1, ap (slice_get areas) same ∙ at.4)

lies_in : (areas : List (List ℕ × ℕ)) (node : Node) (row : Option ℕ) → area_of areas node ≡ row → is_none row ≡ false → is_some (size_of node) ≡ true
    → is_part (offset_of node) (size_of node) (option_and_then (λ area. option_map (λ it. it.1) (slice_get areas area)) row) ≡ true
    → HasBytes (unwrap_or (offset_of node) 0 + unwrap_or (size_of node) 0) (slice_get areas (unwrap_or row 0))
lies_in areas node None is some size part = absurd (false≢true (sym some))
lies_in areas node (Some row) is some size part =
    let there = area_found areas (text_of node (codes "host_area")) row is in
    has_bytes areas row (offset_of node) (size_of node) there.0 there.1 part size

lies_by : (areas : List (List ℕ × ℕ)) (node : Node) (sort : Option Sort) → has_no_area areas node sort ≡ false → keeps_sort areas node sort ≡ true → is_some (size_of node) ≡ true → LiesInArea areas (unwrap_or (size_of node) 0) (form_by areas node sort)
lies_by areas node None has keeps some = tt
lies_by areas node (Some Ram) has keeps some = tt
lies_by areas node (Some Rom) has keeps some = tt
lies_by areas node (Some Device) has keeps some = tt
lies_by areas node (Some Real) has keeps some = lies_in areas node (area_of areas node) refl has some keeps
lies_by areas node (Some Alias) has keeps some = tt

-- links lead to regions and to sources from 1 to 31
source_by : (cell : Option ℕ) (source : ℕ) → (if is_within 1 31 cell then cell else None) ≡ Some source → (1 ≤ source) × (source ≤ 31)
source_by None source is = absurd (cc is)
source_by (Some number) source is = within (is_within 1 31 (Some number)) number source refl is where
  within : (test : Bool) (number source : ℕ) → is_within 1 31 (Some number) ≡ test → (if test then Some number else None) ≡ Some source → (1 ≤ source) × (source ≤ 31)
  within true number source passes is = let same : number ≡ source = cc is in let both = bounds 1 31 number passes in (omega (arith, both.0, same), omega (arith, both.1, same))
  within false number source passes is = absurd (cc is)

link_pair : (row source : Option ℕ) → ((r : ℕ) → row ≡ Some r → r < 16) → ((s : ℕ) → source ≡ Some s → (1 ≤ s) × (s ≤ 31)) → IsLink (option_and_then (λ r. option_map (λ s. (r, s)) source) row)
link_pair None source rows sources = tt
link_pair (Some row) None rows sources = tt
link_pair (Some row) (Some source) rows sources = let both = sources source refl in (rows row refl, both.0, both.1)

row_below : (phandle : Option ℕ) (row : ℕ → Option ℕ) → ((p r : ℕ) → row p ≡ Some r → r < 16) → (r : ℕ) → option_and_then row phandle ≡ Some r → r < 16
row_below None row rows r is = absurd (cc is)
row_below (Some phandle) row rows r is = rows phandle r is

link_if : (test : Bool) (link : Option (ℕ × ℕ)) → IsLink link → IsLink (if test then link else None)
link_if true link is = is
link_if false link is = tt

pub is_link : (aspace : Option Node) (regions : List Node) (node : Node) → length regions ≤ 16 → IsLink (link_of aspace regions node)
is_link aspace regions node few =
    let row_at = λ (p : ℕ). position_from (has_phandle p) 0 regions in
    let row = option_and_then row_at (parent_phandle aspace node) in
    let rows = row_below (parent_phandle aspace node) row_at (λ p r is. let at = found_at (has_phandle p) 0 regions r is in omega (arith, at.2, at.3)) in
    link_if (interrupts node) (option_and_then (λ r. option_map (λ s. (r, s)) (source_of node)) row)
    (link_pair row (source_of node) rows (source_by (cell_of node (codes "interrupts"))))

some_size : (kind : Option AddressType) (base size : Option ℕ) → is_range kind base size ≡ true → is_some size ≡ true
some_size None base size is = absurd (false≢true is)
some_size (Some kind) None size is = absurd (false≢true is)
some_size (Some kind) (Some base) None is = absurd (false≢true is)
some_size (Some kind) (Some base) (Some size) is = refl

pub neither : (a b : Bool) → (a || b) ≡ false → (a ≡ false) × (b ≡ false)
neither true b is = absurd (false≢true (sym is))
neither false b is = (refl, is)

-- a region of which nothing is wrong by itself keeps the rules
pub good_region : (areas : List (List ℕ × ℕ)) (aspace : Option Node) (regions : List Node) (row : ℕ) (node : Node) → length regions ≤ 16 → region_causes areas node ≡ [] → IsRegionPlan (region_plan areas aspace regions row node)
good_region areas aspace regions row node few none =
    let behind = (no_parts _ _ none).1 in
    let kinds = no_parts _ _ behind in
    let forms = no_parts _ _ kinds.1 in
    let sorts = neither (is_none (sort_of node)) (is_none (type_of node)) (not_when _ _ kinds.0) in
    let good = and_parts (is_range (type_of node) (base_of node) (size_of node)) (keeps_sort areas node (sort_of node)) (passes_when _ _ forms.0) in
    let range = range_by (type_of node) (base_of node) (size_of node) good.0 in
    record {
      some = range.0;
      range = range.1;
      form = form_fits areas node (sort_of node) sorts.0 good.1;
      link = is_link aspace regions node few;
    }

pub good_area : (areas : List (List ℕ × ℕ)) (node : Node) → region_causes areas node ≡ [] → LiesInArea areas (unwrap_or (size_of node) 0) (form_by areas node (sort_of node))
good_area areas node none =
    let behind = (no_parts _ _ none).1 in
    let kinds = no_parts _ _ behind in
    let forms = no_parts _ _ kinds.1 in
    let good = and_parts (is_range (type_of node) (base_of node) (size_of node)) (keeps_sort areas node (sort_of node)) (passes_when _ _ forms.0) in
    lies_by areas node (sort_of node) (not_when _ _ forms.1) good.1 (some_size (type_of node) (base_of node) (size_of node) good.0)
