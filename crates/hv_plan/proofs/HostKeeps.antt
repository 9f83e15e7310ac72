-- That settings keep the rules.
use Rattle.std.proofs.Common.{◌≡◌, ℕ, ◌≤◌, Bool, true, false, not, cond, List, [], ◌∷◌, length, map, filter, refl, ap, subst, ◌∙◌, arith}
use Rattle.std.specs.Prelude.{Option, Some, None, Result, Ok, Err, IfOk, unwrap_or, if◌then◌else◌}
use Rattle.std.specs.List.{All}
use Rattle.std.proofs.lemmas.Bool.{false≢true, and_parts}
use Rattle.std.proofs.lemmas.List.Elements.{All-map, All-same, All-nil, All-cons}
use Rattle.hv_kinds.specs.declared.limit.LimitName.{LimitName}
use Rattle.hv_kinds.specs.declared.limit.LimitName.TheVariants.{Nest, Areas, Guests}
use Rattle.hv_dtree.specs.Nodes.{name_of}
use Rattle.hv_dtree.specs.declared.node.Node.{Node}
use Rattle.hv_plan.specs.Properties.{is_within}
use Rattle.hv_plan.specs.Settings.{Settles, harts_of, turns_of, areas_of, guests_of, area_size, is_machine, is_area, machine_faults, area_faults, area_path, area_of_node, over, nest_of}
use Rattle.hv_plan.specs.Rules.{KeepsHostRules, IsAreaSize}
use Rattle.hv_plan.specs.declared.host.Host.{Host}
use Rattle.hv_plan.specs.declared.refusal.HostRefusal.{HostRefusal}
use Rattle.hv_plan.specs.declared.refusal.HostRefusal.TheVariants.{BadHost, Limit, Memory}
use Rattle.hv_plan.proofs.RuleLemmas.{no_parts, no_map, bounds}
use Rattle.hv_plan.proofs.Keeps.{at_least, length_map}

-- a limit that isn't passed
not_over : (test : Bool) (passed : LimitName × ℕ) → (if test then [] else passed ∷ []) ≡ [] → test ≡ true
not_over true passed is = refl
not_over false passed is = absurd (cc is)

no_fault : (test : Bool) (path : List ℕ) → (if test then [] else path ∷ []) ≡ [] → test ≡ true
no_fault true path is = refl
no_fault false path is = absurd (cc is)

-- where nothing is left of a filter, all items fail its test
all_fail : (test : Bool) (node : Node) (rest : List Node) → cond (not test) (node ∷ rest) rest ≡ [] → (test ≡ true) × (rest ≡ [])
all_fail true node rest is = (refl, is)
all_fail false node rest is = absurd (cc is)

size_by : (size : Option ℕ) → is_within 1 16777216 size ≡ true → IsAreaSize (unwrap_or size 0)
size_by None is = absurd (false≢true is)
size_by (Some size) is = record { least = (bounds 1 16777216 size is).0; most = (bounds 1 16777216 size is).1 }

good_sizes : (nodes : List Node) → filter (λ node. not (is_area node)) nodes ≡ [] → All (λ node. IsAreaSize (unwrap_or (area_size node) 0)) nodes
good_sizes [] none = All-nil (λ node. IsAreaSize (unwrap_or (area_size node) 0))
good_sizes (node ∷ nodes) none =
    let parts = all_fail (is_area node) node (filter (λ node. not (is_area node)) nodes) none in
    All-cons (λ node. IsAreaSize (unwrap_or (area_size node) 0)) node nodes (size_by (area_size node) parts.0) (good_sizes nodes parts.1)

pub host_keeps : (root : Node) (result : Result Host HostRefusal) → Settles root result → IfOk result KeepsHostRules
host_keeps root (Ok host) settles =
    let limits = no_parts (over Nest 32 (nest_of root)) _ settles.0 in
    let counts = no_parts (over Areas 8 (length (areas_of root))) (over Guests 32 (length (guests_of root))) limits.1 in
    let faults = no_parts (machine_faults root) (area_faults (areas_of root)) settles.1 in
    let is = settles.2 in
    let machine = and_parts (is_within 1 8 (harts_of root)) (is_within 0 100000 (turns_of root)) (no_fault (is_machine root) _ faults.0) in
    let harts = bounds 1 8 host.harts (subst (λ (n : Option ℕ). is_within 1 8 n ≡ true) is.harts machine.0) in
    let turns = bounds 0 100000 host.turns (subst (λ (n : Option ℕ). is_within 0 100000 n ≡ true) is.turns machine.1) in
    let few_areas : length (areas_of root) ≤ 8 = at_least (length (areas_of root)) 8 (not_over _ _ counts.0) in
    let few_guests : length (guests_of root) ≤ 32 = at_least (length (guests_of root)) 32 (not_over _ _ counts.1) in
    let areas_len : length host.areas.items ≡ length (areas_of root) = ap length is.areas ∙ length_map area_of_node (areas_of root) in
    let guests_len : length host.guests.items ≡ length (guests_of root) = ap length is.guests ∙ length_map name_of (guests_of root) in
    record {
      least_harts = harts.0;
      most_harts = harts.1;
      turns = turns.1;
      few_areas = omega (arith, areas_len, few_areas);
      sizes =
          All-same (λ area. IsAreaSize area.1) host.areas.items (map area_of_node (areas_of root)) is.areas
          (All-map (λ area. IsAreaSize area.1) area_of_node (areas_of root) (good_sizes (areas_of root) (no_map area_path _ faults.1)));
      few_guests = omega (arith, guests_len, few_guests);
    }
host_keeps root (Err (BadHost path)) settles = tt
host_keeps root (Err (Limit name number)) settles = tt
host_keeps root (Err (Memory e)) settles = tt
