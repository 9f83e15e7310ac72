-- The harts, the areas and the guests of a host tree are good.
use Rattle.std.proofs.Common.{◌≡◌, ◌≢◌, ℕ, suc, ◌+◌, ◌<◌, ◌≤◌, ◌==◌, eq-eqb, Bool, true, false, not, ◌&&◌, if◌then◌else◌, refl, sym, ap, subst, ◌∙◌, List, [], ◌∷◌, ◌++◌, length, get_or, map, arith, Option, None, Some, Ok, Err}
use Rattle.std.specs.Prelude.{All}
use Rattle.std.specs.List.{AllByRecursion, enumerate_from}
use Rattle.std.proofs.lemmas.List.Elements.{All-nil}
use Rattle.hv_dtree.specs.Nodes.{name_of}
use Rattle.hv_dtree.specs.declared.node.Node.{Node}
use Rattle.hv_host.specs.Boards.{ArePlanned, IsBare, IsBoardOf, IsGoodHost, IsPlanned}
use Rattle.hv_host.specs.declared.board.Board.{Board}
use Rattle.hv_model.specs.Plans.{Planned}
use Rattle.hv_plan.proofs.HostKeeps.{host_keeps}
use Rattle.hv_plan.proofs.Keeps.{keeps, length_map}
use Rattle.hv_plan.proofs.RuleLemmas.{is_link, no_causes, no_parts, not_when}
use Rattle.hv_plan.specs.Guests.{IsPlan, alias_faults, aspace_of, faults_of, guest_node, in_regions, link_faults, own_faults, region_faults, regions_of, vcpu_faults, window_faults}
use Rattle.hv_plan.specs.Links.{interrupts, leads_from, link_causes, link_of, region_plan}
use Rattle.hv_plan.specs.Rules.{IsAreaSize, KeepsRules}
use Rattle.hv_programs.specs.Owed.{IsParent}
use Rattle.hv_region.specs.Plans.{IsLink}
use Rattle.hv_region.specs.declared.plan.GuestPlan.{GuestPlan}
use Rattle.hv_terminals.specs.Terminal.{HaveOtherParents}
use Rattle.hv_text.specs.declared.limits.TheConstants.{MOST_AREAS}
use Rattle.hv_bound_laws.specs.Openings.{AreGood, HostTreesAreGood, IsGuestGood, IsPlanGood}

-- interrupts go to another region where nothing is wrong with them

not-itself : (row : ℕ) (link : ℕ × ℕ) → (true && not (leads_from row (Some link))) ≡ false → row ≢ link.0
not-itself row link fine same = let here : (link.0 == row) ≡ true = eq-eqb link.0 row (sym same) in by (link.0 == row) here fine
  where
    by : (b : Bool) → b ≡ true → (true && not (not b)) ≡ false → ⊥
    by true is none = cc none
    by false is none = cc is

parent-by : (row : ℕ) (b : Bool) (link : Option (ℕ × ℕ)) → (b && not (leads_from row (if b then link else None))) ≡ false → IsLink (if b then link else None) → IsParent row (if b then link else None)
parent-by row false link fine is = tt
parent-by row true None fine is = tt
parent-by row true (Some link) fine is = (is.0, not-itself row link fine)

parent-of : (aspace : Option Node) (regions : List Node) (row : ℕ) (node : Node) → length regions ≤ 16 → link_causes aspace regions row node ≡ [] → IsParent row (link_of aspace regions node)
parent-of aspace regions row node few none =
    parent-by row (interrupts node) _ (not_when _ _ (no_parts _ _ none).0) (is_link aspace regions node few)

parents-from : (areas : List (List ℕ × ℕ)) (aspace : Option Node) (regions : List Node) (few : length regions ≤ 16) (row : ℕ) (nodes : List Node)
    → ((k : ℕ) (d : Node) → k < length nodes → link_causes aspace regions (row + k) (get_or nodes k d) ≡ [])
    → HaveOtherParents row (map (λ it. region_plan areas aspace regions it.0 it.1) (enumerate_from row nodes))
parents-from areas aspace regions few row [] none = tt
parents-from areas aspace regions few row (node ∷ nodes) none =
    let here : row + 0 ≡ row = omega arith in (
      parent-of aspace regions row node few (subst (λ (n : ℕ). link_causes aspace regions n node ≡ []) here (none 0 node (omega arith))),
      parents-from areas aspace regions few (row + 1) nodes
          (λ k d lt. let there : row + suc k ≡ row + 1 + k = omega arith in subst (λ (n : ℕ). link_causes aspace regions n (get_or nodes k d) ≡ []) there (none (suc k) d (omega arith))),
    )

-- a guest without faults has a good plan

length-rows : {X : Type 0} (row : ℕ) (xs : List X) → length (enumerate_from row xs) ≡ length xs
length-rows row [] = refl
length-rows row (x ∷ xs) = ap suc (length-rows (row + 1) xs)

guest-good : (areas : List (List ℕ × ℕ)) (guest : Node) (plan : GuestPlan) → faults_of areas guest ≡ [] → IsPlan areas guest plan → IsPlanGood areas plan
guest-good areas guest plan none is =
    let own = no_parts (own_faults guest) _ none in
    let vcpus = no_parts (vcpu_faults guest) _ own.1 in
    let regions = no_parts (region_faults areas guest) _ vcpus.1 in
    let links = no_parts (link_faults guest) (window_faults areas guest ++ alias_faults areas guest) regions.1 in
    let rules : KeepsRules areas plan = keeps areas guest plan none is in
    let aspace = aspace_of guest in
    let nodes = regions_of guest in
    let long : length plan.regions.items ≡ length nodes =
    ap length is.regions ∙ (length_map (λ it. region_plan areas aspace nodes it.0 it.1) (enumerate_from 0 nodes) ∙ length-rows 0 nodes) in
    let few : length nodes ≤ 16 = let most = rules.few_regions in omega (arith, most, long) in
    record {
      rules = rules;
      parents =
          subst (HaveOtherParents 0) (sym is.regions)
          (parents-from areas aspace nodes few 0 nodes (no_causes (in_regions (name_of guest)) name_of (link_causes aspace nodes) 0 nodes links.0));
    }

planned-good : (areas : List (List ℕ × ℕ)) (node : Option Node) (plan : Planned) → IsPlanned areas node plan → IsGuestGood areas plan
planned-good areas None plan is = absurd is
planned-good areas (Some guest) (Ok plan) is = guest-good areas guest plan is.0 is.1
planned-good areas (Some guest) (Err fault) is = tt

all-good : (areas : List (List ℕ × ℕ)) (root : Node) (names : List (List ℕ)) (plans : List Planned) → ArePlanned areas root names plans → AllByRecursion (IsGuestGood areas) plans
all-good areas root [] [] all = tt
all-good areas root (n ∷ ns) (p ∷ ps) all = (planned-good areas (guest_node root n) p all.0, all-good areas root ns ps all.1)
all-good areas root [] (p ∷ ps) all = absurd all
all-good areas root (n ∷ ns) [] all = absurd all

-- the board of a tree, and that of none

tree-good : (root : Node) (board : Board) → IsGoodHost root → IsBoardOf root board → AreGood board.host.harts board.host.areas.items board.plans.items
tree-good root board good is =
    let host = host_keeps root (Ok board.host) (good.limits, good.settings, is.host) in
    record {
      some_harts = host.least_harts;
      few_harts = host.most_harts;
      few_areas = host.few_areas;
      sizes = host.sizes;
      guests = all-good board.host.areas.items root board.host.guests.items board.plans.items is.plans;
    }

bare-good : (board : Board) → IsBare board → AreGood board.host.harts board.host.areas.items board.plans.items
bare-good board is =
    let harts = is.harts in
    record {
      some_harts = omega (arith, harts);
      few_harts = omega (arith, harts);
      few_areas = subst (λ (areas : List (List ℕ × ℕ)). length areas ≤ MOST_AREAS) (sym is.areas) (omega arith);
      sizes = subst (λ (areas : List (List ℕ × ℕ)). All (λ area. IsAreaSize area.1) areas) (sym is.areas) (All-nil (λ area. IsAreaSize area.1));
      guests = subst (λ (plans : List Planned). AllByRecursion (IsGuestGood board.host.areas.items) plans) (sym is.plans) tt;
    }

pub trees-good : HostTreesAreGood
trees-good None board says = bare-good board says
trees-good (Some text) board says = tree-good says.0 board says.2 says.3
