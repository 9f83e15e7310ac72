-- The guests of a tree and their plans.
use Rattle.std.proofs.Common.{◌≡◌, ◌≢◌, ℕ, zero, suc, ◌<◌, Bool, true, false, Option, Some, None, Result, List, [], ◌∷◌, ◌++◌, length, map, cond, get_or, nat_eq, refl, subst, arith}
use Rattle.std.specs.Prelude.{codes}
use Rattle.std.specs.Option.{option_and_then, option_map_or}
use Rattle.std.specs.Cmp.Lexicographic.{pointwise}
use Rattle.hv_dtree.specs.declared.node.Node.{Node}
use Rattle.hv_dtree.specs.Nodes.{name_of, children_of, child_named, node_at}
use Rattle.hv_region.specs.declared.plan.GuestPlan.{GuestPlan}
use Rattle.hv_plan.specs.Settings.{guests_of}
use Rattle.hv_plan.specs.Guests.{guest_node}
use Rattle.hv_region.specs.declared.fault.Fault.{Fault}
use Rattle.hv_host.specs.Boards.{IsPlanned, ArePlanned}

-- one guest more
pub planned-more : (areas : List (List ℕ × ℕ)) (root : Node) (names : List (List ℕ)) (plans : List (Result GuestPlan Fault)) (name : List ℕ) (plan : Result GuestPlan Fault)
    → ArePlanned areas root names plans → IsPlanned areas (guest_node root name) plan → ArePlanned areas root (names ++ name ∷ []) (plans ++ plan ∷ [])
planned-more areas root [] [] name plan all one = (one, tt)
planned-more areas root (n ∷ ns) (p ∷ ps) name plan all one = (all.0, planned-more areas root ns ps name plan all.1 one)
planned-more areas root [] (p ∷ ps) name plan all one = absurd all
planned-more areas root (n ∷ ns) [] name plan all one = absurd all

same-name : (name : List ℕ) → pointwise nat_eq name name ≡ true
same-name [] = refl
same-name (b ∷ bs) = rw (Rattle.std.proofs.Common.eq-eqb b b refl) (same-name bs)

-- a child of a name is found where one has the name
child-there : (name : List ℕ) (children : List Node) (k : ℕ) → k < length (map name_of children) → get_or (map name_of children) k [] ≡ name → child_named name children ≢ None
child-there name [] k lt is none = absurd (omega (arith, lt))
child-there name (child ∷ children) zero lt is none =
    let same : pointwise nat_eq (name_of child) name ≡ true = subst (λ (n : List ℕ). pointwise nat_eq (name_of child) n ≡ true) is (same-name (name_of child)) in
    absurd (cc (rw same at none))
child-there name (child ∷ children) (suc k) lt is none =
    let Goal : Bool → Type 0 = λ t. (cond t (Some child) (child_named name children)) ≡ None → ⊥ in
    (elim (pointwise nat_eq (name_of child) name) as Goal [
      | true ↦ λ e. absurd (cc e)
      | false ↦ λ e. child-there name children k (omega (arith, lt)) is e
    ]) none

in-child : (name : List ℕ) (parent : Option Node) (k : ℕ) → k < length (map name_of (option_map_or children_of parent [])) → get_or (map name_of (option_map_or children_of parent [])) k [] ≡ name
    → option_and_then (node_at (name ∷ [])) parent ≢ None
in-child name None k lt is none = absurd (omega (arith, lt))
in-child name (Some parent) k lt is none =
    let Goal : Option Node → Type 0 = λ found. found ≢ None → option_and_then (node_at []) found ≡ None → ⊥ in
    (elim (child_named name (children_of parent)) as Goal [
      | None ↦ λ there e. there refl
      | Some node ↦ λ there e. absurd (cc e)
    ]) (child-there name (children_of parent) k lt is) none

-- a guest of the tree has a node
pub guest-there : (root : Node) (name : List ℕ) (k : ℕ) → k < length (map name_of (guests_of root)) → get_or (map name_of (guests_of root)) k [] ≡ name → guest_node root name ≢ None
guest-there root name k lt is = in-child name (child_named (codes "guests") (children_of root)) k lt is
