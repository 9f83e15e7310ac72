-- That boards keep the rules.
use Rattle.std.proofs.Common.{◌≡◌, ℕ, Bool, true, false, cond, nat_eq, List, [], ◌∷◌, refl, sym, ap, ◌∙◌}
use Rattle.std.specs.Prelude.{Option, Some, None, Result, Ok, Err, IfOk, codes}
use Rattle.std.specs.List.{AllByRecursion, AllZip}
use Rattle.std.specs.Option.{option_and_then}
use Rattle.std.specs.Cmp.Lexicographic.{pointwise}
use Rattle.std.proofs.lemmas.Bool.{and_parts, eqb-true}
use Rattle.std.proofs.lemmas.Option.{same_Some}
use Rattle.hv_dtree.specs.Nodes.{name_of, children_of, child_named, node_at}
use Rattle.hv_dtree.specs.declared.node.Node.{Node}
use Rattle.hv_region.specs.declared.fault.Fault.{Fault}
use Rattle.hv_region.specs.declared.plan.GuestPlan.{GuestPlan}
use Rattle.hv_plan.specs.Guests.{guest_node}
use Rattle.hv_plan.specs.Rules.{IsGood}
use Rattle.hv_plan.proofs.HostKeeps.{host_keeps}
use Rattle.hv_plan.proofs.Keeps.{keeps}
use Rattle.hv_host.specs.Boards.{ArePlanned, IsBoardOf, IsGoodHost, IsPlanned, SaysBoard}
use Rattle.hv_host.specs.Rules.{HasName, KeepsBoardRules}
use Rattle.hv_host.specs.declared.board.Board.{Board}
use Rattle.hv_host.specs.declared.refusal.BoardRefusal.{BoardRefusal}

-- equal bytes are the same text
equal-text : (one other : List ℕ) → pointwise nat_eq one other ≡ true → one ≡ other
equal-text [] [] is = refl
equal-text [] (b ∷ bs) is = absurd (cc is)
equal-text (a ∷ as') [] is = absurd (cc is)
equal-text (a ∷ as') (b ∷ bs) is =
    let parts = and_parts (nat_eq a b) (pointwise nat_eq as' bs) is in
    let first : a ≡ b = eqb-true a b parts.0 in
    let rest : as' ≡ bs = equal-text as' bs parts.1 in
    cc (first, rest)

-- a child that is found by a name has it
child-has : (name : List ℕ) (children : List Node) (node : Node) → child_named name children ≡ Some node → name_of node ≡ name
child-has name [] node is = absurd (cc is)
child-has name (child ∷ children) node is =
    let Goal : Bool → Type 0 = λ t. pointwise nat_eq (name_of child) name ≡ t → (cond t (Some child) (child_named name children)) ≡ Some node → name_of node ≡ name in
    (elim (pointwise nat_eq (name_of child) name) as Goal [
      | true ↦ λ same e. ap name_of (sym (same_Some child node e)) ∙ equal-text (name_of child) name same
      | false ↦ λ same e. child-has name children node e
    ]) refl is

in-node : (name : List ℕ) (found : Option Node) (node : Node) → option_and_then (node_at []) found ≡ Some node → found ≡ Some node
in-node name None node is = absurd (cc is)
in-node name (Some found) node is = is

below-has : (name : List ℕ) (parent : Option Node) (node : Node) → option_and_then (node_at (name ∷ [])) parent ≡ Some node → name_of node ≡ name
below-has name None node is = absurd (cc is)
below-has name (Some parent) node is = child-has name (children_of parent) node (in-node name (child_named name (children_of parent)) node is)

-- a guest has the name by which its node is found
guest-has : (root : Node) (name : List ℕ) (node : Node) → guest_node root name ≡ Some node → name_of node ≡ name
guest-has root name node is = below-has name (child_named (codes "guests") (children_of root)) node is

-- what is planned has its guest's name, and is good
planned-has : (areas : List (List ℕ × ℕ)) (name : List ℕ) (node : Option Node) (plan : Result GuestPlan Fault) → ((guest : Node) → node ≡ Some guest → name_of guest ≡ name) → IsPlanned areas node plan → HasName name plan
planned-has areas name None plan named is = absurd is
planned-has areas name (Some guest) (Ok plan) named is = is.1.name ∙ named guest refl
planned-has areas name (Some guest) (Err fault) named is = tt

planned-good : (areas : List (List ℕ × ℕ)) (node : Option Node) (plan : Result GuestPlan Fault) → IsPlanned areas node plan → IsGood areas plan
planned-good areas None plan is = absurd is
planned-good areas (Some guest) (Ok plan) is = keeps areas guest plan is.0 is.1
planned-good areas (Some guest) (Err fault) is = tt

all-named : (areas : List (List ℕ × ℕ)) (root : Node) (names : List (List ℕ)) (plans : List (Result GuestPlan Fault)) → ArePlanned areas root names plans → AllZip HasName names plans
all-named areas root [] [] all = tt
all-named areas root (n ∷ ns) (p ∷ ps) all = (planned-has areas n (guest_node root n) p (guest-has root n) all.0, all-named areas root ns ps all.1)
all-named areas root [] (p ∷ ps) all = absurd all
all-named areas root (n ∷ ns) [] all = absurd all

all-good : (areas : List (List ℕ × ℕ)) (root : Node) (names : List (List ℕ)) (plans : List (Result GuestPlan Fault)) → ArePlanned areas root names plans → AllByRecursion (IsGood areas) plans
all-good areas root [] [] all = tt
all-good areas root (n ∷ ns) (p ∷ ps) all = (planned-good areas (guest_node root n) p all.0, all-good areas root ns ps all.1)
all-good areas root [] (p ∷ ps) all = absurd all
all-good areas root (n ∷ ns) [] all = absurd all

-- the board of a tree keeps the rules
tree-keeps : (root : Node) (board : Board) → IsGoodHost root → IsBoardOf root board → KeepsBoardRules board
tree-keeps root board good is =
    record {
      host = host_keeps root (Ok board.host) (good.limits, good.settings, is.host);
      named = all-named board.host.areas.items root board.host.guests.items board.plans.items is.plans;
      plans = all-good board.host.areas.items root board.host.guests.items board.plans.items is.plans;
    }

-- and each board that a text says
pub said-keeps : (text : List ℕ) (said : Result Board BoardRefusal) → SaysBoard text said → IfOk said KeepsBoardRules
said-keeps text (Ok board) says = tree-keeps says.0 board says.2 says.3
said-keeps text (Err why) says = tt
