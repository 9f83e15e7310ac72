-- The names in the tree of a source keep the rules.
use Rattle.std.proofs.Common.{◌≡◌, ◌≢◌, ℕ, zero, suc, ◌+◌, ◌<◌, Bool, true, false, cond, List, [], ◌∷◌, ◌++◌, length, take, drop, refl, sym, ap, subst, ◌∙◌, arith, inl, inr, take-append-drop}
use Rattle.std.specs.Prelude.{Option, Some, None, map, ◌⊎◌, ◌&&◌, ◌||◌, ◌==◌, nat_eq, nat_lt, codes}
use Rattle.std.specs.List.{All, AllPairs, AllByRecursion, Contains, list_all, list_any, prefix_len, flat_map}
use Rattle.std.specs.Char.{is_ascii_alphanumeric, IsAsciiAlphanumeric}
use Rattle.std.specs.Int.{is_in_range, IsInRange}
use Rattle.std.specs.Cmp.Lexicographic.{pointwise, bytes_decides}
use Rattle.std.proofs.lemmas.Bool.{ltb-true, leb-true, eqb-true}
use Rattle.std.proofs.lemmas.List.{append-nil}
use Rattle.std.proofs.lemmas.List.Elements.{All-nil, All-cons}
use Rattle.std.proofs.lemmas.List.Kept.{AllPairs-cons}
use Rattle.std.proofs.lemmas.List.Folds.{length-prefix_len}
use Rattle.hv_dtree.specs.Names.{IsNodeByte, IsPropByte, IsPropName, IsUnitAddress, IsNodeName}
use Rattle.hv_dtree.specs.Nodes.{name_of, props_of, children_of, nodes_of, HasGoodNames}
use Rattle.hv_dtree.specs.declared.node.Prop.{Prop}
use Rattle.hv_dtree.specs.declared.node.Node.{Node}
use Rattle.hv_dtree.specs.declared.node.Node.TheOpen.{Node-F}
use Rattle.hv_dtree.specs.declared.node.Node.TheViews.{roll-Node, out-roll-Node}
use Rattle.hv_dtree.proofs.Nodes.{nodes_out}
use Rattle.hv_dtgram.specs.Lexed.{is_node_byte, is_prop_byte, is_prop_name, is_unit_address, is_node_name}
use Rattle.hv_dtgram.specs.Contents.{PropSyntax, NodesSyntax, none, node, props_entries, nodes_entries, IsWellNamed}
use Rattle.hv_dts.specs.Bytes.{Links, is_phandle_name}
use Rattle.hv_dts.specs.Rules.{has_name, place_if, props_repeated, nodes_repeated}
use Rattle.hv_dts.specs.Resolved.{prop_tree, number_prop, given_first, given_next, given_behind, nodes_trees}
use Rattle.hv_dtgram.specs.declared.contents.Entry.{Entry}
use Rattle.hv_dtgram.specs.declared.contents.Entry.TheVariants as entry

-- tests and the facts that they say
pub and_both : (a b : Bool) → (a && b) ≡ true → (a ≡ true) × (b ≡ true)
and_both true b e = (refl, e)
and_both false b e = absurd (cc e)

pub or_cases : (a b : Bool) → (a || b) ≡ true → (a ≡ true) ⊎ (b ≡ true)
or_cases true b e = inl refl
or_cases false b e = inr e

pub or_neither : (a b : Bool) → (a || b) ≡ false → (a ≡ false) × (b ≡ false)
or_neither true b e = absurd (cc e)
or_neither false b e = (refl, e)

pub all_from : {X : Type 0} (P : X → Type 0) (xs : List X) → AllByRecursion P xs → All P xs
all_from P [] all = All-nil P
all_from P (x ∷ xs) all = All-cons P x xs all.0 (all_from P xs all.1)

tested : {X : Type 0} (P : X → Type 0) (p : X → Bool) → ((x : X) → p x ≡ true → P x) → (xs : List X) → list_all p xs ≡ true → All P xs
tested P p says [] e = All-nil P
tested P p says (x ∷ xs) e =
    let both = and_both (p x) (list_all p xs) e in
    All-cons P x xs (says x both.0) (tested P p says xs both.1)

in_range : (lo hi c : ℕ) → is_in_range lo hi c ≡ true → IsInRange lo hi c
in_range lo hi c e = let both = and_both _ _ e in (leb-true lo c both.0, leb-true c hi both.1)

alphanumeric : (b : ℕ) → is_ascii_alphanumeric b ≡ true → IsAsciiAlphanumeric b
alphanumeric b e = elim (or_cases (is_in_range 48 57 b || is_in_range 65 90 b) (is_in_range 97 122 b) e) [
  | inl one ↦ elim (or_cases (is_in_range 48 57 b) (is_in_range 65 90 b) one) [
    | inl digit ↦ inl (inl (in_range 48 57 b digit))
    | inr upper ↦ inl (inr (in_range 65 90 b upper))
  ]
  | inr lower ↦ inr (in_range 97 122 b lower)
]

contained : (b : ℕ) (marks : List ℕ) → list_any (λ mark. mark == b) marks ≡ true → Contains marks b
contained b [] e = absurd (cc e)
contained b (m ∷ marks) e = elim (or_cases (m == b) (list_any (λ mark. mark == b) marks) e) [
  | inl here ↦ (zero, omega arith, eqb-true m b here)
  | inr there ↦ (let below = contained b marks there in (suc below.0, omega (arith, below.1), below.2))
]

node_byte : (b : ℕ) → is_node_byte b ≡ true → IsNodeByte b
node_byte b e = elim (or_cases (is_ascii_alphanumeric b) (list_any (λ mark. mark == b) (codes ",._+-")) e) [
  | inl letter ↦ inl (alphanumeric b letter)
  | inr mark ↦ inr (contained b (codes ",._+-") mark)
]

prop_byte : (b : ℕ) → is_prop_byte b ≡ true → IsPropByte b
prop_byte b e = elim (or_cases (is_ascii_alphanumeric b) (list_any (λ mark. mark == b) (codes ",._+-?#")) e) [
  | inl letter ↦ inl (alphanumeric b letter)
  | inr mark ↦ inr (contained b (codes ",._+-?#") mark)
]

pub prop_named : (name : List ℕ) → is_prop_name name ≡ true → IsPropName name
prop_named name e =
    let some = and_both (nat_lt 0 (length name)) (nat_lt (length name) 32 && list_all is_prop_byte name) e in
    let short = and_both (nat_lt (length name) 32) (list_all is_prop_byte name) some.1 in
    record { some = ltb-true 0 (length name) some.0; short = ltb-true (length name) 32 short.0; each = tested IsPropByte is_prop_byte prop_byte name short.1 }

prefix_step : (p : ℕ → Bool) (x : ℕ) (xs : List ℕ) (b : Bool) → p x ≡ b → list_all p (take (prefix_len p xs) xs) ≡ true → list_all p (take (cond b (1 + prefix_len p xs) 0) (x ∷ xs)) ≡ true
prefix_step p x xs true e all =
    let n = prefix_len p xs in
    let grow : 1 + n ≡ suc n = omega arith in
    ap (λ (k : ℕ). list_all p (take k (x ∷ xs))) grow ∙ ap (λ (b : Bool). b && list_all p (take n xs)) e ∙ all
prefix_step p x xs false e all = refl

prefix_all : (p : ℕ → Bool) (xs : List ℕ) → list_all p (take (prefix_len p xs) xs) ≡ true
prefix_all p [] = refl
prefix_all p (x ∷ xs) = prefix_step p x xs (p x) refl (prefix_all p xs)

unit_address : (text : List ℕ) → is_unit_address text ≡ true → (text ≡ []) ⊎ IsUnitAddress text
unit_address [] e = inl refl
unit_address (b ∷ rest) e =
    let mark = and_both (b == 64) (nat_lt 0 (length rest) && list_all is_node_byte rest) e in
    let some = and_both (nat_lt 0 (length rest)) (list_all is_node_byte rest) mark.1 in
    inr (record {
      unit = rest;
      some = ltb-true 0 (length rest) some.0;
      each = tested IsNodeByte is_node_byte node_byte rest some.1;
      parts = ap (λ (m : ℕ). m ∷ rest) (eqb-true b 64 mark.0);
    })

pub node_named : (name : List ℕ) → is_node_name name ≡ true → IsNodeName name
node_named name e =
    let n = prefix_len is_node_byte name in
    let some = and_both (nat_lt 0 n) (nat_lt n 32 && is_unit_address (drop n name)) e in
    let short = and_both (nat_lt n 32) (is_unit_address (drop n name)) some.1 in
    let size : length (take n name) ≡ n = length-prefix_len is_node_byte name in
    let low : 0 < n = ltb-true 0 n some.0 in
    let high : n < 32 = ltb-true n 32 short.0 in
    record {
      base = take n name;
      rest = drop n name;
      some = omega arith;
      short = omega arith;
      each = tested IsNodeByte is_node_byte node_byte (take n name) (prefix_all is_node_byte name);
      unit = unit_address (drop n name) short.1;
      parts = sym (take-append-drop n name);
    }

-- names that differ
abbrev pub Distinct : List (List ℕ) → Type 0
Distinct [] = Unit {0}
Distinct (name ∷ names) = AllByRecursion (λ other. name ≢ other) names × Distinct names

pub mapped : {X Y : Type 0} (f : X → Y) (P : Y → Type 0) (xs : List X) → AllByRecursion P (map f xs) → AllByRecursion (λ x. P (f x)) xs
mapped f P [] all = tt
mapped f P (x ∷ xs) all = (all.0, mapped f P xs all.1)

pub pairs_from : {X : Type 0} (f : X → List ℕ) (xs : List X) → Distinct (map f xs) → AllPairs (λ one other. f one ≢ f other) xs
pairs_from f [] apart = λ i j d lt within. absurd (omega (arith, within))
pairs_from f (x ∷ xs) apart =
    AllPairs-cons (λ one other. f one ≢ f other) x xs (all_from (λ other. f x ≢ f other) xs (mapped f (λ other. f x ≢ other) xs apart.0)) (pairs_from f xs apart.1)

pub differs : (one other : List ℕ) → pointwise nat_eq one other ≡ false → one ≢ other
differs one other e same = let there = (bytes_decides one other).1 same in cc (there, e)

pub both_nil : {X : Type 0} (xs ys : List X) → xs ++ ys ≡ [] → (xs ≡ []) × (ys ≡ [])
both_nil [] ys e = (refl, e)
both_nil (x ∷ xs) ys e = absurd (cc e)

pub no_place : (there : Bool) (place : ℕ) → place_if there place ≡ [] → there ≡ false
no_place true place e = absurd (cc e)
no_place false place e = refl

abbrev pub prop_names : List PropSyntax → List (List ℕ)
prop_names props = map (λ prop. prop.name.name) props

abbrev pub node_names : NodesSyntax → List (List ℕ)
node_names none = []
node_names (node labels name props children rest) = name.name ∷ node_names rest

abbrev AllNew : List (List ℕ) → List (List ℕ) → Type 0
AllNew earlier names = AllByRecursion (λ name. has_name earlier name ≡ false) names

new_parts : (one : List ℕ) (earlier names : List (List ℕ)) → AllNew (one ∷ earlier) names → AllByRecursion (λ other. one ≢ other) names × AllNew earlier names
new_parts one earlier [] all = (tt, tt)
new_parts one earlier (n ∷ names) all =
    let here = or_neither (pointwise nat_eq one n) (has_name earlier n) all.0 in
    let below = new_parts one earlier names all.1 in
    ((differs one n here.0, below.0), (here.1, below.1))

pub props_new : (earlier : List (List ℕ)) (props : List PropSyntax) → props_repeated earlier props ≡ [] → Distinct (prop_names props) × AllNew earlier (prop_names props)
props_new earlier [] e = (tt, tt)
props_new earlier (p ∷ props) e =
    let parts = both_nil (place_if (has_name earlier p.name.name) p.name.place) (props_repeated (p.name.name ∷ earlier) props) e in
    let below = props_new (p.name.name ∷ earlier) props parts.1 in
    let split = new_parts p.name.name earlier (prop_names props) below.1 in
    ((split.0, below.0), (no_place (has_name earlier p.name.name) p.name.place parts.0, split.1))

-- what nodes that repeat no name have
pub record NodeNew (earlier : List (List ℕ)) (name : List ℕ) (props : List PropSyntax) (children rest : NodesSyntax) : Type 0 where
  pub here : has_name earlier name ≡ false
  pub within : props_repeated [] props ≡ []
  pub below : nodes_repeated [] children ≡ []
  pub behind : nodes_repeated (name ∷ earlier) rest ≡ []

pub node_new : (earlier : List (List ℕ)) (name : List ℕ) (place : ℕ) (props : List PropSyntax) (children rest : NodesSyntax)
    → place_if (has_name earlier name) place ++ (props_repeated [] props ++ (nodes_repeated [] children ++ nodes_repeated (name ∷ earlier) rest)) ≡ [] → NodeNew earlier name props children rest
node_new earlier name place props children rest e =
    let one = both_nil (place_if (has_name earlier name) place) (props_repeated [] props ++ (nodes_repeated [] children ++ nodes_repeated (name ∷ earlier) rest)) e in
    let two = both_nil (props_repeated [] props) (nodes_repeated [] children ++ nodes_repeated (name ∷ earlier) rest) one.1 in
    let three = both_nil (nodes_repeated [] children) (nodes_repeated (name ∷ earlier) rest) two.1 in
    record { here = no_place (has_name earlier name) place one.0; within = two.0; below = three.0; behind = three.1 }

pub nodes_new : (earlier : List (List ℕ)) (nodes : NodesSyntax) → nodes_repeated earlier nodes ≡ [] → Distinct (node_names nodes) × AllNew earlier (node_names nodes)
nodes_new earlier none e = (tt, tt)
nodes_new earlier (node labels name props children rest) e =
    let it = node_new earlier name.name name.place props children rest e in
    let below = nodes_new (name.name ∷ earlier) rest it.behind in
    let split = new_parts name.name earlier (node_names rest) below.1 in
    ((split.0, below.0), (it.here, split.1))

-- names of their forms
pub props_well : (props : List PropSyntax) (tail : List Entry) → AllByRecursion IsWellNamed (props_entries props tail) → AllByRecursion (λ name. is_prop_name name ≡ true) (prop_names props) × AllByRecursion IsWellNamed tail
props_well [] tail well = (tt, well)
props_well (p ∷ props) tail well = let below = props_well props tail well.1 in ((well.0, below.0), below.1)

pub nodes_well : (nodes : NodesSyntax) (tail : List Entry) → AllByRecursion IsWellNamed (nodes_entries nodes tail) → AllByRecursion (λ name. is_node_name name ≡ true) (node_names nodes) × AllByRecursion IsWellNamed tail
nodes_well none tail well = (tt, well)
nodes_well (node labels name props children rest) tail well =
    let after = entry.Close ∷ nodes_entries rest tail in
    let within = props_well props (nodes_entries children after) well.1 in
    let inner = nodes_well children after within.1 in
    let below = nodes_well rest tail inner.1.1 in
    ((well.0, below.0), below.1)

-- the names in a tree
name_is : (x : Node-F Node) → name_of (roll-Node x) ≡ x.name
name_is x = ap (λ y. y.name) (out-roll-Node x)

pub props_is : (x : Node-F Node) → props_of (roll-Node x) ≡ x.props
props_is x = ap (λ y. y.props) (out-roll-Node x)

pub children_is : (x : Node-F Node) → children_of (roll-Node x) ≡ x.children
children_is x = ap (λ y. y.children) (out-roll-Node x)

names_are : (links : Links) (nodes : NodesSyntax) (given : List (Option ℕ)) → map name_of (nodes_trees links nodes given) ≡ node_names nodes
names_are links none given = refl
names_are links (node labels name props children rest) given =
    let tree : Node-F Node = record { name = name.name; props = map (prop_tree links) props ++ number_prop (given_first given); children = nodes_trees links children (given_next given) } in
    λ i. name_is tree i ∷ names_are links rest (given_behind children (given_next given)) i

abbrev pub given_names : Option ℕ → List (List ℕ)
given_names None = []
given_names (Some number) = codes "phandle" ∷ []

prop_names_are : (links : Links) (props : List PropSyntax) (given : Option ℕ) → map (λ (prop : Prop). prop.name) (map (prop_tree links) props ++ number_prop given) ≡ prop_names props ++ given_names given
prop_names_are links [] None = refl
prop_names_are links [] (Some number) = refl
prop_names_are links (p ∷ props) given = ap (λ (ns : List (List ℕ)). p.name.name ∷ ns) (prop_names_are links props given)

-- no phandle is given beside one that is there
abbrev pub Free : Option ℕ → List PropSyntax → Type 0
Free None props = Unit {0}
Free (Some number) props = AllByRecursion (λ name. is_phandle_name name ≡ false) (prop_names props)

all_push : {X : Type 0} (P : X → Type 0) (xs : List X) (x : X) → AllByRecursion P xs → P x → AllByRecursion P (xs ++ x ∷ [])
all_push P [] x all holds = (holds, tt)
all_push P (y ∷ xs) x all holds = (all.0, all_push P xs x all.1 holds)

one_more : (names : List (List ℕ)) → AllByRecursion (λ name. is_phandle_name name ≡ false) names → Distinct names → Distinct (names ++ codes "phandle" ∷ [])
one_more [] free apart = (tt, tt)
one_more (n ∷ names) free apart =
    (all_push (λ other. n ≢ other) names (codes "phandle") apart.0 (differs n (codes "phandle") free.0), one_more names free.1 apart.1)

given_apart : (given : Option ℕ) (props : List PropSyntax) → Free given props → Distinct (prop_names props) → Distinct (prop_names props ++ given_names given)
given_apart None props free apart = subst Distinct (sym (append-nil (prop_names props))) apart
given_apart (Some number) props free apart = one_more (prop_names props) free apart

given_well : (given : Option ℕ) (names : List (List ℕ)) → AllByRecursion (λ name. is_prop_name name ≡ true) names → AllByRecursion (λ name. is_prop_name name ≡ true) (names ++ given_names given)
given_well None names well = subst (AllByRecursion (λ (name : List ℕ). is_prop_name name ≡ true)) (sym (append-nil names)) well
given_well (Some number) names well = all_push (λ (name : List ℕ). is_prop_name name ≡ true) names (codes "phandle") well refl

implied : {X : Type 0} (P Q : X → Type 0) → ((x : X) → P x → Q x) → (xs : List X) → AllByRecursion P xs → AllByRecursion Q xs
implied P Q says [] all = tt
implied P Q says (x ∷ xs) all = (says x all.0, implied P Q says xs all.1)

pub good_node : (links : Links) (name : List ℕ) (props : List PropSyntax) (given : Option ℕ) (nodes : NodesSyntax) (more : List (Option ℕ))
    → AllByRecursion (λ n. is_prop_name n ≡ true) (prop_names props) → Distinct (prop_names props) → Free given props
    → AllByRecursion (λ n. is_node_name n ≡ true) (node_names nodes) → Distinct (node_names nodes)
    → HasGoodNames (roll-Node (record { name = name; props = map (prop_tree links) props ++ number_prop given; children = nodes_trees links nodes more }))
good_node links name props given nodes more well apart free kids kids_apart =
    let x : Node-F Node = record { name = name; props = map (prop_tree links) props ++ number_prop given; children = nodes_trees links nodes more } in
    let names = prop_names_are links props given in
    let children = names_are links nodes more in
    let good = implied (λ (n : List ℕ). is_prop_name n ≡ true) IsPropName prop_named (prop_names props ++ given_names given) (given_well given (prop_names props) well) in
    let good_children = implied (λ (n : List ℕ). is_node_name n ≡ true) IsNodeName node_named (node_names nodes) kids in
    let prop_name : Prop → List ℕ = λ prop. prop.name in
    record {
      props = subst (All (λ (prop : Prop). IsPropName prop.name)) (sym (props_is x))
          (all_from (λ (prop : Prop). IsPropName prop.name) x.props (mapped prop_name IsPropName x.props (subst (AllByRecursion IsPropName) (sym names) good)));
      props_apart = subst (AllPairs (λ (one other : Prop). one.name ≢ other.name)) (sym (props_is x))
          (pairs_from prop_name x.props (subst Distinct (sym names) (given_apart given props free apart)));
      children = subst (All (λ (child : Node). IsNodeName (name_of child))) (sym (children_is x))
          (all_from (λ (child : Node). IsNodeName (name_of child)) x.children (mapped name_of IsNodeName x.children (subst (AllByRecursion IsNodeName) (sym children) good_children)));
      children_apart = subst (AllPairs (λ (one other : Node). name_of one ≢ name_of other)) (sym (children_is x))
          (pairs_from name_of x.children (subst Distinct (sym children) kids_apart));
    }

abbrev pub AllFree : NodesSyntax → List (Option ℕ) → Type 0
AllFree none given = Unit {0}
AllFree (node labels name props children rest) given =
    Free (given_first given) props × AllFree children (given_next given) × AllFree rest (given_behind children (given_next given))

pub all_append : {X : Type 0} (P : X → Type 0) (xs ys : List X) → AllByRecursion P xs → AllByRecursion P ys → AllByRecursion P (xs ++ ys)
all_append P [] ys one two = two
all_append P (x ∷ xs) ys one two = (one.0, all_append P xs ys one.1 two)

pub nodes_good : (links : Links) (nodes : NodesSyntax) (given : List (Option ℕ)) (tail : List Entry) (earlier : List (List ℕ)) → AllByRecursion IsWellNamed (nodes_entries nodes tail) → nodes_repeated earlier nodes ≡ []
    → AllFree nodes given → AllByRecursion HasGoodNames (flat_map nodes_of (nodes_trees links nodes given))
nodes_good links none given tail earlier well new free = tt
nodes_good links (node labels name props children rest) given tail earlier well new free =
    let it = node_new earlier name.name name.place props children rest new in
    let after = entry.Close ∷ nodes_entries rest tail in
    let next = given_next given in
    let x : Node-F Node = record { name = name.name; props = map (prop_tree links) props ++ number_prop (given_first given); children = nodes_trees links children next } in
    let within = props_well props (nodes_entries children after) well.1 in
    let inner = nodes_well children after within.1 in
    let here = good_node links name.name props (given_first given) children next within.0 (props_new [] props it.within).0 free.0 inner.0 (nodes_new [] children it.below).0 in
    let below = nodes_good links children next after [] within.1 it.below free.1 in
    let others = nodes_good links rest (given_behind children next) tail (name.name ∷ earlier) inner.1.1 it.behind free.2 in
    let tree : nodes_of (roll-Node x) ≡ roll-Node x ∷ flat_map nodes_of x.children = nodes_out (roll-Node x) ∙ ap (λ (ns : List Node). roll-Node x ∷ flat_map nodes_of ns) (children_is x) in
    all_append HasGoodNames (nodes_of (roll-Node x)) (flat_map nodes_of (nodes_trees links rest (given_behind children next)))
    (subst (AllByRecursion HasGoodNames) (sym tree) (here, below)) others
