-- What is printed of a tree stands for that tree.
use Rattle.std.proofs.Common.{◌≡◌, ◌≢◌, ℕ, zero, suc, ◌+◌, ◌*◌, ◌<◌, Bool, true, false, cond, List, [], ◌∷◌, ◌++◌, length, refl, sym, ap, subst, ◌∙◌, arith}
use Rattle.std.specs.Prelude.{Option, Some, None, Result, Ok, Err, IfOk, OnOk, map, zip, All, ◌&&◌, ◌||◌, not, is_some, ◌==◌, nat_eq, nat_lt, codes}
use Rattle.std.specs.Option.{option_map, option_or}
use Rattle.std.specs.List.{AllPairs, AllByRecursion, list_any, flat_map, find, cons_option}
use Rattle.std.specs.Cmp.Lexicographic.{pointwise, bytes_decides}
use Rattle.std.proofs.lemmas.Bool.{lt-ltb, eq-eqb, eqb-true}
use Rattle.std.proofs.lemmas.List.{append-nil, map-id}
use Rattle.hv_dtree.specs.Nodes.{name_of, props_of, children_of, nodes_of, big_endian, IsPhandle, value_among, prop_value, phandles_of, HasGoodNames, IsRoot}
use Rattle.hv_dtree.specs.declared.node.Prop.{Prop}
use Rattle.hv_dtree.specs.declared.node.Node.{Node}
use Rattle.hv_dtree.specs.declared.node.Node.TheViews.{roll-Node, out-Node, out-roll-Node}
use Rattle.hv_dtree.specs.declared.node.Node.TheFolds.{ind-Node}
use Rattle.hv_dtree.proofs.Nodes.{nodes_out}
use Rattle.hv_dtgram.specs.Contents.{PropSyntax, NodesSyntax, none, node, SourceSyntax, entries_of, props_entries, nodes_entries, entry_labels}
use Rattle.hv_dtgram.specs.declared.contents.Named.{Named}
use Rattle.hv_dtgram.specs.declared.contents.Entry.{Entry}
use Rattle.hv_dtgram.specs.declared.contents.Entry.TheVariants as entry
use Rattle.hv_dtprint.specs.Printed.{tree_text}
use Rattle.hv_dtprint.specs.Values.{HasBytes}
use Rattle.hv_dtprint.proofs.Spelled.{printed_values, ArePrinted, no_props, one_prop, IsPrinted, no_trees, one_tree}
use Rattle.hv_dtprint.proofs.Kept.{each_join, each_parts}
use Rattle.hv_dtprint.proofs.Nested.{each, IsPrintable, spells}
use Rattle.hv_dtprint.proofs.Tests.{both}
use Rattle.hv_dts.specs.Bytes.{Links, values_bytes, no_links, is_phandle_name, number_in, phandle_number, cell_lists_references, paths_references}
use Rattle.hv_dts.specs.Rules.{has_name, place_if, repeated, labels_of, props_repeated, nodes_repeated, twice_named, bad_place, with_number, bad_phandles, node_labels, cell_references, path_references, names_of, unlabelled, unlabelled_references, least}
use Rattle.hv_dts.specs.Resolved.{Site, nodes_sites, asked_labels, used_numbers, is_needy, AreGiven, no_nodes, gets_none, links_of, prop_tree, number_prop, given_first, given_next, given_behind, nodes_trees}
use Rattle.hv_dts.specs.Reading.{IsSourceOf}
use Rattle.hv_dts.specs.declared.refusal.DtsRefusal.TheVariants as refusal

-- Labels and references, of which there are none.

-- entries say nothing more than what stands behind them
props_quiet : (f : Entry → List Named) → ((name : Named) (bytes : List ℕ) → f (entry.Property [] name (printed_values bytes)) ≡ []) → (syntax : List PropSyntax) (props : List Prop) (tail : List Entry)
    → ArePrinted syntax props → flat_map f (props_entries syntax tail) ≡ flat_map f tail
props_quiet f quiet _ _ tail no_props = refl
props_quiet f quiet _ _ tail (one_prop place prop syntax props are) =
    ap (λ (names : List Named). names ++ flat_map f (props_entries syntax tail)) (quiet (record { name = prop.name; place = place }) prop.value) ∙ props_quiet f quiet syntax props tail are

nodes_quiet : (f : Entry → List Named) → ((name : Named) (bytes : List ℕ) → f (entry.Property [] name (printed_values bytes)) ≡ []) → ((name : Named) → f (entry.Open [] name) ≡ []) → f entry.Close ≡ []
    → (syntax : NodesSyntax) (nodes : List Node) (tail : List Entry) → IsPrinted syntax nodes → flat_map f (nodes_entries syntax tail) ≡ flat_map f tail
nodes_quiet f quiet opens closes _ _ tail no_trees = refl
nodes_quiet f quiet opens closes _ _ tail (one_tree place n props children rest nodes are below more) =
    let behind = nodes_entries rest tail in
    ap (λ (names : List Named). names ++ flat_map f (props_entries props (nodes_entries children (entry.Close ∷ behind)))) (opens (record { name = name_of n; place = place }))
    ∙ props_quiet f quiet props (props_of n) (nodes_entries children (entry.Close ∷ behind)) are
    ∙ nodes_quiet f quiet opens closes children (children_of n) (entry.Close ∷ behind) below
    ∙ ap (λ (names : List Named). names ++ flat_map f behind) closes
    ∙ nodes_quiet f quiet opens closes rest nodes tail more

all_quiet : (f : Entry → List Named) → ((name : Named) (bytes : List ℕ) → f (entry.Property [] name (printed_values bytes)) ≡ []) → ((name : Named) → f (entry.Open [] name) ≡ []) → f entry.Close ≡ []
    → (source : SourceSyntax) (tree : Node) → ArePrinted source.props (props_of tree) → IsPrinted source.nodes (children_of tree) → flat_map f (entries_of source) ≡ []
all_quiet f quiet opens closes source tree are below =
    props_quiet f quiet source.props (props_of tree) (nodes_entries source.nodes []) are ∙ nodes_quiet f quiet opens closes source.nodes (children_of tree) [] below

cells_quiet : (bytes : List ℕ) → cell_lists_references (printed_values bytes) ≡ []
cells_quiet [] = refl
cells_quiet (b ∷ bytes) = refl

paths_quiet : (bytes : List ℕ) → paths_references (printed_values bytes) ≡ []
paths_quiet [] = refl
paths_quiet (b ∷ bytes) = refl

-- Names, of which none stands twice.

differ : (b : Bool) (one other : List ℕ) → one ≢ other → pointwise nat_eq one other ≡ b → b ≡ false
differ true one other apart same = absurd (apart ((bytes_decides one other).0 same))
differ false one other apart same = refl

neither : (a b : Bool) → a ≡ false → b ≡ false → (a || b) ≡ false
neither true b one two = absurd (cc one)
neither false b one two = two

name_new : (earlier : List (List ℕ)) (name : List ℕ) → AllByRecursion (λ one. one ≢ name) earlier → has_name earlier name ≡ false
name_new [] name all = refl
name_new (one ∷ earlier) name all =
    neither (pointwise nat_eq one name) (has_name earlier name) (differ (pointwise nat_eq one name) one name all.0 refl) (name_new earlier name all.1)

no_place : (there : Bool) (place : ℕ) → there ≡ false → place_if there place ≡ []
no_place true place e = absurd (cc e)
no_place false place e = refl

-- names that differ from earlier ones and from each other
abbrev AreNew : List (List ℕ) → List (List ℕ) → Type 0
AreNew earlier [] = Unit {0}
AreNew earlier (name ∷ names) = AllByRecursion (λ one. one ≢ name) earlier × AreNew (name ∷ earlier) names

-- the later of a pair differs from the earlier
later_new : {X : Type 0} (f : X → List ℕ) (x : X) (xs : List X) → AllPairs (λ one other. f one ≢ f other) (x ∷ xs) → AllByRecursion (λ other. f x ≢ f other) xs
later_new f x xs apart = each (λ other. f x ≢ f other) xs (λ k d lt. apart zero (suc k) d (omega arith) (omega (arith, lt)))

pairs_tail : {X : Type 0} (R : X → X → Type 0) (x : X) (xs : List X) → AllPairs R (x ∷ xs) → AllPairs R xs
pairs_tail R x xs apart = λ i j d lt within. apart (suc i) (suc j) d (omega (arith, lt)) (omega (arith, within))

-- earlier names that differ from all of these
abbrev AllApart : {X : Type 0} → (X → List ℕ) → List (List ℕ) → List X → Type 0
AllApart f earlier xs = AllByRecursion (λ x. AllByRecursion (λ one. one ≢ f x) earlier) xs

one_more : {X : Type 0} (f : X → List ℕ) (earlier : List (List ℕ)) (name : List ℕ) (xs : List X) → AllByRecursion (λ other. name ≢ f other) xs → AllApart f earlier xs → AllApart f (name ∷ earlier) xs
one_more f earlier name [] here all = tt
one_more f earlier name (x ∷ xs) here all = ((here.0, all.0), one_more f earlier name xs here.1 all.1)

new_from : {X : Type 0} (f : X → List ℕ) (earlier : List (List ℕ)) (xs : List X) → AllApart f earlier xs → AllPairs (λ one other. f one ≢ f other) xs → AreNew earlier (map f xs)
new_from f earlier [] all apart = tt
new_from f earlier (x ∷ xs) all apart =
    (all.0, new_from f (f x ∷ earlier) xs (one_more f earlier (f x) xs (later_new f x xs apart) all.1) (pairs_tail (λ one other. f one ≢ f other) x xs apart))

nothing_earlier : {X : Type 0} (f : X → List ℕ) (xs : List X) → AllApart f [] xs
nothing_earlier f [] = tt
nothing_earlier f (x ∷ xs) = (tt, nothing_earlier f xs)

pub all_new : {X : Type 0} (f : X → List ℕ) (xs : List X) → AllPairs (λ one other. f one ≢ f other) xs → AreNew [] (map f xs)
all_new f xs apart = new_from f [] xs (nothing_earlier f xs) apart

props_once : (earlier : List (List ℕ)) (syntax : List PropSyntax) (props : List Prop) → ArePrinted syntax props → AreNew earlier (map (λ (prop : Prop). prop.name) props) → props_repeated earlier syntax ≡ []
props_once earlier _ _ no_props new = refl
props_once earlier _ _ (one_prop place prop syntax props are) new =
    ap (λ (places : List ℕ). places ++ props_repeated (prop.name ∷ earlier) syntax) (no_place (has_name earlier prop.name) place (name_new earlier prop.name new.0))
    ∙ props_once (prop.name ∷ earlier) syntax props are new.1

nodes_once : (earlier : List (List ℕ)) (syntax : NodesSyntax) (nodes : List Node) → IsPrinted syntax nodes → AreNew earlier (map name_of nodes) → AllByRecursion IsPrintable (flat_map nodes_of nodes) → nodes_repeated earlier syntax ≡ []
nodes_once earlier _ _ no_trees new good = refl
nodes_once earlier _ _ (one_tree place n props children rest nodes are below more) new good =
    let parts = each_parts IsPrintable (nodes_of n) (flat_map nodes_of nodes) good in
    let here = subst (AllByRecursion IsPrintable) (nodes_out n) parts.0 in
    let behind = nodes_repeated (name_of n ∷ earlier) rest in
    ap (λ (places : List ℕ). places ++ (props_repeated [] props ++ (nodes_repeated [] children ++ behind))) (no_place (has_name earlier (name_of n)) place (name_new earlier (name_of n) new.0))
    ∙ ap (λ (places : List ℕ). places ++ (nodes_repeated [] children ++ behind)) (props_once [] props (props_of n) are (all_new (λ (prop : Prop). prop.name) (props_of n) here.0.names.props_apart))
    ∙ ap (λ (places : List ℕ). places ++ behind) (nodes_once [] children (children_of n) below (all_new name_of (children_of n) here.0.names.children_apart) here.1)
    ∙ nodes_once (name_of n ∷ earlier) rest nodes more new.1 parts.1

-- Phandles, which are numbers, of which none stands twice.

printed_bytes : (links : Links) (bytes : List ℕ) → values_bytes links (printed_values bytes) ≡ bytes
printed_bytes links [] = refl
printed_bytes links (b ∷ bytes) = append-nil (b ∷ bytes)

plain_number : (bytes : List ℕ) → phandle_number (printed_values bytes) ≡ number_in (values_bytes no_links (printed_values bytes))
plain_number [] = refl
plain_number (b ∷ bytes) = refl

number_is : (bytes : List ℕ) → IsPhandle bytes → number_in bytes ≡ Some (big_endian bytes)
number_is bytes it =
    let low : 0 < big_endian bytes = omega (arith, it.low) in
    let high : big_endian bytes < 0xffff_ffff = omega (arith, it.high) in
    ap (λ (b : Bool). cond b (Some (big_endian bytes)) None)
    (both (length bytes == 4) _ (eq-eqb (length bytes) 4 it.four) (both (nat_lt 0 (big_endian bytes)) _ (lt-ltb 0 (big_endian bytes) low) (lt-ltb (big_endian bytes) 0xffff_ffff high)))

pub phandle_is : (bytes : List ℕ) → IsPhandle bytes → phandle_number (printed_values bytes) ≡ Some (big_endian bytes)
phandle_is bytes it = plain_number bytes ∙ ap number_in (printed_bytes no_links bytes) ∙ number_is bytes it

-- phandles whose numbers differ from earlier ones and from each other
abbrev pub AreFresh : List ℕ → List (List ℕ) → Type 0
AreFresh earlier [] = Unit {0}
AreFresh earlier (bytes ∷ more) = IsPhandle bytes × (list_any (λ one. one == big_endian bytes) earlier ≡ false) × AreFresh (big_endian bytes ∷ earlier) more

-- the numbers behind phandles
abbrev pub numbers_behind : List ℕ → List (List ℕ) → List ℕ
numbers_behind earlier [] = earlier
numbers_behind earlier (bytes ∷ more) = numbers_behind (big_endian bytes ∷ earlier) more

fresh_parts : (earlier : List ℕ) (xs ys : List (List ℕ)) → AreFresh earlier (xs ++ ys) → AreFresh earlier xs × AreFresh (numbers_behind earlier xs) ys
fresh_parts earlier [] ys all = (tt, all)
fresh_parts earlier (x ∷ xs) ys all = let below = fresh_parts (big_endian x ∷ earlier) xs ys all.2 in ((all.0, all.1, below.0), below.1)

behind_join : (earlier : List ℕ) (xs ys : List (List ℕ)) → numbers_behind earlier (xs ++ ys) ≡ numbers_behind (numbers_behind earlier xs) ys
behind_join earlier [] ys = refl
behind_join earlier (x ∷ xs) ys = behind_join (big_endian x ∷ earlier) xs ys

-- properties that are no phandle are passed
props_passed : (earlier : List ℕ) (syntax : List PropSyntax) (props : List Prop) (tail : List Entry) → ArePrinted syntax props → AllByRecursion (λ (prop : Prop). is_phandle_name prop.name ≡ false) props
    → bad_phandles earlier (props_entries syntax tail) ≡ bad_phandles earlier tail
props_passed earlier _ _ tail no_props all = refl
props_passed earlier _ _ tail (one_prop place prop syntax props are) all =
    let number = phandle_number (printed_values prop.value) in
    ap (λ (b : Bool). cond b (bad_place earlier place number) [] ++ bad_phandles (cond b (with_number earlier number) earlier) (props_entries syntax tail)) all.0
    ∙ props_passed earlier syntax props tail are all.1

named_else : (name : List ℕ) (props : List Prop) → name ≡ codes "phandle" → AllByRecursion (λ (other : Prop). name ≢ other.name) props → AllByRecursion (λ (prop : Prop). is_phandle_name prop.name ≡ false) props
named_else name [] is all = tt
named_else name (prop ∷ props) is all =
    (differ (is_phandle_name prop.name) prop.name (codes "phandle") (λ same. all.0 (is ∙ sym same)) refl, named_else name props is all.1)

-- properties with a phandle, where one of them is it
abbrev value_of : Bool → Prop → List Prop → Option (List ℕ)
value_of b prop props = option_map (λ (p : Prop). p.value) (cond b (Some prop) (find (λ p. pointwise nat_eq p.name (codes "phandle")) props))

numbers_step : (earlier : List ℕ) (syntax : List PropSyntax) (prop : Prop) (props : List Prop) (tail : List Entry) (place : ℕ) (b : Bool) → is_phandle_name prop.name ≡ b → ArePrinted syntax props
    → AllPairs (λ (one other : Prop). one.name ≢ other.name) (prop ∷ props) → AreFresh earlier (cons_option (value_of b prop props) [])
    → (AreFresh earlier (cons_option (value_among (codes "phandle") props) []) → bad_phandles earlier (props_entries syntax tail) ≡ bad_phandles (numbers_behind earlier (cons_option (value_among (codes "phandle") props) [])) tail)
    → cond b (bad_place earlier place (phandle_number (printed_values prop.value))) [] ++ bad_phandles (cond b (with_number earlier (phandle_number (printed_values prop.value))) earlier) (props_entries syntax tail)
    ≡ bad_phandles (numbers_behind earlier (cons_option (value_of b prop props) [])) tail
numbers_step earlier syntax prop props tail place true is are apart fresh others =
    let number = phandle_is prop.value fresh.0 in
    let rest = props_entries syntax tail in
    let later = later_new (λ (p : Prop). p.name) prop props apart in
    let named : prop.name ≡ codes "phandle" = (bytes_decides prop.name (codes "phandle")).0 is in
    ap (λ (o : Option ℕ). bad_place earlier place o ++ bad_phandles (with_number earlier o) rest) number
    ∙ ap (λ (places : List ℕ). places ++ bad_phandles (big_endian prop.value ∷ earlier) rest) (no_place (list_any (λ one. one == big_endian prop.value) earlier) place fresh.1)
    ∙ props_passed (big_endian prop.value ∷ earlier) syntax props tail are (named_else prop.name props named later)
numbers_step earlier syntax prop props tail place false is are apart fresh others = others fresh

props_numbers : (earlier : List ℕ) (syntax : List PropSyntax) (props : List Prop) (tail : List Entry) → ArePrinted syntax props → AllPairs (λ (one other : Prop). one.name ≢ other.name) props
    → AreFresh earlier (cons_option (value_among (codes "phandle") props) []) → bad_phandles earlier (props_entries syntax tail) ≡ bad_phandles (numbers_behind earlier (cons_option (value_among (codes "phandle") props) [])) tail
props_numbers earlier _ _ tail no_props apart fresh = refl
props_numbers earlier _ _ tail (one_prop place prop syntax props are) apart fresh =
    numbers_step earlier syntax prop props tail place (is_phandle_name prop.name) refl are apart fresh (props_numbers earlier syntax props tail are (pairs_tail (λ (one other : Prop). one.name ≢ other.name) prop props apart))

cons_join : (first : Option (List ℕ)) (all xs ys : List (List ℕ)) → all ≡ xs ++ ys → cons_option first all ≡ cons_option first xs ++ ys
cons_join None all xs ys e = e
cons_join (Some bytes) all xs ys e = ap (λ (more : List (List ℕ)). bytes ∷ more) e

cons_open : (first : Option (List ℕ)) (xs : List (List ℕ)) → cons_option first xs ≡ cons_option first [] ++ xs
cons_open None xs = refl
cons_open (Some bytes) xs = refl

cons_first : (first : Option (List ℕ)) (xs ys : List (List ℕ)) → cons_option first xs ++ ys ≡ cons_option first [] ++ (xs ++ ys)
cons_first None xs ys = refl
cons_first (Some bytes) xs ys = refl

phandles_join : (xs ys : List Node) → phandles_of (xs ++ ys) ≡ phandles_of xs ++ phandles_of ys
phandles_join [] ys = refl
phandles_join (n ∷ xs) ys = cons_join (prop_value n (codes "phandle")) (phandles_of (xs ++ ys)) (phandles_of xs) (phandles_of ys) (phandles_join xs ys)

nodes_numbers : (earlier : List ℕ) (syntax : NodesSyntax) (nodes : List Node) (tail : List Entry) → IsPrinted syntax nodes → AllByRecursion IsPrintable (flat_map nodes_of nodes) → AreFresh earlier (phandles_of (flat_map nodes_of nodes))
    → bad_phandles earlier (nodes_entries syntax tail) ≡ bad_phandles (numbers_behind earlier (phandles_of (flat_map nodes_of nodes))) tail
nodes_numbers earlier _ _ tail no_trees good fresh = refl
nodes_numbers earlier _ _ tail (one_tree place n props children rest nodes are below more) good fresh =
    let parts = each_parts IsPrintable (nodes_of n) (flat_map nodes_of nodes) good in
    let here = subst (AllByRecursion IsPrintable) (nodes_out n) parts.0 in
    let own = cons_option (prop_value n (codes "phandle")) [] in
    let inner = phandles_of (flat_map nodes_of (children_of n)) in
    let later = phandles_of (flat_map nodes_of nodes) in
    let all : phandles_of (flat_map nodes_of (n ∷ nodes)) ≡ own ++ (inner ++ later) =
    phandles_join (nodes_of n) (flat_map nodes_of nodes) ∙ ap (λ (ns : List Node). phandles_of ns ++ later) (nodes_out n)
    ∙ cons_first (prop_value n (codes "phandle")) inner later in
    let first = fresh_parts earlier own (inner ++ later) (subst (AreFresh earlier) all fresh) in
    let with_own = numbers_behind earlier own in
    let second = fresh_parts with_own inner later first.1 in
    let behind = nodes_entries rest tail in
    props_numbers earlier props (props_of n) (nodes_entries children (entry.Close ∷ behind)) are here.0.names.props_apart first.0
    ∙ nodes_numbers with_own children (children_of n) (entry.Close ∷ behind) below here.1 second.0
    ∙ nodes_numbers (numbers_behind with_own inner) rest nodes tail more parts.1 second.1
    ∙ ap (λ (ns : List ℕ). bad_phandles ns tail) (sym (behind_join with_own inner later) ∙ sym (behind_join earlier own (inner ++ later)) ∙ ap (numbers_behind earlier) (sym all))

-- Phandles of a tree that keeps the rules differ in their numbers.

-- a value of bytes that is a phandle
record IsNumber (bytes : List ℕ) : Type 0 where
  phandle : IsPhandle bytes
  small : All (λ byte. byte < 256) bytes

digits_same : (a b x y : ℕ) → a * 256 + x ≡ b * 256 + y → x < 256 → y < 256 → (a ≡ b) × (x ≡ y)
digits_same a b x y e lx ly = (omega arith, omega arith)

four_same : (a b c d w x y z : ℕ) → (((0 * 256 + a) * 256 + b) * 256 + c) * 256 + d ≡ (((0 * 256 + w) * 256 + x) * 256 + y) * 256 + z → a < 256 → b < 256 → c < 256 → d < 256 → w < 256 → x < 256 → y < 256 → z < 256
    → (a ≡ w) × (b ≡ x) × (c ≡ y) × (d ≡ z)
four_same a b c d w x y z e la lb lc ld lw lx ly lz =
    let one = digits_same _ _ d z e ld lz in
    let two = digits_same _ _ c y one.0 lc ly in
    let three = digits_same _ _ b x two.0 lb lx in
    let four = digits_same 0 0 a w three.0 la lw in
    (four.1, three.1, two.1, one.1)

-- four bytes and no more
record Four (bytes : List ℕ) : Type 0 where
  a : ℕ
  b : ℕ
  c : ℕ
  d : ℕ
  are : bytes ≡ a ∷ b ∷ c ∷ d ∷ []

four : (bytes : List ℕ) → length bytes ≡ 4 → Four bytes
four [] e = absurd (omega arith)
four (a ∷ []) e = absurd (omega arith)
four (a ∷ b ∷ []) e = absurd (omega arith)
four (a ∷ b ∷ c ∷ []) e = absurd (omega arith)
four (a ∷ b ∷ c ∷ d ∷ []) e = record { a = a; b = b; c = c; d = d; are = refl }
four (a ∷ b ∷ c ∷ d ∷ e1 ∷ bytes) e = absurd (omega arith)

number_same : (one other : List ℕ) → IsNumber one → IsNumber other → big_endian one ≡ big_endian other → one ≡ other
number_same one other p q e =
    let m = four one p.phandle.four in
    let n = four other q.phandle.four in
    let ms = each (λ byte. byte < 256) (m.a ∷ m.b ∷ m.c ∷ m.d ∷ []) (subst (All (λ byte. byte < 256)) m.are p.small) in
    let ns = each (λ byte. byte < 256) (n.a ∷ n.b ∷ n.c ∷ n.d ∷ []) (subst (All (λ byte. byte < 256)) n.are q.small) in
    let same = four_same m.a m.b m.c m.d n.a n.b n.c n.d (ap big_endian (sym m.are) ∙ e ∙ ap big_endian n.are) ms.0 ms.1.0 ms.1.1.0 ms.1.1.1.0 ns.0 ns.1.0 ns.1.1.0 ns.1.1.1.0 in
    m.are ∙ (λ i. same.0 i ∷ same.1 i ∷ same.2 i ∷ same.3 i ∷ []) ∙ sym n.are

differs_in : (b : Bool) (one other : List ℕ) → IsNumber one → IsNumber other → one ≢ other → (big_endian one == big_endian other) ≡ b → b ≡ false
differs_in true one other p q apart e = absurd (apart (number_same one other p q (eqb-true (big_endian one) (big_endian other) e)))
differs_in false one other p q apart e = refl

number_new : (bytes : List ℕ) (seen : List (List ℕ)) → IsNumber bytes → AllByRecursion IsNumber seen → AllByRecursion (λ one. one ≢ bytes) seen → list_any (λ one. one == big_endian bytes) (map big_endian seen) ≡ false
number_new bytes [] is are apart = refl
number_new bytes (one ∷ seen) is are apart =
    neither (big_endian one == big_endian bytes) _ (differs_in (big_endian one == big_endian bytes) one bytes are.0 is apart.0 refl) (number_new bytes seen is are.1 apart.1)

fresh_from : (seen : List (List ℕ)) (all : List (List ℕ)) → AllByRecursion IsNumber seen → AllByRecursion IsNumber all → AreNew seen all → AreFresh (map big_endian seen) all
fresh_from seen [] old are new = tt
fresh_from seen (bytes ∷ all) old are new =
    (are.0.phandle, number_new bytes seen are.0 old new.0, fresh_from (bytes ∷ seen) all (are.0, old) are.1 new.1)

cons_each : {X : Type 0} (P : X → Type 0) (first : Option X) (xs : List X) → AllByRecursion P (cons_option first []) → AllByRecursion P xs → AllByRecursion P (cons_option first xs)
cons_each P None xs here all = all
cons_each P (Some x) xs here all = (here.0, all)

abbrev AreSmall : List ℕ → Type 0
AreSmall bytes = All (λ byte. byte < 256) bytes

small_if : (b : Bool) (prop : Prop) (props : List Prop) → AreSmall prop.value → AllByRecursion AreSmall (cons_option (value_among (codes "phandle") props) []) → AllByRecursion AreSmall (cons_option (value_of b prop props) [])
small_if true prop props here below = (here, tt)
small_if false prop props here below = below

value_small : (props : List Prop) → AllByRecursion (λ (prop : Prop). AreSmall prop.value) props → AllByRecursion AreSmall (cons_option (value_among (codes "phandle") props) [])
value_small [] all = tt
value_small (prop ∷ props) all = small_if (is_phandle_name prop.name) prop props all.0 (value_small props all.1)

nodes_small : (nodes : List Node) → AllByRecursion HasBytes nodes → AllByRecursion AreSmall (phandles_of nodes)
nodes_small [] all = tt
nodes_small (n ∷ nodes) all =
    cons_each AreSmall (prop_value n (codes "phandle")) (phandles_of nodes) (value_small (props_of n) (each (λ (prop : Prop). AreSmall prop.value) (props_of n) all.0)) (nodes_small nodes all.1)

numbers_from : (all : List (List ℕ)) → AllByRecursion IsPhandle all → AllByRecursion AreSmall all → AllByRecursion IsNumber all
numbers_from [] are small = tt
numbers_from (bytes ∷ all) are small = (record { phandle = are.0; small = small.0 }, numbers_from all are.1 small.1)

-- The tree that the source stands for.

roll_out : (tree : Node) → roll-Node (out-Node tree) ≡ tree
roll_out = ind-Node (λ tree. roll-Node (out-Node tree) ≡ tree) (λ x y is. ap roll-Node (out-roll-Node x))

props_same : (links : Links) (syntax : List PropSyntax) (props : List Prop) → ArePrinted syntax props → map (prop_tree links) syntax ≡ props
props_same links _ _ no_props = refl
props_same links _ _ (one_prop place prop syntax props are) =
    λ i. record { name = prop.name; value = printed_bytes links prop.value i } ∷ props_same links syntax props are i

-- nothing was given
abbrev AllNone : List (Option ℕ) → Type 0
AllNone given = AllByRecursion (λ (one : Option ℕ). one ≡ None) given

first_none : (given : List (Option ℕ)) → AllNone given → given_first given ≡ None
first_none [] none_there = refl
first_none (g ∷ given) none_there = none_there.0

next_none : (given : List (Option ℕ)) → AllNone given → AllNone (given_next given)
next_none [] none_there = tt
next_none (g ∷ given) none_there = none_there.1

behind_none : (syntax : NodesSyntax) (given : List (Option ℕ)) → AllNone given → AllNone (given_behind syntax given)
behind_none none given none_there = none_there
behind_none (node labels name props children rest) given none_there =
    behind_none rest (given_behind children (given_next given)) (behind_none children (given_next given) (next_none given none_there))

nodes_same : (links : Links) (syntax : NodesSyntax) (nodes : List Node) (given : List (Option ℕ)) → IsPrinted syntax nodes → AllNone given → nodes_trees links syntax given ≡ nodes
nodes_same links _ _ given no_trees none_there = refl
nodes_same links _ _ given (one_tree place n props children rest nodes are below more) none_there =
    let next = given_next given in
    let no_number : map (prop_tree links) props ++ number_prop (given_first given) ≡ props_of n =
    ap (λ (o : Option ℕ). map (prop_tree links) props ++ number_prop o) (first_none given none_there) ∙ append-nil (map (prop_tree links) props) ∙ props_same links props (props_of n) are in
    let inner = nodes_same links children (children_of n) next below (next_none given none_there) in
    let here : roll-Node (record { name = name_of n; props = map (prop_tree links) props ++ number_prop (given_first given); children = nodes_trees links children next }) ≡ n =
    (λ i. roll-Node (record { name = name_of n; props = no_number i; children = inner i })) ∙ roll_out n in
    λ i. here i ∷ nodes_same links rest nodes (given_behind children next) more (behind_none children next (next_none given none_there)) i

-- no node has a label
abbrev IsPlain : Site → Type 0
IsPlain site = site.labels ≡ []

sites_plain : (above : List ℕ) (syntax : NodesSyntax) (nodes : List Node) → IsPrinted syntax nodes → AllByRecursion IsPlain (nodes_sites above syntax)
sites_plain above _ _ no_trees = tt
sites_plain above _ _ (one_tree place n props children rest nodes are below more) =
    let path = above ++ 47 ∷ name_of n in
    (refl, each_join IsPlain (nodes_sites path children) (nodes_sites above rest) (sites_plain path children (children_of n) below) (sites_plain above rest nodes more))

and_false : (b : Bool) → (b && false) ≡ false
and_false true = refl
and_false false = refl

abbrev nothing_given : List Site → List (Option ℕ)
nothing_given [] = []
nothing_given (site ∷ sites) = None ∷ nothing_given sites

none_given : (sites : List Site) → AllNone (nothing_given sites)
none_given [] = tt
none_given (site ∷ sites) = (refl, none_given sites)

are_given : (asked : List (List ℕ)) (used : List ℕ) (from : ℕ) (sites : List Site) → AllByRecursion IsPlain sites → AreGiven asked used from sites (nothing_given sites)
are_given asked used from [] plain = no_nodes
are_given asked used from (site ∷ sites) plain =
    let calm : is_needy asked site ≡ false = ap (λ (labels : List Named). not (is_some site.own) && list_any (λ label. has_name asked label.name) labels) plain.0 ∙ and_false (not (is_some site.own)) in
    gets_none site calm (are_given asked used from sites plain.1)

printable : (nodes : List Node) → AllByRecursion HasGoodNames nodes → AllByRecursion HasBytes nodes → AllByRecursion IsPrintable nodes
printable [] names bytes = tt
printable (n ∷ nodes) names bytes = (record { names = names.0; bytes = bytes.0 }, printable nodes names.1 bytes.1)

-- a tree that keeps the rules is what its text stands for
pub rereads : (tree : Node) → IsRoot tree → All HasBytes (nodes_of tree) → IsSourceOf (tree_text tree) tree
rereads tree root bytes =
    let values = each HasBytes (nodes_of tree) bytes in
    let good = printable (nodes_of tree) (each HasGoodNames (nodes_of tree) root.names) values in
    let it = spells tree root.unnamed good in
    let source = it.syntax in
    let entries = entries_of source in
    let here = subst (AllByRecursion IsPrintable) (nodes_out tree) good in
    let below = flat_map nodes_of (children_of tree) in
    let own = cons_option (prop_value tree (codes "phandle")) [] in
    let quiet_labels : labels_of entries ≡ [] = all_quiet entry_labels (λ name bytes. refl) (λ name. refl) refl source tree it.props it.nodes in
    let quiet_cells : flat_map cell_references entries ≡ [] = all_quiet cell_references (λ name bytes. cells_quiet bytes) (λ name. refl) refl source tree it.props it.nodes in
    let quiet_paths : flat_map path_references entries ≡ [] = all_quiet path_references (λ name bytes. paths_quiet bytes) (λ name. refl) refl source tree it.props it.nodes in
    let props_apart : props_repeated [] source.props ≡ [] = props_once [] source.props (props_of tree) it.props (all_new (λ (prop : Prop). prop.name) (props_of tree) here.0.names.props_apart) in
    let nodes_apart : nodes_repeated [] source.nodes ≡ [] = nodes_once [] source.nodes (children_of tree) it.nodes (all_new name_of (children_of tree) here.0.names.children_apart) here.1 in
    let twice : twice_named source ≡ [] = λ i. repeated [] (quiet_labels i) ++ (props_apart i ++ nodes_apart i) in
    let phandles = phandles_of (nodes_of tree) in
    let numbers = numbers_from phandles (each IsPhandle phandles root.phandles) (nodes_small (nodes_of tree) values) in
    let new : AreNew [] phandles = subst (AreNew []) (map-id phandles) (all_new (λ (one : List ℕ). one) phandles root.phandles_apart) in
    let all : phandles ≡ own ++ phandles_of below = ap phandles_of (nodes_out tree) ∙ cons_open (prop_value tree (codes "phandle")) (phandles_of below) in
    let fresh = fresh_parts [] own (phandles_of below) (subst (AreFresh []) all (fresh_from [] phandles tt numbers new)) in
    let bad : bad_phandles [] entries ≡ [] =
    props_numbers [] source.props (props_of tree) (nodes_entries source.nodes []) it.props here.0.names.props_apart fresh.0
    ∙ nodes_numbers (numbers_behind [] own) source.nodes (children_of tree) [] it.nodes here.1 fresh.1 in
    let labels = names_of (flat_map node_labels entries) in
    let lacks : unlabelled_references entries ≡ [] = λ i. unlabelled labels (quiet_cells i) ++ unlabelled labels (quiet_paths i) in
    let sites = nodes_sites [] source.nodes in
    let given = nothing_given sites in
    let links = links_of (zip sites given) in
    record {
      syntax = source;
      written = it.written;
      keeps = λ i. option_or (option_map (λ place. refusal.TwiceNamed place) (least (twice i)))
          (option_or (option_map (λ place. refusal.BadPhandle place) (least (bad i))) (option_map (λ place. refusal.NoLabel place) (least (lacks i))));
      stands = record {
        given = given;
        least_free = are_given (asked_labels entries) (used_numbers entries) 1 sites (sites_plain [] source.nodes (children_of tree) it.nodes);
        is = sym (roll_out tree)
            ∙ (λ i. roll-Node (record { name = root.unnamed i; props = sym (props_same links source.props (props_of tree) it.props) i; children = sym (nodes_same links source.nodes (children_of tree) given it.nodes (none_given sites)) i }));
      };
    }

-- so is what was printed of it
pub printed_stands : {E : Type 0} (result : Result (List ℕ) E) (shown tree : Node) → shown ≡ tree → IsRoot tree → IfOk result (λ text. text ≡ tree_text shown) → OnOk result (All HasBytes (nodes_of shown)) → IfOk result (λ text. IsSourceOf text tree)
printed_stands (Ok text) shown tree same root is bytes =
    subst (λ (t : List ℕ). IsSourceOf t tree) (sym (is ∙ ap tree_text same)) (rereads tree root (subst (λ (n : Node). All HasBytes (nodes_of n)) same bytes))
printed_stands (Err e) shown tree same root is bytes = tt
