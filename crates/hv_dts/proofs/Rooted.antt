-- The phandles in the tree of a source keep the rules, and so the tree does.
use Rattle.std.proofs.Common.{◌≡◌, ◌≢◌, ℕ, ◌+◌, ◌*◌, ◌/◌, ◌%◌, ◌^◌, ◌<◌, ◌≤◌, Bool, true, false, cond, List, [], ◌∷◌, ◌++◌, length, refl, sym, ap, subst, ◌∙◌, arith, inl, inr, append_assoc}
use Rattle.std.specs.Prelude.{Option, Some, None, IfSome, map, ◌⊎◌, ◌&&◌, ◌||◌, not, is_some, ◌==◌, nat_eq, nat_lt, codes}
use Rattle.std.specs.Option.{option_map, option_and_then, option_or}
use Rattle.std.specs.List.{All, AllPairs, AllByRecursion, list_any, flat_map, find, fold, cons_option}
use Rattle.std.specs.Cmp.Lexicographic.{pointwise}
use Rattle.std.proofs.lemmas.Bool.{ltb-true, eqb-true, eq-eqb}
use Rattle.std.proofs.lemmas.List.{append-nil}
use Rattle.std.proofs.lemmas.List.Kept.{AllPairs-cons}
use Rattle.hv_dtree.specs.Nodes.{nodes_of, big_endian, IsPhandle, value_among, prop_value, phandles_of, HasGoodNames, IsRoot}
use Rattle.hv_dtree.specs.declared.node.Prop.{Prop}
use Rattle.hv_dtree.specs.declared.node.Node.{Node}
use Rattle.hv_dtree.specs.declared.node.Node.TheOpen.{Node-F}
use Rattle.hv_dtree.specs.declared.node.Node.TheViews.{roll-Node, out-roll-Node}
use Rattle.hv_dtree.proofs.Nodes.{nodes_out}
use Rattle.hv_dtgram.specs.Contents.{PropSyntax, NodesSyntax, none, node, SourceSyntax, entries_of, props_entries, nodes_entries, IsWellNamed}
use Rattle.hv_dts.specs.Bytes.{Links, cell_bytes, cells_bytes, value_bytes, values_bytes, cells_references, value_references, values_references, no_links, is_phandle_name, number_in, number_without, phandle_number}
use Rattle.hv_dts.specs.Rules.{has_name, place_if, lesser, least, repeated, labels_of, props_repeated, nodes_repeated, twice_named, bad_place, with_number, bad_here, numbers_after, bad_phandles, broken_rule}
use Rattle.hv_dts.specs.Resolved.{Site, own_phandle, nodes_sites, used_numbers, is_needy, IsLeastFree, AreGiven, gets_number, gets_none, prop_tree, number_prop, given_first, given_next, given_behind, nodes_trees, root_tree}
use Rattle.hv_dtgram.specs.declared.contents.Named.{Named}
use Rattle.hv_dtgram.specs.declared.contents.Cell.{Cell}
use Rattle.hv_dtgram.specs.declared.contents.Cell.TheVariants as cell
use Rattle.hv_dtgram.specs.declared.contents.Value.{Value}
use Rattle.hv_dtgram.specs.declared.contents.Value.TheVariants as value
use Rattle.hv_dtgram.specs.declared.contents.Entry.{Entry}
use Rattle.hv_dtgram.specs.declared.contents.Entry.TheVariants as entry
use Rattle.hv_dts.specs.declared.refusal.DtsRefusal.TheVariants as refusal
use Rattle.hv_dts.proofs.GoodNames.{and_both, all_from, both_nil, no_place, props_is, children_is, prop_names, Free, AllFree, Distinct, props_well, nodes_well, props_new, nodes_new, good_node, nodes_good, all_append}

-- the number of a phandle's value
cells_plain : (links : Links) (cells : List Cell) → cells_references cells ≡ [] → cells_bytes links cells ≡ cells_bytes no_links cells
cells_plain links [] e = refl
cells_plain links (cell.Number n ∷ cells) e = ap (λ (b : List ℕ). cell_bytes n ++ b) (cells_plain links cells e)
cells_plain links (cell.Phandle label ∷ cells) e = absurd (cc e)

value_plain : (links : Links) (one : Value) → value_references one ≡ [] → value_bytes links one ≡ value_bytes no_links one
value_plain links (value.Cells cells) e = cells_plain links cells e
value_plain links (value.Text bytes) e = refl
value_plain links (value.Bytes bytes) e = refl
value_plain links (value.Path label) e = absurd (cc e)

values_plain : (links : Links) (values : List Value) → values_references values ≡ [] → values_bytes links values ≡ values_bytes no_links values
values_plain links [] e = refl
values_plain links (one ∷ values) e =
    let both = both_nil (value_references one) (values_references values) e in
    ap (λ (b : List ℕ). b ++ values_bytes links values) (value_plain links one both.0) ∙ ap (λ (b : List ℕ). value_bytes no_links one ++ b) (values_plain links values both.1)

-- bytes are a phandle with a number
abbrev pub IsNumbered : List ℕ → ℕ → Type 0
IsNumbered bytes number = IsPhandle bytes × (big_endian bytes ≡ number)

chosen : (b : Bool) (x n : ℕ) → cond b (Some x) None ≡ Some n → (b ≡ true) × (x ≡ n)
chosen true x n e = (refl, cc e)
chosen false x n e = absurd (cc e)

number_fact : (bytes : List ℕ) (n : ℕ) → number_in bytes ≡ Some n → IsNumbered bytes n
number_fact bytes n e =
    let it = chosen ((length bytes == 4) && (nat_lt 0 (big_endian bytes) && nat_lt (big_endian bytes) 0xffff_ffff)) (big_endian bytes) n e in
    let four = and_both (length bytes == 4) (nat_lt 0 (big_endian bytes) && nat_lt (big_endian bytes) 0xffff_ffff) it.0 in
    let low = and_both (nat_lt 0 (big_endian bytes)) (nat_lt (big_endian bytes) 0xffff_ffff) four.1 in
    let above : 0 < big_endian bytes = ltb-true 0 (big_endian bytes) low.0 in
    let below : big_endian bytes < 0xffff_ffff = ltb-true (big_endian bytes) 0xffff_ffff low.1 in
    (record { four = eqb-true (length bytes) 4 four.0; low = omega arith; high = omega arith }, it.1)

without_fact : (links : Links) (labels : List Named) (values : List Value) (n : ℕ) → values_references values ≡ labels → number_without labels values ≡ Some n → IsNumbered (values_bytes links values) n
without_fact links [] values n none_there e = subst (λ (b : List ℕ). IsNumbered b n) (sym (values_plain links values none_there)) (number_fact (values_bytes no_links values) n e)
without_fact links (l ∷ labels) values n there e = absurd (cc e)

phandle_fact : (links : Links) (values : List Value) (n : ℕ) → phandle_number values ≡ Some n → IsNumbered (values_bytes links values) n
phandle_fact links values n e = without_fact links (values_references values) values n refl e

cell_number : (n : ℕ) → n < 2 ^ 32 → (((0 * 256 + n / 16777216 % 256) * 256 + n / 65536 % 256) * 256 + n / 256 % 256) * 256 + n % 256 ≡ n
cell_number n small = omega arith

cell_fact : (n : ℕ) → 1 ≤ n → n < 0xffff_ffff → IsNumbered (cell_bytes n) n
cell_fact n low high =
    let is : big_endian (cell_bytes n) ≡ n = cell_number n (omega arith) in
    (record { four = refl; low = omega (arith, is); high = omega (arith, is) }, is)

-- several phandles with their numbers
abbrev pub AreNumbers : List (List ℕ) → List ℕ → Type 0
AreNumbers [] [] = Unit {0}
AreNumbers [] (n ∷ numbers) = ⊥
AreNumbers (b ∷ bytes) [] = ⊥
AreNumbers (b ∷ bytes) (n ∷ numbers) = IsNumbered b n × AreNumbers bytes numbers

numbers_join : (bytes more : List (List ℕ)) (numbers others : List ℕ) → AreNumbers bytes numbers → AreNumbers more others → AreNumbers (bytes ++ more) (numbers ++ others)
numbers_join [] more [] others one two = two
numbers_join [] more (n ∷ numbers) others one two = absurd one
numbers_join (b ∷ bytes) more [] others one two = absurd one
numbers_join (b ∷ bytes) more (n ∷ numbers) others one two = (one.0, numbers_join bytes more numbers others one.1 two)

-- numbers that differ
abbrev pub Apart : List ℕ → Type 0
Apart [] = Unit {0}
Apart (n ∷ numbers) = AllByRecursion (λ other. n ≢ other) numbers × Apart numbers

-- numbers that were not old, differ, and are old then
pub record Fresh (Old New : ℕ → Type 0) (numbers : List ℕ) : Type 0 where
  pub grows : (n : ℕ) → Old n → New n
  pub fresh : AllByRecursion (λ n. Old n → ⊥) numbers
  pub kept : AllByRecursion New numbers
  pub apart : Apart numbers

apart_from : (Old : ℕ → Type 0) (n : ℕ) (numbers : List ℕ) → Old n → AllByRecursion (λ m. Old m → ⊥) numbers → AllByRecursion (λ other. n ≢ other) numbers
apart_from Old n [] old fresh = tt
apart_from Old n (m ∷ numbers) old fresh = ((λ e. fresh.0 (subst Old e old)), apart_from Old n numbers old fresh.1)

apart_join : (Old : ℕ → Type 0) (numbers others : List ℕ) → Apart numbers → Apart others → AllByRecursion Old numbers → AllByRecursion (λ m. Old m → ⊥) others → Apart (numbers ++ others)
apart_join Old [] others one two old fresh = two
apart_join Old (n ∷ numbers) others one two old fresh =
    (all_append (λ other. n ≢ other) numbers others one.0 (apart_from Old n others old.0 fresh), apart_join Old numbers others one.1 two old.1 fresh)

weaker : {X : Type 0} (P Q : X → Type 0) → ((x : X) → P x → Q x) → (xs : List X) → AllByRecursion P xs → AllByRecursion Q xs
weaker P Q says [] all = tt
weaker P Q says (x ∷ xs) all = (says x all.0, weaker P Q says xs all.1)

fresh_join : (A B C : ℕ → Type 0) (numbers others : List ℕ) → Fresh A B numbers → Fresh B C others → Fresh A C (numbers ++ others)
fresh_join A B C numbers others one two = record {
  grows = λ n old. two.grows n (one.grows n old);
  fresh = all_append (λ n. A n → ⊥) numbers others one.fresh (weaker (λ n. B n → ⊥) (λ n. A n → ⊥) (λ n not_b a. not_b (one.grows n a)) others two.fresh);
  kept = all_append C numbers others (weaker B C two.grows numbers one.kept) two.kept;
  apart = apart_join B numbers others one.apart two.apart one.kept two.fresh;
}

-- a number is among these
abbrev pub Has : List ℕ → ℕ → Type 0
Has numbers n = list_any (λ one. one == n) numbers ≡ true

either_true : (a b : Bool) → b ≡ true → (a || b) ≡ true
either_true true b e = refl
either_true false b e = e

has_more : (n : ℕ) (numbers : List ℕ) (x : ℕ) → Has numbers x → Has (n ∷ numbers) x
has_more n numbers x has = either_true (n == x) (list_any (λ one. one == x) numbers) has

has_here : (n : ℕ) (numbers : List ℕ) → Has (n ∷ numbers) n
has_here n numbers = ap (λ (b : Bool). b || list_any (λ one. one == n) numbers) (eq-eqb n n refl)

after_keeps : (b : Bool) (number : Option ℕ) (earlier : List ℕ) (x : ℕ) → Has earlier x → Has (cond b (with_number earlier number) earlier) x
after_keeps true None earlier x has = has
after_keeps true (Some n) earlier x has = has_more n earlier x has
after_keeps false number earlier x has = has

entry_keeps : (one : Entry) (earlier : List ℕ) (x : ℕ) → Has earlier x → Has (numbers_after earlier one) x
entry_keeps (entry.Property labels name values) earlier x has = after_keeps (is_phandle_name name.name) (phandle_number values) earlier x has
entry_keeps (entry.Open labels name) earlier x has = has
entry_keeps entry.Close earlier x has = has

fold_keeps : (entries : List Entry) (earlier : List ℕ) (x : ℕ) → Has earlier x → Has (fold numbers_after earlier entries) x
fold_keeps [] earlier x has = has
fold_keeps (one ∷ entries) earlier x has = fold_keeps entries (numbers_after earlier one) x (entry_keeps one earlier x has)

-- the phandle among properties that break no rule
pub data Own (earlier after : List ℕ) (props : List PropSyntax) : Type 0 where
  none_there : own_phandle props ≡ None → AllByRecursion (λ name. is_phandle_name name ≡ false) (prop_names props) → Own earlier after props
  one_there : (n : ℕ) → own_phandle props ≡ Some n → (Has earlier n → ⊥) → Has after n → Own earlier after props

pub record PropsStage (earlier : List ℕ) (props : List PropSyntax) (tail : List Entry) : Type 0 where
  pub after : List ℕ
  pub bad : bad_phandles after tail ≡ []
  pub folded : fold numbers_after earlier (props_entries props tail) ≡ fold numbers_after after tail
  pub keeps : (x : ℕ) → Has earlier x → Has after x
  pub own : Own earlier after props

not_there : (earlier : List ℕ) (n place : ℕ) → place_if (list_any (λ one. one == n) earlier) place ≡ [] → Has earlier n → ⊥
not_there earlier n place e has = let no = no_place (list_any (λ one. one == n) earlier) place e in cc (no, has)

abbrev own_of : Bool → PropSyntax → List PropSyntax → Option ℕ
own_of b prop props = option_and_then (λ p. phandle_number p.values) (cond b (Some prop) (find (λ p. is_phandle_name p.name.name) props))

stage_false : (prop : PropSyntax) (props : List PropSyntax) (earlier after : List ℕ) → is_phandle_name prop.name.name ≡ false → Own earlier after props → Own earlier after (prop ∷ props)
stage_false prop props earlier after named (none_there own all) = none_there (ap (λ (b : Bool). own_of b prop props) named ∙ own) (named, all)
stage_false prop props earlier after named (one_there n own fresh has) = one_there n (ap (λ (b : Bool). own_of b prop props) named ∙ own) fresh has

stage_step : (prop : PropSyntax) (props : List PropSyntax) (tail : List Entry) (earlier : List ℕ) (b : Bool) (number : Option ℕ) → is_phandle_name prop.name.name ≡ b → phandle_number prop.values ≡ number
    → cond b (bad_place earlier prop.name.place number) [] ≡ [] → PropsStage (cond b (with_number earlier number) earlier) props tail → PropsStage earlier (prop ∷ props) tail
stage_step prop props tail earlier true None named numbered bad it = absurd (cc bad)
stage_step prop props tail earlier true (Some n) named numbered bad it = record {
  after = it.after;
  bad = it.bad;
  folded = ap (λ (b : Bool). fold numbers_after (cond b (with_number earlier (phandle_number prop.values)) earlier) (props_entries props tail)) named
      ∙ ap (λ (o : Option ℕ). fold numbers_after (with_number earlier o) (props_entries props tail)) numbered ∙ it.folded;
  keeps = λ x has. it.keeps x (has_more n earlier x has);
  own = one_there n (ap (λ (b : Bool). own_of b prop props) named ∙ numbered) (not_there earlier n prop.name.place bad) (it.keeps n (has_here n earlier));
}
stage_step prop props tail earlier false number named numbered bad it = record {
  after = it.after;
  bad = it.bad;
  folded = ap (λ (b : Bool). fold numbers_after (cond b (with_number earlier (phandle_number prop.values)) earlier) (props_entries props tail)) named ∙ it.folded;
  keeps = it.keeps;
  own = stage_false prop props earlier it.after named it.own;
}

props_stage : (props : List PropSyntax) (tail : List Entry) (earlier : List ℕ) → bad_phandles earlier (props_entries props tail) ≡ [] → PropsStage earlier props tail
props_stage [] tail earlier bad = record { after = earlier; bad = bad; folded = refl; keeps = λ x has. has; own = none_there refl tt }
props_stage (prop ∷ props) tail earlier bad =
    let one = entry.Property prop.labels prop.name prop.values in
    let parts = both_nil (bad_here earlier one) (bad_phandles (numbers_after earlier one) (props_entries props tail)) bad in
    stage_step prop props tail earlier (is_phandle_name prop.name.name) (phandle_number prop.values) refl refl parts.0 (props_stage props tail (numbers_after earlier one) parts.1)

-- the phandle of a node in the tree
abbrev is_phandle_prop : Prop → Bool
is_phandle_prop prop = pointwise nat_eq prop.name (codes "phandle")

skipped : (links : Links) (props : List PropSyntax) (more : List Prop) → AllByRecursion (λ name. is_phandle_name name ≡ false) (prop_names props) → find is_phandle_prop (map (prop_tree links) props ++ more) ≡ find is_phandle_prop more
skipped links [] more all = refl
skipped links (p ∷ props) more all =
    ap (λ (b : Bool). cond b (Some (prop_tree links p)) (find is_phandle_prop (map (prop_tree links) props ++ more))) all.0 ∙ skipped links props more all.1

pub record Valued (links : Links) (props : List PropSyntax) (more : List Prop) (n : ℕ) : Type 0 where
  pub values : List Value
  pub numbered : phandle_number values ≡ Some n
  pub value : option_map (λ (prop : Prop). prop.value) (find is_phandle_prop (map (prop_tree links) props ++ more)) ≡ Some (values_bytes links values)

valued_step : (links : Links) (prop : PropSyntax) (props : List PropSyntax) (more : List Prop) (n : ℕ) (b : Bool) → is_phandle_name prop.name.name ≡ b → own_of b prop props ≡ Some n
    → (own_phandle props ≡ Some n → Valued links props more n) → Valued links (prop ∷ props) more n
valued_step links prop props more n true named own below = record {
  values = prop.values;
  numbered = own;
  value = ap (λ (b : Bool). option_map (λ (p : Prop). p.value) (cond b (Some (prop_tree links prop)) (find is_phandle_prop (map (prop_tree links) props ++ more)))) named;
}
valued_step links prop props more n false named own below =
    let it = below own in
    record {
      values = it.values;
      numbered = it.numbered;
      value = ap (λ (b : Bool). option_map (λ (p : Prop). p.value) (cond b (Some (prop_tree links prop)) (find is_phandle_prop (map (prop_tree links) props ++ more)))) named ∙ it.value;
    }

valued : (links : Links) (props : List PropSyntax) (more : List Prop) (n : ℕ) → own_phandle props ≡ Some n → Valued links props more n
valued links [] more n own = absurd (cc own)
valued links (p ∷ props) more n own = valued_step links p props more n (is_phandle_name p.name.name) refl own (valued links props more n)

-- phandles of several nodes
cons_join : (o : Option (List ℕ)) (xs ys : List (List ℕ)) → cons_option o xs ++ ys ≡ cons_option o (xs ++ ys)
cons_join None xs ys = refl
cons_join (Some x) xs ys = refl

phandles_join : (nodes others : List Node) → phandles_of (nodes ++ others) ≡ phandles_of nodes ++ phandles_of others
phandles_join [] others = refl
phandles_join (n ∷ nodes) others =
    ap (cons_option (prop_value n (codes "phandle"))) (phandles_join nodes others) ∙ sym (cons_join (prop_value n (codes "phandle")) (phandles_of nodes) (phandles_of others))

-- a number is used so far, or it was given
abbrev pub Old : List ℕ → List ℕ → ℕ → ℕ → Type 0
Old used earlier from n = Has earlier n ⊎ ((n < from) × (list_any (λ one. one == n) used ≡ false))

old_grows : (used earlier after : List ℕ) (from next : ℕ) → ((x : ℕ) → Has earlier x → Has after x) → from ≤ next → (n : ℕ) → Old used earlier from n → Old used after next n
old_grows used earlier after from next keeps up n (inl has) = inl (keeps n has)
old_grows used earlier after from next keeps up n (inr given) = inr (omega arith, given.1)

elim_old : (used earlier : List ℕ) (from n : ℕ) → (Has earlier n → ⊥) → ((n < from) × (list_any (λ one. one == n) used ≡ false) → ⊥) → Old used earlier from n → ⊥
elim_old used earlier from n left right (inl has) = left has
elim_old used earlier from n left right (inr given) = right given

abbrev pub Small : Option ℕ → Type 0
Small given = IfSome given (λ n. n < 0xffff_ffff)

-- the first of some nodes in the order in which they are given numbers
pub data Head (asked : List (List ℕ)) (used : List ℕ) (from : ℕ) (site : Site) (sites : List Site) (given : List (Option ℕ)) : Type 0 where
  head_number : (n : ℕ) → is_needy asked site ≡ true → IsLeastFree used from n → given_first given ≡ Some n → AreGiven asked used (n + 1) sites (given_next given) → Head asked used from site sites given
  head_none : given_first given ≡ None → AreGiven asked used from sites (given_next given) → Head asked used from site sites given

head_of : (asked : List (List ℕ)) (used : List ℕ) (from : ℕ) (site : Site) (sites : List Site) (given : List (Option ℕ)) → AreGiven asked used from (site ∷ sites) given → Head asked used from site sites given
head_of asked used from site sites [] are = elim are [ ]
head_of asked used from site sites (g ∷ given) (gets_number s n asks least rest) = head_number n asks least refl rest
head_of asked used from site sites (g ∷ given) (gets_none s fails rest) = head_none refl rest

small_next : (given : List (Option ℕ)) → AllByRecursion Small given → AllByRecursion Small (given_next given)
small_next [] small = tt
small_next (g ∷ given) small = small.1

small_first : (given : List (Option ℕ)) → AllByRecursion Small given → Small (given_first given)
small_first [] small = tt
small_first (g ∷ given) small = small.0

-- a node by itself: its number, if it has one
pub record NodeStage (asked : List (List ℕ)) (used : List ℕ) (links : Links) (earlier after : List ℕ) (from : ℕ) (props : List PropSyntax) (given : List (Option ℕ)) (sites : List Site) : Type 0 where
  pub numbers : List ℕ
  pub next : ℕ
  pub low : from ≤ next
  pub fresh : Fresh (Old used earlier from) (Old used after next) numbers
  pub phandle : AreNumbers (cons_option (value_among (codes "phandle") (map (prop_tree links) props ++ number_prop (given_first given))) []) numbers
  pub rest : AreGiven asked used next sites (given_next given)
  pub free : Free (given_first given) props

not_needy : (asked : List (List ℕ)) (site : Site) (n : ℕ) → site.own ≡ Some n → is_needy asked site ≡ true → ⊥
not_needy asked site n own needs =
    let no : is_needy asked site ≡ false = ap (λ (o : Option ℕ). not (is_some o) && list_any (λ label. has_name asked label.name) site.labels) own in cc (needs, no)

module _ (asked : List (List ℕ)) (used : List ℕ) (links : Links) where
  node_stage : (earlier after : List ℕ) (from : ℕ) (props : List PropSyntax) (site : Site) (sites : List Site) (given : List (Option ℕ)) → site.own ≡ own_phandle props → 1 ≤ from → AllByRecursion Small given
      → ((x : ℕ) → Has earlier x → Has after x) → ((x : ℕ) → Has after x → Has used x) → Own earlier after props → Head asked used from site sites given → NodeStage asked used links earlier after from props given sites
  node_stage earlier after from props site sites given owns low small keeps uses (none_there own all) (head_none first rest) = record {
    numbers = [];
    next = from;
    low = omega arith;
    fresh = record { grows = old_grows used earlier after from from keeps (omega arith); fresh = tt; kept = tt; apart = tt };
    phandle = subst (λ (o : Option ℕ). AreNumbers (cons_option (value_among (codes "phandle") (map (prop_tree links) props ++ number_prop o)) []) []) (sym first)
        (subst (λ (o : Option Prop). AreNumbers (cons_option (option_map (λ (p : Prop). p.value) o) []) []) (sym (skipped links props [] all)) tt);
    rest = rest;
    free = subst (λ (o : Option ℕ). Free o props) (sym first) tt;
  }
  node_stage earlier after from props site sites given owns low small keeps uses (none_there own all) (head_number n asks least first rest) =
      let high : n < 0xffff_ffff = subst Small first (small_first given small) in
      let some : 1 ≤ n = omega (arith, least.at_least) in
      record {
        numbers = n ∷ [];
        next = n + 1;
        low = omega (arith, least.at_least);
        fresh = record {
          grows = old_grows used earlier after from (n + 1) keeps (omega (arith, least.at_least));
          fresh = (elim_old used earlier from n (λ has. let there = uses n (keeps n has) in let no = least.free in cc (there, no)) (λ below. absurd (omega (arith, below.0, least.at_least))), tt);
          kept = (inr (omega arith, least.free), tt);
          apart = (tt, tt);
        };
        phandle = subst (λ (o : Option ℕ). AreNumbers (cons_option (value_among (codes "phandle") (map (prop_tree links) props ++ number_prop o)) []) (n ∷ [])) (sym first)
            (subst (λ (o : Option Prop). AreNumbers (cons_option (option_map (λ (p : Prop). p.value) o) []) (n ∷ [])) (sym (skipped links props (number_prop (Some n)) all)) (cell_fact n some high, tt));
        rest = rest;
        free = subst (λ (o : Option ℕ). Free o props) (sym first) all;
      }
  node_stage earlier after from props site sites given owns low small keeps uses (one_there n own fresh has) (head_none first rest) =
      let it = valued links props (number_prop (given_first given)) n own in
      record {
        numbers = n ∷ [];
        next = from;
        low = omega arith;
        fresh = record {
          grows = old_grows used earlier after from from keeps (omega arith);
          fresh = (elim_old used earlier from n fresh (λ given_before. let there = uses n has in let no = given_before.1 in cc (there, no)), tt);
          kept = (inl has, tt);
          apart = (tt, tt);
        };
        phandle = subst (λ (o : Option (List ℕ)). AreNumbers (cons_option o []) (n ∷ [])) (sym it.value) (phandle_fact links it.values n it.numbered, tt);
        rest = rest;
        free = subst (λ (o : Option ℕ). Free o props) (sym first) tt;
      }
  node_stage earlier after from props site sites given owns low small keeps uses (one_there n own fresh has) (head_number m asks least first rest) =
      absurd (not_needy asked site n (owns ∙ own) asks)

-- nodes in a row with all below them
pub record NodesStage (asked : List (List ℕ)) (used : List ℕ) (links : Links) (nodes : NodesSyntax) (earlier : List ℕ) (from : ℕ) (given : List (Option ℕ)) (more : List Site) (tail : List Entry) : Type 0 where
  pub numbers : List ℕ
  pub after : List ℕ
  pub next : ℕ
  pub low : from ≤ next
  pub fresh : Fresh (Old used earlier from) (Old used after next) numbers
  pub phandles : AreNumbers (phandles_of (flat_map nodes_of (nodes_trees links nodes given))) numbers
  pub bad : bad_phandles after tail ≡ []
  pub folded : fold numbers_after after tail ≡ used
  pub rest : AreGiven asked used next more (given_behind nodes given)
  pub small : AllByRecursion Small (given_behind nodes given)
  pub free : AllFree nodes given

nodes_stage : (asked : List (List ℕ)) (used : List ℕ) (links : Links) (nodes : NodesSyntax) (above : List ℕ) (earlier : List ℕ) (from : ℕ) (given : List (Option ℕ)) (more : List Site) (tail : List Entry)
    → bad_phandles earlier (nodes_entries nodes tail) ≡ [] → fold numbers_after earlier (nodes_entries nodes tail) ≡ used → AreGiven asked used from (nodes_sites above nodes ++ more) given → AllByRecursion Small given → 1 ≤ from
    → NodesStage asked used links nodes earlier from given more tail
nodes_stage asked used links none above earlier from given more tail bad folded are small low = record {
  numbers = [];
  after = earlier;
  next = from;
  low = omega arith;
  fresh = record { grows = λ n old. old; fresh = tt; kept = tt; apart = tt };
  phandles = tt;
  bad = bad;
  folded = folded;
  rest = are;
  small = small;
  free = tt;
}
nodes_stage asked used links (node labels name props children rest) above earlier from given more tail bad folded are small low =
    let after = entry.Close ∷ nodes_entries rest tail in
    let path = above ++ 47 ∷ name.name in
    let site : Site = record { labels = labels; path = path; own = own_phandle props } in
    let next_given = given_next given in
    let p = props_stage props (nodes_entries children after) earlier bad in
    let all : fold numbers_after p.after (nodes_entries children after) ≡ used = sym p.folded ∙ folded in
    let uses : (x : ℕ) → Has p.after x → Has used x = λ x has. subst (λ (ns : List ℕ). Has ns x) all (fold_keeps (nodes_entries children after) p.after x has) in
    let sites = nodes_sites path children ++ (nodes_sites above rest ++ more) in
    let aligned : AreGiven asked used from (site ∷ sites) given =
    subst (λ (ss : List Site). AreGiven asked used from (site ∷ ss) given) (append_assoc (nodes_sites path children) (nodes_sites above rest) more) are in
    let one = node_stage asked used links earlier p.after from props site sites given refl low small p.keeps uses p.own (head_of asked used from site sites given aligned) in
    let two = nodes_stage asked used links children path p.after one.next next_given (nodes_sites above rest ++ more) after p.bad all one.rest (small_next given small) (omega (arith, one.low)) in
    let three = nodes_stage asked used links rest above two.after two.next (given_behind children next_given) more tail two.bad two.folded two.rest two.small (omega (arith, one.low, two.low)) in
    let x : Node-F Node = record { name = name.name; props = map (prop_tree links) props ++ number_prop (given_first given); children = nodes_trees links children next_given } in
    let behind = flat_map nodes_of (nodes_trees links rest (given_behind children next_given)) in
    let below = flat_map nodes_of (nodes_trees links children next_given) in
    let tree : nodes_of (roll-Node x) ≡ roll-Node x ∷ below = nodes_out (roll-Node x) ∙ ap (λ (ns : List Node). roll-Node x ∷ flat_map nodes_of ns) (children_is x) in
    let here : prop_value (roll-Node x) (codes "phandle") ≡ value_among (codes "phandle") x.props = ap (value_among (codes "phandle")) (props_is x) in
    let listed : phandles_of (nodes_of (roll-Node x) ++ behind) ≡ cons_option (value_among (codes "phandle") x.props) [] ++ (phandles_of below ++ phandles_of behind) =
    phandles_join (nodes_of (roll-Node x)) behind ∙ ap (λ (ns : List Node). phandles_of ns ++ phandles_of behind) tree
    ∙ ap (λ (o : Option (List ℕ)). cons_option o (phandles_of below) ++ phandles_of behind) here
    ∙ ap (λ (bs : List (List ℕ)). bs ++ phandles_of behind) (sym (cons_join (value_among (codes "phandle") x.props) [] (phandles_of below)))
    ∙ append_assoc (cons_option (value_among (codes "phandle") x.props) []) (phandles_of below) (phandles_of behind) in
    record {
      numbers = one.numbers ++ (two.numbers ++ three.numbers);
      after = three.after;
      next = three.next;
      low = omega (arith, one.low, two.low, three.low);
      fresh = fresh_join (Old used earlier from) (Old used p.after one.next) (Old used three.after three.next) one.numbers (two.numbers ++ three.numbers) one.fresh
          (fresh_join (Old used p.after one.next) (Old used two.after two.next) (Old used three.after three.next) two.numbers three.numbers two.fresh three.fresh);
      phandles = subst (λ (bs : List (List ℕ)). AreNumbers bs (one.numbers ++ (two.numbers ++ three.numbers))) (sym listed)
          (numbers_join (cons_option (value_among (codes "phandle") x.props) []) (phandles_of below ++ phandles_of behind) one.numbers (two.numbers ++ three.numbers) one.phandle
          (numbers_join (phandles_of below) (phandles_of behind) two.numbers three.numbers two.phandles three.phandles));
      bad = three.bad;
      folded = three.folded;
      rest = three.rest;
      small = three.small;
      free = (one.free, two.free, three.free);
    }

numbers_are : (bytes : List (List ℕ)) (numbers : List ℕ) → AreNumbers bytes numbers → AllByRecursion IsPhandle bytes
numbers_are [] numbers are = tt
numbers_are (b ∷ bytes) [] are = absurd are
numbers_are (b ∷ bytes) (n ∷ numbers) are = (are.0.0, numbers_are bytes numbers are.1)

bytes_differ : (one : List ℕ) (n : ℕ) (bytes : List (List ℕ)) (numbers : List ℕ) → big_endian one ≡ n → AreNumbers bytes numbers → AllByRecursion (λ other. n ≢ other) numbers → AllByRecursion (λ other. one ≢ other) bytes
bytes_differ one n [] numbers is are apart = tt
bytes_differ one n (b ∷ bytes) [] is are apart = absurd are
bytes_differ one n (b ∷ bytes) (m ∷ numbers) is are apart =
    ((λ same. apart.0 (sym is ∙ ap big_endian same ∙ are.0.1)), bytes_differ one n bytes numbers is are.1 apart.1)

bytes_apart : (bytes : List (List ℕ)) (numbers : List ℕ) → AreNumbers bytes numbers → Apart numbers → Distinct bytes
bytes_apart [] numbers are apart = tt
bytes_apart (b ∷ bytes) [] are apart = absurd are
bytes_apart (b ∷ bytes) (n ∷ numbers) are apart = (bytes_differ b n bytes numbers are.0.1 are.1 apart.0, bytes_apart bytes numbers are.1 apart.1)

pairs_plain : (xs : List (List ℕ)) → Distinct xs → AllPairs (λ one other. one ≢ other) xs
pairs_plain [] apart = λ i j d lt within. absurd (omega (arith, within))
pairs_plain (x ∷ xs) apart = AllPairs-cons (λ one other. one ≢ other) x xs (all_from (λ other. x ≢ other) xs apart.0) (pairs_plain xs apart.1)

lesser_some : (place : ℕ) (o : Option ℕ) → lesser (Some place) o ≡ None → ⊥
lesser_some place None e = cc e
lesser_some place (Some n) e = cc e

-- where no rule is broken, no place is
least_none : (places : List ℕ) → least places ≡ None → places ≡ []
least_none [] e = refl
least_none (p ∷ places) e = absurd (lesser_some p (least places) e)

first_none : {X : Type 0} (a b : Option X) → option_or a b ≡ None → (a ≡ None) × (b ≡ None)
first_none None b e = (refl, e)
first_none (Some x) b e = absurd (cc e)

mapped_none : {X Y : Type 0} (f : X → Y) (o : Option X) → option_map f o ≡ None → o ≡ None
mapped_none f None e = refl
mapped_none f (Some x) e = absurd (cc e)

-- a source that keeps the rules stands for a tree that does
pub rooted : (asked : List (List ℕ)) (links : Links) (source : SourceSyntax) (given : List (Option ℕ)) → AllByRecursion IsWellNamed (entries_of source) → broken_rule source ≡ None
    → AreGiven asked (used_numbers (entries_of source)) 1 (nodes_sites [] source.nodes) given → AllByRecursion Small given → IsRoot (root_tree links source given)
rooted asked links source given well kept are small =
    let entries = entries_of source in
    let used = used_numbers entries in
    let rules = first_none (option_map (λ place. refusal.TwiceNamed place) (least (twice_named source))) _ kept in
    let others = first_none (option_map (λ place. refusal.BadPhandle place) (least (bad_phandles [] entries))) _ rules.1 in
    let twice : twice_named source ≡ [] = least_none (twice_named source) (mapped_none _ (least (twice_named source)) rules.0) in
    let bad : bad_phandles [] entries ≡ [] = least_none (bad_phandles [] entries) (mapped_none _ (least (bad_phandles [] entries)) others.0) in
    let members = (both_nil (repeated [] (labels_of entries)) (props_repeated [] source.props ++ nodes_repeated [] source.nodes) twice).1 in
    let names = both_nil (props_repeated [] source.props) (nodes_repeated [] source.nodes) members in
    let p = props_stage source.props (nodes_entries source.nodes []) [] bad in
    let all : fold numbers_after p.after (nodes_entries source.nodes []) ≡ used = sym p.folded in
    let uses : (x : ℕ) → Has p.after x → Has used x = λ x has. subst (λ (ns : List ℕ). Has ns x) all (fold_keeps (nodes_entries source.nodes []) p.after x has) in
    let sites : AreGiven asked used 1 (nodes_sites [] source.nodes ++ []) given = subst (λ (ss : List Site). AreGiven asked used 1 ss given) (sym (append-nil (nodes_sites [] source.nodes))) are in
    let root : Site = record { labels = []; path = []; own = own_phandle source.props } in
    let one = node_stage asked used links [] p.after 1 source.props root (nodes_sites [] source.nodes ++ []) (None ∷ given) refl (omega arith) (tt, small) p.keeps uses p.own (head_none refl sites) in
    let two = nodes_stage asked used links source.nodes [] p.after one.next given [] [] p.bad all one.rest small (omega (arith, one.low)) in
    let x : Node-F Node = record { name = []; props = map (prop_tree links) source.props; children = nodes_trees links source.nodes given } in
    let below = flat_map nodes_of (nodes_trees links source.nodes given) in
    let tree : nodes_of (roll-Node x) ≡ roll-Node x ∷ below = nodes_out (roll-Node x) ∙ ap (λ (ns : List Node). roll-Node x ∷ flat_map nodes_of ns) (children_is x) in
    let here : prop_value (roll-Node x) (codes "phandle") ≡ value_among (codes "phandle") (map (prop_tree links) source.props ++ []) =
    ap (value_among (codes "phandle")) (props_is x ∙ sym (append-nil (map (prop_tree links) source.props))) in
    let listed : phandles_of (nodes_of (roll-Node x)) ≡ cons_option (value_among (codes "phandle") (map (prop_tree links) source.props ++ [])) [] ++ phandles_of below =
    ap phandles_of tree ∙ ap (λ (o : Option (List ℕ)). cons_option o (phandles_of below)) here ∙ sym (cons_join (value_among (codes "phandle") (map (prop_tree links) source.props ++ [])) [] (phandles_of below)) in
    let numbers = one.numbers ++ two.numbers in
    let numbered : AreNumbers (phandles_of (nodes_of (roll-Node x))) numbers =
    subst (λ (bs : List (List ℕ)). AreNumbers bs numbers) (sym listed) (numbers_join (cons_option (value_among (codes "phandle") (map (prop_tree links) source.props ++ [])) []) (phandles_of below) one.numbers two.numbers one.phandle two.phandles) in
    let fresh = fresh_join (Old used [] 1) (Old used p.after one.next) (Old used two.after two.next) one.numbers two.numbers one.fresh two.fresh in
    let within = props_well source.props (nodes_entries source.nodes []) well in
    let inner = nodes_well source.nodes [] within.1 in
    let good_root : HasGoodNames (roll-Node x) = subst (λ (ps : List Prop). HasGoodNames (roll-Node (record { name = []; props = ps; children = nodes_trees links source.nodes given }))) (append-nil (map (prop_tree links) source.props))
    (good_node links [] source.props None source.nodes given within.0 (props_new [] source.props names.0).0 tt inner.0 (nodes_new [] source.nodes names.1).0) in
    let good = nodes_good links source.nodes given [] [] within.1 names.1 two.free in
    record {
      unnamed = ap (λ y. y.name) (out-roll-Node x);
      names = subst (All HasGoodNames) (sym tree) (all_from HasGoodNames (roll-Node x ∷ below) (good_root, good));
      phandles = all_from IsPhandle (phandles_of (nodes_of (roll-Node x))) (numbers_are (phandles_of (nodes_of (roll-Node x))) numbers numbered);
      phandles_apart = pairs_plain (phandles_of (nodes_of (roll-Node x))) (bytes_apart (phandles_of (nodes_of (roll-Node x))) numbers numbered fresh.apart);
    }
