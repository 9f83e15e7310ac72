-- Labels and nodes that are noted one after the other.
use Rattle.std.proofs.Common.{◌≡◌, ℕ, ◌+◌, ◌<◌, ◌≤◌, Bool, true, false, cond, List, [], ◌∷◌, ◌++◌, length, drop, get_or, refl, sym, ap, subst, ◌∙◌, append_assoc}
use Rattle.std.specs.Prelude.{Option, Some, None, map, not, is_some, ◌&&◌, ◌||◌, nat_eq, MatchOption}
use Rattle.std.specs.Ordering.{nat_cmp, is_eq}
use Rattle.std.specs.Option.{option_map, option_or}
use Rattle.std.specs.List.{list_any, find, AllByRecursion}
use Rattle.std.specs.Cmp.Lexicographic.{slice_cmp, pointwise, texts_ties, bytes_decides}
use Rattle.std.specs.BTreeMap.{BTreeMap, get}
use Rattle.std.proofs.lemmas.List.{drop_more, drop_all, append-nil, map-append}
use Rattle.std.proofs.lemmas.List.Folds.{find-append}
use Rattle.hv_dts.specs.Rules.{has_name}
use Rattle.hv_dts.specs.Resolved.{Site, is_needy, AreGiven, no_nodes, gets_number, gets_none, has_label, Numbered, number_then}
use Rattle.hv_dts.specs.Linking.{IsSmall, some_if, without_last, site_here, sites_from, Gives, a_number, nothing, Leads, Steps, AreLinked}
use Rattle.hv_dtgram.specs.declared.contents.Named.{Named}
use Rattle.hv_dtgram.specs.declared.contents.Entry.{Entry}
use Rattle.hv_dtgram.specs.declared.contents.Entry.TheVariants as entry
use Rattle.hv_dts.specs.declared.linking.Linking.{Linking}

-- a value that is there stays
first_if : {X : Type 0} (there : Bool) (found : Option X) (value : X) → (there ≡ true → is_some found ≡ true) → found ≡ option_or found (some_if there value)
first_if true (Some x) value some = refl
first_if true None value some = let e = some refl in cc e
first_if false (Some x) value some = refl
first_if false None value some = refl

pub first_stays : {X : Type 0} (m : BTreeMap (List ℕ) X) (label : List ℕ) (value : X) → is_some (get (slice_cmp nat_cmp) m label) ≡ true
    → (name : List ℕ) → get (slice_cmp nat_cmp) m name ≡ option_or (get (slice_cmp nat_cmp) m name) (some_if (pointwise nat_eq label name) value)
first_stays m label value there = λ name.
    first_if (pointwise nat_eq label name) (get (slice_cmp nat_cmp) m name) value
    (λ e. subst (λ (l : List ℕ). is_some (get (slice_cmp nat_cmp) m l) ≡ true) ((bytes_decides label name).0 e) there)

put_if : {X : Type 0} (here : Bool) (found : Option X) (value : X) → (here ≡ true → is_some found ≡ false) → cond here (Some value) found ≡ option_or found (some_if here value)
put_if true (Some x) value none = let e = none refl in cc e
put_if true None value none = refl
put_if false (Some x) value none = refl
put_if false None value none = refl

-- and one that is not there is put
pub first_put : {X : Type 0} (old new : BTreeMap (List ℕ) X) (key label : List ℕ) (value : X) → key ≡ label → is_some (get (slice_cmp nat_cmp) old label) ≡ false
    → ((name : List ℕ) → get (slice_cmp nat_cmp) new name ≡ cond (is_eq (slice_cmp nat_cmp key name)) (Some value) (get (slice_cmp nat_cmp) old name))
    → (name : List ℕ) → get (slice_cmp nat_cmp) new name ≡ option_or (get (slice_cmp nat_cmp) old name) (some_if (pointwise nat_eq label name) value)
first_put old new key label value same absent put = λ name.
    put name ∙ ap (λ (b : Bool). cond b (Some value) (get (slice_cmp nat_cmp) old name)) (sym (texts_ties key name) ∙ ap (λ (k : List ℕ). pointwise nat_eq k name) same)
    ∙ put_if (pointwise nat_eq label name) (get (slice_cmp nat_cmp) old name) value
    (λ e. subst (λ (l : List ℕ). is_some (get (slice_cmp nat_cmp) old l) ≡ false) ((bytes_decides label name).0 e) absent)

abbrev pub any_label : List Named → List ℕ → Bool
any_label labels name = list_any (λ label. pointwise nat_eq label.name name) labels

or_else : {X : Type 0} (found : Option X) (a b : Bool) (value : X) → option_or (option_or found (some_if a value)) (some_if b value) ≡ option_or found (some_if (a || b) value)
or_else (Some x) a b value = refl
or_else None true b value = refl
or_else None false b value = refl

or_none : {X : Type 0} (found : Option X) → option_or found None ≡ found
or_none (Some x) = refl
or_none None = refl

pub first_more : {X : Type 0} (before after whole : Option X) (labels : List Named) (i : ℕ) (label : Named) (name : List ℕ) (value : X) → i < length labels → label ≡ get_or labels i label
    → after ≡ option_or before (some_if (pointwise nat_eq label.name name) value) → option_or before (some_if (any_label (drop i labels) name) value) ≡ whole
    → option_or after (some_if (any_label (drop (i + 1) labels) name) value) ≡ whole
first_more before after whole labels i label name value lt is step same =
    let rest = drop (i + 1) labels in
    let here : drop i labels ≡ label ∷ rest = drop_more labels i label lt ∙ ap (λ (l : Named). l ∷ rest) (sym is) in
    ap (λ o. option_or o (some_if (any_label rest name) value)) step ∙ or_else before (pointwise nat_eq label.name name) (any_label rest name) value
    ∙ ap (λ (ls : List Named). option_or before (some_if (any_label ls name) value)) (sym here) ∙ same

pub first_all : {X : Type 0} (before whole : Option X) (labels : List Named) (i : ℕ) (name : List ℕ) (value : X) → length labels ≤ i → option_or before (some_if (any_label (drop i labels) name) value) ≡ whole → before ≡ whole
first_all before whole labels i name value over same =
    sym (or_none before) ∙ ap (λ (ls : List Named). option_or before (some_if (any_label ls name) value)) (sym (drop_all i labels over)) ∙ same

pub needy_is : (asked : List (List ℕ)) (site : Site) (own : Option ℕ) (labels : List Named) → site.own ≡ own → site.labels ≡ labels → is_some own ≡ false → list_any (λ label. has_name asked label.name) labels ≡ true → is_needy asked site ≡ true
needy_is asked site own labels o l none any =
    ap (λ (x : Option ℕ). not (is_some x) && list_any (λ label. has_name asked label.name) site.labels) o
    ∙ ap (λ (b : Bool). not b && list_any (λ label. has_name asked label.name) site.labels) none
    ∙ ap (list_any (λ (label : Named). has_name asked label.name)) l ∙ any

-- the first node of several that has a label
map_or : {X Y : Type 0} (f : X → Y) (a b : Option X) → option_map f (option_or a b) ≡ option_or (option_map f a) (option_map f b)
map_or f (Some x) b = refl
map_or f None b = refl

one_found : {X Y : Type 0} (f : X → Y) (b : Bool) (x : X) (value : Y) → value ≡ f x → some_if b value ≡ option_map f (cond b (Some x) None)
one_found f true x value e = ap (λ y. Some y) e
one_found f false x value e = refl

found_more : {Y : Type 0} (f : Numbered → Y) (nodes : List Numbered) (one : Numbered) (name : List ℕ) (value : Y) → value ≡ f one
    → option_or (option_map f (find (λ numbered. has_label name numbered.0) nodes)) (some_if (has_label name one.0) value) ≡ option_map f (find (λ numbered. has_label name numbered.0) (nodes ++ one ∷ []))
found_more f nodes one name value e =
    let test : Numbered → Bool = λ numbered. has_label name numbered.0 in
    ap (option_or (option_map f (find test nodes))) (one_found f (has_label name one.0) one value e)
    ∙ sym (map_or f (find test nodes) (find test (one ∷ []))) ∙ ap (option_map f) (sym (find-append test nodes (one ∷ [])))

pub leads_more : (wanted : List (List ℕ)) (old new : Linking) (nodes : List Numbered) (site : Site) (given : Option ℕ) (number : ℕ) → Leads wanted old nodes → new.given.items ≡ old.given.items ++ given ∷ [] → number ≡ number_then (site, given)
    → ((name : List ℕ) → get (slice_cmp nat_cmp) new.links.numbers name ≡ option_or (get (slice_cmp nat_cmp) old.links.numbers name) (some_if (any_label site.labels name) number))
    → ((name : List ℕ) → has_name wanted name ≡ true → get (slice_cmp nat_cmp) new.links.paths name ≡ option_or (get (slice_cmp nat_cmp) old.links.paths name) (some_if (any_label site.labels name) site.path))
    → Leads wanted new (nodes ++ (site, given) ∷ [])
leads_more wanted old new nodes site given number it more is numbers paths =
    let one : Numbered = (site, given) in
    record {
      given = more ∙ ap (λ (gs : List (Option ℕ)). gs ++ given ∷ []) it.given ∙ sym (map-append (λ (numbered : Numbered). numbered.1) nodes (one ∷ []));
      numbers = λ name. numbers name ∙ ap (λ (o : Option ℕ). option_or o (some_if (any_label site.labels name) number)) (it.numbers name) ∙ found_more number_then nodes one name number is;
      paths = λ name asks. paths name asks ∙ ap (λ (o : Option (List ℕ)). option_or o (some_if (any_label site.labels name) site.path)) (it.paths name asks)
          ∙ found_more (λ (numbered : Numbered). numbered.0.path) nodes one name site.path refl;
    }

pub last_of : {X : Type 0} (xs : List X) (x : X) → without_last (xs ++ x ∷ []) ≡ xs
last_of [] x = refl
last_of (y ∷ []) x = refl
last_of (y ∷ z ∷ xs) x = λ i. y ∷ last_of (z ∷ xs) x i

pub popped_last : {X : Type 0} (old new : List X) (taken : Option X) → MatchOption taken ((old ≡ []) × (new ≡ [])) (λ last. old ≡ new ++ last ∷ []) → new ≡ without_last old
popped_last old new None both = both.1 ∙ ap without_last (sym both.0)
popped_last old new (Some last) is = sym (last_of new last) ∙ ap without_last (sym is)

-- the entries that are left have the nodes that are left
pub record Linked (cells wanted : List (List ℕ)) (used : List ℕ) (linking : Linking) (left entries : List Entry) : Type 0 where
  pub nodes : List Numbered
  pub leads : Leads wanted linking nodes
  pub sites : map (λ numbered. numbered.0) nodes ++ sites_from linking.around left ≡ sites_from [] entries
  pub small : AllByRecursion (λ (numbered : Numbered). IsSmall numbered.1) nodes
  pub fresh : (more : List Site) (given : List (Option ℕ)) → AreGiven cells used linking.next more given
      → AreGiven cells used 1 (map (λ numbered. numbered.0) nodes ++ more) (map (λ numbered. numbered.1) nodes ++ given)

gives_more : (cells : List (List ℕ)) (used : List ℕ) (site : Site) (from next : ℕ) (one : Option ℕ) (more : List Site) (given : List (Option ℕ)) → Gives cells used site from one next → AreGiven cells used next more given → AreGiven cells used from (site ∷ more) (one ∷ given)
gives_more cells used site from next one more given (a_number number asks least is then) rest =
    subst (λ (o : Option ℕ). AreGiven cells used from (site ∷ more) (o ∷ given)) (sym is) (gets_number site number asks least (subst (λ (n : ℕ). AreGiven cells used n more given) then rest))
gives_more cells used site from next one more given (nothing not_asked is then) rest =
    subst (λ (o : Option ℕ). AreGiven cells used from (site ∷ more) (o ∷ given)) (sym is) (gets_none site not_asked (subst (λ (n : ℕ). AreGiven cells used n more given) then rest))

small_push : (nodes : List Numbered) (one : Numbered) → AllByRecursion (λ (numbered : Numbered). IsSmall numbered.1) nodes → IsSmall one.1 → AllByRecursion (λ (numbered : Numbered). IsSmall numbered.1) (nodes ++ one ∷ [])
small_push [] one all small = (small, tt)
small_push (n ∷ nodes) one all small = (all.0, small_push nodes one all.1 small)

small_given : (nodes : List Numbered) → AllByRecursion (λ (numbered : Numbered). IsSmall numbered.1) nodes → AllByRecursion IsSmall (map (λ (numbered : Numbered). numbered.1) nodes)
small_given [] all = tt
small_given (n ∷ nodes) all = (all.0, small_given nodes all.1)

linked_step : (cells wanted : List (List ℕ)) (used : List ℕ) (old new : Linking) (one : Entry) (rest entries : List Entry) (it : Linked cells wanted used old (one ∷ rest) entries) → Steps cells wanted used old new it.nodes one rest → Linked cells wanted used new rest entries
linked_step cells wanted used old new (entry.Property labels name values) rest entries it step = record {
  nodes = it.nodes;
  leads = step.leads;
  small = it.small;
  sites = ap (λ (a : List (List ℕ)). map (λ (numbered : Numbered). numbered.0) it.nodes ++ sites_from a rest) step.around ∙ it.sites;
  fresh = λ more given are. it.fresh more given (subst (λ (n : ℕ). AreGiven cells used n more given) step.next are);
}
linked_step cells wanted used old new (entry.Open labels name) rest entries it step =
    let site = site_here old.around labels name rest in
    let one : Numbered = (site, step.given) in
    let first : Numbered → Site = λ numbered. numbered.0 in
    let second : Numbered → Option ℕ = λ numbered. numbered.1 in
    record {
      nodes = it.nodes ++ one ∷ [];
      leads = step.leads;
      small = small_push it.nodes one it.small step.small;
      sites = ap (λ (a : List (List ℕ)). map first (it.nodes ++ one ∷ []) ++ sites_from a rest) step.around
          ∙ ap (λ (ss : List Site). ss ++ sites_from (old.around ++ name.name ∷ []) rest) (map-append first it.nodes (one ∷ []))
          ∙ append_assoc (map first it.nodes) (site ∷ []) (sites_from (old.around ++ name.name ∷ []) rest) ∙ it.sites;
      fresh = λ more given are.
          let all = it.fresh (site ∷ more) (step.given ∷ given) (gives_more cells used site old.next new.next step.given more given step.gives are) in
          let left : map first (it.nodes ++ one ∷ []) ++ more ≡ map first it.nodes ++ site ∷ more =
          ap (λ (ss : List Site). ss ++ more) (map-append first it.nodes (one ∷ [])) ∙ append_assoc (map first it.nodes) (site ∷ []) more in
          let right : map second (it.nodes ++ one ∷ []) ++ given ≡ map second it.nodes ++ step.given ∷ given =
          ap (λ (gs : List (Option ℕ)). gs ++ given) (map-append second it.nodes (one ∷ [])) ∙ append_assoc (map second it.nodes) (step.given ∷ []) given in
          subst (λ (ss : List Site). AreGiven cells used 1 ss (map second (it.nodes ++ one ∷ []) ++ given)) (sym left)
          (subst (λ (gs : List (Option ℕ)). AreGiven cells used 1 (map first it.nodes ++ site ∷ more) gs) (sym right) all);
    }
linked_step cells wanted used old new entry.Close rest entries it step = record {
  nodes = it.nodes;
  leads = step.leads;
  small = it.small;
  sites = ap (λ (a : List (List ℕ)). map (λ (numbered : Numbered). numbered.0) it.nodes ++ sites_from a rest) step.around ∙ it.sites;
  fresh = λ more given are. it.fresh more given (subst (λ (n : ℕ). AreGiven cells used n more given) step.next are);
}

pub linked_more : (cells wanted : List (List ℕ)) (used : List ℕ) (old new : Linking) (entries following : List Entry) (i : ℕ) (one : Entry) → i < length entries → one ≡ get_or entries i one → following ≡ drop (i + 1) entries
    → ((nodes : List Numbered) → Leads wanted old nodes → Steps cells wanted used old new nodes one following) → Linked cells wanted used old (drop i entries) entries → Linked cells wanted used new (drop (i + 1) entries) entries
linked_more cells wanted used old new entries following i one lt is behind step it =
    let rest = drop (i + 1) entries in
    let here : drop i entries ≡ one ∷ rest = drop_more entries i one lt ∙ ap (λ (e : Entry). e ∷ rest) (sym is) in
    let at = subst (λ (es : List Entry). Linked cells wanted used old es entries) here it in
    linked_step cells wanted used old new one rest entries at (subst (Steps cells wanted used old new at.nodes one) behind (step at.nodes at.leads))

pub linked_all : (cells wanted : List (List ℕ)) (used : List ℕ) (linking : Linking) (entries : List Entry) (i : ℕ) → length entries ≤ i → Linked cells wanted used linking (drop i entries) entries → AreLinked cells wanted used linking entries
linked_all cells wanted used linking entries i over it =
    let first : Numbered → Site = λ numbered. numbered.0 in
    let second : Numbered → Option ℕ = λ numbered. numbered.1 in
    record {
      nodes = it.nodes;
      sites = sym (append-nil (map first it.nodes)) ∙ ap (λ (es : List Entry). map first it.nodes ++ sites_from linking.around es) (sym (drop_all i entries over)) ∙ it.sites;
      leads = it.leads;
      small = subst (AllByRecursion IsSmall) (sym it.leads.given) (small_given it.nodes it.small);
      given = subst (λ (ss : List Site). AreGiven cells used 1 ss (map second it.nodes)) (append-nil (map first it.nodes))
          (subst (AreGiven cells used 1 (map first it.nodes ++ [])) (append-nil (map second it.nodes)) (it.fresh [] [] no_nodes));
    }
