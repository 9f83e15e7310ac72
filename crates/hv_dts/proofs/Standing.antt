-- What a source stands for, from what was found among its entries.
use Rattle.std.proofs.Common.{◌≡◌, ℕ, Bool, true, false, cond, List, [], ◌∷◌, ◌++◌, refl, sym, ap, subst, ◌∙◌, append_assoc}
use Rattle.std.specs.Prelude.{Option, Some, None, map, zip, nat_eq, ◌||◌}
use Rattle.std.specs.Option.{option_and_then, unwrap_or}
use Rattle.std.specs.List.{AllByRecursion, find, flat_map}
use Rattle.std.specs.Cmp.Lexicographic.{pointwise, bytes_decides}
use Rattle.std.proofs.lemmas.List.{append-nil}
use Rattle.std.proofs.lemmas.Grind.{flat_map-append}
use Rattle.hv_dtree.specs.declared.node.Node.{Node}
use Rattle.hv_dtgram.specs.Contents.{PropSyntax, NodesSyntax, none, node, SourceSyntax, entries_of, props_entries, nodes_entries}
use Rattle.hv_dts.specs.Bytes.{Links, cell_bytes, cells_bytes, values_bytes, paths_references, is_phandle_name, phandle_number}
use Rattle.hv_dts.specs.Rules.{has_name, path_references, names_of}
use Rattle.hv_dts.specs.Resolved.{Site, own_phandle, nodes_sites, asked_labels, used_numbers, AreGiven, Numbered, links_of, root_tree, IsTreeOf}
use Rattle.hv_dts.specs.Linking.{names_path, without_last, following_phandle, site_here, sites_from, AreLinked}
use Rattle.hv_dts.specs.Building.{Built, frame_tree, nothing_built}
use Rattle.hv_dts.specs.Maps.{links_in}
use Rattle.hv_dtgram.specs.declared.contents.Named.{Named}
use Rattle.hv_dtgram.specs.declared.contents.Cell.{Cell}
use Rattle.hv_dtgram.specs.declared.contents.Cell.TheVariants as cell
use Rattle.hv_dtgram.specs.declared.contents.Value.{Value}
use Rattle.hv_dtgram.specs.declared.contents.Value.TheVariants as value
use Rattle.hv_dtgram.specs.declared.contents.Entry.{Entry}
use Rattle.hv_dtgram.specs.declared.contents.Entry.TheVariants as entry
use Rattle.hv_dts.specs.declared.linking.Linking.{Linking}
use Rattle.hv_dts.proofs.Trees.{built_all, source_on}
use Rattle.hv_dts.proofs.Links.{last_of}

-- the nodes among the entries of a source
sites_props : (around : List (List ℕ)) (props : List PropSyntax) (tail : List Entry) → sites_from around (props_entries props tail) ≡ sites_from around tail
sites_props around [] tail = refl
sites_props around (prop ∷ props) tail = sites_props around props tail

own_step : (b : Bool) (prop : PropSyntax) (rest : Option PropSyntax) → cond b (phandle_number prop.values) (option_and_then (λ p. phandle_number p.values) rest) ≡ option_and_then (λ p. phandle_number p.values) (cond b (Some prop) rest)
own_step true prop rest = refl
own_step false prop rest = refl

own_is : (props : List PropSyntax) (tail : List Entry) → following_phandle tail ≡ None → following_phandle (props_entries props tail) ≡ own_phandle props
own_is [] tail ends = ends
own_is (prop ∷ props) tail ends =
    ap (cond (is_phandle_name prop.name.name) (phandle_number prop.values)) (own_is props tail ends)
    ∙ own_step (is_phandle_name prop.name.name) prop (find (λ p. is_phandle_name p.name.name) props)

no_prop_first : (nodes : NodesSyntax) (tail : List Entry) → following_phandle (nodes_entries nodes (entry.Close ∷ tail)) ≡ None
no_prop_first none tail = refl
no_prop_first (node labels name props children rest) tail = refl

path_more : (around : List (List ℕ)) (name : List ℕ) → names_path (around ++ name ∷ []) ≡ names_path around ++ 47 ∷ name
path_more around name = flat_map-append (λ (n : List ℕ). 47 ∷ n) around (name ∷ []) ∙ ap (λ (n : List ℕ). names_path around ++ n) (append-nil (47 ∷ name))

sites_nodes : (around : List (List ℕ)) (nodes : NodesSyntax) (tail : List Entry) → sites_from around (nodes_entries nodes tail) ≡ nodes_sites (names_path around) nodes ++ sites_from around tail
sites_nodes around none tail = refl
sites_nodes around (node labels name props children rest) tail =
    let after = entry.Close ∷ nodes_entries rest tail in
    let within = around ++ name.name ∷ [] in
    let above = names_path around in
    let site : List ℕ → Option ℕ → Site = λ path own. record { labels = labels; path = path; own = own } in
    let here : site_here around labels name (props_entries props (nodes_entries children after)) ≡ site (above ++ 47 ∷ name.name) (own_phandle props) =
    ap (λ (p : List ℕ). site p (following_phandle (props_entries props (nodes_entries children after)))) (path_more around name.name)
    ∙ ap (site (above ++ 47 ∷ name.name)) (own_is props (nodes_entries children after) (no_prop_first children (nodes_entries rest tail))) in
    let outer : sites_from (without_last within) (nodes_entries rest tail) ≡ nodes_sites above rest ++ sites_from around tail =
    ap (λ (a : List (List ℕ)). sites_from a (nodes_entries rest tail)) (last_of around name.name) ∙ sites_nodes around rest tail in
    let below : sites_from within (props_entries props (nodes_entries children after)) ≡ (nodes_sites (above ++ 47 ∷ name.name) children ++ nodes_sites above rest) ++ sites_from around tail =
    sites_props within props (nodes_entries children after) ∙ sites_nodes within children after
    ∙ ap (λ (p : List ℕ). nodes_sites p children ++ sites_from (without_last within) (nodes_entries rest tail)) (path_more around name.name)
    ∙ ap (λ (ss : List Site). nodes_sites (above ++ 47 ∷ name.name) children ++ ss) outer
    ∙ sym (append_assoc (nodes_sites (above ++ 47 ∷ name.name) children) (nodes_sites above rest) (sites_from around tail)) in
    λ i. here i ∷ below i

pub sites_are : (source : SourceSyntax) → sites_from [] (entries_of source) ≡ nodes_sites [] source.nodes
sites_are source = sites_props [] source.props (nodes_entries source.nodes []) ∙ sites_nodes [] source.nodes [] ∙ append-nil (nodes_sites [] source.nodes)

-- where links lead to the same for all references of a value, its bytes are the same
module _ (one other : Links) (wanted : List (List ℕ)) (numbers : (name : List ℕ) → one.number name ≡ other.number name) (paths : (name : List ℕ) → has_name wanted name ≡ true → one.path name ≡ other.path name) where
  cells_agree : (cells : List Cell) → cells_bytes one cells ≡ cells_bytes other cells
  cells_agree [] = refl
  cells_agree (cell.Number n ∷ cells) = ap (λ (b : List ℕ). cell_bytes n ++ b) (cells_agree cells)
  cells_agree (cell.Phandle label ∷ cells) =
      ap (λ (n : ℕ). cell_bytes n ++ cells_bytes one cells) (numbers label.name) ∙ ap (λ (b : List ℕ). cell_bytes (other.number label.name) ++ b) (cells_agree cells)

  values_agree : (values : List Value) → AllByRecursion (λ (label : Named). has_name wanted label.name ≡ true) (paths_references values) → values_bytes one values ≡ values_bytes other values
  values_agree [] all = refl
  values_agree (value.Cells cells ∷ values) all =
      ap (λ (b : List ℕ). b ++ values_bytes one values) (cells_agree cells) ∙ ap (λ (b : List ℕ). cells_bytes other cells ++ b) (values_agree values all)
  values_agree (value.Text bytes ∷ values) all = ap (λ (b : List ℕ). (bytes ++ 0 ∷ []) ++ b) (values_agree values all)
  values_agree (value.Bytes bytes ∷ values) all = ap (λ (b : List ℕ). bytes ++ b) (values_agree values all)
  values_agree (value.Path label ∷ values) all =
      ap (λ (p : List ℕ). (p ++ 0 ∷ []) ++ values_bytes one values) (paths label.name all.0) ∙ ap (λ (b : List ℕ). (other.path label.name ++ 0 ∷ []) ++ b) (values_agree values all.1)

  front_all : (xs ys : List Named) → AllByRecursion (λ (label : Named). has_name wanted label.name ≡ true) (xs ++ ys)
      → AllByRecursion (λ (label : Named). has_name wanted label.name ≡ true) xs × AllByRecursion (λ (label : Named). has_name wanted label.name ≡ true) ys
  front_all [] ys all = (tt, all)
  front_all (x ∷ xs) ys all = let both = front_all xs ys all.1 in ((all.0, both.0), both.1)

  built_agree : (entries : List Entry) (it : Built) → AllByRecursion (λ (label : Named). has_name wanted label.name ≡ true) (flat_map path_references entries) → built_all one it entries ≡ built_all other it entries
  built_agree [] it all = refl
  built_agree (entry.Property labels name values ∷ entries) it all =
      let both = front_all (paths_references values) (flat_map path_references entries) all in
      let hand = it.hand in
      ap (λ (b : List ℕ). built_all one (record it { hand = record hand { props = hand.props ++ record { name = name.name; value = b } ∷ [] } }) entries) (values_agree values both.0)
      ∙ built_agree entries _ both.1
  built_agree (entry.Open labels name ∷ entries) it all = built_agree entries _ all
  built_agree (entry.Close ∷ entries) it all = built_agree entries _ all

or_right : (a b : Bool) → b ≡ true → (a || b) ≡ true
or_right true b e = refl
or_right false b e = e

or_left : (a b : Bool) → a ≡ true → (a || b) ≡ true
or_left true b e = refl
or_left false b e = absurd (cc e)

-- names are among themselves
all_among : (all : List (List ℕ)) (names : List Named) → ((name : List ℕ) → has_name (names_of names) name ≡ true → has_name all name ≡ true) → AllByRecursion (λ (label : Named). has_name all label.name ≡ true) names
all_among all [] sub = tt
all_among all (n ∷ names) sub = (
  sub n.name (or_left (pointwise nat_eq n.name n.name) (has_name (names_of names) n.name) ((bytes_decides n.name n.name).1 refl)),
  all_among all names (λ name has. sub name (or_right (pointwise nat_eq n.name name) (has_name (names_of names) name) has)),
)

zip_parts : (nodes : List Numbered) → zip (map (λ numbered. numbered.0) nodes) (map (λ numbered. numbered.1) nodes) ≡ nodes
zip_parts [] = refl
zip_parts (n ∷ nodes) = λ i. n ∷ zip_parts nodes i

-- what the nodes of a source were given
pub given_are : (source : SourceSyntax) (entries : List Entry) (linking : Linking) → entries ≡ entries_of source → AreLinked (asked_labels entries) (names_of (flat_map path_references entries)) (used_numbers entries) linking entries
    → AreGiven (asked_labels (entries_of source)) (used_numbers (entries_of source)) 1 (nodes_sites [] source.nodes) linking.given.items
given_are source entries linking are linked =
    let sites : map (λ (numbered : Numbered). numbered.0) linked.nodes ≡ nodes_sites [] source.nodes = linked.sites ∙ ap (sites_from []) are ∙ sites_are source in
    subst (λ (ss : List Site). AreGiven (asked_labels (entries_of source)) (used_numbers (entries_of source)) 1 ss linking.given.items) sites
    (subst (AreGiven (asked_labels (entries_of source)) (used_numbers (entries_of source)) 1 (map (λ (numbered : Numbered). numbered.0) linked.nodes)) (sym linked.leads.given)
    (subst (λ (es : List Entry). AreGiven (asked_labels es) (used_numbers es) 1 (map (λ (numbered : Numbered). numbered.0) linked.nodes) (map (λ (numbered : Numbered). numbered.1) linked.nodes)) are linked.given))

-- so what was built is the tree of the source
pub stands : (source : SourceSyntax) (entries : List Entry) (linking : Linking) (root : Node) → entries ≡ entries_of source
    → AreLinked (asked_labels entries) (names_of (flat_map path_references entries)) (used_numbers entries) linking entries → root ≡ root_tree (links_in linking.links) source linking.given.items → IsTreeOf source root
stands source entries linking root are linked is =
    let wanted = names_of (flat_map path_references entries) in
    let sites : map (λ (numbered : Numbered). numbered.0) linked.nodes ≡ nodes_sites [] source.nodes = linked.sites ∙ ap (sites_from []) are ∙ sites_are source in
    let given : map (λ (numbered : Numbered). numbered.1) linked.nodes ≡ linking.given.items = sym linked.leads.given in
    let known : links_of linked.nodes ≡ links_of (zip (nodes_sites [] source.nodes) linking.given.items) =
    ap links_of (sym (zip_parts linked.nodes)) ∙ ap (λ (ss : List Site). links_of (zip ss (map (λ (numbered : Numbered). numbered.1) linked.nodes))) sites
    ∙ ap (λ (gs : List (Option ℕ)). links_of (zip (nodes_sites [] source.nodes) gs)) given in
    let numbers : (name : List ℕ) → (links_in linking.links).number name ≡ (links_of linked.nodes).number name = λ name. ap (λ (o : Option ℕ). unwrap_or o 0) (linked.leads.numbers name) in
    let paths : (name : List ℕ) → has_name wanted name ≡ true → (links_in linking.links).path name ≡ (links_of linked.nodes).path name =
    λ name asks. ap (λ (o : Option (List ℕ)). unwrap_or o []) (linked.leads.paths name asks) in
    let asked = all_among wanted (flat_map path_references entries) (λ name has. has) in
    let start = nothing_built linking.given.items in
    let same : built_all (links_in linking.links) start entries ≡ built_all (links_of linked.nodes) start entries = built_agree (links_in linking.links) (links_of linked.nodes) wanted numbers paths entries start asked in
    let built : root_tree (links_in linking.links) source linking.given.items ≡ root_tree (links_of linked.nodes) source linking.given.items =
    sym (source_on (links_in linking.links) source linking.given.items)
    ∙ ap (λ (es : List Entry). frame_tree (built_all (links_in linking.links) start es).hand) (sym are)
    ∙ ap (λ (b : Built). frame_tree b.hand) same
    ∙ ap (λ (es : List Entry). frame_tree (built_all (links_of linked.nodes) start es).hand) are
    ∙ source_on (links_of linked.nodes) source linking.given.items in
    record {
      given = linking.given.items;
      least_free = given_are source entries linking are linked;
      is = is ∙ built ∙ ap (λ (l : Links). root_tree l source linking.given.items) known;
    }
