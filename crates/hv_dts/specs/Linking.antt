-- What is known of labels and numbers before an entry of a source.
use Rattle.std.specs.Prelude.{◌≡◌, ℕ, ◌+◌, List, [], ◌∷◌, ◌++◌, map, Bool, true, false, if◌then◌else◌, Option, Some, None, IfSome, ◌<◌}
use Rattle.std.specs.Ordering.{nat_cmp}
use Rattle.std.specs.Option.{option_map}
use Rattle.std.specs.List.{find, flat_map, AllByRecursion}
use Rattle.std.specs.Cmp.Lexicographic.{slice_cmp}
use Rattle.std.specs.BTreeMap.{get}
use Rattle.hv_dts.specs.Bytes.{is_phandle_name, phandle_number}
use Rattle.hv_dts.specs.Rules.{has_name}
use Rattle.hv_dts.specs.Resolved.{Site, is_needy, IsLeastFree, AreGiven, has_label, Numbered, number_then}
use Rattle.hv_dts.specs.Sets.{Holds, HoldsNumbers}
use Rattle.hv_dtgram.specs.declared.contents.Named.{Named}
use Rattle.hv_dtgram.specs.declared.contents.Entry.{Entry}
use Rattle.hv_dtgram.specs.declared.contents.Entry.TheVariants as entry
use Rattle.hv_dts.specs.declared.linking.Asked.{Asked}
use Rattle.hv_dts.specs.declared.linking.Linking.{Linking}

-- a value, where a test holds
abbrev pub some_if : {X : Type 0} → Bool → X → Option X
some_if true value = Some value
some_if false value = None

-- the path of nodes with these names, the outermost first
abbrev pub names_path : List (List ℕ) → List ℕ
names_path names = flat_map (λ name. 47 ∷ name) names

-- all but the last
abbrev pub without_last : {X : Type 0} → List X → List X
without_last [] = []
without_last (x ∷ []) = []
without_last (x ∷ y ∷ xs) = x ∷ without_last (y ∷ xs)

-- the phandle among the properties in front of some entries
abbrev pub following_phandle : List Entry → Option ℕ
following_phandle [] = None
following_phandle (entry.Property labels name values ∷ entries) = if is_phandle_name name.name then phandle_number values else following_phandle entries
following_phandle (entry.Open labels name ∷ entries) = None
following_phandle (entry.Close ∷ entries) = None

-- a node that begins within nodes with these names, before these entries
abbrev pub site_here : List (List ℕ) → List Named → Named → List Entry → Site
site_here around labels name following = record { labels = labels; path = names_path (around ++ name.name ∷ []); own = following_phandle following }

-- the nodes among entries within nodes with these names
abbrev pub sites_from : List (List ℕ) → List Entry → List Site
sites_from around [] = []
sites_from around (entry.Property labels name values ∷ entries) = sites_from around entries
sites_from around (entry.Open labels name ∷ entries) = site_here around labels name entries ∷ sites_from (around ++ name.name ∷ []) entries
sites_from around (entry.Close ∷ entries) = sites_from (without_last around) entries

-- what is given is a phandle
abbrev pub IsSmall : Option ℕ → Type 0
IsSmall given = IfSome given (λ number. number < 0xffff_ffff)

-- what a node is given, and from where on numbers are not given then
pub data Gives (asked : List (List ℕ)) (used : List ℕ) (site : Site) (from : ℕ) (given : Option ℕ) (next : ℕ) : Type 0 where
  a_number : (number : ℕ) → is_needy asked site ≡ true → IsLeastFree used from number → given ≡ Some number → next ≡ number + 1 → Gives asked used site from given next
  nothing : is_needy asked site ≡ false → given ≡ None → next ≡ from → Gives asked used site from given next

-- the sets have these labels and numbers
pub record AreAsked (asked : Asked) (cells paths : List (List ℕ)) (used : List ℕ) : Type 0 where
  pub in_cells : Holds asked.cells cells
  pub elsewhere : Holds asked.paths paths
  pub numbers : HoldsNumbers asked.used used

-- the labels lead to these nodes, and paths are known where they are wanted
pub record Leads (wanted : List (List ℕ)) (linking : Linking) (nodes : List Numbered) : Type 0 where
  pub given : linking.given.items ≡ map (λ numbered. numbered.1) nodes
  pub numbers : (name : List ℕ) → get (slice_cmp nat_cmp) linking.links.numbers name ≡ option_map number_then (find (λ numbered. has_label name numbered.0) nodes)
  pub paths : (name : List ℕ) → has_name wanted name ≡ true
      → get (slice_cmp nat_cmp) linking.links.paths name ≡ option_map (λ numbered. numbered.0.path) (find (λ numbered. has_label name numbered.0) nodes)

-- a node began
pub record Opened (cells wanted : List (List ℕ)) (used : List ℕ) (old new : Linking) (nodes : List Numbered) (site : Site) (name : List ℕ) : Type 0 where
  pub given : Option ℕ
  pub gives : Gives cells used site old.next given new.next
  pub small : IsSmall given
  pub leads : Leads wanted new (nodes ++ (site, given) ∷ [])
  pub around : new.around ≡ old.around ++ name ∷ []

-- no node began
pub record Stays (wanted : List (List ℕ)) (old new : Linking) (nodes : List Numbered) (outside : List (List ℕ)) : Type 0 where
  pub next : new.next ≡ old.next
  pub leads : Leads wanted new nodes
  pub around : new.around ≡ outside

-- an entry was passed
abbrev pub Steps : List (List ℕ) → List (List ℕ) → List ℕ → Linking → Linking → List Numbered → Entry → List Entry → Type 0
Steps cells wanted used old new nodes (entry.Property labels name values) following = Stays wanted old new nodes old.around
Steps cells wanted used old new nodes (entry.Open labels name) following = Opened cells wanted used old new nodes (site_here old.around labels name following) name.name
Steps cells wanted used old new nodes entry.Close following = Stays wanted old new nodes (without_last old.around)

-- all nodes among entries are known
pub record AreLinked (cells wanted : List (List ℕ)) (used : List ℕ) (linking : Linking) (entries : List Entry) : Type 0 where
  pub nodes : List Numbered
  pub sites : map (λ numbered. numbered.0) nodes ≡ sites_from [] entries
  pub leads : Leads wanted linking nodes
  pub given : AreGiven cells used 1 (map (λ numbered. numbered.0) nodes) (map (λ numbered. numbered.1) nodes)
  pub small : AllByRecursion IsSmall linking.given.items
