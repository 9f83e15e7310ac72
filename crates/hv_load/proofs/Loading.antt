-- What the calls on a tree leave, as single entries put into its map.
use Rattle.std.proofs.Common.{◌≡◌, ℕ, zero, suc, ◌+◌, ◌-◌, ◌<◌, ◌++◌, Bool, true, false, cond, List, [], ◌∷◌, length, take, drop, get_or, refl, sym, ap, subst, ◌∙◌, arith, drop-cons, length-drop, Option, Some, None, Result, Ok, Err, IsTrue, true≢false, is_eq, Ordering, Less, Equal, Greater}
use Rattle.std.specs.Prelude.{map}
use Rattle.std.specs.Ordering.{eq_by_cmp}
use Rattle.std.specs.FinMap.{find, put, is_sorted}
use Rattle.std.specs.FinMap.Entries.{is_sorted-put, find-put, same_entries}
use Rattle.hv_files.specs.FileMap.{Path, FileMap, path_cmp, node_at, reach, at_end, bytes_of, read_file, made_folder, folder_made, with_file, file_written, add_from, with_way, load_onto, go_on, reach_from}
use Rattle.hv_files.specs.declared.node.Node.{Node}
use Rattle.hv_files.specs.declared.node.Node.TheVariants.{Folder, Holds}
use Rattle.hv_files.specs.declared.refusal.FileRefusal.{FileRefusal}
use Rattle.hv_files.specs.declared.refusal.FileRefusal.TheVariants.{IsDir, NoEntry, NotDir, Exists}
use Rattle.hv_bundle.specs.declared.file.File.{File}
use Rattle.hv_bundle.specs.Bundle.{AreFitting}
use Rattle.hv_files.proofs.Order.{paths_total, paths_apart}
use Rattle.hv_files.proofs.Entries.{to_T, from_T}
use Rattle.hv_files.proofs.Way.{reached, node_at-named, by_node}
use Rattle.std.proofs.lemmas.List.{nil_from_length, take-append-drop}

same_path : (a b : Path) → is_eq (path_cmp a b) ≡ true → a ≡ b
same_path a b e = paths_apart a b (is_equal (path_cmp a b) e)
  where
    is_equal : (o : Ordering) → is_eq o ≡ true → o ≡ Equal
    is_equal Less h = absurd (true≢false (sym h))
    is_equal Equal h = refl
    is_equal Greater h = absurd (true≢false (sym h))

-- a node that is there may be put there again
pub put_same : (path : Path) (node : Node) (m : FileMap) → IsTrue (is_sorted path_cmp m) → find path_cmp path m ≡ Some node → put path_cmp path node m ≡ m
put_same path node m sorted there =
    same_entries path_cmp paths_total paths_apart (put path_cmp path node m) m (is_sorted-put path_cmp paths_total path node m (to_T _ sorted)) (to_T _ sorted)
    (λ q. find-put path_cmp paths_total q path node m ∙ by q (eq_by_cmp path_cmp q path) refl)
  where
    by : (q : Path) (b : Bool) → eq_by_cmp path_cmp q path ≡ b → cond b (Some node) (find path_cmp q m) ≡ find path_cmp q m
    by q true is = sym (ap (λ p. find path_cmp p m) (same_path q path is) ∙ there)
    by q false is = refl

no_ok : {A B : Type 0} (why : FileRefusal) (o : B) → ◌≡◌ {A = Result B FileRefusal} (Ok o) (Err why) → A
no_ok why o h = cc

same_err : {B : Type 0} (a b : FileRefusal) → ◌≡◌ {A = Result B FileRefusal} (Err a) (Err b) → a ≡ b
same_err a b h = cc

same_ok : {B : Type 0} (x y : B) → ◌≡◌ {A = Result B FileRefusal} (Ok x) (Ok y) → x ≡ y
same_ok x y h = cc

-- a way never ends at a folder
no_folder_in_the_way : (m : FileMap) (gone rest : Path) → reach_from m gone rest ≡ Err IsDir → ⊥
no_folder_in_the_way m gone [] h = no_ok IsDir (node_at m gone) h
no_folder_in_the_way m gone (x ∷ rest) h =
    by_node (λ p. go_on p (reach_from m (gone ++ x ∷ []) rest) ≡ Err IsDir → ⊥)
    (λ h. no_entry h)
    (λ h. no_folder_in_the_way m (gone ++ x ∷ []) rest h)
    (λ b h. not_dir h)
    (node_at m gone) h
  where
    no_entry : ◌≡◌ {A = Result (Option Node) FileRefusal} (Err NoEntry) (Err IsDir) → ⊥
    no_entry h = cc

    not_dir : ◌≡◌ {A = Result (Option Node) FileRefusal} (Err NotDir) (Err IsDir) → ⊥
    not_dir h = cc

-- a path that is no file's since it is a folder's has a folder
pub folder_there : (m : FileMap) (path : Path) → 0 < length path → read_file m path ≡ Err IsDir → find path_cmp path m ≡ Some Folder
folder_there m path named is = by (reach m path) refl is
  where
    at_node : (o : Option Node) → reach m path ≡ Ok o → bytes_of o ≡ Err IsDir → find path_cmp path m ≡ Some Folder
    at_node None at h = cc
    at_node (Some Folder) at h = sym (node_at-named m path named) ∙ sym (reached m [] path (Some Folder) at)
    at_node (Some (Holds b)) at h = no_ok IsDir b h

    by : (r : Result (Option Node) FileRefusal) → reach m path ≡ r → at_end r bytes_of ≡ Err IsDir → find path_cmp path m ≡ Some Folder
    by (Ok o) at h = at_node o at h
    by (Err why) at h = absurd (no_folder_in_the_way m [] path (at ∙ ap (λ w. Err w) (same_err why IsDir h)))

-- a folder that was made was put
pub folder_put : (m n : FileMap) (path : Path) → made_folder m path ≡ Ok n → n ≡ put path_cmp path Folder m
folder_put m n path is = by (reach m path) is
  where
    at_node : (o : Option Node) → folder_made m path o ≡ Ok n → n ≡ put path_cmp path Folder m
    at_node None h = sym (same_ok _ _ h)
    at_node (Some node) h = no_ok Exists n (sym h)

    by : (r : Result (Option Node) FileRefusal) → at_end r (folder_made m path) ≡ Ok n → n ≡ put path_cmp path Folder m
    by (Ok o) h = at_node o h
    by (Err why) h = no_ok why n (sym h)

-- a file that was written was put
pub file_put : (m n : FileMap) (path : Path) (bytes : List ℕ) → with_file m path bytes ≡ Ok n → n ≡ put path_cmp path (Holds bytes) m
file_put m n path bytes is = by (reach m path) is
  where
    at_node : (o : Option Node) → file_written m path bytes o ≡ Ok n → n ≡ put path_cmp path (Holds bytes) m
    at_node None h = sym (same_ok _ _ h)
    at_node (Some Folder) h = no_ok IsDir n (sym h)
    at_node (Some (Holds old)) h = sym (same_ok _ _ h)

    by : (r : Result (Option Node) FileRefusal) → at_end r (file_written m path bytes) ≡ Ok n → n ≡ put path_cmp path (Holds bytes) m
    by (Ok o) h = at_node o h
    by (Err why) h = no_ok why n (sym h)

-- a folder on the way, before the path's last name
add_folder : (m : FileMap) (gone rest : Path) (n : List ℕ) (bytes : List ℕ) → 0 < length rest → add_from m gone (n ∷ rest) bytes ≡ add_from (put path_cmp (gone ++ n ∷ []) Folder m) (gone ++ n ∷ []) rest bytes
add_folder m gone [] n bytes more = absurd (omega arith)
add_folder m gone (o ∷ os) n bytes more = refl

suc_one : (i : ℕ) → suc i ≡ i + 1
suc_one i = omega arith

-- one more folder on the way
pub one_folder : (m : FileMap) (front path : Path) (i : ℕ) (bytes : List ℕ) → i + 1 < length path
    → add_from m front (drop i path) bytes ≡ add_from (put path_cmp (front ++ get_or path i [] ∷ []) Folder m) (front ++ get_or path i [] ∷ []) (drop (i + 1) path) bytes
one_folder m front path i bytes lt =
    ap (λ p. add_from m front p bytes) (drop-cons path i [] (omega arith))
    ∙ add_folder m front (drop (suc i) path) (get_or path i []) bytes (omega (arith, length-drop (suc i) path))
    ∙ ap (λ k. add_from (put path_cmp (front ++ get_or path i [] ∷ []) Folder m) (front ++ get_or path i [] ∷ []) (drop k path) bytes) (suc_one i)

-- the file at the end of the way
pub last_file : (m : FileMap) (front path : Path) (i : ℕ) (bytes : List ℕ) → i + 1 ≡ length path → front ≡ take i path
    → add_from m front (drop i path) bytes ≡ put path_cmp path (Holds bytes) m
last_file m front path i bytes last is =
    let x = get_or path i [] in
    let tail : drop (suc i) path ≡ [] = nil_from_length (drop (suc i) path) (omega (arith, length-drop (suc i) path)) in
    let at : drop i path ≡ x ∷ [] = drop-cons path i [] (omega arith) ∙ ap (λ t. x ∷ t) tail in
    ap (λ p. add_from m front p bytes) at
    ∙ ap (λ p. put path_cmp p (Holds bytes) m) (ap (λ f. f ++ x ∷ []) is ∙ ap (λ t. take i path ++ t) (sym at) ∙ take-append-drop i path)

-- what is put into a map leaves it in order
pub sorted_put : (path : Path) (node : Node) (m : FileMap) → IsTrue (is_sorted path_cmp m) → IsTrue (is_sorted path_cmp (put path_cmp path node m))
sorted_put path node m sorted = from_T _ (is_sorted-put path_cmp paths_total path node m (to_T _ sorted))

-- and so does what is added with its way
pub sorted_way : (m : FileMap) (gone rest : Path) (bytes : List ℕ) → IsTrue (is_sorted path_cmp m) → IsTrue (is_sorted path_cmp (add_from m gone rest bytes))
sorted_way m gone [] bytes sorted = sorted
sorted_way m gone (n ∷ []) bytes sorted = sorted_put (gone ++ n ∷ []) (Holds bytes) m sorted
sorted_way m gone (n ∷ o ∷ os) bytes sorted = sorted_way (put path_cmp (gone ++ n ∷ []) Folder m) (gone ++ n ∷ []) (o ∷ os) bytes (sorted_put (gone ++ n ∷ []) Folder m sorted)

-- the map with the files of a bundle added
abbrev pub loaded_onto : FileMap → List File → FileMap
loaded_onto m files = load_onto m (map (λ (f : File). (f.path, f.bytes)) files)

-- one more file
pub next_file : (m n : FileMap) (files : List File) (i : ℕ) (f d : File) → i < length files → f ≡ get_or files i d → n ≡ with_way m f.path f.bytes → loaded_onto n (drop (i + 1) files) ≡ loaded_onto m (drop i files)
next_file m n files i f d lt is added =
    ap (λ k. loaded_onto n (drop k files)) (sym (suc_one i))
    ∙ ap (λ t. loaded_onto t (drop (suc i) files)) (added ∙ ap (λ (g : File). with_way m g.path g.bytes) is)
    ∙ ap (λ l. loaded_onto m l) (sym (drop-cons files i d lt))

-- a file of a bundle has a name
pub named_at : (earlier files : List File) (i : ℕ) (f d : File) → AreFitting earlier files → i < length files → f ≡ get_or files i d → 0 < length f.path
named_at earlier [] i f d fit lt is = absurd (omega arith)
named_at earlier (g ∷ files) zero f d fit lt is = subst (λ (h : File). 0 < length h.path) (sym is) fit.0.some
named_at earlier (g ∷ files) (suc i) f d fit lt is = named_at (earlier ++ g ∷ []) files i f d fit.2 (omega arith) is
