-- The files: a map from paths to folders and files, and what each call answers and leaves.
use Rattle.std.specs.Prelude.{ℕ, Ok, Err, Result, Some, None, Option, List, [], ◌∷◌, ◌++◌, length, ◌==◌, nat_eq, if◌then◌else◌}
use Rattle.std.specs.Cmp.Lexicographic.{slice_cmp, pointwise}
use Rattle.std.specs.declared.cmp.Ordering.{Ordering}
use Rattle.std.specs.FinMap.{put, find}
use Rattle.std.specs.List.{filter_map}
use Rattle.std.specs.Option.{option_map}
use Rattle.std.specs.Ordering.{nat_cmp, eq_by_cmp}
pub use Rattle.hv_files.specs.declared.node.Node.{Node}
pub use Rattle.hv_files.specs.declared.node.Node.TheVariants.{Folder, Holds}
use Rattle.hv_files.specs.declared.refusal.FileRefusal.{FileRefusal}
use Rattle.hv_files.specs.declared.refusal.FileRefusal.TheVariants.{NoEntry, NotDir, IsDir, Exists, NotEmpty}

-- a list of names; the root is the empty list
abbrev pub Path : Type 0
Path = List (List ℕ)

-- each path with its node, by rising paths; the root is a folder and has no entry
abbrev pub FileMap : Type 0
FileMap = List (Path × Node)

-- names are compared by their bytes, and paths by their names
abbrev pub path_cmp : Path → Path → Ordering
path_cmp = slice_cmp (slice_cmp nat_cmp)

-- what stands at a path
abbrev pub node_at : FileMap → Path → Option Node
node_at m [] = Some Folder
node_at m (n ∷ ns) = find path_cmp (n ∷ ns) m

-- a way goes on at a folder, and else ends: nothing is there, or a file stands in the middle
abbrev pub go_on : {A : Type 0} → Option Node → Result A FileRefusal → Result A FileRefusal
go_on None further = Err NoEntry
go_on (Some Folder) further = further
go_on (Some (Holds bytes)) further = Err NotDir

-- what stands at the end of a way that has these folders behind it and these names before it
abbrev pub reach_from : FileMap → Path → Path → Result (Option Node) FileRefusal
reach_from m gone [] = Ok (node_at m gone)
reach_from m gone (n ∷ ns) = go_on (node_at m gone) (reach_from m (gone ++ n ∷ []) ns)

-- what stands at a path, where each name on the way is a folder
abbrev pub reach : FileMap → Path → Result (Option Node) FileRefusal
reach m path = reach_from m [] path

-- what is answered for the node that is reached, unless the way ends before
abbrev pub at_end : {A : Type 0} → Result (Option Node) FileRefusal → (Option Node → Result A FileRefusal) → Result A FileRefusal
at_end (Ok node) answer = answer node
at_end (Err refusal) answer = Err refusal

-- a file's bytes are read, a folder's are not
abbrev pub bytes_of : Option Node → Result (List ℕ) FileRefusal
bytes_of None = Err NoEntry
bytes_of (Some Folder) = Err IsDir
bytes_of (Some (Holds bytes)) = Ok bytes

-- the bytes of the file at a path
abbrev pub read_file : FileMap → Path → Result (List ℕ) FileRefusal
read_file m path = at_end (reach m path) bytes_of

-- the one name that follows the folder's names in a path, if exactly one does
abbrev pub name_below : Path → Path → Option (List ℕ)
name_below [] [] = None
name_below [] (n ∷ []) = Some n
name_below [] (n ∷ o ∷ os) = None
name_below (f ∷ fs) [] = None
name_below (f ∷ fs) (n ∷ ns) = if pointwise nat_eq f n then name_below fs ns else None

-- a name as it is listed: a slash stands behind a folder's
abbrev pub listed : List ℕ → Node → List ℕ
listed name Folder = name ++ 47 ∷ []
listed name (Holds bytes) = name

-- the entries directly below a folder, by the bytes of their names
abbrev pub names_in : FileMap → Path → List (List ℕ)
names_in m folder = filter_map (λ e. option_map (λ name. listed name e.1) (name_below folder e.0)) m

-- a folder is listed, a file is not
abbrev pub names_of : FileMap → Path → Option Node → Result (List (List ℕ)) FileRefusal
names_of m path None = Err NoEntry
names_of m path (Some Folder) = Ok (names_in m path)
names_of m path (Some (Holds bytes)) = Err NotDir

-- the names in the folder at a path
abbrev pub list_folder : FileMap → Path → Result (List (List ℕ)) FileRefusal
list_folder m path = at_end (reach m path) (names_of m path)

-- a folder is made where nothing is
abbrev pub folder_made : FileMap → Path → Option Node → Result FileMap FileRefusal
folder_made m path None = Ok (put path_cmp path Folder m)
folder_made m path (Some node) = Err Exists

-- the map with a new folder at a path of one or more names
abbrev pub made_folder : FileMap → Path → Result FileMap FileRefusal
made_folder m path = at_end (reach m path) (folder_made m path)

-- a file is written where nothing or a file is
abbrev pub file_written : FileMap → Path → List ℕ → Option Node → Result FileMap FileRefusal
file_written m path bytes None = Ok (put path_cmp path (Holds bytes) m)
file_written m path bytes (Some Folder) = Err IsDir
file_written m path bytes (Some (Holds old)) = Ok (put path_cmp path (Holds bytes) m)

-- the map with this file at a path of one or more names
abbrev pub with_file : FileMap → Path → List ℕ → Result FileMap FileRefusal
with_file m path bytes = at_end (reach m path) (file_written m path bytes)

-- the map with its entry at the path taken out
abbrev pub taken_out : Path → FileMap → FileMap
taken_out path [] = []
taken_out path (e ∷ es) = if eq_by_cmp path_cmp path e.0 then es else e ∷ taken_out path es

-- a file is removed, and a folder where it has no entries
abbrev pub node_removed : FileMap → Path → Option Node → Result FileMap FileRefusal
node_removed m path None = Err NoEntry
node_removed m path (Some Folder) = if length (names_in m path) == 0 then Ok (taken_out path m) else Err NotEmpty
node_removed m path (Some (Holds bytes)) = Ok (taken_out path m)

-- the map without what stands at a path of one or more names
abbrev pub without : FileMap → Path → Result FileMap FileRefusal
without m path = at_end (reach m path) (node_removed m path)

-- the map with a file and with the folders on its way, of which the first ones are gone through
abbrev pub add_from : FileMap → Path → Path → List ℕ → FileMap
add_from m gone [] bytes = m
add_from m gone (n ∷ []) bytes = put path_cmp (gone ++ n ∷ []) (Holds bytes) m
add_from m gone (n ∷ o ∷ os) bytes = add_from (put path_cmp (gone ++ n ∷ []) Folder m) (gone ++ n ∷ []) (o ∷ os) bytes

-- the map with a file and with the folders on its way
abbrev pub with_way : FileMap → Path → List ℕ → FileMap
with_way m path bytes = add_from m [] path bytes

-- the map with these files, each added in turn with the folders on its way
abbrev pub load_onto : FileMap → List (Path × List ℕ) → FileMap
load_onto m [] = m
load_onto m (f ∷ fs) = load_onto (with_way m f.0 f.1) fs

-- the map of a list of files
abbrev pub load_files : List (Path × List ℕ) → FileMap
load_files files = load_onto [] files
