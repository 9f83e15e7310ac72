-- Listed names, and the words of lists of them.
use Rattle.std.proofs.Common.{◌≡◌, ◌≢◌, ℕ, eqb, List, [], ◌∷◌, ◌++◌, length, refl, sym, ap, subst, ◌∙◌, inl, inr, arith, length-append}
use Rattle.std.specs.Prelude.{codes}
use Rattle.std.specs.List.{AllByRecursion, join_with_byte}
use Rattle.std.proofs.lemmas.Bool.{false≢true}
use Rattle.std.proofs.lemmas.List.{append-nil}
use Rattle.std.proofs.lemmas.List.Splits.{join_with_byte-slice_split, length-slice_split}
use Rattle.hv_text.specs.Front.{IsFree}
use Rattle.hv_text.specs.Path.{IsName}
use Rattle.hv_text.proofs.Names.{name_free}
use Rattle.hv_data.specs.Text.{further_names, names_text}
use Rattle.hv_data.specs.Written.{IsListedName, AreListedNames}
use Rattle.hv_data.specs.Reading.{parts_at}
use Rattle.hv_data.proofs.Foreign.{IsForeign, comma_foreign, free_append, name_free_of, apart}
use Rattle.hv_data.proofs.Splits.{joined_parts}

listed_free : (d : ℕ) (entry : List ℕ) → IsForeign d → IsListedName entry → IsFree d entry
listed_free d entry out (inl name) = name_free_of d entry out name
listed_free d entry out (inr folder) =
    subst (IsFree d) (sym folder.2) (free_append d folder.0 (47 ∷ []) (name_free_of d folder.0 out folder.1) (out.slash, tt))

each_free : (d : ℕ) (entries : List (List ℕ)) → IsForeign d → AreListedNames entries → AllByRecursion (IsFree d) entries
each_free d [] out h = tt
each_free d (n ∷ ns) out h = (listed_free d n out h.0, each_free d ns out h.1)

-- names are joined by commas
names_joined : (n : List ℕ) (ns : List (List ℕ)) → n ++ further_names ns ≡ join_with_byte 44 (n ∷ ns)
names_joined n [] = append-nil n
names_joined n (m ∷ ns) = ap (λ (t : List ℕ). n ++ (44 ∷ t)) (names_joined m ns)

-- a word of names is parted into them at its commas
parted_names : (n : List ℕ) (ns : List (List ℕ)) → AreListedNames (n ∷ ns) → parts_at 44 (names_text (n ∷ ns)) ≡ n ∷ ns
parted_names n ns h =
    ap (parts_at 44) (names_joined n ns) ∙ joined_parts 44 n ns (listed_free 44 n comma_foreign h.0) (each_free 44 ns comma_foreign h.1)

no_dot : IsListedName (46 ∷ []) → ⊥
no_dot (inl name) = name.not_here refl
no_dot (inr folder) = no_folder folder.0 folder.2
  where
    no_folder : (f : List ℕ) → 46 ∷ [] ≡ f ++ 47 ∷ [] → ⊥
    no_folder [] e = let head : 46 ≡ 47 = cc e in false≢true (sym (ap (λ (x : ℕ). eqb 46 x) head))
    no_folder (b ∷ f) e = omega (arith, ap length e, length-append f (47 ∷ []))

slash_inside : (folder : List ℕ) → IsFree 47 (folder ++ 47 ∷ []) → ⊥
slash_inside [] free = free.0 refl
slash_inside (b ∷ folder) free = slash_inside folder free.1

same_front_byte : (one other : List ℕ) (b : ℕ) → one ++ b ∷ [] ≡ other ++ b ∷ [] → one ≡ other
same_front_byte [] [] b e = refl
same_front_byte [] (y ∷ other) b e = absurd (omega (arith, ap length e, length-append other (b ∷ [])))
same_front_byte (x ∷ one) [] b e = absurd (omega (arith, ap length e, length-append one (b ∷ [])))
same_front_byte (x ∷ one) (y ∷ other) b e =
    let tails : one ++ b ∷ [] ≡ other ++ b ∷ [] = cc e in
    let heads : x ≡ y = cc e in
    cc (heads, same_front_byte one other b tails)

-- a listed name that ends in a slash is a folder's
pub listed_folder : (entry folder : List ℕ) → entry ≡ folder ++ 47 ∷ [] → IsListedName entry → IsName folder
listed_folder entry folder is (inl name) = absurd (slash_inside folder (subst (IsFree 47) is (name_free entry name)))
listed_folder entry folder is (inr f) = subst IsName (same_front_byte f.0 folder 47 (sym f.2 ∙ is)) f.1

-- one without is a file's
pub listed_file : (entry : List ℕ) → ((folder : List ℕ) → entry ≢ folder ++ 47 ∷ []) → IsListedName entry → IsName entry
listed_file entry none (inl name) = name
listed_file entry none (inr f) = absurd (none f.0 f.2)

-- the parts of a word at its commas are its names, where all are listed
pub names_of_parts : (word : List ℕ) (parts : List (List ℕ)) → parts ≡ parts_at 44 word → AreListedNames parts → AreListedNames parts × (word ≡ names_text parts)
names_of_parts word [] is h = absurd (omega (arith, ap length is, length-slice_split (λ (x : ℕ). eqb x 44) word))
names_of_parts word (n ∷ ns) is h = (h, sym (join_with_byte-slice_split 44 word) ∙ ap (join_with_byte 44) (sym is) ∙ sym (names_joined n ns))

-- a word of names has them as its parts, or is the dot
pub no_names_of_parts : (word : List ℕ) (parts : List (List ℕ)) → parts ≡ parts_at 44 word → word ≢ codes "." → (AreListedNames parts → ⊥) → (names : List (List ℕ)) → AreListedNames names × (word ≡ names_text names) → ⊥
no_names_of_parts word parts is other unlisted [] h = other h.1
no_names_of_parts word parts is other unlisted (n ∷ ns) h =
    unlisted (subst AreListedNames (sym (is ∙ ap (parts_at 44) h.1 ∙ parted_names n ns h.0)) h.0)

-- two lists of names with one word are one
pub same_names : (one other : List (List ℕ)) → AreListedNames one → AreListedNames other → names_text one ≡ names_text other → one ≡ other
same_names [] [] h k e = refl
same_names [] (n ∷ ns) h k e =
    let parts : 46 ∷ [] ≡ n = cc (ap (parts_at 44) e ∙ parted_names n ns k) in
    absurd (no_dot (subst IsListedName (sym parts) k.0))
same_names (m ∷ ms) [] h k e =
    let parts : 46 ∷ [] ≡ m = cc (ap (parts_at 44) (sym e) ∙ parted_names m ms h) in
    absurd (no_dot (subst IsListedName (sym parts) h.0))
same_names (m ∷ ms) (n ∷ ns) h k e = sym (parted_names m ms h) ∙ ap (parts_at 44) e ∙ parted_names n ns k

further_free : (d : ℕ) (ns : List (List ℕ)) → IsForeign d → 44 ≢ d → AreListedNames ns → IsFree d (further_names ns)
further_free d [] out comma h = tt
further_free d (n ∷ ns) out comma h = (comma, free_append d n (further_names ns) (listed_free d n out h.0) (further_free d ns out comma h.1))

pub names_free : (d : ℕ) (ns : List (List ℕ)) → IsForeign d → 44 ≢ d → AreListedNames ns → IsFree d (names_text ns)
names_free d [] out comma h = (apart d 46 out (inr (inl refl)), tt)
names_free d (n ∷ ns) out comma h = free_append d n (further_names ns) (listed_free d n out h.0) (further_free d ns out comma h.1)
