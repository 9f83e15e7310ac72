-- Entries of a list, one behind the other.
use Rattle.std.proofs.Common.{◌≡◌, ◌≢◌, ℕ, ◌<◌, List, [], ◌∷◌, ◌++◌, length, refl, sym, ap, subst, ◌∙◌, arith, append_assoc, length-append}
use Rattle.std.specs.Prelude.{codes}
use Rattle.std.specs.List.{AllByRecursion}
use Rattle.std.proofs.lemmas.List.{append-nil}
use Rattle.std.proofs.lemmas.List.Concat.{flat_map-append}
use Rattle.hv_text.specs.Front.{Stops}
use Rattle.hv_data.proofs.Pairs.{all_push}
use Rattle.hv_listing.specs.Listing.{further_entries, entries_text}
use Rattle.hv_listing.specs.Reading.{BeginsWithEntry, HasNoEntries}

-- entries that are told from their text with what may stand behind it
pub record IsFronted {A : Type 0} (good : A → Type 0) (shown : A → List ℕ) : Type 0 where
  pub same : (x y : A) (t u : List ℕ) → good x → good y → Stops 44 t → Stops 44 u → shown x ++ t ≡ shown y ++ u → (x ≡ y) × (t ≡ u)
  pub long : (x : A) → 1 < length (shown x)

-- what stands behind an entry ends or has a comma
further_stops : {A : Type 0} (shown : A → List ℕ) (xs : List A) (rest : List ℕ) → Stops 44 rest → Stops 44 (further_entries shown xs ++ rest)
further_stops shown [] rest stops = stops
further_stops shown (x ∷ xs) rest stops = refl

-- further entries that are read are the first of those that stand there
peeled : {A : Type 0} (good : A → Type 0) (shown : A → List ℕ) → IsFronted good shown → (ds xs : List A) (rest : List ℕ)
    → AllByRecursion good ds → AllByRecursion good xs → Stops 44 rest → further_entries shown ds ++ rest ≡ further_entries shown xs
    → (ys : List A) × AllByRecursion good ys × (xs ≡ ds ++ ys) × (rest ≡ further_entries shown ys)
peeled {A = A} good shown law [] xs rest h k stops e = (xs, k, refl, e)
peeled {A = A} good shown law (d ∷ ds) [] rest h k stops e = absurd (cc e)
peeled {A = A} good shown law (d ∷ ds) (x ∷ xs) rest h k stops e =
    let tails : (shown d ++ further_entries shown ds) ++ rest ≡ shown x ++ further_entries shown xs = cc e in
    let fronts : shown d ++ (further_entries shown ds ++ rest) ≡ shown x ++ further_entries shown xs = sym (append_assoc (shown d) (further_entries shown ds) rest) ∙ tails in
    let behind : Stops 44 (further_entries shown xs) = subst (Stops 44) (append-nil (further_entries shown xs)) (further_stops shown xs [] tt) in
    let both = law.same d x (further_entries shown ds ++ rest) (further_entries shown xs) h.0 k.0 (further_stops shown ds rest stops) behind fronts in
    let more = peeled good shown law ds xs rest h.1 k.1 stops both.1 in
    (more.0, more.1, ap (λ (zs : List A). x ∷ zs) more.2 ∙ ap (λ (z : A). z ∷ (ds ++ more.0)) (sym both.0), more.3)

-- entries that are read are the first of those that stand there
pub entries_peeled : {A : Type 0} (good : A → Type 0) (shown : A → List ℕ) → IsFronted good shown → (d x : A) (ds xs : List A) (rest : List ℕ)
    → AllByRecursion good (d ∷ ds) → AllByRecursion good (x ∷ xs) → Stops 44 rest → entries_text shown (d ∷ ds) ++ rest ≡ entries_text shown (x ∷ xs)
    → (ys : List A) × AllByRecursion good ys × (x ∷ xs ≡ d ∷ (ds ++ ys)) × (rest ≡ further_entries shown ys)
entries_peeled good shown law d x ds xs rest h k stops e =
    peeled good shown law (d ∷ ds) (x ∷ xs) rest h k stops (ap (λ (t : List ℕ). 44 ∷ t) e)

hyphen_short : (text behind : List ℕ) → 1 < length text → text ++ behind ≡ codes "-" → ⊥
hyphen_short text behind long e = omega (arith, ap length e, length-append text behind, long)

-- two lists with one word are one
pub same_entries : {A : Type 0} (good : A → Type 0) (shown : A → List ℕ) → IsFronted good shown → (xs ys : List A) → AllByRecursion good xs → AllByRecursion good ys → entries_text shown xs ≡ entries_text shown ys → xs ≡ ys
same_entries {A = A} good shown law [] [] h k e = refl
same_entries {A = A} good shown law [] (y ∷ ys) h k e = absurd (hyphen_short (shown y) (further_entries shown ys) (law.long y) (sym e))
same_entries {A = A} good shown law (x ∷ xs) [] h k e = absurd (hyphen_short (shown x) (further_entries shown xs) (law.long x) e)
same_entries {A = A} good shown law (x ∷ xs) (y ∷ ys) h k e =
    let more = entries_peeled good shown law x y xs ys [] h k tt (append-nil (entries_text shown (x ∷ xs)) ∙ e) in
    none_more more.0 more.2 more.3
  where
    none_more : (zs : List A) → y ∷ ys ≡ x ∷ (xs ++ zs) → [] ≡ further_entries shown zs → x ∷ xs ≡ y ∷ ys
    none_more [] is none = ap (λ (ws : List A). x ∷ ws) (sym (append-nil xs)) ∙ sym is
    none_more (z ∷ zs) is none = absurd (cc none)

-- entries that were read, and the rest of the text
pub record HasRead {A : Type 0} (good : A → Type 0) (shown : A → List ℕ) (text : List ℕ) (entries : List A) (rest : List ℕ) : Type 0 where
  some : 0 < length entries
  written : AllByRecursion good entries
  stops : Stops 44 rest
  is : text ≡ entries_text shown entries ++ rest

-- the first entry
pub first_read : {A : Type 0} (good : A → Type 0) (shown : A → List ℕ) (text rest : List ℕ) (x : A) → BeginsWithEntry good shown text x rest → HasRead good shown text (x ∷ []) rest
first_read good shown text rest x h = record {
  some = omega arith;
  written = (h.written, tt);
  stops = h.stops;
  is = h.is ∙ ap (λ (t : List ℕ). t ++ rest) (sym (append-nil (shown x)));
}

-- one entry more
pub more_read : {A : Type 0} (good : A → Type 0) (shown : A → List ℕ) (text : List ℕ) (entries : List A) (rest behind further : List ℕ) (x : A)
    → HasRead good shown text entries rest → rest ≡ 44 ∷ behind → BeginsWithEntry good shown behind x further → HasRead good shown text (entries ++ x ∷ []) further
more_read {A = A} good shown text [] rest behind further x h is k = let some = h.some in absurd (omega (arith, some))
more_read {A = A} good shown text (e ∷ es) rest behind further x h is k = record {
  some = omega arith;
  written = all_push good (e ∷ es) x h.written k.written;
  stops = k.stops;
  is = h.is ∙ ap (λ (t : List ℕ). (shown e ++ further_entries shown es) ++ t) (is ∙ ap (λ (t : List ℕ). 44 ∷ t) k.is) ∙ joined;
}
  where
    joined : (shown e ++ further_entries shown es) ++ (44 ∷ (shown x ++ further)) ≡ (shown e ++ further_entries shown (es ++ x ∷ [])) ++ further
    joined =
        rw (flat_map-append (λ (a : A). 44 ∷ shown a) es (x ∷ [])) (simp (append_assoc, append-nil))

-- where no entry follows a comma, the text is of no list
pub none_more : {A : Type 0} (good : A → Type 0) (shown : A → List ℕ) → IsFronted good shown → (text : List ℕ) (entries : List A) (rest behind : List ℕ)
    → HasRead good shown text entries rest → rest ≡ 44 ∷ behind → ((x : A) (further : List ℕ) → BeginsWithEntry good shown behind x further → ⊥) → HasNoEntries good shown text
none_more {A = A} good shown law text [] rest behind h is none x xs k e = let some = h.some in omega (arith, some)
none_more {A = A} good shown law text (d ∷ ds) rest behind h is none x xs k e =
    let more = entries_peeled good shown law d x ds xs rest h.written k h.stops (sym h.is ∙ e) in
    no_next more.0 more.1 (sym is ∙ more.3)
  where
    no_next : (ys : List A) → AllByRecursion good ys → 44 ∷ behind ≡ further_entries shown ys → ⊥
    no_next [] g e = cc e
    no_next (y ∷ ys) g e = none y (further_entries shown ys) (record {
      written = g.0;
      stops = subst (Stops 44) (append-nil (further_entries shown ys)) (further_stops shown ys [] tt);
      is = cc e;
    })

-- where no entry begins a text, it is of no list
pub none_first : {A : Type 0} (good : A → Type 0) (shown : A → List ℕ) (text : List ℕ) → ((x : A) (rest : List ℕ) → BeginsWithEntry good shown text x rest → ⊥) → HasNoEntries good shown text
none_first good shown text none x xs k e = none x (further_entries shown xs) (record {
  written = k.0;
  stops = subst (Stops 44) (append-nil (further_entries shown xs)) (further_stops shown xs [] tt);
  is = e;
})

-- where no comma follows, all is read
pub all_read : {A : Type 0} (good : A → Type 0) (shown : A → List ℕ) (text : List ℕ) (entries : List A) (rest : List ℕ)
    → HasRead good shown text entries rest → ((behind : List ℕ) → rest ≢ 44 ∷ behind) → AllByRecursion good entries × (text ≡ entries_text shown entries)
all_read good shown text entries [] h none = (h.written, h.is ∙ append-nil (entries_text shown entries))
all_read good shown text entries (b ∷ bs) h none = absurd (none bs (ap (λ (c : ℕ). c ∷ bs) h.stops))
