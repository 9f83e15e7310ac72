-- Names that are noted one after the other.
use Rattle.std.proofs.Common.{◌≡◌, ℕ, ◌+◌, ◌<◌, ◌≤◌, Bool, true, false, cond, List, [], ◌∷◌, ◌++◌, length, drop, get_or, refl, sym, ap, subst, ◌∙◌, arith, append_assoc}
use Rattle.std.specs.Prelude.{Option, Some, None, nat_eq, ◌||◌, not}
use Rattle.std.specs.Ordering.{nat_cmp, is_eq}
use Rattle.std.specs.Cmp.Lexicographic.{slice_cmp, pointwise, texts_ties}
use Rattle.std.specs.List.{list_any}
use Rattle.std.specs.BTreeSet.{BTreeSet, contains, IsEmpty, Updates}
use Rattle.std.proofs.lemmas.List.{drop_more, drop_all}
use Rattle.hv_dtgram.specs.Contents.{entry_labels}
use Rattle.hv_dts.specs.Rules.{has_name, lesser, least, place_if, repeated, labels_of}
use Rattle.hv_dts.specs.Sets.{Holds, seen_after}
use Rattle.hv_dtgram.specs.declared.contents.Named.{Named}
use Rattle.hv_dtgram.specs.declared.contents.Entry.{Entry}

-- a set with nothing in it
pub holds_none : (set : BTreeSet (List ℕ)) → IsEmpty set → Holds set []
holds_none set empty = λ name. ap (list_any (λ key. is_eq (slice_cmp nat_cmp name key))) empty

pub cond_or : (a b : Bool) → cond a true b ≡ (a || b)
cond_or true b = refl
cond_or false b = refl

-- a name is put into a set
pub holds_more : (old new : BTreeSet (List ℕ)) (name : List ℕ) (earlier : List (List ℕ)) → Holds old earlier → Updates (slice_cmp nat_cmp) old new name true → Holds new (name ∷ earlier)
holds_more old new name earlier holds updates = λ other.
    updates.0 other ∙ ap (λ (b : Bool). cond b true (contains (slice_cmp nat_cmp) old other)) (sym (texts_ties name other))
    ∙ ap (cond (pointwise nat_eq name other) true) (holds other)
    ∙ cond_or (pointwise nat_eq name other) (has_name earlier other)

pub was_there : (added there : Bool) → added ≡ not there → not added ≡ there
was_there added true e = ap not e
was_there added false e = ap not e

-- the least place of several
pub lesser_none : (o : Option ℕ) → lesser o None ≡ o
lesser_none None = refl
lesser_none (Some n) = refl

pub lesser_assoc : (a b c : Option ℕ) → lesser (lesser a b) c ≡ lesser a (lesser b c)
lesser_assoc None b c = refl
lesser_assoc (Some n) None c = refl
lesser_assoc (Some n) (Some m) None = refl
lesser_assoc (Some n) (Some m) (Some k) = ap (λ (x : ℕ). Some x) (omega arith)

pub least_append : (xs ys : List ℕ) → least (xs ++ ys) ≡ lesser (least xs) (least ys)
least_append [] ys = refl
least_append (x ∷ xs) ys = ap (lesser (Some x)) (least_append xs ys) ∙ sym (lesser_assoc (Some x) (least xs) (least ys))

-- a place more
pub least_if : (there : Bool) (place : ℕ) (best : Option ℕ) → there ≡ true → lesser best (Some place) ≡ lesser best (least (place_if there place))
least_if there place best e = ap (λ (b : Bool). lesser best (least (place_if b place))) (sym e)

pub least_if_not : (there : Bool) (place : ℕ) (best : Option ℕ) → there ≡ false → best ≡ lesser best (least (place_if there place))
least_if_not there place best e = sym (lesser_none best) ∙ ap (λ (b : Bool). lesser best (least (place_if b place))) (sym e)

pub least_more : (best : Option ℕ) (xs ys : List ℕ) → lesser (lesser best (least xs)) (least ys) ≡ lesser best (least (xs ++ ys))
least_more best xs ys = lesser_assoc best (least xs) (least ys) ∙ ap (lesser best) (sym (least_append xs ys))

-- where the labels that are left lead from what was seen to the same
pub record Noting (names : BTreeSet (List ℕ)) (best : Option ℕ) (left : List Named) (before : Option ℕ) (earlier : List (List ℕ)) (labels : List Named) : Type 0 where
  pub seen : List (List ℕ)
  pub holds : Holds names seen
  pub same : lesser best (least (repeated seen left)) ≡ lesser before (least (repeated earlier labels))
  pub end : seen_after seen left ≡ seen_after earlier labels

pub noting_more : (names new : BTreeSet (List ℕ)) (best next before : Option ℕ) (labels : List Named) (i : ℕ) (label : Named) (earlier : List (List ℕ)) → i < length labels → label ≡ get_or labels i label
    → ((seen : List (List ℕ)) → Holds names seen → (next ≡ lesser best (least (place_if (has_name seen label.name) label.place))) × Holds new (label.name ∷ seen))
    → Noting names best (drop i labels) before earlier labels → Noting new next (drop (i + 1) labels) before earlier labels
noting_more names new best next before labels i label earlier lt is noted it =
    let rest = drop (i + 1) labels in
    let here : drop i labels ≡ label ∷ rest = drop_more labels i label lt ∙ ap (λ (l : Named). l ∷ rest) (sym is) in
    let step = noted it.seen it.holds in
    record {
      seen = label.name ∷ it.seen;
      holds = step.1;
      same = ap (λ (o : Option ℕ). lesser o (least (repeated (label.name ∷ it.seen) rest))) step.0
          ∙ least_more best (place_if (has_name it.seen label.name) label.place) (repeated (label.name ∷ it.seen) rest)
          ∙ ap (λ (ls : List Named). lesser best (least (repeated it.seen ls))) (sym here) ∙ it.same;
      end = ap (seen_after it.seen) (sym here) ∙ it.end;
    }

pub noting_done : (names : BTreeSet (List ℕ)) (best before : Option ℕ) (labels : List Named) (i : ℕ) (earlier : List (List ℕ)) → length labels ≤ i → Noting names best (drop i labels) before earlier labels
    → (best ≡ lesser before (least (repeated earlier labels))) × Holds names (seen_after earlier labels)
noting_done names best before labels i earlier over it =
    let none_left : drop i labels ≡ [] = drop_all i labels over in
    let end : it.seen ≡ seen_after earlier labels = ap (seen_after it.seen) (sym none_left) ∙ it.end in
    (sym (lesser_none best) ∙ ap (λ (ls : List Named). lesser best (least (repeated it.seen ls))) (sym none_left) ∙ it.same, subst (Holds names) end it.holds)

repeated_append : (earlier : List (List ℕ)) (xs ys : List Named) → repeated earlier (xs ++ ys) ≡ repeated earlier xs ++ repeated (seen_after earlier xs) ys
repeated_append earlier [] ys = refl
repeated_append earlier (x ∷ xs) ys =
    ap (λ (t : List ℕ). place_if (has_name earlier x.name) x.place ++ t) (repeated_append (x.name ∷ earlier) xs ys)
    ∙ sym (append_assoc (place_if (has_name earlier x.name) x.place) (repeated (x.name ∷ earlier) xs) (repeated (seen_after (x.name ∷ earlier) xs) ys))

-- the same over entries
pub record NotingAll (names : BTreeSet (List ℕ)) (best : Option ℕ) (left entries : List Entry) : Type 0 where
  pub seen : List (List ℕ)
  pub holds : Holds names seen
  pub same : lesser best (least (repeated seen (labels_of left))) ≡ least (repeated [] (labels_of entries))

pub noting_entry : (names new : BTreeSet (List ℕ)) (best next : Option ℕ) (entries : List Entry) (i : ℕ) (one : Entry) (labels : List Named) → i < length entries → one ≡ get_or entries i one → labels ≡ entry_labels one
    → ((seen : List (List ℕ)) → Holds names seen → (next ≡ lesser best (least (repeated seen labels))) × Holds new (seen_after seen labels))
    → NotingAll names best (drop i entries) entries → NotingAll new next (drop (i + 1) entries) entries
noting_entry names new best next entries i one labels lt is has noted it =
    let rest = drop (i + 1) entries in
    let here : drop i entries ≡ one ∷ rest = drop_more entries i one lt ∙ ap (λ (e : Entry). e ∷ rest) (sym is) in
    let step = noted it.seen it.holds in
    record {
      seen = seen_after it.seen labels;
      holds = step.1;
      same = ap (λ (o : Option ℕ). lesser o (least (repeated (seen_after it.seen labels) (labels_of rest)))) step.0
          ∙ least_more best (repeated it.seen labels) (repeated (seen_after it.seen labels) (labels_of rest))
          ∙ ap (λ (t : List ℕ). lesser best (least t)) (sym (repeated_append it.seen labels (labels_of rest)))
          ∙ ap (λ (ls : List Named). lesser best (least (repeated it.seen (ls ++ labels_of rest)))) has
          ∙ ap (λ (es : List Entry). lesser best (least (repeated it.seen (labels_of es)))) (sym here) ∙ it.same;
    }

pub noted_all : (names : BTreeSet (List ℕ)) (best : Option ℕ) (entries : List Entry) (i : ℕ) → length entries ≤ i → NotingAll names best (drop i entries) entries → best ≡ least (repeated [] (labels_of entries))
noted_all names best entries i over it =
    sym (lesser_none best) ∙ ap (λ (es : List Entry). lesser best (least (repeated it.seen (labels_of es)))) (sym (drop_all i entries over)) ∙ it.same

pub noting_start : (names : BTreeSet (List ℕ)) (entries : List Entry) → IsEmpty names → NotingAll names None entries entries
noting_start names entries empty = record { seen = []; holds = holds_none names empty; same = refl }
