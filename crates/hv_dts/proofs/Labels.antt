-- Sets of names, and references that lack a label.
use Rattle.std.proofs.Common.{◌≡◌, ℕ, ◌+◌, ◌<◌, ◌≤◌, Bool, true, false, List, [], ◌∷◌, length, drop, get_or, refl, sym, ap, ◌∙◌}
use Rattle.std.specs.Prelude.{Option, map, not, ◌||◌, nat_eq}
use Rattle.std.specs.Cmp.Lexicographic.{pointwise}
use Rattle.std.proofs.lemmas.List.{drop_more, drop_all}
use Rattle.std.specs.BTreeSet.{BTreeSet, IsEmpty}
use denote.Ref.{Bor}
use Rattle.hv_dtgram.specs.declared.contents.Named.{Named}
use Rattle.hv_dts.specs.Rules.{has_name, place_if, lesser, least, unlabelled, names_of}
use Rattle.hv_dts.specs.Sets.{Holds}
use Rattle.hv_dts.proofs.Twice.{holds_none, lesser_none, least_more}

abbrev pub lent : List (Bor Named) → List Named
lent names = map (λ it. it.now) names

or_swap : (a b c : Bool) → ((a || b) || c) ≡ (b || (a || c))
or_swap true true c = refl
or_swap true false c = refl
or_swap false true c = refl
or_swap false false c = refl

or_none : (a : Bool) → (a || false) ≡ a
or_none true = refl
or_none false = refl

-- a set and the names that are left are all names
pub record Covers (set : BTreeSet (List ℕ)) (left names : List Named) : Type 0 where
  pub seen : List (List ℕ)
  pub holds : Holds set seen
  pub all : (name : List ℕ) → (has_name seen name || has_name (names_of left) name) ≡ has_name (names_of names) name

pub covers_start : (set : BTreeSet (List ℕ)) (names : List Named) → IsEmpty set → Covers set names names
covers_start set names empty = record { seen = []; holds = holds_none set empty; all = λ name. refl }

pub covers_more : (set new : BTreeSet (List ℕ)) (names : List (Bor Named)) (i : ℕ) (one : Bor Named) → i < length names → one ≡ get_or names i one
    → ((earlier : List (List ℕ)) → Holds set earlier → Holds new (one.now.name ∷ earlier)) → Covers set (lent (drop i names)) (lent names) → Covers new (lent (drop (i + 1) names)) (lent names)
covers_more set new names i one lt is step it =
    let rest = drop (i + 1) names in
    let here : lent (drop i names) ≡ one.now ∷ lent rest = ap lent (drop_more names i one lt ∙ ap (λ (n : Bor Named). n ∷ rest) (sym is)) in
    record {
      seen = one.now.name ∷ it.seen;
      holds = step it.seen it.holds;
      all = λ name. or_swap (pointwise nat_eq one.now.name name) (has_name it.seen name) (has_name (names_of (lent rest)) name)
          ∙ ap (λ (ns : List Named). has_name it.seen name || has_name (names_of ns) name) (sym here) ∙ it.all name;
    }

pub covers_all : (set : BTreeSet (List ℕ)) (names : List (Bor Named)) (i : ℕ) → length names ≤ i → Covers set (lent (drop i names)) (lent names) → Holds set (names_of (lent names))
covers_all set names i over it = λ name.
    it.holds name ∙ sym (or_none (has_name it.seen name)) ∙ ap (λ (ns : List (Bor Named)). has_name it.seen name || has_name (names_of (lent ns)) name) (sym (drop_all i names over)) ∙ it.all name

pub lacks_more : (held : List (List ℕ)) (names : List (Bor Named)) (i : ℕ) (one : Bor Named) (best next : Option ℕ) (whole : Option ℕ) → i < length names → one ≡ get_or names i one
    → next ≡ lesser best (least (place_if (not (has_name held one.now.name)) one.now.place)) → lesser best (least (unlabelled held (lent (drop i names)))) ≡ whole
    → lesser next (least (unlabelled held (lent (drop (i + 1) names)))) ≡ whole
lacks_more held names i one best next whole lt is step same =
    let rest = drop (i + 1) names in
    let here : lent (drop i names) ≡ one.now ∷ lent rest = ap lent (drop_more names i one lt ∙ ap (λ (n : Bor Named). n ∷ rest) (sym is)) in
    ap (λ (o : Option ℕ). lesser o (least (unlabelled held (lent rest)))) step
    ∙ least_more best (place_if (not (has_name held one.now.name)) one.now.place) (unlabelled held (lent rest))
    ∙ ap (λ (ns : List Named). lesser best (least (unlabelled held ns))) (sym here) ∙ same

pub lacks_all : (held : List (List ℕ)) (names : List (Bor Named)) (i : ℕ) (best whole : Option ℕ) → length names ≤ i → lesser best (least (unlabelled held (lent (drop i names)))) ≡ whole → best ≡ whole
lacks_all held names i best whole over same =
    sym (lesser_none best) ∙ ap (λ (ns : List (Bor Named)). lesser best (least (unlabelled held (lent ns)))) (sym (drop_all i names over)) ∙ same
