-- Names of siblings that are noted.
use Rattle.std.proofs.Common.{◌≡◌, ℕ, Bool, true, false, cond, List, [], ◌∷◌, ◌++◌, refl, sym, ap, subst, ◌∙◌}
use Rattle.std.specs.Prelude.{Option, nat_eq, ◌||◌}
use Rattle.std.specs.Ordering.{nat_cmp}
use Rattle.std.specs.Cmp.Lexicographic.{slice_cmp, pointwise, texts_ties}
use Rattle.std.specs.BTreeSet.{BTreeSet, contains, Updates}
use Rattle.hv_dts.specs.Rules.{has_name, lesser, least, place_if}
use Rattle.hv_dts.specs.Sets.{HasNames}
use Rattle.hv_dts.specs.Siblings.{Siblings, next_siblings, Follows}
use Rattle.hv_dtgram.specs.declared.contents.Named.{Named}
use Rattle.hv_dtgram.specs.declared.contents.Entry.{Entry}
use Rattle.hv_dtgram.specs.declared.contents.Entry.TheVariants as entry
use Rattle.hv_dts.specs.declared.members.Members.{Members}
use Rattle.hv_dts.specs.declared.sibling_names.SiblingNames.{SiblingNames}
use Rattle.hv_dts.proofs.Twice.{cond_or}

pub there_by_none : (siblings : SiblingNames) (earlier : List (List ℕ)) (name : List ℕ) → HasNames siblings earlier → has_name siblings.few name ≡ false → contains (slice_cmp nat_cmp) siblings.many name ≡ false → has_name earlier name ≡ false
there_by_none siblings earlier name has few many = sym (has name) ∙ ap (λ (b : Bool). b || contains (slice_cmp nat_cmp) siblings.many name) few ∙ many

move_in : (a p b : Bool) → (a || (p || b)) ≡ (p || (a || b))
move_in true true b = refl
move_in true false b = refl
move_in false p b = refl

set_more : (old new : BTreeSet (List ℕ)) (name : List ℕ) → Updates (slice_cmp nat_cmp) old new name true → (other : List ℕ) → contains (slice_cmp nat_cmp) new other ≡ (pointwise nat_eq name other || contains (slice_cmp nat_cmp) old other)
set_more old new name updates other =
    updates.0 other ∙ ap (λ (b : Bool). cond b true (contains (slice_cmp nat_cmp) old other)) (sym (texts_ties name other))
    ∙ cond_or (pointwise nat_eq name other) (contains (slice_cmp nat_cmp) old other)

pub has_more : (old new : SiblingNames) (earlier : List (List ℕ)) (name : List ℕ) → HasNames old earlier → new.few ≡ old.few → Updates (slice_cmp nat_cmp) old.many new.many name true → HasNames new (name ∷ earlier)
has_more old new earlier name has few updates = λ other.
    let p = pointwise nat_eq name other in
    let b = contains (slice_cmp nat_cmp) old.many other in
    ap (λ (ns : List (List ℕ)). has_name ns other || contains (slice_cmp nat_cmp) new.many other) few
    ∙ ap (λ (s : Bool). has_name old.few other || s) (set_more old.many new.many name updates other)
    ∙ move_in (has_name old.few other) p b
    ∙ ap (λ (a : Bool). p || a) (has other)

-- a node begins
pub opens : (old new : Members) (names : Siblings) (one : Entry) (labels : List Named) (name : Named) (top : SiblingNames) → one ≡ entry.Open labels name → Follows old names
    → new.best ≡ lesser old.best (least (place_if (has_name names.children name.name) name.place)) → HasNames new.props [] → HasNames new.children []
    → new.around.items ≡ old.around.items ++ top ∷ [] → HasNames top (name.name ∷ names.children) → Follows new (next_siblings names one)
opens old new names one labels name top is follows best props children pushed has =
    subst (λ (e : Entry). Follows new (next_siblings names e)) (sym is)
    (record {
      best = best ∙ ap (λ (b : Option ℕ). lesser b (least (place_if (has_name names.children name.name) name.place))) follows.best;
      props = props;
      children = children;
      around = (old.around.items, top, pushed, has, follows.around);
    })
