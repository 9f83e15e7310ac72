use Rattle.std.proofs.Common.{◌≡◌, false, ◌∷◌, List, ℕ, refl, sym, ap, subst, ◌∙◌}
use Rattle.std.specs.Ordering.{nat_cmp}
use Rattle.std.specs.Cmp.Lexicographic.{slice_cmp}
use Rattle.std.specs.BTreeSet.{contains}
use Rattle.hv_dts.specs.Rules.{has_name}
use Rattle.hv_dts.specs.Sets.{HasNames}
use Rattle.hv_dts.specs.declared.sibling_names.SiblingNames.{SiblingNames}
use Rattle.hv_dts.proofs.SiblingSets.{there_by_none, has_more}
use Rattle.hv_dts.proofs.sibling_names.SiblingNames.note.Goals as goal

pub returns : goal.returns
returns c = λ earlier has.
    let old = c.args.self.now in
    let name = c.args.name.now in
    let new : SiblingNames = record { few = old.few; many = c.insert.new.self } in
    let few : has_name old.few name ≡ false = ap (λ (ns : List (List ℕ)). has_name ns name) (sym c.as_slice.ensures) ∙ sym c.is_among.ensures ∙ c.if-is_among.false in
    let many : contains (slice_cmp nat_cmp) old.many name ≡ false = sym c.contains.ensures ∙ c.if-contains.false in (
      sym (there_by_none old earlier name has few many),
      subst (λ (n : List ℕ). HasNames new (n ∷ earlier)) c.in_ok-copy.ensures.cases (has_more old new earlier c.in_ok-copy.copy has refl c.in_ok-insert.ensures.updates),
    )
