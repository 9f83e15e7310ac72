use Rattle.std.proofs.Common.{◌≡◌, ℕ, List, [], length, eqb, ap, subst, Err}
use Rattle.std.specs.Prelude.{Option}
use Rattle.hv_dtree.specs.Values.{IsText}
use Rattle.hv_dtree.specs.declared.node.PropRefusal.TheVariants.{BadForm}
use Rattle.hv_dtree.proofs.Strings.{not_one}
use Rattle.hv_dtree.proofs.node.Node.text.Goals as goal

pub returns-else-is_empty : goal.returns-else-is_empty
returns-else-is_empty c =
    let rest = c.in-Some-word_at.rest.now in
    let some = λ (none : rest ≡ []). let tested = ap (λ (t : List ℕ). eqb (length t) 0) none in absurd (cc (tested, c.if-is_empty.ensures)) in
    subst (λ (v : Option (List ℕ)). IsText v (Err BadForm)) c.in-Some.ensures
    (not_one c.in-Some.value.now c.in-Some-word_at.text.now rest c.in-Some-word_at.ensures.0 c.in-Some-word_at.ensures.1 some)
