use Rattle.std.proofs.Common.{ℕ, List, ◌≡◌, subst, None, [], All}
use Rattle.std.specs.Prelude.{◌↔◌, IsTrue}
use Rattle.hv_model.specs.Session.{next_in}
use Rattle.hv_rounds.proofs.Stacks.{over-iff}
use Rattle.hv_rounds.proofs.scripts.OpenScripts.is_over.Goals as goal

pub returns : goal.returns
returns c =
    let Each : List (List (List ℕ)) → Type 0 = λ ss. IsTrue c.are_over.result ↔ All (λ s. s ≡ []) ss in
    let Over : List (List (List ℕ)) → Type 0 = λ ss. IsTrue c.are_over.result ↔ (next_in ss ≡ None) in
    subst Over c.self.view_is (over-iff c.self.inside.scripts.items c.are_over.result (subst Each c.deref.ensures.value c.are_over.ensures))
