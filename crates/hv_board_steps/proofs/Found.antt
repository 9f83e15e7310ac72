-- What is found in a list.
use Rattle.std.proofs.Common.{◌≡◌, suc, List, [], ◌∷◌, Bool, true, false, cond, Option, Some, refl, sym, ap, subst, ◌∙◌, arith}
use Rattle.std.specs.Prelude.{All, find, unwrap_or}

-- What is found is one of them, and passes.
pub found : {A : Type 0} (P : A → Type 0) (test : A → Bool) (xs : List A) (x : A) → All P xs → find test xs ≡ Some x → P x × (test x ≡ true)
found P test [] x all is = absurd (cc)
found {A} P test (y ∷ ys) x all is =
    elim (test y) as (λ b. test y ≡ b → cond b (Some y) (find test ys) ≡ Some x → P x × (test x ≡ true)) [
      | true ↦ λ passes here.
          let same : y ≡ x = ap (λ (o : Option A). unwrap_or o y) here in
          (subst P same (all 0 y (omega arith)), ap test (sym same) ∙ passes)
      | false ↦ λ fails later. found P test ys x (λ k d low. all (suc k) d (omega (arith, low))) later
    ] refl is
