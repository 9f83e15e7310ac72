use Rattle.std.proofs.Common.{◌≡◌, ℕ, ◌++◌, List, [], ◌∷◌, length, ap, ◌∙◌, Option, Some, None, IfSome, option_copied, slice_get, Bor}
use Rattle.hv_files.specs.FileMap.{Path}
use Rattle.hv_files.specs.Tree.{GoesThrough}
use Rattle.hv_files.proofs.walk.name_in.Goals as goal

-- what is found at a front's length follows the front
follows : (f r : Path) (x : List ℕ) → Some x ≡ slice_get (f ++ r) (length f) → (t : Path) × (f ++ r ≡ f ++ x ∷ t)
follows [] [] x e = cc
follows [] (y ∷ t) x e = let same : y ≡ x = cc in (t, ap (λ (z : List ℕ). z ∷ t) same)
follows (z ∷ f) r x e = let rest = follows f r x e in (rest.0, λ i. z ∷ rest.1 i)

goes_on : (f r p : Path) → p ≡ f ++ r → (o : Option (Bor (List ℕ))) → option_copied o ≡ slice_get p (length f) → IfSome o (λ name. GoesThrough f name.now p)
goes_on f r p is None e = tt
goes_on f r p is (Some x) e = let found = follows f r x.now (e ∙ ap (λ l. slice_get l (length f)) is) in (found.0, is ∙ found.1)

pub returns-clause-some : goal.returns-clause-some
returns-clause-some c =
    let front = c.is_prefix_of.ensures.0 c.if-not-is_prefix_of.false in
    goes_on c.args.folder.now front.0 c.args.path.now front.1 c.at.result (c.at.ensures ∙ ap (slice_get c.args.path.now) c.len.ensures)
