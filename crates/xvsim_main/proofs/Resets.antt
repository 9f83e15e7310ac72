-- What a reset leaves.
use Rattle.std.proofs.Common.{◌≡◌, List, [], ◌∷◌, ◌++◌, map, refl, sym, subst}
use Rattle.std.specs.Prelude.{All}
use Rattle.std.proofs.lemmas.List.Elements.{All-push}
use Rattle.hv_emu.specs.Device.{DevState, uart, plic, timer, after_reset, IsInReset}

-- a device is in its reset state once it is reset
pub in_reset : (d : DevState) → IsInReset (after_reset d)
unfolding after_reset
in_reset (uart u) = refl
in_reset (plic p) = refl
in_reset (timer t) = refl

map-push : {A B : Type 0} (f : A → B) (xs : List A) (x : A) → map f (xs ++ x ∷ []) ≡ map f xs ++ f x ∷ []
map-push f [] x = refl
map-push f (y ∷ ys) x = rw (map-push f ys x) refl

-- with one more that is, all are
pub all_reset : {E : Type 0} (state : E → DevState) (parts : List E) (part : E) → All IsInReset (map state parts) → IsInReset (state part)
    → All IsInReset (map state (parts ++ part ∷ []))
all_reset state parts part all is = subst (All IsInReset) (sym (map-push state parts part)) (All-push IsInReset (map state parts) (state part) all is)
