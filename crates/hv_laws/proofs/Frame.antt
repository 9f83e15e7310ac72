-- A value after a step, by whether the step touches it.
use Rattle.std.proofs.Common.{◌≡◌, ℕ, Bool, true, false, ◌==◌, ◌||◌, refl, subst, sym, eqb-true}
use Rattle.hv_laws.specs.Board.{Becomes}

-- a fact of the value after a step: shown of the changed value where the step touches it, else of the old one
pub after-step : {A : Type 0} (P : A → Type 0) (t : Bool) (agrees : Type 0) (changed before after : A) → Becomes t agrees changed before after
    → (t ≡ true → agrees → P changed) → (t ≡ false → P before) → P after
after-step P true agrees changed before after is made kept = subst P (sym is.1) (made refl is.0)
after-step P false agrees changed before after is made kept = subst P (sym is) (kept refl)

pub touched : {A : Type 0} (t : Bool) (agrees : Type 0) (changed before after : A) → t ≡ true → Becomes t agrees changed before after → agrees × (after ≡ changed)
touched true agrees changed before after t is = is
touched false agrees changed before after t is = absurd (cc)

pub untouched : {A : Type 0} (t : Bool) (agrees : Type 0) (changed before after : A) → t ≡ false → Becomes t agrees changed before after → after ≡ before
untouched true agrees changed before after t is = absurd (cc)
untouched false agrees changed before after t is = is

pub or-false : (b : Bool) → (b || false) ≡ b
or-false true = refl
or-false false = refl

pub or-true : (a b : Bool) → a ≡ true → (a || b) ≡ true
or-true true b is = refl
or-true false b is = absurd (cc)

pub false-true : false ≡ true → ⊥
false-true is = cc

pub true-false : (b : Bool) → b ≡ true → b ≡ false → ⊥
true-false b p q = cc

-- what holds of a number holds of each that is the same
pub at-same : (P : ℕ → Type 0) (v k : ℕ) → (v == k) ≡ true → P k → P v
at-same P v k is h = subst P (sym (eqb-true v k is)) h
