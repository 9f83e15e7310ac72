-- Open scripts, seen from the innermost.
use Rattle.std.proofs.Common.{◌≡◌, ℕ, List, [], ◌∷◌, ◌++◌, length, Some, None, Bool, All, refl, ap, ◌∙◌, arith, length-append}
use Rattle.std.specs.Prelude.{◌↔◌, IsTrue}
use Rattle.std.specs.List.{AllByRecursion}
use Rattle.std.proofs.lemmas.List.Elements.{All-from_recursion, recursion_from_All}
use Rattle.hv_model.specs.Session.{next_in}
use Rattle.hv_rounds.specs.Stack.{reversed}

pub reversed-push : {A : Type 0} (xs : List A) (y : A) → reversed (xs ++ y ∷ []) ≡ y ∷ reversed xs
reversed-push [] y = refl
reversed-push (x ∷ xs) y = ap (λ zs. zs ++ x ∷ []) (reversed-push xs y)

pub length-reversed : {A : Type 0} (xs : List A) → length (reversed xs) ≡ length xs
length-reversed [] = refl
length-reversed {A} (x ∷ xs) = length-append {A = A} (reversed xs) (x ∷ []) ∙ omega (arith, length-reversed xs)

-- no command is left where each script is over
pub over-each : (scripts : List (List (List ℕ))) → next_in scripts ≡ None → AllByRecursion (λ s. s ≡ []) scripts
over-each [] none = tt
over-each ([] ∷ scripts) none = (refl, over-each scripts none)
over-each ((l ∷ ls) ∷ scripts) none = absurd (cc)

pub each-over : (scripts : List (List (List ℕ))) → AllByRecursion (λ s. s ≡ []) scripts → next_in scripts ≡ None
each-over [] all = refl
each-over ([] ∷ scripts) all = each-over scripts all.1
each-over ((l ∷ ls) ∷ scripts) all = let here : l ∷ ls ≡ [] = all.0 in absurd (cc)

pub all-back : {A : Type 0} (P : A → Type 0) (xs ys : List A) → AllByRecursion P xs → AllByRecursion P ys → AllByRecursion P (xs ++ ys)
all-back P [] ys h k = k
all-back P (x ∷ xs) ys h k = (h.0, all-back P xs ys h.1 k)

pub all-reversed : {A : Type 0} (P : A → Type 0) (xs : List A) → AllByRecursion P xs → AllByRecursion P (reversed xs)
all-reversed P [] h = tt
all-reversed P (x ∷ xs) h = all-back P (reversed xs) (x ∷ []) (all-reversed P xs h.1) (h.0, tt)

pub all-front : {A : Type 0} (P : A → Type 0) (xs ys : List A) → AllByRecursion P (xs ++ ys) → AllByRecursion P xs × AllByRecursion P ys
all-front P [] ys h = (tt, h)
all-front P (x ∷ xs) ys h = let rest = all-front P xs ys h.1 in ((h.0, rest.0), rest.1)

pub reversed-all : {A : Type 0} (P : A → Type 0) (xs : List A) → AllByRecursion P (reversed xs) → AllByRecursion P xs
reversed-all P [] h = tt
reversed-all P (x ∷ xs) h = let both = all-front P (reversed xs) (x ∷ []) h in (both.1.0, reversed-all P xs both.0)

pub over-iff : (scripts : List (List (List ℕ))) (r : Bool) → (IsTrue r ↔ All (λ s. s ≡ []) scripts) → IsTrue r ↔ (next_in (reversed scripts) ≡ None)
over-iff scripts r each =
    let Over : List (List ℕ) → Type 0 = λ s. s ≡ [] in (
      λ yes. each-over (reversed scripts) (all-reversed Over scripts (recursion_from_All Over scripts (each.0 yes))),
      λ none. each.1 (All-from_recursion Over scripts (reversed-all Over scripts (over-each (reversed scripts) none))),
    )

-- the innermost script gives the next command
pub begins-here : (scripts rest : List (List (List ℕ))) (script s : List (List ℕ)) (line : List ℕ) → scripts ≡ rest ++ script ∷ [] → script ≡ line ∷ s
    → next_in (reversed scripts) ≡ Some (line, s ∷ reversed rest)
begins-here scripts rest script s line parts is =
    ap (λ zs. next_in (reversed zs)) parts ∙ ap next_in (reversed-push rest script) ∙ ap (λ z. next_in (z ∷ reversed rest)) is

-- or it is over, and the scripts around it do
pub begins-further : (scripts rest : List (List (List ℕ))) (script : List (List ℕ)) → scripts ≡ rest ++ script ∷ [] → script ≡ []
    → next_in (reversed scripts) ≡ next_in (reversed rest)
begins-further scripts rest script parts is =
    ap (λ zs. next_in (reversed zs)) parts ∙ ap next_in (reversed-push rest script) ∙ ap (λ z. next_in (z ∷ reversed rest)) is
