-- Open scripts, seen from the innermost.
use Rattle.std.proofs.Common.{◌≡◌, ◌≤◌, ◌-◌, ℕ, zero, suc, true, false, take, get_or, List, [], ◌∷◌, ◌++◌, length, Some, None, refl, ap, ◌∙◌, sym, arith, length-append}
use Rattle.std.specs.Prelude.{Option, is_none}
use Rattle.hv_model.specs.Session.{Scripts, begun_boot, begun_own, next_in}
use Rattle.hv_terminals.specs.Scripts.{begun_depth, depth_of, first_line, line_of, reversed}

pub reversed_push : {A : Type 0} (xs : List A) (y : A) → reversed (xs ++ y ∷ []) ≡ y ∷ reversed xs
reversed_push [] y = refl
reversed_push (x ∷ xs) y = ap (λ zs. zs ++ x ∷ []) (reversed_push xs y)

pub length_reversed : {A : Type 0} (xs : List A) → length (reversed xs) ≡ length xs
length_reversed [] = refl
length_reversed {A} (x ∷ xs) = length-append {A = A} (reversed xs) (x ∷ []) ∙ omega (arith, length_reversed xs)

-- the innermost script gives the next command
line-first : (inner : List (List ℕ)) (outer : Scripts) (line : List ℕ) → first_line inner ≡ Some line → line_of (next_in (inner ∷ outer)) ≡ Some line
line-first [] outer line is = absurd (cc is)
line-first (l ∷ ls) outer line is = is

pub line_here : (outer : Scripts) (inner : List (List ℕ)) (line : List ℕ) → first_line inner ≡ Some line → line_of (next_in (reversed (outer ++ inner ∷ []))) ≡ Some line
line_here outer inner line is = ap (λ s. line_of (next_in s)) (reversed_push outer inner) ∙ line-first inner (reversed outer) line is

depth-first : (inner : List (List ℕ)) (outer : Scripts) (line : List ℕ) → first_line inner ≡ Some line → depth_of (next_in (inner ∷ outer)) ≡ length (inner ∷ outer)
depth-first [] outer line is = absurd (cc is)
depth-first (l ∷ ls) outer line is = refl

pub depth_here : (outer : Scripts) (inner : List (List ℕ)) (line : List ℕ) → first_line inner ≡ Some line → depth_of (next_in (reversed (outer ++ inner ∷ []))) ≡ length (outer ++ inner ∷ [])
depth_here outer inner line is =
    ap (λ s. depth_of (next_in s)) (reversed_push outer inner) ∙ depth-first inner (reversed outer) line is
    ∙ omega (arith, length_reversed outer, length-append outer (inner ∷ []))

-- or it is over, and the scripts around it do
next-over : (inner : List (List ℕ)) (outer : Scripts) → first_line inner ≡ None → next_in (inner ∷ outer) ≡ next_in outer
next-over [] outer is = refl
next-over (l ∷ ls) outer is = absurd (cc is)

pub next_further : (outer : Scripts) (inner : List (List ℕ)) → first_line inner ≡ None → next_in (reversed (outer ++ inner ∷ [])) ≡ next_in (reversed outer)
next_further outer inner is = ap next_in (reversed_push outer inner) ∙ next-over inner (reversed outer) is

-- the same, where the innermost script begins its next command
pub begins_here : (scripts outer : Scripts) (inner later : List (List ℕ)) (line : List ℕ) → scripts ≡ outer ++ inner ∷ [] → inner ≡ line ∷ later → next_in (reversed scripts) ≡ Some (line, reversed (outer ++ later ∷ []))
begins_here scripts outer inner later line parts is =
    ap (λ zs. next_in (reversed zs)) parts ∙ ap next_in (reversed_push outer inner) ∙ ap (λ z. next_in (z ∷ reversed outer)) is
    ∙ ap (λ (z : Scripts). Some (line, z)) (sym (reversed_push outer later))

pub begins_further : (scripts outer : Scripts) (inner : List (List ℕ)) → scripts ≡ outer ++ inner ∷ [] → inner ≡ [] → next_in (reversed scripts) ≡ next_in (reversed outer)
begins_further scripts outer inner parts is =
    ap (λ zs. next_in (reversed zs)) parts ∙ ap next_in (reversed_push outer inner) ∙ ap (λ z. next_in (z ∷ reversed outer)) is

-- the last element, and those before it
parts : {A : Type 0} (xs : List A) (n : ℕ) (d : A) → length xs ≡ suc n → xs ≡ take n xs ++ get_or xs n d ∷ []
parts [] n d is = absurd (omega arith)
parts (x ∷ []) zero d is = refl
parts (x ∷ []) (suc n) d is = absurd (omega arith)
parts (x ∷ y ∷ ys) zero d is = absurd (omega arith)
parts (x ∷ y ∷ ys) (suc n) d is = ap (λ zs. x ∷ zs) (parts (y ∷ ys) n d (omega arith))

last_parts : (scripts : Scripts) (d inner : List (List ℕ)) → 1 ≤ length scripts → inner ≡ get_or scripts (length scripts - 1) d → scripts ≡ take (length scripts - 1) scripts ++ inner ∷ []
last_parts scripts d inner some is =
    parts scripts (length scripts - 1) d (omega arith) ∙ ap (λ z. take (length scripts - 1) scripts ++ z ∷ []) (sym is)

pub line_last : (scripts : Scripts) (d inner : List (List ℕ)) (line : List ℕ) → 1 ≤ length scripts → inner ≡ get_or scripts (length scripts - 1) d → first_line inner ≡ Some line → Some line ≡ line_of (next_in (reversed scripts))
line_last scripts d inner line some is found =
    sym (ap (λ zs. line_of (next_in (reversed zs))) (last_parts scripts d inner some is) ∙ line_here (take (length scripts - 1) scripts) inner line found)

pub depth_last : (scripts : Scripts) (d inner : List (List ℕ)) (line : List ℕ) → 1 ≤ length scripts → inner ≡ get_or scripts (length scripts - 1) d → first_line inner ≡ Some line → length scripts ≡ depth_of (next_in (reversed scripts))
depth_last scripts d inner line some is found =
    ap length (last_parts scripts d inner some is)
    ∙ sym (ap (λ zs. depth_of (next_in (reversed zs))) (last_parts scripts d inner some is) ∙ depth_here (take (length scripts - 1) scripts) inner line found)

pub further_last : (scripts : Scripts) (d inner : List (List ℕ)) → 1 ≤ length scripts → inner ≡ get_or scripts (length scripts - 1) d → first_line inner ≡ None → next_in (reversed (take (length scripts - 1) scripts)) ≡ next_in (reversed scripts)
further_last scripts d inner some is over =
    sym (ap (λ zs. next_in (reversed zs)) (last_parts scripts d inner some is) ∙ next_further (take (length scripts - 1) scripts) inner over)

-- a command of the boot script stands within its scripts
pub depth_boot : (boot own : Scripts) → is_none (next_in boot) ≡ false → depth_of (next_in boot) ≡ begun_depth (begun_boot (next_in boot) own)
depth_boot [] own is = absurd (cc is)
depth_boot ([] ∷ scripts) own is = depth_boot scripts own is
depth_boot ((l ∷ ls) ∷ scripts) own is = refl

own-depth : (next : Option (List ℕ × Scripts)) → depth_of next ≡ begun_depth (begun_own next)
own-depth None = refl
own-depth (Some next) = refl

boot-over : (next : Option (List ℕ × Scripts)) (own : Scripts) → is_none next ≡ true → depth_of (next_in own) ≡ begun_depth (begun_boot next own)
boot-over None own is = own-depth (next_in own)
boot-over (Some next) own is = absurd (cc is)

-- or else of the own script
pub depth_own : (boot own : Scripts) → is_none (next_in boot) ≡ true → depth_of (next_in own) ≡ begun_depth (begun_boot (next_in boot) own)
depth_own boot own is = boot-over (next_in boot) own is
