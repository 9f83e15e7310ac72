-- Several reads in a row, and several writes.
use Rattle.std.proofs.Common.{◌≡◌, ℕ, ◌+◌, ◌≤◌, ◌<◌, List, [], ◌++◌, length, take, drop, Option, Some, None, refl, sym, ap, subst, ◌∙◌, append_assoc, arith, length-append, take-append-drop}
use Rattle.std.specs.Prelude.{IfSome}
use Rattle.std.specs.Io.KnownBytes.{Consumes, Appends, Keeps, IsAtEnd}
use Rattle.std.proofs.lemmas.List.{append-nil, drop-drop}
use Rattle.hv_base.specs.Reading.{Takes}
use Rattle.hv_base.specs.Writing.{AppendsBefore, AppendsFront}

pub nothing_taken : (a : Option (List ℕ)) → Consumes a a []
nothing_taken None = tt
nothing_taken (Some xs) = refl

pub taken_more : (a b c : Option (List ℕ)) (xs ys : List ℕ) → Consumes a b xs → Consumes b c ys → Consumes a c (xs ++ ys)
taken_more None b c xs ys p q = tt
taken_more (Some us) None c xs ys p q = absurd p
taken_more (Some us) (Some vs) None xs ys p q = absurd q
taken_more (Some us) (Some vs) (Some ws) xs ys p q = p ∙ ap (λ (t : List ℕ). xs ++ t) q ∙ sym (append_assoc xs ys ws)

-- all is taken where none is left
pub all_taken : (a b : Option (List ℕ)) (xs : List ℕ) → Consumes a b xs → IsAtEnd b → IfSome a (λ bytes. xs ≡ bytes)
all_taken None b xs p q = tt
all_taken (Some us) None xs p q = absurd p
all_taken (Some us) (Some vs) xs p q = sym (p ∙ ap (λ (t : List ℕ). xs ++ t) q ∙ append-nil xs)

-- there were more than what was taken
pub more_taken : (a b : Option (List ℕ)) (xs : List ℕ) (most : ℕ) → Consumes a b xs → most < length xs → IfSome a (λ bytes. most < length bytes)
more_taken None b xs most p lt = tt
more_taken (Some us) None xs most p lt = absurd p
more_taken (Some us) (Some vs) xs most p lt = omega (arith, ap length p, length-append xs vs)

pub nothing_appended : (a : Option (List ℕ)) (bytes : List ℕ) → AppendsBefore a a bytes bytes
nothing_appended None bytes = record { front = []; parts = refl; held = tt }
nothing_appended (Some xs) bytes = record { front = []; parts = refl; held = sym (append-nil xs) }

appended_more : (a b c : Option (List ℕ)) (xs ys : List ℕ) → Appends a b xs → Appends b c ys → Appends a c (xs ++ ys)
appended_more None b c xs ys p q = tt
appended_more (Some us) None c xs ys p q = absurd p
appended_more (Some us) (Some vs) None xs ys p q = absurd q
appended_more (Some us) (Some vs) (Some ws) xs ys p q = q ∙ ap (λ (t : List ℕ). t ++ ys) p ∙ append_assoc us xs ys

-- so many more bytes of the rest
pub AppendsBefore-more : (a b c : Option (List ℕ)) (bytes rest : List ℕ) (n : ℕ) → AppendsBefore a b bytes rest → Appends b c (take n rest) → AppendsBefore a c bytes (drop n rest)
AppendsBefore-more a b c bytes rest n p q = record {
  front = p.front ++ take n rest;
  parts = p.parts ∙ ap (λ (t : List ℕ). p.front ++ t) (sym (take-append-drop n rest)) ∙ sym (append_assoc p.front (take n rest) (drop n rest));
  held = appended_more a b c p.front (take n rest) p.held q;
}

-- a call that appended nothing
pub AppendsBefore-kept : (a b c : Option (List ℕ)) (bytes rest : List ℕ) → AppendsBefore a b bytes rest → Keeps b c → AppendsFront a c bytes
AppendsBefore-kept None b c bytes rest p q = (rest, record { front = p.front; parts = p.parts; held = tt })
AppendsBefore-kept (Some us) None c bytes rest p q = absurd p.held
AppendsBefore-kept (Some us) (Some vs) None bytes rest p q = absurd q
AppendsBefore-kept (Some us) (Some vs) (Some ws) bytes rest p q = (rest, record { front = p.front; parts = p.parts; held = q ∙ p.held })

pub AppendsBefore-all : (a b : Option (List ℕ)) (bytes rest : List ℕ) → AppendsBefore a b bytes rest → rest ≡ [] → Appends a b bytes
AppendsBefore-all a b bytes rest p none = subst (λ (t : List ℕ). Appends a b t) (sym (p.parts ∙ ap (λ (t : List ℕ). p.front ++ t) none ∙ append-nil p.front)) p.held

-- a piece from memory
pub poured : (bytes rest moved : List ℕ) (at n : ℕ) → rest ≡ drop at bytes → moved ≡ take n rest → drop at bytes ≡ moved ++ drop (at + n) bytes
poured bytes rest moved at n here is =
    sym here ∙ sym (take-append-drop n rest) ∙ ap (λ (t : List ℕ). t ++ drop n rest) (sym is) ∙ ap (λ (t : List ℕ). moved ++ drop n t) here ∙ ap (λ (t : List ℕ). moved ++ t) (drop-drop n at bytes)

kept_takes_none : (b c : Option (List ℕ)) → Keeps b c → Consumes b c []
kept_takes_none None c q = tt
kept_takes_none (Some vs) None q = absurd q
kept_takes_none (Some vs) (Some ws) q = sym q

pub takes_more : (a b c : Option (List ℕ)) (xs ys : List ℕ) (least most : ℕ) → Consumes a b xs → Consumes b c ys → least ≤ length xs + length ys → length xs + length ys ≤ most → Takes a c least most
takes_more a b c xs ys least most p q low high =
    record { taken = xs ++ ys; no_fewer = omega (arith, length-append xs ys); no_more = omega (arith, length-append xs ys); consumed = taken_more a b c xs ys p q }

pub takes_kept : (a b c : Option (List ℕ)) (xs : List ℕ) (most : ℕ) → Consumes a b xs → Keeps b c → length xs ≤ most → Takes a c 0 most
takes_kept a b c xs most p q high = takes_more a b c xs [] 0 most p (kept_takes_none b c q) (omega arith) (omega arith)
