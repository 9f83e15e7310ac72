-- Fronts of a text that hold one byte nowhere.
use Rattle.std.proofs.Common.{◌≡◌, ◌≢◌, ℕ, zero, suc, ◌<◌, List, [], ◌∷◌, ◌++◌, length, take, drop, get_or, refl, sym, ap, subst, ◌∙◌, arith, take-append-drop}
use Rattle.std.proofs.lemmas.List.{append-nil, nil_from_length}
use Rattle.hv_text.specs.Front.{IsFree, Stops}

-- a text has one front that is free of a byte and ends before it or at the text's end
pub same_front : (end : ℕ) (a b x y : List ℕ) → IsFree end a → IsFree end b → Stops end x → Stops end y → a ++ x ≡ b ++ y → (a ≡ b) × (x ≡ y)
same_front end [] [] x y fa fb sx sy e = (refl, e)
same_front end [] (c ∷ b) [] y fa fb sx sy e = absurd (cc e)
same_front end [] (c ∷ b) (d ∷ x) y fa fb sx sy e = absurd (fb.0 (cc (e, sx)))
same_front end (c ∷ a) [] x [] fa fb sx sy e = absurd (cc e)
same_front end (c ∷ a) [] x (d ∷ y) fa fb sx sy e = absurd (fa.0 (cc (e, sy)))
same_front end (c ∷ a) (d ∷ b) x y fa fb sx sy e =
    let heads : c ≡ d = cc e in
    let tails : a ++ x ≡ b ++ y = cc e in
    let both = same_front end a b x y fa.1 fb.1 sx sy tails in
    (cc (heads, both.0), both.1)

-- the bytes that a search has passed
pub free_more : (end : ℕ) (text : List ℕ) (n : ℕ) → n < length text → get_or text n 0 ≢ end → IsFree end (take n text) → IsFree end (take (suc n) text)
free_more end [] n lt apart free = absurd (omega arith)
free_more end (c ∷ text) zero lt apart free = (apart, tt)
free_more end (c ∷ text) (suc n) lt apart free = (free.0, free_more end text n (omega arith) apart free.1)

pub stops_here : (end : ℕ) (text : List ℕ) (n : ℕ) → n < length text → get_or text n 0 ≡ end → Stops end (drop n text)
stops_here end [] n lt is = absurd (omega arith)
stops_here end (c ∷ text) zero lt is = is
stops_here end (c ∷ text) (suc n) lt is = stops_here end text n (omega arith) is

pub not_in : (end : ℕ) (text word rest : List ℕ) → IsFree end text → text ≡ word ++ end ∷ rest → ⊥
not_in end [] [] rest free e = cc
not_in end [] (w ∷ ws) rest free e = cc
not_in end (t ∷ ts) [] rest free e = free.0 (cc)
not_in end (t ∷ ts) (w ∷ ws) rest free e = not_in end ts ws rest free.1 (cc)

-- a front with nothing behind it is the text
pub free_all : (end n : ℕ) (text behind : List ℕ) → IsFree end (take n text) → behind ≡ drop n text → length behind ≡ 0 → IsFree end text
free_all end n text behind free is none =
    let nothing : drop n text ≡ [] = sym is ∙ nil_from_length behind none in
    subst (IsFree end) (sym (append-nil (take n text)) ∙ ap (λ (t : List ℕ). take n text ++ t) (sym nothing) ∙ take-append-drop n text) free
