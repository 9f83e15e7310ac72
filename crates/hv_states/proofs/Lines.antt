-- The lines of VCPUs, one behind the other.
use Rattle.std.proofs.Common.{◌≡◌, ℕ, zero, suc, ◌+◌, ◌<◌, Bool, List, [], ◌∷◌, ◌++◌, map, length, get_or, refl, ap, sym, ◌∙◌, arith}
use Rattle.std.proofs.lemmas.List.{append_assoc, flat_map_more, get_or-map, map-id}
use Rattle.std.proofs.lemmas.List.FromFn.{map-range_with_len_more}
use Rattle.std.specs.List.{flat_map, range_with_len}
use Rattle.hv_kinds.specs.declared.state.State.{State}
use Rattle.hv_model.specs.States.{last_of, states_line}
use Rattle.hv_states.specs.ByNumber.{states_in}

-- the last of further states stands at their end
pub last-at : (state : State) (further : List State) (n : ℕ) (d : State) → n + 1 ≡ length further → get_or further n d ≡ last_of state further
last-at state [] n d is = absurd (omega (arith, is))
last-at state (s ∷ []) zero d is = refl
last-at state (s ∷ t ∷ further) zero d is = absurd (omega (arith, is))
last-at state (s ∷ further) (suc n) d is = last-at s further n d (omega (arith, is))

-- one number more stands behind the others
range-more : (n : ℕ) → range_with_len 0 (n + 1) ≡ range_with_len 0 n ++ n ∷ []
range-more n =
    let all : (m : ℕ) → map (λ (k : ℕ). k) (range_with_len 0 m) ≡ range_with_len 0 m = λ m. map-id (range_with_len 0 m) in
    sym (all (n + 1)) ∙ (map-range_with_len_more (λ (k : ℕ). k) 0 n n (omega arith) ∙ ap (λ ks. ks ++ n ∷ []) (all n))

-- the line of one VCPU more stands behind those of the others
pub lines-more : (text : ℕ → List ℕ) (to : List ℕ) (n : ℕ)
    → (to ++ flat_map text (range_with_len 0 n)) ++ text n ≡ to ++ flat_map text (range_with_len 0 (n + 1))
lines-more text to n = flat_map_more text to (range_with_len 0 n) n ∙ ap (λ (ks : List ℕ). to ++ flat_map text ks) (sym (range-more n))

-- what f gives of one item, among what it gives of all
pub states-here : {X : Type 0} (f : X → List State) (xs : List X) (n : ℕ) (x : X) → n < length xs → x ≡ get_or xs n x → f x ≡ states_in (map f xs) n
states-here f xs n x low is = ap f is ∙ sym (get_or-map f xs n x [] low)

-- the lines stand behind their head
pub behind-head : {X : Type 0} (f : X → List State) (brief : Bool) (xs ys : List X) (now : List (List State)) (n : ℕ) (to head before all : List ℕ)
    → ys ≡ xs → length xs ≡ n → map f xs ≡ now → before ≡ to ++ head
    → all ≡ before ++ flat_map (λ v. states_line brief v (states_in (map f ys) v)) (range_with_len 0 (length ys))
    → all ≡ to ++ (head ++ flat_map (λ v. states_line brief v (states_in now v)) (range_with_len 0 n))
behind-head f brief xs ys now n to head before all same long seen begun is =
    let lines : List (List State) → ℕ → List ℕ = λ lists count. flat_map (λ v. states_line brief v (states_in lists v)) (range_with_len 0 count) in
    is
    ∙ (ap (λ zs. before ++ lines (map f zs) (length zs)) same
    ∙ (ap (λ count. before ++ lines (map f xs) count) long
    ∙ (ap (λ lists. before ++ lines lists n) seen
    ∙ (ap (λ text. text ++ lines now n) begun
    ∙ append_assoc to head (lines now n)))))
