-- Faults of items, one item after the other.
use Rattle.std.proofs.Common.{◌≡◌, ℕ, zero, suc, ◌+◌, ◌<◌, ◌≤◌, List, [], ◌∷◌, ◌++◌, length, get_or, drop, map, refl, sym, ap, subst, ◌∙◌, arith, append_assoc, add-one, drop-cons}
use Rattle.std.specs.Prelude.{Some, None, Err}
use Rattle.std.specs.List.{enumerate_from}
use Rattle.std.proofs.lemmas.List.{append-nil, drop_all}
use Rattle.hv_text.specs.Path.{path_text}
use Rattle.hv_dtree.specs.declared.node.Node.{Node}
use Rattle.hv_plan.specs.Properties.{first_of}
use Rattle.hv_plan.specs.Guests.{Fault, faults_from, faults_of, Plans}
use Rattle.hv_plan.specs.Reading.{Reads, Passes, Tells}
use Rattle.hv_kinds.specs.declared.cause.Cause.{Cause}
use Rattle.hv_plan.specs.declared.refusal.PlanRefusal.{PlanRefusal}
use Rattle.hv_plan.specs.declared.refusal.PlanRefusal.TheVariants.{NoGuest, BadNode, Memory}

-- the items from one on
pub from_here : {X : Type 0} (xs : List X) (at : ℕ) (x : X) → at < length xs → x ≡ get_or xs at x → drop at xs ≡ x ∷ drop (at + 1) xs
from_here xs at x lt is = rw (add-one, drop-cons xs at x) (ap (λ (y : _). y ∷ drop (suc at) xs) (sym is))

-- a list without a first item is empty
pub none_first : {X : Type 0} (xs : List X) → first_of xs ≡ None → xs ≡ []
none_first [] is = refl
none_first (x ∷ xs) is = absurd (cc is)

pub first_append : {X : Type 0} (xs ys : List X) (x : X) → first_of xs ≡ Some x → first_of (xs ++ ys) ≡ Some x
first_append [] ys x is = absurd (cc is)
first_append (y ∷ xs) ys x is = is

-- nothing is wrong with an item, and the others are still to be looked at
pub pass_one : {X : Type 0} (above : List (List ℕ)) (name : X → List ℕ) (causes : ℕ → X → List Cause) (xs : List X) (at : ℕ) (x : X) (faults : List Fault)
    → at < length xs → x ≡ get_or xs at x → causes at x ≡ [] → faults_from above name causes at (drop at xs) ≡ faults → faults_from above name causes (at + 1) (drop (at + 1) xs) ≡ faults
pass_one {X} above name causes xs at x faults lt is none so_far =
    let here : faults_from above name causes at (x ∷ drop (at + 1) xs) ≡ faults = ap (faults_from above name causes at) (sym (from_here xs at x lt is)) ∙ so_far in
    subst (λ (cs : List Cause). map (λ (cause : Cause). (path_text (above ++ name x ∷ []), cause)) cs ++ faults_from above name causes (at + 1) (drop (at + 1) xs) ≡ faults) none here

first_map : (f : Cause → Fault) (causes : List Cause) (cause : Cause) (others : List Fault) → first_of causes ≡ Some cause → first_of (map f causes ++ others) ≡ Some (f cause)
first_map f [] cause others is = absurd (cc is)
first_map f (c ∷ causes) cause others is = let same : c ≡ cause = cc is in ap (λ (d : Cause). Some (f d)) same

-- something is wrong with an item
pub fault_here : {X : Type 0} (above : List (List ℕ)) (name : X → List ℕ) (causes : ℕ → X → List Cause) (xs : List X) (at : ℕ) (x : X) (faults : List Fault) (cause : Cause)
    → at < length xs → x ≡ get_or xs at x → first_of (causes at x) ≡ Some cause → faults_from above name causes at (drop at xs) ≡ faults → first_of faults ≡ Some (path_text (above ++ name x ∷ []), cause)
fault_here above name causes xs at x faults cause lt is first so_far =
    let here : faults_from above name causes at (x ∷ drop (at + 1) xs) ≡ faults = ap (faults_from above name causes at) (sym (from_here xs at x lt is)) ∙ so_far in
    ap first_of (sym here) ∙ first_map (λ c. (path_text (above ++ name x ∷ []), c)) (causes at x) cause (faults_from above name causes (at + 1) (drop (at + 1) xs)) first

-- all items were looked at
pub no_fault : {X : Type 0} (above : List (List ℕ)) (name : X → List ℕ) (causes : ℕ → X → List Cause) (xs : List X) (at : ℕ) (faults : List Fault)
    → length xs ≤ at → faults_from above name causes at (drop at xs) ≡ faults → faults ≡ []
no_fault above name causes xs at faults past so_far = sym so_far ∙ ap (faults_from above name causes at) (drop_all at xs past)

-- the first fault is told
pub told : (faults : List Fault) (fault : Fault) (refusal : PlanRefusal) → first_of faults ≡ Some fault → Tells fault refusal → Passes faults (Err refusal)
told faults fault NoGuest first tells = absurd tells
told faults fault (BadNode path cause) first tells = first ∙ ap Some (sym tells)
told faults fault (Memory e) first tells = tt

pub told_reading : {X : Type 0} (faults : List Fault) (items : List X) (fault : Fault) (refusal : PlanRefusal) → first_of faults ≡ Some fault → Tells fault refusal → Reads faults items (Err refusal)
told_reading faults items fault NoGuest first tells = absurd tells
told_reading faults items fault (BadNode path cause) first tells = first ∙ ap Some (sym tells)
told_reading faults items fault (Memory e) first tells = tt

-- the same of a part behind faults that aren't there
pub told_part : (areas : List (List ℕ × ℕ)) (guest : Node) (part behind : List Fault) (refusal : PlanRefusal) → faults_of areas guest ≡ part ++ behind → Passes part (Err refusal) → Plans areas (Some guest) (Err refusal)
told_part areas guest part behind NoGuest is passes = absurd passes
told_part areas guest part behind (BadNode path cause) is passes = ap first_of is ∙ first_append part behind (path, cause) passes
told_part areas guest part behind (Memory e) is passes = tt

pub passes_from_reads : {X : Type 0} (faults : List Fault) (items : List X) (refusal : PlanRefusal) → Reads faults items (Err refusal) → Passes faults (Err refusal)
passes_from_reads faults items NoGuest reads = absurd reads
passes_from_reads faults items (BadNode path cause) reads = reads
passes_from_reads faults items (Memory e) reads = tt

-- what was made of the items so far, and what is still to be made
pub made_more : {X Y : Type 0} (f : X → Y) (xs : List X) (at : ℕ) (x : X) (y : Y) (made new all : List Y) → at < length xs → x ≡ get_or xs at x → y ≡ f x → new ≡ made ++ y ∷ [] → made ++ map f (drop at xs) ≡ all → new ++ map f (drop (at + 1) xs) ≡ all
made_more f xs at x y made new all lt is made_of pushed so_far =
    let here : made ++ (f x ∷ map f (drop (at + 1) xs)) ≡ all = ap (λ (zs : List _). made ++ map f zs) (sym (from_here xs at x lt is)) ∙ so_far in
    let parts : new ++ map f (drop (at + 1) xs) ≡ made ++ (y ∷ map f (drop (at + 1) xs)) = ap (λ (zs : List _). zs ++ map f (drop (at + 1) xs)) pushed ∙ append_assoc made (y ∷ []) (map f (drop (at + 1) xs)) in
    parts ∙ (ap (λ (z : _). made ++ (z ∷ map f (drop (at + 1) xs))) made_of ∙ here)

pub made_all : {X Y : Type 0} (f : X → Y) (xs : List X) (at : ℕ) (made all : List Y) → length xs ≤ at → made ++ map f (drop at xs) ≡ all → made ≡ all
made_all f xs at made all past so_far =
    sym (append-nil made) ∙ (ap (λ (zs : List _). made ++ map f zs) (sym (drop_all at xs past)) ∙ so_far)

-- the same of items with their rows
abbrev pub rows_from : {X Y : Type 0} → (ℕ → X → Y) → ℕ → List X → List Y
rows_from f row xs = map (λ it. f it.0 it.1) (enumerate_from row xs)

pub row_more : {X Y : Type 0} (f : ℕ → X → Y) (xs : List X) (at : ℕ) (x : X) (y : Y) (made new all : List Y) → at < length xs → x ≡ get_or xs at x → y ≡ f at x → new ≡ made ++ y ∷ [] → made ++ rows_from f at (drop at xs) ≡ all → new ++ rows_from f (at + 1) (drop (at + 1) xs) ≡ all
row_more f xs at x y made new all lt is made_of pushed so_far =
    let here : made ++ (f at x ∷ rows_from f (at + 1) (drop (at + 1) xs)) ≡ all = ap (λ (zs : List _). made ++ rows_from f at zs) (sym (from_here xs at x lt is)) ∙ so_far in
    let parts : new ++ rows_from f (at + 1) (drop (at + 1) xs) ≡ made ++ (y ∷ rows_from f (at + 1) (drop (at + 1) xs)) = ap (λ (zs : List _). zs ++ rows_from f (at + 1) (drop (at + 1) xs)) pushed ∙ append_assoc made (y ∷ []) (rows_from f (at + 1) (drop (at + 1) xs)) in
    parts ∙ (ap (λ (z : _). made ++ (z ∷ rows_from f (at + 1) (drop (at + 1) xs))) made_of ∙ here)

pub rows_all : {X Y : Type 0} (f : ℕ → X → Y) (xs : List X) (at : ℕ) (made all : List Y) → length xs ≤ at → made ++ rows_from f at (drop at xs) ≡ all → made ≡ all
rows_all f xs at made all past so_far =
    sym (append-nil made) ∙ (ap (λ (zs : List _). made ++ rows_from f at zs) (sym (drop_all at xs past)) ∙ so_far)

-- an item of a mapped list
pub mapped_at : {X Y : Type 0} (f : X → Y) (xs : List X) (ys : List Y) (at : ℕ) (x : X) (d : Y) → ys ≡ map f xs → at < length xs → x ≡ get_or xs at x → get_or ys at d ≡ f x
mapped_at f xs ys at x d is lt here = ap (λ (zs : List _). get_or zs at d) is ∙ item xs at x d lt here where
  item : (xs : List _) (at : ℕ) (x : _) (d : _) → at < length xs → x ≡ get_or xs at x → get_or (map f xs) at d ≡ f x
  item [] at x d lt here = absurd (omega arith)
  item (z ∷ xs) zero x d lt here = ap f (sym here)
  item (z ∷ xs) (suc at) x d lt here = item xs at x d (omega arith) here
