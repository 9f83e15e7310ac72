-- The fields of an entry, with a colon between two.
use Rattle.std.proofs.Common.{◌≡◌, ◌≢◌, ℕ, ◌+◌, ◌<◌, suc, List, [], ◌∷◌, ◌++◌, length, refl, sym, ap, ◌∙◌, arith, append_assoc, length-append}
use Rattle.std.specs.List.{AllByRecursion, flat_map, join_with_byte}
use Rattle.std.proofs.lemmas.List.{append-nil}
use Rattle.std.proofs.lemmas.List.Concat.{flat_map-append}
use Rattle.hv_text.specs.Front.{IsFree, Stops}
use Rattle.hv_text.proofs.Fronts.{same_front}
use Rattle.hv_data.proofs.Pairs.{all_push}
use Rattle.hv_listing.specs.Reading.{AreFields, BeginsWithFields}

-- fields that are each ended by a colon
pub ended : List (List ℕ) → List ℕ
ended fields = flat_map (λ f. f ++ 58 ∷ []) fields

-- fields that were taken, and the rest of the text
pub record HasTaken (text : List ℕ) (fields : List (List ℕ)) (rest : List ℕ) : Type 0 where
  free : AllByRecursion (IsFree 58) fields
  is : text ≡ ended fields ++ rest

-- nothing is taken yet
pub nothing_taken : (text : List ℕ) → HasTaken text [] text
unfolding ended
nothing_taken text = record { free = tt; is = refl }

-- one field more
pub more_taken : (text : List ℕ) (fields : List (List ℕ)) (rest field behind : List ℕ) → HasTaken text fields rest → IsFree 58 field → rest ≡ field ++ 58 ∷ behind → HasTaken text (fields ++ field ∷ []) behind
unfolding ended
more_taken text fields rest field behind h free is = record {
  free = all_push (IsFree 58) fields field h.free free;
  is = h.is ∙ ap (λ (t : List ℕ). ended fields ++ t) is ∙ rw (flat_map-append (λ (f : List ℕ). f ++ 58 ∷ []) fields (field ∷ [])) (simp (append_assoc, append-nil));
}

-- what is left of the fields of a text behind those that were taken
left_over : (taken fields : List (List ℕ)) (rest behind : List ℕ) → AllByRecursion (IsFree 58) taken → AreFields fields → length taken < length fields → ended taken ++ rest ≡ join_with_byte 58 fields ++ behind
    → (others : List (List ℕ)) × AreFields others × (length fields ≡ length taken + length others) × (rest ≡ join_with_byte 58 others ++ behind)
unfolding ended
left_over [] fields rest behind h k lt e = (fields, k, omega arith, e)
left_over (t ∷ ts) [] rest behind h k lt e = absurd (omega arith)
left_over (t ∷ ts) (f ∷ []) rest behind h k lt e = absurd (omega arith)
left_over (t ∷ ts) (f ∷ g ∷ fs) rest behind h k lt e =
    let one : t ++ (58 ∷ (ended ts ++ rest)) ≡ ((t ++ 58 ∷ []) ++ ended ts) ++ rest = simp (append_assoc, append-nil) in
    let other : (f ++ (58 ∷ join_with_byte 58 (g ∷ fs))) ++ behind ≡ f ++ (58 ∷ (join_with_byte 58 (g ∷ fs) ++ behind)) = append_assoc f (58 ∷ join_with_byte 58 (g ∷ fs)) behind in
    let both = same_front 58 t f (58 ∷ (ended ts ++ rest)) (58 ∷ (join_with_byte 58 (g ∷ fs) ++ behind)) h.0 k.0 refl refl (one ∙ e ∙ other) in
    let more = left_over ts (g ∷ fs) rest behind h.1 k.1 (omega arith) (cc both.1) in
    (more.0, more.1, omega (arith, more.2), more.3)

-- where no colon follows too few fields, the text has no such fields
pub none_behind : (text : List ℕ) (count : ℕ) (taken : List (List ℕ)) (rest : List ℕ) → HasTaken text taken rest → suc (length taken) < count → ((field behind : List ℕ) → IsFree 58 field → rest ≢ field ++ 58 ∷ behind)
    → (fields : List (List ℕ)) (behind : List ℕ) → BeginsWithFields text count fields behind → ⊥
none_behind text count taken rest h few none fields behind k =
    let many = k.as_many in
    let more = left_over taken fields rest behind h.free k.formed (omega (arith, many)) (sym h.is ∙ k.is) in
    no_colon more.0 more.1 (omega (arith, more.2, many)) more.3
  where
    no_colon : (others : List (List ℕ)) → AreFields others → 1 < length others → rest ≡ join_with_byte 58 others ++ behind → ⊥
    no_colon [] formed lt e = omega arith
    no_colon (o ∷ []) formed lt e = omega arith
    no_colon (o ∷ p ∷ os) formed lt e = none o (join_with_byte 58 (p ∷ os) ++ behind) formed.0 (e ∙ append_assoc o (58 ∷ join_with_byte 58 (p ∷ os)) behind)

all_formed : (fields : List (List ℕ)) (last : List ℕ) → AllByRecursion (IsFree 58) fields → IsFree 44 last → AreFields (fields ++ last ∷ [])
all_formed [] last h k = k
all_formed (f ∷ []) last h k = (h.0, k)
all_formed (f ∷ g ∷ fs) last h k = (h.0, all_formed (g ∷ fs) last h.1 k)

all_joined : (fields : List (List ℕ)) (last : List ℕ) → join_with_byte 58 (fields ++ last ∷ []) ≡ ended fields ++ last
unfolding ended
all_joined [] last = refl
all_joined (f ∷ []) last = simp (append_assoc, append-nil)
all_joined (f ∷ g ∷ fs) last = ap (λ (t : List ℕ). f ++ (58 ∷ t)) (all_joined (g ∷ fs) last) ∙ simp (append_assoc, append-nil)

-- the last field ends the fields
pub all_taken : (text : List ℕ) (count : ℕ) (taken : List (List ℕ)) (rest last behind : List ℕ) → HasTaken text taken rest → suc (length taken) ≡ count → IsFree 44 last → Stops 44 behind → rest ≡ last ++ behind → BeginsWithFields text count (taken ++ last ∷ []) behind
all_taken text count taken rest last behind h many free stops is = record {
  as_many = omega (arith, many, length-append taken (last ∷ []));
  formed = all_formed taken last h.free free;
  stops = stops;
  is = h.is ∙ ap (λ (t : List ℕ). ended taken ++ t) is ∙ sym (append_assoc (ended taken) last behind) ∙ ap (λ (t : List ℕ). t ++ behind) (sym (all_joined taken last));
}

-- two texts of as many fields, and of what stands behind them
pub same_fields : (fs gs : List (List ℕ)) (t u : List ℕ) → length fs ≡ length gs → AreFields fs → AreFields gs → Stops 44 t → Stops 44 u → join_with_byte 58 fs ++ t ≡ join_with_byte 58 gs ++ u → (fs ≡ gs) × (t ≡ u)
same_fields [] gs t u len h k s v e = absurd h
same_fields (f ∷ fs) [] t u len h k s v e = absurd k
same_fields (f ∷ []) (g ∷ []) t u len h k s v e =
    let both = same_front 44 f g t u h k s v e in
    (ap (λ (x : List ℕ). x ∷ []) both.0, both.1)
same_fields (f ∷ []) (g ∷ y ∷ gs) t u len h k s v e = absurd (omega (arith, len))
same_fields (f ∷ x ∷ fs) (g ∷ []) t u len h k s v e = absurd (omega (arith, len))
same_fields (f ∷ x ∷ fs) (g ∷ y ∷ gs) t u len h k s v e =
    let one = append_assoc f (58 ∷ join_with_byte 58 (x ∷ fs)) t in
    let other = append_assoc g (58 ∷ join_with_byte 58 (y ∷ gs)) u in
    let both = same_front 58 f g (58 ∷ (join_with_byte 58 (x ∷ fs) ++ t)) (58 ∷ (join_with_byte 58 (y ∷ gs) ++ u)) h.0 k.0 refl refl (sym one ∙ e ∙ other) in
    let more = same_fields (x ∷ fs) (y ∷ gs) t u (omega (arith, len)) h.1 k.1 s v (cc both.1) in
    (ap (λ (w : List ℕ). w ∷ (x ∷ fs)) both.0 ∙ ap (λ (ws : List (List ℕ)). g ∷ ws) more.0, more.1)
