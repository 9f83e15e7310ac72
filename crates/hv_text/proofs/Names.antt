-- Names of a path, read one after the other.
use Rattle.std.proofs.Common.{◌≡◌, ◌≢◌, ℕ, ◌<◌, ◌≤◌, List, [], ◌∷◌, ◌++◌, length, get_or, refl, sym, ap, subst, ◌∙◌, arith, inl, inr, append_assoc}
use Rattle.std.specs.List.{AllByRecursion}
use Rattle.std.proofs.lemmas.List.{append-nil, get_or_default}
use Rattle.std.proofs.lemmas.List.Prefix.{front_reads}
use Rattle.std.proofs.lemmas.List.Concat.{flat_map-append}
use Rattle.std.proofs.lemmas.List.Elements.{recursion_from_All}
use Rattle.hv_text.specs.Front.{IsFree, Stops}
use Rattle.hv_text.specs.Path.{IsNameByte, IsName, IsPathPrefix, ArePathNames, slashed, path_text}
use Rattle.hv_text.proofs.Fronts.{same_front}

name_byte_apart : (b : ℕ) → IsNameByte b → b ≢ 47
name_byte_apart b (inl (inl (inl h))) e = omega (arith, h)
name_byte_apart b (inl (inl (inr h))) e = omega (arith, h)
name_byte_apart b (inl (inr h)) e = omega (arith, h)
name_byte_apart b (inr (inl h)) e = omega arith
name_byte_apart b (inr (inr (inl h))) e = omega arith
name_byte_apart b (inr (inr (inr h))) e = omega arith

bytes_apart : (bytes : List ℕ) → AllByRecursion IsNameByte bytes → IsFree 47 bytes
bytes_apart [] h = tt
bytes_apart (b ∷ bytes) h = (name_byte_apart b h.0, bytes_apart bytes h.1)

pub name_free : (name : List ℕ) → IsName name → IsFree 47 name
name_free name h = bytes_apart name (recursion_from_All IsNameByte name h.each)

pub slashed_stops : (names : List (List ℕ)) → Stops 47 (slashed names)
slashed_stops [] = tt
slashed_stops (n ∷ ns) = refl

-- the names so far and the rest make the text, and whatever names make it begin with these
pub record ReadsSoFar (text : List ℕ) (names : List (List ℕ)) (rest : List ℕ) : Type 0 where
  pub each : ArePathNames names
  pub parts : text ≡ slashed names ++ rest
  pub only : (all : List (List ℕ)) → ArePathNames all → text ≡ slashed all → (others : List (List ℕ)) × (all ≡ names ++ others) × ArePathNames others × (rest ≡ slashed others)

ArePathNames-push : (names : List (List ℕ)) (name : List ℕ) → ArePathNames names → IsName name → ArePathNames (names ++ name ∷ [])
ArePathNames-push [] name h k = (k, tt)
ArePathNames-push (n ∷ ns) name h k = (h.0, ArePathNames-push ns name h.1 k)

slashed-push : (names : List (List ℕ)) (name rest : List ℕ) → slashed names ++ (47 ∷ (name ++ rest)) ≡ slashed (names ++ name ∷ []) ++ rest
slashed-push names name rest = sym (ap (λ (t : List ℕ). t ++ rest) (flat_map-append (λ (n : List ℕ). 47 ∷ n) names (name ∷ [])) ∙ append_assoc (slashed names) (slashed (name ∷ [])) rest ∙ ap (λ (t : List ℕ). slashed names ++ (47 ∷ (t ++ rest))) (append-nil name))

-- a slash in front: what follows is a name of whatever names make the rest
pub first_is : (after name behind : List ℕ) (others : List (List ℕ)) → after ≡ name ++ behind → IsFree 47 name → Stops 47 behind → ArePathNames others → 47 ∷ after ≡ slashed others
    → (more : List (List ℕ)) × (others ≡ name ∷ more) × IsName name × ArePathNames more × (behind ≡ slashed more)
first_is after name behind [] e free stops h is = absurd (cc is)
first_is after name behind (o ∷ os) e free stops h is =
    let tails : after ≡ o ++ slashed os = cc is in
    let both = same_front 47 name o behind (slashed os) free (name_free o h.0) stops (slashed_stops os) (sym e ∙ tails) in
    (os, ap (λ (n : List ℕ). n ∷ os) (sym both.0), subst IsName (sym both.0) h.0, h.1, both.1)

pub reads_more : (text : List ℕ) (names : List (List ℕ)) (rest after name behind : List ℕ) → ReadsSoFar text names rest → rest ≡ 47 ∷ after → after ≡ name ++ behind → IsFree 47 name → Stops 47 behind → IsName name
    → ReadsSoFar text (names ++ name ∷ []) behind
reads_more text names rest after name behind so_far slash e free stops is = record {
  each = ArePathNames-push names name so_far.each is;
  parts = so_far.parts ∙ ap (λ (t : List ℕ). slashed names ++ t) (slash ∙ ap (λ (t : List ℕ). 47 ∷ t) e) ∙ slashed-push names name behind;
  only = λ all h all_is.
      let o = so_far.only all h all_is in
      let f = first_is after name behind o.0 e free stops o.2 (sym slash ∙ o.3) in
      (f.0, o.1 ∙ ap (λ (t : List (List ℕ)). names ++ t) f.1 ∙ sym (append_assoc names (name ∷ []) f.0), f.3, f.4);
}

-- a text that goes on otherwise is made by no names
pub none_refused : (text : List ℕ) (names : List (List ℕ)) (rest after name behind : List ℕ) → ReadsSoFar text names rest → rest ≡ 47 ∷ after → after ≡ name ++ behind → IsFree 47 name → Stops 47 behind → (IsName name → ⊥)
    → (all : List (List ℕ)) → ArePathNames all → text ≡ slashed all → ⊥
none_refused text names rest after name behind so_far slash e free stops none_here all h all_is =
    let o = so_far.only all h all_is in
    let f = first_is after name behind o.0 e free stops o.2 (sym slash ∙ o.3) in
    none_here f.2

-- without a slash in front no more names follow
pub no_more : (rest : List ℕ) (others : List (List ℕ)) → ((after : List ℕ) → rest ≢ 47 ∷ after) → rest ≡ slashed others → (rest ≡ []) × (others ≡ [])
no_more rest [] none_here is = (is, refl)
no_more rest (o ∷ os) none_here is = absurd (none_here (o ++ slashed os) is)

pub all_read : (text : List ℕ) (names : List (List ℕ)) (rest : List ℕ) → ReadsSoFar text names rest → ((after : List ℕ) → rest ≢ 47 ∷ after)
    → (all : List (List ℕ)) → ArePathNames all → text ≡ slashed all → (rest ≡ []) × (names ≡ all)
all_read text names rest so_far none_here all h all_is =
    let o = so_far.only all h all_is in
    let n = no_more rest o.0 none_here o.3 in
    (n.0, sym (o.1 ∙ ap (λ (t : List (List ℕ)). names ++ t) n.1 ∙ append-nil names))

-- a path and its front have the same names
pub front_agrees : (one other : List (List ℕ)) (i : ℕ) (a b : List ℕ) → i < length one → length one ≤ length other → a ≡ get_or one i a → b ≡ get_or other i b → IsPathPrefix one other → a ≡ b
front_agrees one other i a b lt le here there front =
    here ∙ sym (front_reads a other one front.0 front.1 i lt) ∙ get_or_default other i a b (omega arith) ∙ sym there

-- two lists of names with one text are one
pub slashed_same : (one other : List (List ℕ)) → ArePathNames one → ArePathNames other → slashed one ≡ slashed other → one ≡ other
slashed_same [] [] h k e = refl
slashed_same [] (o ∷ os) h k e = absurd cc
slashed_same (n ∷ ns) other h k e =
    let f = first_is (n ++ slashed ns) n (slashed ns) other refl (name_free n h.0) (slashed_stops ns) k e in
    ap (λ (t : List (List ℕ)). n ∷ t) (slashed_same ns f.0 h.1 f.3 f.4) ∙ sym f.1

pub path_text_same : (one other : List (List ℕ)) → 0 < length one → 0 < length other → ArePathNames one → ArePathNames other → path_text one ≡ path_text other → one ≡ other
path_text_same [] other some there h k e = absurd (omega arith)
path_text_same (n ∷ ns) [] some there h k e = absurd (omega arith)
path_text_same (n ∷ ns) (o ∷ os) some there h k e = slashed_same (n ∷ ns) (o ∷ os) h k e

bytes_free : (d : ℕ) → (IsNameByte d → ⊥) → (bytes rest : List ℕ) → AllByRecursion IsNameByte bytes → IsFree d rest → IsFree d (bytes ++ rest)
bytes_free d none [] rest h free = free
bytes_free d none (b ∷ bytes) rest h free = ((λ e. none (subst IsNameByte e h.0)), bytes_free d none bytes rest h.1 free)

slashed_free : (d : ℕ) → (IsNameByte d → ⊥) → 47 ≢ d → (names : List (List ℕ)) → ArePathNames names → IsFree d (slashed names)
slashed_free d none apart [] h = tt
slashed_free d none apart (n ∷ ns) h = (apart, bytes_free d none n (slashed ns) (recursion_from_All IsNameByte n h.0.each) (slashed_free d none apart ns h.1))

-- the text of a path has no other bytes than slashes and those of names
pub path_text_without : (d : ℕ) → (IsNameByte d → ⊥) → 47 ≢ d → (names : List (List ℕ)) → ArePathNames names → IsFree d (path_text names)
path_text_without d none apart [] h = (apart, tt)
path_text_without d none apart (n ∷ ns) h = slashed_free d none apart (n ∷ ns) h

no_name_byte : (d : ℕ) → d < 45 → IsNameByte d → ⊥
no_name_byte d lt (inl (inl (inl h))) = omega (arith, h)
no_name_byte d lt (inl (inl (inr h))) = omega (arith, h)
no_name_byte d lt (inl (inr h)) = omega (arith, h)
no_name_byte d lt (inr (inl h)) = omega arith
no_name_byte d lt (inr (inr (inl h))) = omega arith
no_name_byte d lt (inr (inr (inr h))) = omega arith

-- as a space and a line's end
pub path_text_without_low : (d : ℕ) → d < 45 → (names : List (List ℕ)) → ArePathNames names → IsFree d (path_text names)
path_text_without_low d lt names h = path_text_without d (no_name_byte d lt) (λ e. omega arith) names h

pub path_text_free : (names : List (List ℕ)) → ArePathNames names → IsFree 32 (path_text names)
path_text_free names h = path_text_without_low 32 (omega arith) names h
