-- Names of nodes, taken apart at their at signs.
use Rattle.std.proofs.Common.{◌≡◌, ℕ, suc, zero, ◌<◌, List, [], ◌∷◌, ◌++◌, length, refl, sym, subst, ◌∙◌, inl, inr, arith, get_or, take, drop, take-append-drop, append_assoc, ap}
use Rattle.std.specs.Prelude.{codes}
use Rattle.std.specs.List.{AllByRecursion, join_with_byte}
use Rattle.std.proofs.lemmas.List.{append-nil}
use Rattle.std.proofs.lemmas.List.Splits.{join_with_byte-slice_split}
use Rattle.std.proofs.lemmas.List.Elements.{All-from_recursion, recursion_from_All}
use Rattle.hv_text.specs.Front.{IsFree, Stops}
use Rattle.hv_text.proofs.Fronts.{same_front}
use Rattle.hv_dtree.specs.Names.{IsNodeByte, IsNodeName}
use Rattle.hv_data.specs.Reading.{parts_at}
use Rattle.hv_refusal.specs.Node.{AreNodeBytes, IsUnit, IsNodePath}

no_at_among : (k : ℕ) → k < 5 → get_or (codes ",._+-") k 64 ≡ 64 → ⊥
no_at_among zero lt e = omega (arith, e)
no_at_among (suc zero) lt e = omega (arith, e)
no_at_among (suc (suc zero)) lt e = omega (arith, e)
no_at_among (suc (suc (suc zero))) lt e = omega (arith, e)
no_at_among (suc (suc (suc (suc zero)))) lt e = omega (arith, e)
no_at_among (suc (suc (suc (suc (suc k))))) lt e = omega arith

-- no name has an at sign in its base
no_at : IsNodeByte 64 → ⊥
no_at (inl (inl h)) = omega (arith, h)
no_at (inl (inr h)) = omega (arith, h)
no_at (inr there) = no_at_among there.0 there.1 there.2

base_free : (bytes : List ℕ) → AreNodeBytes bytes → IsFree 64 bytes
base_free [] h = tt
base_free (b ∷ bytes) h = ((λ is. no_at (subst IsNodeByte is h.0)), base_free bytes h.1)

unit_stops : (text : List ℕ) → IsUnit text → Stops 64 text
unit_stops text (inl none) = subst (Stops 64) (sym none) tt
unit_stops text (inr unit) = subst (Stops 64) (sym unit.parts) refl

-- what a name's two parts are
pub record HasParts (base unit : List ℕ) : Type 0 where
  pub some : 0 < length base
  pub short : length base < 32
  pub each : AreNodeBytes base
  pub unit_is : IsUnit unit

-- a name is parted at its first at sign
pub parts_of : (name base unit : List ℕ) → name ≡ base ++ unit → IsFree 64 base → Stops 64 unit → IsNodeName name → HasParts base unit
parts_of name base unit is free stops h =
    let both = same_front 64 base h.base unit h.rest free (base_free h.base (recursion_from_All IsNodeByte h.base h.each)) stops (unit_stops h.rest h.unit) (sym is ∙ h.parts) in
    record {
      some = subst (λ (b : List ℕ). 0 < length b) (sym both.0) h.some;
      short = subst (λ (b : List ℕ). length b < 32) (sym both.0) h.short;
      each = subst AreNodeBytes (sym both.0) (recursion_from_All IsNodeByte h.base h.each);
      unit_is = subst IsUnit (sym both.1) h.unit;
    }

-- such parts make a name
pub name_of_parts : (name base unit : List ℕ) → name ≡ base ++ unit → HasParts base unit → IsNodeName name
name_of_parts name base unit is h = record {
  base = base;
  rest = unit;
  some = h.some;
  short = h.short;
  each = All-from_recursion IsNodeByte base h.each;
  unit = h.unit_is;
  parts = is;
}

-- what stands behind an at sign is a unit address where it has such bytes alone
pub unit_of : (text unit : List ℕ) → text ≡ 64 ∷ unit → 0 < length unit → (AreNodeBytes unit → IsUnit text) × (IsUnit text → AreNodeBytes unit)
unit_of text unit is some = (
  (λ each. inr (record { unit = unit; some = some; each = All-from_recursion IsNodeByte unit each; parts = is })),
  back,
)
  where
    back : IsUnit text → AreNodeBytes unit
    back (inl none) = absurd (cc (is, none))
    back (inr u) =
        let both : 64 ∷ u.unit ≡ 64 ∷ unit = sym u.parts ∙ is in
        let same : u.unit ≡ unit = cc both in
        subst AreNodeBytes same (recursion_from_All IsNodeByte u.unit u.each)

-- a name is parted where its first at sign is found
pub taken_apart : (name base unit : List ℕ) (n : ℕ) → base ≡ take n name → unit ≡ drop n name → IsFree 64 (take n name) → Stops 64 (drop n name) → (IsNodeName name → HasParts base unit) × (HasParts base unit → IsNodeName name)
taken_apart name base unit n front back free stops =
    let is : name ≡ base ++ unit = rw (front, back) (sym (take-append-drop n name)) in
    (parts_of name base unit is (rw front free) (rw back stops), name_of_parts name base unit is)

no_space_among : (k : ℕ) → k < 5 → get_or (codes ",._+-") k 32 ≡ 32 → ⊥
no_space_among zero lt e = omega (arith, e)
no_space_among (suc zero) lt e = omega (arith, e)
no_space_among (suc (suc zero)) lt e = omega (arith, e)
no_space_among (suc (suc (suc zero))) lt e = omega (arith, e)
no_space_among (suc (suc (suc (suc zero)))) lt e = omega (arith, e)
no_space_among (suc (suc (suc (suc (suc k))))) lt e = omega arith

no_space : IsNodeByte 32 → ⊥
no_space (inl (inl h)) = omega (arith, h)
no_space (inl (inr h)) = omega (arith, h)
no_space (inr there) = no_space_among there.0 there.1 there.2

bytes_spaceless : (bytes rest : List ℕ) → AreNodeBytes bytes → IsFree 32 rest → IsFree 32 (bytes ++ rest)
bytes_spaceless [] rest h free = free
bytes_spaceless (b ∷ bytes) rest h free = ((λ is. no_space (subst IsNodeByte is h.0)), bytes_spaceless bytes rest h.1 free)

unit_spaceless : (text rest : List ℕ) → IsUnit text → IsFree 32 rest → IsFree 32 (text ++ rest)
unit_spaceless text rest (inl none) free = subst (λ (t : List ℕ). IsFree 32 (t ++ rest)) (sym none) free
unit_spaceless text rest (inr u) free =
    subst (λ (t : List ℕ). IsFree 32 (t ++ rest)) (sym u.parts) ((λ e. omega (arith, e)), bytes_spaceless u.unit rest (recursion_from_All IsNodeByte u.unit u.each) free)

name_spaceless : (name rest : List ℕ) → IsNodeName name → IsFree 32 rest → IsFree 32 (name ++ rest)
name_spaceless name rest h free =
    subst (IsFree 32) (sym (append_assoc h.base h.rest rest) ∙ ap (λ (t : List ℕ). t ++ rest) (sym h.parts))
    (bytes_spaceless h.base (h.rest ++ rest) (recursion_from_All IsNodeByte h.base h.each) (unit_spaceless h.rest rest h.unit free))

-- no node's name has a space
pub node_name_free : (name : List ℕ) → IsNodeName name → IsFree 32 name
node_name_free name h = subst (IsFree 32) (append-nil name) (name_spaceless name [] h tt)

names_spaceless : (names : List (List ℕ)) → AllByRecursion IsNodeName names → IsFree 32 (join_with_byte 47 names)
names_spaceless [] h = tt
names_spaceless (n ∷ []) h = node_name_free n h.0
names_spaceless (n ∷ m ∷ names) h = name_spaceless n (47 ∷ join_with_byte 47 (m ∷ names)) h.0 ((λ e. omega (arith, e)), names_spaceless (m ∷ names) h.1)

-- no path of a node has a space
pub node_path_free : (path : List ℕ) → IsNodePath path → IsFree 32 path
node_path_free path h =
    subst (IsFree 32) (sym h.1) ((λ e. omega (arith, e)), subst (IsFree 32) (join_with_byte-slice_split 47 h.0) (names_spaceless (parts_at 47 h.0) h.2))
