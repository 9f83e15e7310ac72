-- Texts parted at a byte, and joined again.
use Rattle.std.proofs.Common.{◌≡◌, ◌≢◌, ℕ, false, eqb, List, [], ◌∷◌, ◌++◌, refl, sym, ap, ◌∙◌, inl, inr, append_assoc, eq-eqb, ne_eqb}
use Rattle.std.specs.Prelude.{◌⊎◌}
use Rattle.std.specs.List.{AllByRecursion, join_with_byte}
use Rattle.std.proofs.lemmas.Bool.{cases_eq}
use Rattle.std.proofs.lemmas.List.{append-nil}
use Rattle.std.proofs.lemmas.List.Elements.{All-from_recursion}
use Rattle.std.proofs.lemmas.List.Splits.{slice_split_none, slice_split_at}
use Rattle.hv_text.specs.Front.{IsFree}
use Rattle.hv_data.specs.Data.{spaced}
use Rattle.hv_data.specs.Reading.{parts_at}

free_tests : (byte : ℕ) (text : List ℕ) → IsFree byte text → AllByRecursion (λ x. eqb x byte ≡ false) text
free_tests byte [] free = tt
free_tests byte (b ∷ bs) free = (ne_eqb b byte free.0, free_tests byte bs free.1)

-- a text without the byte is its one part
pub last_part : (byte : ℕ) (text : List ℕ) → IsFree byte text → parts_at byte text ≡ text ∷ []
last_part byte text free = slice_split_none (λ x. eqb x byte) text (All-from_recursion (λ x. eqb x byte ≡ false) text (free_tests byte text free))

-- the first part ends at the first such byte
pub first_part : (byte : ℕ) (part rest : List ℕ) → IsFree byte part → parts_at byte (part ++ byte ∷ rest) ≡ part ∷ parts_at byte rest
first_part byte part rest free =
    slice_split_at (λ x. eqb x byte) part byte rest (All-from_recursion (λ x. eqb x byte ≡ false) part (free_tests byte part free)) (eq-eqb byte byte refl)

-- a text is free of a byte or has it somewhere
free_or_parted : (byte : ℕ) (text : List ℕ) → IsFree byte text ⊎ ((part : List ℕ) × (rest : List ℕ) × IsFree byte part × (text ≡ part ++ byte ∷ rest))
free_or_parted byte [] = inl tt
free_or_parted byte (b ∷ bs) = elim (cases_eq b byte) [
  | inl is ↦ inr ([], bs, tt, ap (λ (x : ℕ). x ∷ bs) is)
  | inr apart ↦ elim (free_or_parted byte bs) [
    | inl free ↦ inl (apart, free)
    | inr parted ↦ inr (b ∷ parted.0, parted.1, (apart, parted.2), ap (λ (t : List ℕ). b ∷ t) parted.3)
  ]
]

-- a text that nowhere has the byte is free of it
pub free_where_whole : (byte : ℕ) (text : List ℕ) → ((part rest : List ℕ) → IsFree byte part → text ≢ part ++ byte ∷ rest) → IsFree byte text
free_where_whole byte text whole = elim (free_or_parted byte text) [
  | inl free ↦ free
  | inr parted ↦ absurd (whole parted.0 parted.1 parted.2 parted.3)
]

-- one more part
pub more_parts : (byte : ℕ) (text : List ℕ) (parts : List (List ℕ)) (rest part behind : List ℕ) → parts_at byte text ≡ parts ++ parts_at byte rest → IsFree byte part → rest ≡ part ++ byte ∷ behind
    → parts_at byte text ≡ (parts ++ part ∷ []) ++ parts_at byte behind
more_parts byte text parts rest part behind so_far free is =
    so_far ∙ ap (λ (t : List ℕ). parts ++ parts_at byte t) is ∙ ap (λ (ps : List (List ℕ)). parts ++ ps) (first_part byte part behind free) ∙ sym (append_assoc parts (part ∷ []) (parts_at byte behind))

-- the last part
pub all_parts : (byte : ℕ) (text : List ℕ) (parts : List (List ℕ)) (rest : List ℕ) → parts_at byte text ≡ parts ++ parts_at byte rest → ((part behind : List ℕ) → IsFree byte part → rest ≢ part ++ byte ∷ behind)
    → parts ++ rest ∷ [] ≡ parts_at byte text
all_parts byte text parts rest so_far whole =
    sym (so_far ∙ ap (λ (ps : List (List ℕ)). parts ++ ps) (last_part byte rest (free_where_whole byte rest whole)))

-- parts without the byte that are joined by it are parted there again
pub joined_parts : (byte : ℕ) (part : List ℕ) (parts : List (List ℕ)) → IsFree byte part → AllByRecursion (IsFree byte) parts → parts_at byte (join_with_byte byte (part ∷ parts)) ≡ part ∷ parts
joined_parts byte part [] free each = last_part byte part free
joined_parts byte part (next ∷ parts) free each =
    first_part byte part (join_with_byte byte (next ∷ parts)) free ∙ ap (λ (ps : List (List ℕ)). part ∷ ps) (joined_parts byte next parts each.0 each.1)

-- words joined are the first, and each other behind a space
pub joined_spaced : (w : List ℕ) (ws : List (List ℕ)) → join_with_byte 32 (w ∷ ws) ≡ w ++ spaced ws
joined_spaced w [] = sym (append-nil w)
joined_spaced w (v ∷ ws) = ap (λ (t : List ℕ). w ++ 32 ∷ t) (joined_spaced v ws)
