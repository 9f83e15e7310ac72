-- How a list is read: fields and entries at the front of a text.
use Rattle.std.specs.Prelude.{◌≡◌, ◌≢◌, ℕ, List, [], ◌∷◌, ◌++◌, length, Result}
use Rattle.std.specs.List.{AllByRecursion, join_with_byte}
use Rattle.hv_text.specs.Front.{IsFree, Stops}
use Rattle.hv_data.specs.declared.refusal.WordRefusal.{WordRefusal}
use Rattle.hv_data.specs.Reading.{AreWordsOf, ReadsWords}
use Rattle.hv_data.specs.Data.{Datum, data_words, AreData}
use Rattle.hv_listing.specs.Listing.{entries_text}

-- Of the fields of an entry the last has no comma, and the others have no colon.
abbrev pub AreFields : List (List ℕ) → Type 0
AreFields [] = ⊥
AreFields (field ∷ []) = IsFree 44 field
AreFields (field ∷ next ∷ fields) = IsFree 58 field × AreFields (next ∷ fields)

-- A text begins with so many fields, and then it ends or has a comma.
pub record BeginsWithFields (text : List ℕ) (count : ℕ) (fields : List (List ℕ)) (rest : List ℕ) : Type 0 where
  pub as_many : length fields ≡ count
  pub formed : AreFields fields
  pub stops : Stops 44 rest
  pub is : text ≡ join_with_byte 58 fields ++ rest

-- A text begins with an entry, and then it ends or has a comma.
pub record BeginsWithEntry {A : Type 0} (good : A → Type 0) (shown : A → List ℕ) (text : List ℕ) (entry : A) (rest : List ℕ) : Type 0 where
  pub written : good entry
  pub stops : Stops 44 rest
  pub is : text ≡ shown entry ++ rest

-- Words are those of the data of an entry.
abbrev pub AreEntryWords : {A : Type 0} → (A → List Datum) → List (List ℕ) → A → Type 0
AreEntryWords data_of words entry = AreWordsOf (λ e. AreData (data_of e)) (λ e. data_words (data_of e)) words entry

-- Words give the entry whose data's words they are, or are refused where there is none.
abbrev pub ReadsEntry : {A : Type 0} → (A → List Datum) → List (List ℕ) → Result A WordRefusal → Type 0
ReadsEntry data_of words result = ReadsWords (λ e. AreData (data_of e)) (λ e. data_words (data_of e)) words result

-- A text is that of no list that has an entry.
abbrev pub HasNoEntries : {A : Type 0} → (A → Type 0) → (A → List ℕ) → List ℕ → Type 0
HasNoEntries good shown text = (x : _) (xs : List _) → AllByRecursion good (x ∷ xs) → text ≢ entries_text shown (x ∷ xs)
