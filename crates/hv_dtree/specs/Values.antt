-- What the value of a property holds.
use Rattle.std.specs.Prelude.{◌≡◌, ◌≢◌, ◌⊎◌, ℕ, List, [], ◌∷◌, ◌++◌, length, Option, Some, None, Result, Ok, Err}
use Rattle.std.specs.List.{flat_map, AllByRecursion}
use denote.Ref.{Bor}
use Rattle.hv_text.specs.Front.{IsFree}
use Rattle.hv_dtree.specs.Nodes.{big_endian}
use Rattle.hv_dtree.specs.declared.node.PropRefusal.{PropRefusal}
use Rattle.hv_dtree.specs.declared.node.PropRefusal.TheVariants.{NoProperty, BadForm}

-- the number of one or two cells, where a value is there and has that form
abbrev pub IsCells : Option (List ℕ) → Result ℕ PropRefusal → Type 0
IsCells None result = result ≡ Err NoProperty
IsCells (Some value) (Ok number) = ((length value ≡ 4) ⊎ (length value ≡ 8)) × (number ≡ big_endian value)
IsCells (Some value) (Err NoProperty) = ⊥
IsCells (Some value) (Err BadForm) = (length value ≢ 4) × (length value ≢ 8)

-- the value is this text and one zero byte
abbrev pub IsOneString : List ℕ → List ℕ → Type 0
IsOneString value text = IsFree 0 text × (value ≡ text ++ 0 ∷ [])

-- the text of a value that is one string, where a value is there and has that form
abbrev pub IsText : Option (List ℕ) → Result (List ℕ) PropRefusal → Type 0
IsText None result = result ≡ Err NoProperty
IsText (Some value) (Ok text) = IsOneString value text
IsText (Some value) (Err NoProperty) = ⊥
IsText (Some value) (Err BadForm) = (text : List ℕ) → IsOneString value text → ⊥

-- the same of a text that is lent
abbrev pub GivesText : Option (List ℕ) → Result (Bor (List ℕ)) PropRefusal → Type 0
GivesText value (Ok text) = IsText value (Ok text.now)
GivesText value (Err refusal) = IsText value (Err refusal)

-- strings one after the other, a zero byte after each
abbrev pub strings_text : List (List ℕ) → List ℕ
strings_text strings = flat_map (λ text. text ++ 0 ∷ []) strings

-- the value has this string after so many others
pub record HasStringAt (value : List ℕ) (place : ℕ) (text : List ℕ) : Type 0 where
  pub before : List (List ℕ)
  pub rest : List ℕ
  pub count : length before ≡ place
  pub each : AllByRecursion (IsFree 0) before
  pub free : IsFree 0 text
  pub parts : value ≡ strings_text before ++ (text ++ (0 ∷ rest))

-- the string at a place of a value, or none where no value or no such string is there
abbrev pub IsStringAt : Option (List ℕ) → ℕ → Option (List ℕ) → Type 0
IsStringAt None place result = result ≡ None
IsStringAt (Some value) place (Some text) = HasStringAt value place text
IsStringAt (Some value) place None = (text : List ℕ) → HasStringAt value place text → ⊥
