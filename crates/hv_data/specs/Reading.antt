-- What words are read as.
use Rattle.std.specs.Prelude.{◌≡◌, ℕ, ◌==◌, List, ◌∷◌, Result, MatchResult}
use Rattle.std.specs.List.{slice_split}
use Rattle.hv_data.specs.declared.refusal.WordRefusal.{WordRefusal}
use Rattle.hv_data.specs.declared.refusal.WordRefusal.TheVariants.{BadWord, Memory}

-- This holds, unless memory ran out.
abbrev pub Because : WordRefusal → Type 0 → Type 0
Because BadWord reason = reason
Because (Memory e) reason = Unit {0}

-- A word is that of this written value.
abbrev pub IsWordOf : {A : Type 0} → (A → Type 0) → (A → List ℕ) → List ℕ → A → Type 0
IsWordOf good shown word value = good value × (word ≡ shown value)

-- A word gives the written value that has it, or is refused where there is none.
abbrev pub Reads : {A : Type 0} → (A → Type 0) → (A → List ℕ) → List ℕ → Result A WordRefusal → Type 0
Reads good shown word result =
    MatchResult result (λ value. IsWordOf good shown word value) (λ e. Because e ((value : _) → IsWordOf good shown word value → ⊥))

-- The words are those of this written value.
abbrev pub AreWordsOf : {A : Type 0} → (A → Type 0) → (A → List (List ℕ)) → List (List ℕ) → A → Type 0
AreWordsOf good shown words value = good value × (words ≡ shown value)

-- Words give the written value that has them, or are refused where there is none.
abbrev pub ReadsWords : {A : Type 0} → (A → Type 0) → (A → List (List ℕ)) → List (List ℕ) → Result A WordRefusal → Type 0
ReadsWords good shown words result =
    MatchResult result (λ value. AreWordsOf good shown words value) (λ e. Because e ((value : _) → AreWordsOf good shown words value → ⊥))

-- Words begin with that of this written value, and these follow.
abbrev pub BeginWith : {A : Type 0} → (A → Type 0) → (A → List ℕ) → List (List ℕ) → A → List (List ℕ) → Type 0
BeginWith good shown words value rest = good value × (words ≡ shown value ∷ rest)

-- The parts of a text at a byte.
abbrev pub parts_at : ℕ → List ℕ → List (List ℕ)
parts_at byte text = slice_split (λ b. b == byte) text
