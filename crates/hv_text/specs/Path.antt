-- The texts of names and paths.
use Rattle.std.specs.Prelude.{◌≡◌, ◌≢◌, ◌⊎◌, ℕ, ◌<◌, List, [], ◌∷◌, ◌++◌, length, Result, Ok, Err, Vec, All}
use Rattle.std.specs.declared.alloc.Global.{Global}
use Rattle.std.specs.Char.{IsAsciiAlphanumeric}
use Rattle.std.specs.List.{AllByRecursion, flat_map}
use Rattle.hv_text.specs.declared.path.PathRefusal.{PathRefusal}
use Rattle.hv_text.specs.declared.path.PathRefusal.TheVariants as refusal
use Rattle.hv_text.specs.declared.path.Path.{Path}

-- a letter, a digit, a dot, an underscore or a hyphen
abbrev pub IsNameByte : ℕ → Type 0
IsNameByte b = IsAsciiAlphanumeric b ⊎ ((b ≡ 46) ⊎ ((b ≡ 95) ⊎ (b ≡ 45)))

-- 1 to 31 such bytes that are neither `.` nor `..`
pub record IsName (name : List ℕ) : Type 0 where
  pub some : 0 < length name
  pub short : length name < 32
  pub each : All IsNameByte name
  pub not_here : name ≢ 46 ∷ []
  pub not_above : name ≢ 46 ∷ 46 ∷ []

-- each name of the path is one
abbrev pub ArePathNames : List (List ℕ) → Type 0
ArePathNames names = AllByRecursion IsName names

-- the other path begins with all the names of the first
abbrev pub IsPathPrefix : List (List ℕ) → List (List ℕ) → Type 0
IsPathPrefix one other = (rest : List (List ℕ)) × (other ≡ one ++ rest)

-- each name after a slash
abbrev pub slashed : List (List ℕ) → List ℕ
slashed names = flat_map (λ name. 47 ∷ name) names

-- the text of a path, which is a slash alone for the root
abbrev pub path_text : List (List ℕ) → List ℕ
path_text [] = 47 ∷ []
path_text (name ∷ names) = slashed (name ∷ names)

-- what was read is these names, unless memory ran out
abbrev pub ReadsNames : Result (Vec (List ℕ) Global) PathRefusal → List (List ℕ) → Type 0
ReadsNames (Ok found) names = found.items ≡ names
ReadsNames (Err refusal.NotAPath) names = ⊥
ReadsNames (Err (refusal.Memory e)) names = Unit {0}

-- what was read is these names, unless memory ran out
abbrev pub Reads : Result Path PathRefusal → List (List ℕ) → Type 0
Reads (Ok path) names = path ≡ names
Reads (Err refusal.NotAPath) names = ⊥
Reads (Err (refusal.Memory e)) names = Unit {0}
