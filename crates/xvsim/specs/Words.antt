-- The words of a call.
use Rattle.std.specs.Prelude.{◌≡◌, ◌⊎◌, ℕ, ◌<◌, ◌^◌, List, [], ◌∷◌, codes}
use Rattle.std.specs.Str.Parse.{IsNumeral, digits_value}
use Rattle.xvsim.specs.declared.words.Command.{Command}
use Rattle.xvsim.specs.declared.words.Command.TheVariants.{Run, Check, Gen}

-- the words of a run
abbrev pub AreRunWords : List (List ℕ) → Type 0
AreRunWords words = words ≡ codes "run" ∷ codes "--turns" ∷ codes "0" ∷ codes "--order" ∷ codes "seq" ∷ []

-- the word of a check
abbrev pub AreCheckWords : List (List ℕ) → Type 0
AreCheckWords words = words ≡ codes "check" ∷ []

-- the words of a command that reads a bundle
abbrev pub AreInputWords : List (List ℕ) → Type 0
AreInputWords words = AreRunWords words ⊎ AreCheckWords words

-- one or more decimal digits, with zeros in front or without, that write this number of 16 bits
pub record WritesNumber (number : ℕ) (digits : List ℕ) : Type 0 where
  pub numeral : IsNumeral 10 digits
  pub value : digits_value 10 digits ≡ number
  pub small : number < 2 ^ 16

-- the words that ask for the files of this number
pub record AreGenWords (number : ℕ) (words : List (List ℕ)) : Type 0 where
  pub digits : List ℕ
  pub words_are : words ≡ codes "gen" ∷ digits ∷ []
  pub writes : WritesNumber number digits

-- the words that ask for the files of some number
abbrev pub AreAnyGenWords : List (List ℕ) → Type 0
AreAnyGenWords words = (number : ℕ) × AreGenWords number words

-- the words name a command
abbrev pub AreWords : List (List ℕ) → Type 0
AreWords words = AreInputWords words ⊎ AreAnyGenWords words

-- the words name this command
abbrev pub NameCommand : List (List ℕ) → Command → Type 0
NameCommand words Run = AreRunWords words
NameCommand words Check = AreCheckWords words
NameCommand words (Gen number) = AreGenWords number words
