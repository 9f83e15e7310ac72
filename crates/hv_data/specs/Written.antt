-- The data that have written forms.
use Rattle.std.specs.Prelude.{◌≡◌, ◌⊎◌, ℕ, ◌^◌, ◌<◌, ◌≤◌, List, ◌∷◌, [], ◌++◌, length, Option, Some, None}
use Rattle.std.specs.List.{AllByRecursion}
use Rattle.hv_text.specs.Path.{IsName}
use Rattle.hv_kinds.specs.declared.changes.SignalChanges.{SignalChanges}
use Rattle.hv_kinds.specs.declared.generation.Generation.{Generation}
use Rattle.hv_kinds.specs.declared.state.State.{State}
use Rattle.hv_kinds.specs.declared.state.State.TheVariants as state

-- A number has at most 64 bits.
abbrev pub IsNumber : ℕ → Type 0
IsNumber n = n < 2 ^ 64

-- A small number has at most 8 bits.
abbrev pub IsNumber8 : ℕ → Type 0
IsNumber8 n = n < 2 ^ 8

-- Each of these is a byte.
abbrev pub AreBytes : List ℕ → Type 0
AreBytes bytes = AllByRecursion (λ b. b < 2 ^ 8) bytes

-- An entry of a folder is listed as its name, with a slash behind it where it is a folder.
abbrev pub IsListedName : List ℕ → Type 0
IsListedName entry = IsName entry ⊎ ((folder : List ℕ) × IsName folder × (entry ≡ folder ++ 47 ∷ []))

-- Each of these is a listed name.
abbrev pub AreListedNames : List (List ℕ) → Type 0
AreListedNames entries = AllByRecursion IsListedName entries

-- A byte that is printed and is no space.
abbrev pub IsShown : ℕ → Type 0
IsShown b = (33 ≤ b) × (b < 127)

-- A guest's or a region's name is a word: one or more bytes that are printed and are no spaces.
abbrev pub IsWord : List ℕ → Type 0
IsWord word = (0 < length word) × AllByRecursion IsShown word

-- A slot has at most 8 bits, and a birth 64.
abbrev pub IsGeneration : Option Generation → Type 0
IsGeneration None = Unit {0}
IsGeneration (Some g) = (g.slot < 2 ^ 8) × (g.birth < 2 ^ 64)

-- A hart's number has at most 8 bits.
abbrev pub IsState : State → Type 0
IsState state.Unknown = Unit {0}
IsState state.Reset = Unit {0}
IsState state.Ready = Unit {0}
IsState (state.Running hart) = hart < 2 ^ 8
IsState (state.Paused waits) = Unit {0}
IsState state.Halted = Unit {0}

-- There are at most four VCPUs' pins.
abbrev pub AreChanges : SignalChanges → Type 0
AreChanges c = c.pins < 16

-- All values have a written form.
abbrev pub IsAny : {A : Type 0} → A → Type 0
IsAny a = Unit {0}
