-- Data of all kinds, and lists of them.
use Rattle.std.specs.Prelude.{◌≡◌, ℕ, List, ◌∷◌, ◌++◌, map, Option}
use Rattle.std.specs.List.{AllByRecursion, flat_map}
use Rattle.std.specs.Fmt.{decimal}
use Rattle.hv_text.specs.Front.{IsFree}
use Rattle.hv_text.specs.Path.{ArePathNames, path_text}
use Rattle.hv_kinds.specs.declared.stage.Stage.{Stage}
use Rattle.hv_kinds.specs.declared.address.AddressType.{AddressType}
use Rattle.hv_kinds.specs.declared.access.Direction.{Direction}
use Rattle.hv_kinds.specs.declared.access.AccessKind.{AccessKind}
use Rattle.hv_kinds.specs.declared.changes.SignalChanges.{SignalChanges}
use Rattle.hv_kinds.specs.declared.generation.Generation.{Generation}
use Rattle.hv_kinds.specs.declared.state.State.{State}
use Rattle.hv_kinds.specs.declared.state.StateName.{StateName}
use Rattle.hv_data.specs.Text.{address_text, hex_text, names_text, name_text, generation_text, stage_text, next_stage_text, address_type_text, state_text, state_name_text, direction_text, access_kind_text, changes_text}
use Rattle.hv_data.specs.Written.{IsNumber, IsNumber8, AreBytes, AreListedNames, IsWord, IsGeneration, IsState, AreChanges}

-- One word of a line, by its kind.
pub data Datum : Type 0 where
  Number : ℕ → Datum
  Number8 : ℕ → Datum
  Address : ℕ → Datum
  Hex : List ℕ → Datum
  Names : List (List ℕ) → Datum
  Name : List ℕ → Datum
  PathOf : List (List ℕ) → Datum
  Born : Option Generation → Datum
  At : Stage → Datum
  To : Option Stage → Datum
  TypeOf : AddressType → Datum
  StateOf : State → Datum
  Named : StateName → Datum
  Towards : Direction → Datum
  Accessed : AccessKind → Datum
  Changed : SignalChanges → Datum

-- The kinds of data.
pub data Kind : Type 0 where
  ANumber : Kind
  ANumber8 : Kind
  AnAddress : Kind
  Bytes : Kind
  ListedNames : Kind
  AName : Kind
  APath : Kind
  AGeneration : Kind
  AStage : Kind
  ANextStage : Kind
  AnAddressType : Kind
  AState : Kind
  AStateName : Kind
  ADirection : Kind
  AnAccessKind : Kind
  Changes : Kind

-- The kind of a datum.
abbrev pub kind_of : Datum → Kind
kind_of (Number n) = ANumber
kind_of (Number8 n) = ANumber8
kind_of (Address n) = AnAddress
kind_of (Hex bytes) = Bytes
kind_of (Names names) = ListedNames
kind_of (Name name) = AName
kind_of (PathOf path) = APath
kind_of (Born generation) = AGeneration
kind_of (At stage) = AStage
kind_of (To stage) = ANextStage
kind_of (TypeOf address) = AnAddressType
kind_of (StateOf state) = AState
kind_of (Named state) = AStateName
kind_of (Towards direction) = ADirection
kind_of (Accessed access) = AnAccessKind
kind_of (Changed changes) = Changes

-- The word of a datum.
abbrev pub datum_text : Datum → List ℕ
datum_text (Number n) = decimal n
datum_text (Number8 n) = decimal n
datum_text (Address n) = address_text n
datum_text (Hex bytes) = hex_text bytes
datum_text (Names names) = names_text names
datum_text (Name name) = name_text name
datum_text (PathOf path) = path_text path
datum_text (Born generation) = generation_text generation
datum_text (At stage) = stage_text stage
datum_text (To stage) = next_stage_text stage
datum_text (TypeOf address) = address_type_text address
datum_text (StateOf state) = state_text state
datum_text (Named state) = state_name_text state
datum_text (Towards direction) = direction_text direction
datum_text (Accessed access) = access_kind_text access
datum_text (Changed changes) = changes_text changes

-- A datum has a written form.
abbrev pub IsDatum : Datum → Type 0
IsDatum (Number n) = IsNumber n
IsDatum (Number8 n) = IsNumber8 n
IsDatum (Address n) = IsNumber n
IsDatum (Hex bytes) = AreBytes bytes
IsDatum (Names names) = AreListedNames names
IsDatum (Name name) = IsWord name
IsDatum (PathOf path) = ArePathNames path
IsDatum (Born generation) = IsGeneration generation
IsDatum (At stage) = Unit {0}
IsDatum (To stage) = Unit {0}
IsDatum (TypeOf address) = Unit {0}
IsDatum (StateOf state) = IsState state
IsDatum (Named state) = Unit {0}
IsDatum (Towards direction) = Unit {0}
IsDatum (Accessed access) = Unit {0}
IsDatum (Changed changes) = AreChanges changes

-- Each of these has a written form.
abbrev pub AreData : List Datum → Type 0
AreData ds = AllByRecursion IsDatum ds

-- The words of data.
abbrev pub data_words : List Datum → List (List ℕ)
data_words ds = map datum_text ds

-- Each word behind a space.
abbrev pub spaced : List (List ℕ) → List ℕ
spaced words = flat_map (λ w. 32 ∷ w) words

-- The kinds of data.
abbrev pub kinds_of : List Datum → List Kind
kinds_of ds = map kind_of ds

-- Of two lists of data of the same kinds, one stands at the front of some words, and these words have only it there.
pub record IsOneFront (one other : List Datum) (rest behind : List (List ℕ)) : Type 0 where
  pub same_data : one ≡ other
  pub same_rest : rest ≡ behind

-- No word of data has a space.
abbrev pub HaveNoSpace : List (List ℕ) → Type 0
HaveNoSpace words = AllByRecursion (IsFree 32) words

-- Words begin with those of these written data, and these follow.
abbrev pub HaveData : List (List ℕ) → List Datum → List (List ℕ) → Type 0
HaveData words ds rest = AreData ds × (words ≡ data_words ds ++ rest)
