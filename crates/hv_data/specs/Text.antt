-- The words of data.
use Rattle.std.specs.Prelude.{ℕ, false, List, [], ◌∷◌, ◌++◌, codes, Bool, true, Option, Some, None}
use Rattle.std.specs.List.{flat_map}
use Rattle.std.specs.Fmt.{decimal, digits}
use Rattle.hv_text.specs.Number.{padded_hex}
use Rattle.hv_kinds.specs.declared.stage.Stage.{Stage}
use Rattle.hv_kinds.specs.declared.stage.Stage.TheVariants as stage
use Rattle.hv_kinds.specs.declared.address.AddressType.{AddressType}
use Rattle.hv_kinds.specs.declared.address.AddressType.TheVariants as address
use Rattle.hv_kinds.specs.declared.access.Direction.{Direction}
use Rattle.hv_kinds.specs.declared.access.Direction.TheVariants as direction
use Rattle.hv_kinds.specs.declared.access.AccessKind.{AccessKind}
use Rattle.hv_kinds.specs.declared.access.AccessKind.TheVariants as access
use Rattle.hv_kinds.specs.declared.changes.SignalChanges.{SignalChanges}
use Rattle.hv_kinds.specs.declared.generation.Generation.{Generation}
use Rattle.hv_kinds.specs.declared.state.State.{State}
use Rattle.hv_kinds.specs.declared.state.State.TheVariants as state
use Rattle.hv_kinds.specs.declared.state.StateName.{StateName}
use Rattle.hv_kinds.specs.declared.state.StateName.TheVariants as name

-- An address, a machine word or a register's value is written as `0x` and lower-case hexadecimal digits.
abbrev pub address_text : ℕ → List ℕ
address_text n = codes "0x" ++ digits 16 false n

-- Each byte is written as two lower-case hexadecimal digits.
abbrev pub hex_pairs : List ℕ → List ℕ
hex_pairs bytes = flat_map (λ b. padded_hex b 2) bytes

-- Bytes are written as their pairs of digits, and no bytes as a hyphen.
abbrev pub hex_text : List ℕ → List ℕ
hex_text [] = codes "-"
hex_text (b ∷ bs) = hex_pairs (b ∷ bs)

-- Each further name stands behind a comma.
abbrev pub further_names : List (List ℕ) → List ℕ
further_names ns = flat_map (λ n. 44 ∷ n) ns

-- Names are written with a comma between two, and no names as a dot.
abbrev pub names_text : List (List ℕ) → List ℕ
names_text [] = codes "."
names_text (n ∷ ns) = n ++ further_names ns

-- A guest's or a region's name is written as it is.
abbrev pub name_text : List ℕ → List ℕ
name_text name = name

-- A generation is written as its slot and birth, and `@-` stands where there is none.
abbrev pub generation_text : Option Generation → List ℕ
generation_text None = codes "@-"
generation_text (Some g) = codes "@" ++ decimal g.slot ++ codes "." ++ decimal g.birth

-- A stage is written as its name.
abbrev pub stage_text : Stage → List ℕ
stage_text stage.Making = codes "Making"
stage_text stage.Made = codes "Made"
stage_text stage.Ending = codes "Ending"

-- The stage that follows is written as its name, and as `Free` where the entry is given up.
abbrev pub next_stage_text : Option Stage → List ℕ
next_stage_text None = codes "Free"
next_stage_text (Some s) = stage_text s

-- A type of addresses is written as its name in lower case.
abbrev pub address_type_text : AddressType → List ℕ
address_type_text address.Memory = codes "memory"
address_type_text address.Io = codes "io"

-- A state is written as its name, Running with its hart's number, and Paused with whether it waits.
abbrev pub state_text : State → List ℕ
state_text state.Unknown = codes "Unknown"
state_text state.Reset = codes "Reset"
state_text state.Ready = codes "Ready"
state_text (state.Running hart) = codes "Running" ++ decimal hart
state_text (state.Paused false) = codes "Paused"
state_text (state.Paused true) = codes "Paused/wfi"
state_text state.Halted = codes "Halted"

-- A state's name alone.
abbrev pub state_name_text : StateName → List ℕ
state_name_text name.Unknown = codes "Unknown"
state_name_text name.Reset = codes "Reset"
state_name_text name.Ready = codes "Ready"
state_name_text name.Running = codes "Running"
state_name_text name.Paused = codes "Paused"
state_name_text name.Halted = codes "Halted"

-- The name of a state.
abbrev pub name_of_state : State → StateName
name_of_state state.Unknown = name.Unknown
name_of_state state.Reset = name.Reset
name_of_state state.Ready = name.Ready
name_of_state (state.Running hart) = name.Running
name_of_state (state.Paused waits) = name.Paused
name_of_state state.Halted = name.Halted

-- A load is written as `r`, and a store as `w`.
abbrev pub direction_text : Direction → List ℕ
direction_text direction.Read = codes "r"
direction_text direction.Write = codes "w"

-- A fetch is written as `x`, a load as `r`, and a store as `w`.
abbrev pub access_kind_text : AccessKind → List ℕ
access_kind_text access.Execute = codes "x"
access_kind_text access.Read = codes "r"
access_kind_text access.Write = codes "w"

-- A signal is written as 1 where it changed, and else as 0.
abbrev pub bit_text : Bool → List ℕ
bit_text true = codes "1"
bit_text false = codes "0"

-- Signal changes are written as `m`, the line's, a dot, and the pins' hexadecimal digit.
abbrev pub changes_text : SignalChanges → List ℕ
changes_text c = codes "m" ++ bit_text c.line ++ codes "." ++ digits 16 false c.pins
