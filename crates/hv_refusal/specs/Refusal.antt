-- The words and the text of a refusal.
use Rattle.std.specs.Prelude.{ℕ, List, [], ◌∷◌, codes}
use Rattle.std.specs.List.{join_with_byte}
use Rattle.std.specs.Fmt.{decimal}
use Rattle.hv_kinds.specs.Cause.{cause_word}
use Rattle.hv_data.specs.Text.{stage_text, state_name_text}
use Rattle.hv_data.specs.Written.{IsNumber, IsNumber8}
use Rattle.hv_refusal.specs.declared.refusal.Refusal.{Refusal}
use Rattle.hv_refusal.specs.declared.refusal.Refusal.TheVariants as refusal
use Rattle.hv_refusal.specs.Node.{IsNodePath, node_path_text}

-- A refusal begins with its name.
abbrev pub refusal_name : Refusal → List ℕ
refusal_name refusal.NoCommand = codes "NoCommand"
refusal_name (refusal.BadWords n) = codes "BadWords"
refusal_name refusal.NoEntry = codes "NoEntry"
refusal_name refusal.NotDir = codes "NotDir"
refusal_name refusal.IsDir = codes "IsDir"
refusal_name refusal.Exists = codes "Exists"
refusal_name refusal.NotEmpty = codes "NotEmpty"
refusal_name refusal.TooDeep = codes "TooDeep"
refusal_name refusal.TooLong = codes "TooLong"
refusal_name (refusal.BadTree n) = codes "BadTree"
refusal_name (refusal.BadAsm n) = codes "BadAsm"
refusal_name refusal.NoSuchGuest = codes "NoSuchGuest"
refusal_name (refusal.GuestState s) = codes "GuestState"
refusal_name refusal.NoRegion = codes "NoRegion"
refusal_name refusal.NoGuest = codes "NoGuest"
refusal_name (refusal.BadNode p c) = codes "BadNode"
refusal_name refusal.NameUsed = codes "NameUsed"
refusal_name refusal.NoSlot = codes "NoSlot"
refusal_name refusal.Live = codes "Live"
refusal_name refusal.NotLive = codes "NotLive"
refusal_name (refusal.Overlap row) = codes "Overlap"
refusal_name refusal.AliasTarget = codes "AliasTarget"
refusal_name refusal.NoEmulator = codes "NoEmulator"
refusal_name refusal.NoWindow = codes "NoWindow"
refusal_name refusal.NotMemory = codes "NotMemory"
refusal_name refusal.NotSerial = codes "NotSerial"
refusal_name (refusal.WrongState s) = codes "WrongState"

-- Behind it stands what the refusal tells.
abbrev pub refusal_arguments : Refusal → List (List ℕ)
refusal_arguments (refusal.BadWords n) = decimal n ∷ []
refusal_arguments (refusal.BadTree n) = decimal n ∷ []
refusal_arguments (refusal.BadAsm n) = decimal n ∷ []
refusal_arguments (refusal.GuestState s) = stage_text s ∷ []
refusal_arguments (refusal.BadNode p c) = node_path_text p ∷ cause_word c ∷ []
refusal_arguments (refusal.Overlap row) = decimal row ∷ []
refusal_arguments (refusal.WrongState s) = state_name_text s ∷ []
refusal_arguments refusal.NoCommand = []
refusal_arguments refusal.NoEntry = []
refusal_arguments refusal.NotDir = []
refusal_arguments refusal.IsDir = []
refusal_arguments refusal.Exists = []
refusal_arguments refusal.NotEmpty = []
refusal_arguments refusal.TooDeep = []
refusal_arguments refusal.TooLong = []
refusal_arguments refusal.NoSuchGuest = []
refusal_arguments refusal.NoRegion = []
refusal_arguments refusal.NoGuest = []
refusal_arguments refusal.NameUsed = []
refusal_arguments refusal.NoSlot = []
refusal_arguments refusal.Live = []
refusal_arguments refusal.NotLive = []
refusal_arguments refusal.AliasTarget = []
refusal_arguments refusal.NoEmulator = []
refusal_arguments refusal.NoWindow = []
refusal_arguments refusal.NotMemory = []
refusal_arguments refusal.NotSerial = []

-- The words of a refusal.
abbrev pub refusal_words : Refusal → List (List ℕ)
refusal_words why = refusal_name why ∷ refusal_arguments why

-- The words of a refusal stand one space apart.
abbrev pub refusal_text : Refusal → List ℕ
refusal_text why = join_with_byte 32 (refusal_words why)

-- What a refusal tells has the written form.
abbrev pub IsRefusal : Refusal → Type 0
IsRefusal (refusal.BadWords n) = IsNumber n
IsRefusal (refusal.BadTree n) = IsNumber n
IsRefusal (refusal.BadAsm n) = IsNumber n
IsRefusal (refusal.BadNode p c) = IsNodePath p
IsRefusal (refusal.Overlap row) = IsNumber8 row
IsRefusal refusal.NoCommand = Unit {0}
IsRefusal refusal.NoEntry = Unit {0}
IsRefusal refusal.NotDir = Unit {0}
IsRefusal refusal.IsDir = Unit {0}
IsRefusal refusal.Exists = Unit {0}
IsRefusal refusal.NotEmpty = Unit {0}
IsRefusal refusal.TooDeep = Unit {0}
IsRefusal refusal.TooLong = Unit {0}
IsRefusal refusal.NoSuchGuest = Unit {0}
IsRefusal (refusal.GuestState s) = Unit {0}
IsRefusal refusal.NoRegion = Unit {0}
IsRefusal refusal.NoGuest = Unit {0}
IsRefusal refusal.NameUsed = Unit {0}
IsRefusal refusal.NoSlot = Unit {0}
IsRefusal refusal.Live = Unit {0}
IsRefusal refusal.NotLive = Unit {0}
IsRefusal refusal.AliasTarget = Unit {0}
IsRefusal refusal.NoEmulator = Unit {0}
IsRefusal refusal.NoWindow = Unit {0}
IsRefusal refusal.NotMemory = Unit {0}
IsRefusal refusal.NotSerial = Unit {0}
IsRefusal (refusal.WrongState s) = Unit {0}
