-- What words are read as.
use Rattle.std.specs.Prelude.{◌≡◌, ℕ, nat_eq, Bool, if◌then◌else◌, List, [], ◌∷◌, codes, Option, Some, None}
use Rattle.std.specs.Cmp.Lexicographic.{pointwise}
use Rattle.std.specs.Fmt.{decimal}
use Rattle.hv_kinds.specs.declared.stage.Stage.{Stage}
use Rattle.hv_kinds.specs.declared.cause.Cause.{Cause}
use Rattle.hv_kinds.specs.Cause.{cause_word}
use Rattle.hv_kinds.specs.declared.state.StateName.{StateName}
use Rattle.hv_data.specs.Text.{stage_text, state_name_text}
use Rattle.hv_data.specs.Written.{IsNumber, IsNumber8, IsAny}
use Rattle.hv_refusal.specs.declared.refusal.Refusal.{Refusal}
use Rattle.hv_refusal.specs.declared.refusal.Refusal.TheVariants as refusal
use Rattle.hv_refusal.specs.declared.arguments.Telling.{Telling}
use Rattle.hv_refusal.specs.declared.arguments.Telling.TheVariants as telling
use Rattle.hv_refusal.specs.Node.{IsNodePath}
use Rattle.hv_refusal.specs.Refusal.{IsRefusal, refusal_words}

-- Whether a word is another.
abbrev pub is_word : List ℕ → List ℕ → Bool
is_word word other = pointwise nat_eq word other

-- The words are this refusal's.
abbrev pub AreRefusalWords : List (List ℕ) → Refusal → Type 0
AreRefusalWords words why = IsRefusal why × (words ≡ refusal_words why)

-- The refusal of a line, a file or a script that a word alone is.
abbrev pub file_spelled : List ℕ → Option Refusal
file_spelled word =
    if is_word word (codes "NoCommand") then Some refusal.NoCommand else (
    if is_word word (codes "NoEntry") then Some refusal.NoEntry else (
    if is_word word (codes "NotDir") then Some refusal.NotDir else (
    if is_word word (codes "IsDir") then Some refusal.IsDir else (
    if is_word word (codes "Exists") then Some refusal.Exists else (
    if is_word word (codes "NotEmpty") then Some refusal.NotEmpty else (
    if is_word word (codes "TooDeep") then Some refusal.TooDeep else (
    if is_word word (codes "TooLong") then Some refusal.TooLong else None)))))))

-- The refusal of a guest's step that a word alone is.
abbrev pub guest_spelled : List ℕ → Option Refusal
guest_spelled word =
    if is_word word (codes "NoSuchGuest") then Some refusal.NoSuchGuest else (
    if is_word word (codes "NoRegion") then Some refusal.NoRegion else (
    if is_word word (codes "NoGuest") then Some refusal.NoGuest else (
    if is_word word (codes "NameUsed") then Some refusal.NameUsed else (
    if is_word word (codes "NoSlot") then Some refusal.NoSlot else (
    if is_word word (codes "Live") then Some refusal.Live else (
    if is_word word (codes "NotLive") then Some refusal.NotLive else (
    if is_word word (codes "AliasTarget") then Some refusal.AliasTarget else (
    if is_word word (codes "NoEmulator") then Some refusal.NoEmulator else (
    if is_word word (codes "NoWindow") then Some refusal.NoWindow else (
    if is_word word (codes "NotMemory") then Some refusal.NotMemory else (
    if is_word word (codes "NotSerial") then Some refusal.NotSerial else None)))))))))))

-- The first that is found.
abbrev pub first_found : Option Refusal → Option Refusal → Option Refusal
first_found (Some why) other = Some why
first_found None other = other

-- The refusal that a word alone is.
abbrev pub bare_spelled : List ℕ → Option Refusal
bare_spelled word = first_found (file_spelled word) (guest_spelled word)

-- The name of a refusal that tells something.
abbrev pub telling_word : Telling → List ℕ
telling_word telling.BadWords = codes "BadWords"
telling_word telling.BadTree = codes "BadTree"
telling_word telling.BadAsm = codes "BadAsm"
telling_word telling.GuestState = codes "GuestState"
telling_word telling.BadNode = codes "BadNode"
telling_word telling.Overlap = codes "Overlap"
telling_word telling.WrongState = codes "WrongState"

-- The refusals that tell something, by their names.
abbrev pub telling_spelled : List ℕ → Option Telling
telling_spelled word =
    if is_word word (codes "BadWords") then Some telling.BadWords else (
    if is_word word (codes "BadTree") then Some telling.BadTree else (
    if is_word word (codes "BadAsm") then Some telling.BadAsm else (
    if is_word word (codes "GuestState") then Some telling.GuestState else (
    if is_word word (codes "BadNode") then Some telling.BadNode else (
    if is_word word (codes "Overlap") then Some telling.Overlap else (
    if is_word word (codes "WrongState") then Some telling.WrongState else None))))))

-- The words are that of a written value alone.
abbrev pub IsAlone : {A : Type 0} → (A → Type 0) → (A → List ℕ) → List (List ℕ) → A → Type 0
IsAlone good shown words value = good value × (words ≡ shown value ∷ [])

-- The words behind a name are what this refusal tells.
abbrev pub AreArguments : Telling → List (List ℕ) → Refusal → Type 0
AreArguments telling.BadWords words why = (n : ℕ) × (why ≡ refusal.BadWords n) × IsAlone IsNumber decimal words n
AreArguments telling.BadTree words why = (n : ℕ) × (why ≡ refusal.BadTree n) × IsAlone IsNumber decimal words n
AreArguments telling.BadAsm words why = (n : ℕ) × (why ≡ refusal.BadAsm n) × IsAlone IsNumber decimal words n
AreArguments telling.GuestState words why = (s : Stage) × (why ≡ refusal.GuestState s) × IsAlone IsAny stage_text words s
AreArguments telling.BadNode words why =
    (path : List ℕ) × (cause : Cause) × (why ≡ refusal.BadNode path cause) × IsNodePath path × (words ≡ path ∷ cause_word cause ∷ [])
AreArguments telling.Overlap words why = (row : ℕ) × (why ≡ refusal.Overlap row) × IsAlone IsNumber8 decimal words row
AreArguments telling.WrongState words why = (s : StateName) × (why ≡ refusal.WrongState s) × IsAlone IsAny state_name_text words s
