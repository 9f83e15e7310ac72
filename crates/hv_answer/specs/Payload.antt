-- The words of what steps give.
use Rattle.std.specs.Prelude.{ℕ, ◌^◌, ◌<◌, Bool, true, false, List, [], ◌∷◌, ◌++◌, codes, Option, Some, None}
use Rattle.std.specs.Fmt.{decimal}
use Rattle.hv_kinds.specs.declared.changes.SignalChanges.{SignalChanges}
use Rattle.hv_kinds.specs.declared.generation.Generation.{Generation}
use Rattle.hv_kinds.specs.declared.state.State.{State}
use Rattle.hv_data.specs.Text.{address_text, hex_text, names_text, state_text, bit_text, changes_text}
use Rattle.hv_data.specs.Written.{IsNumber, IsNumber8, AreChanges}
use Rattle.hv_listing.specs.declared.guest.ListedGuest.{ListedGuest}
use Rattle.hv_listing.specs.declared.window.ListedWindow.{ListedWindow}
use Rattle.hv_listing.specs.Listing.{guests_text, windows_text}
use Rattle.hv_answer.specs.declared.reply.Outcome.{Outcome}
use Rattle.hv_answer.specs.declared.reply.Outcome.TheVariants as outcome
use Rattle.hv_answer.specs.declared.reply.Fetched.{Fetched}
use Rattle.hv_answer.specs.declared.reply.Accessed.{Accessed}
use Rattle.hv_answer.specs.declared.reply.Moved.{Moved}
use Rattle.hv_answer.specs.declared.reply.Sampled.{Sampled}
use Rattle.hv_kinds.specs.declared.pins.Pins.{Pins}
use Rattle.hv_answer.specs.declared.reply.Pinned.{Pinned}

-- Nothing has no words.
abbrev pub no_words : Unit {0} → List (List ℕ)
no_words done = []

-- The word of bytes.
abbrev pub bytes_words : List ℕ → List (List ℕ)
bytes_words bytes = hex_text bytes ∷ []

-- The word of listed names.
abbrev pub names_words : List (List ℕ) → List (List ℕ)
names_words names = names_text names ∷ []

-- The word of listed guests.
abbrev pub guests_words : List ListedGuest → List (List ℕ)
guests_words guests = guests_text guests ∷ []

-- The word of listed windows.
abbrev pub windows_words : List ListedWindow → List (List ℕ)
windows_words windows = windows_text windows ∷ []

-- The word of a number.
abbrev pub number_words : ℕ → List (List ℕ)
number_words n = decimal n ∷ []

-- The word of signal changes.
abbrev pub changes_words : SignalChanges → List (List ℕ)
changes_words c = changes_text c ∷ []

-- The words of a slot and a birth.
abbrev pub generation_words : Generation → List (List ℕ)
generation_words g = decimal g.slot ∷ decimal g.birth ∷ []

-- The word of a state.
abbrev pub state_words : State → List (List ℕ)
state_words s = state_text s ∷ []

-- The words of an instruction's outcome.
abbrev pub outcome_words : Outcome → List (List ℕ)
outcome_words outcome.Done = codes "done" ∷ []
outcome_words outcome.Wait = codes "wait" ∷ []
outcome_words outcome.Access = codes "access" ∷ []
outcome_words (outcome.Trap cause) = codes "trap" ∷ decimal cause ∷ []

-- The words of an instruction that was fetched.
abbrev pub fetched_words : Fetched → List (List ℕ)
fetched_words f = address_text f.word ∷ outcome_words f.outcome

-- The words of an access that was answered.
abbrev pub accessed_words : Accessed → List (List ℕ)
accessed_words a = address_text a.value ∷ changes_text a.changes ∷ []

-- The words of the harts between which a VCPU moved.
abbrev pub harts_words : ℕ × ℕ → List (List ℕ)
harts_words harts = decimal harts.0 ∷ decimal harts.1 ∷ []

-- The words of a VCPU that moved.
abbrev pub moved_words : Moved → List (List ℕ)
moved_words m = codes "move" ∷ decimal m.vcpu ∷ harts_words (m.from, m.to)

-- The words of a level that was sampled.
abbrev pub sampled_words : Sampled → List (List ℕ)
sampled_words s = bit_text s.level ∷ changes_text s.changes ∷ []

-- Pins are written as their three digits.
abbrev pub pins_text : Pins → List ℕ
pins_text p = bit_text p.ext ++ bit_text p.soft ++ bit_text p.timer

-- Whether a VCPU woke.
abbrev pub woken_text : Bool → List ℕ
woken_text true = codes "woke"
woken_text false = codes "kept"

-- The words of pins that a VCPU took.
abbrev pub pinned_words : Pinned → List (List ℕ)
pinned_words p = pins_text p.pins ∷ woken_text p.woke ∷ []

-- The words of signal changes behind `ok`.
abbrev pub ticked_words : SignalChanges → List (List ℕ)
ticked_words c = codes "ok" ∷ changes_words c

-- What may be missing has a word for that.
abbrev pub maybe_words : {A : Type 0} → List ℕ → (A → List (List ℕ)) → Option A → List (List ℕ)
maybe_words missing shown None = missing ∷ []
maybe_words missing shown (Some x) = shown x

-- A number has at most 32 bits.
abbrev pub IsNumber32 : ℕ → Type 0
IsNumber32 n = n < 2 ^ 32

-- A slot has at most 8 bits, and a birth 64.
abbrev pub IsBorn : Generation → Type 0
IsBorn g = IsNumber8 g.slot × IsNumber g.birth

-- A cause has at most 64 bits.
abbrev pub IsOutcome : Outcome → Type 0
IsOutcome (outcome.Trap cause) = IsNumber cause
IsOutcome _ = Unit {0}

-- An instruction has at most 32 bits.
abbrev pub IsFetched : Fetched → Type 0
IsFetched f = IsNumber32 f.word × IsOutcome f.outcome

-- A value has at most 64 bits.
abbrev pub IsAccessed : Accessed → Type 0
IsAccessed a = IsNumber a.value × AreChanges a.changes

-- Harts have numbers of at most 8 bits.
abbrev pub AreHarts : ℕ × ℕ → Type 0
AreHarts harts = IsNumber8 harts.0 × IsNumber8 harts.1

-- VCPUs and harts have numbers of at most 8 bits.
abbrev pub IsMoved : Moved → Type 0
IsMoved m = IsNumber8 m.vcpu × IsNumber8 m.from × IsNumber8 m.to

-- The changes have the written form.
abbrev pub IsSampled : Sampled → Type 0
IsSampled s = AreChanges s.changes

-- What is there has a written form.
abbrev pub IsMaybe : {A : Type 0} → (A → Type 0) → Option A → Type 0
IsMaybe good None = Unit {0}
IsMaybe good (Some x) = good x
