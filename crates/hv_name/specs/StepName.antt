-- The words that name the steps.
use Rattle.std.specs.Prelude.{ℕ, nat_eq, Bool, if◌then◌else◌, List, codes, Option, Some, None}
use Rattle.std.specs.Cmp.Lexicographic.{pointwise}
use Rattle.hv_name.specs.declared.name.StepName.{StepName}
use Rattle.hv_name.specs.declared.name.StepName.TheVariants as name

-- A name is written as its word.
abbrev pub name_word : StepName → List ℕ
name_word name.Bad = codes "bad"
name_word name.Rest = codes "rest"
name_word name.Ls = codes "ls"
name_word name.Cat = codes "cat"
name_word name.Dts = codes "dts"
name_word name.Run = codes "run"
name_word name.Mkdir = codes "mkdir"
name_word name.Rm = codes "rm"
name_word name.Write = codes "write"
name_word name.Asm = codes "asm"
name_word name.Guests = codes "guests"
name_word name.Name = codes "name"
name_word name.Stage = codes "stage"
name_word name.Add = codes "add"
name_word name.Drop = codes "drop"
name_word name.Regions = codes "regions"
name_word name.Load = codes "load"
name_word name.Mem = codes "mem"
name_word name.Devreset = codes "devreset"
name_word name.Feed = codes "feed"
name_word name.Output = codes "output"
name_word name.Vadd = codes "vadd"
name_word name.Vdrop = codes "vdrop"
name_word name.Kick = codes "kick"
name_word name.Resume = codes "resume"
name_word name.Pause = codes "pause"
name_word name.Halt = codes "halt"
name_word name.Reset = codes "reset"
name_word name.Look = codes "look"
name_word name.Tick = codes "tick"
name_word name.Idle = codes "idle"
name_word name.Dispatch = codes "dispatch"
name_word name.Preempt = codes "preempt"
name_word name.Leave = codes "leave"
name_word name.Take = codes "take"
name_word name.Fetch = codes "fetch"
name_word name.Access = codes "access"
name_word name.Fault = codes "fault"
name_word name.Balance = codes "balance"
name_word name.Sample = codes "sample"
name_word name.Pin = codes "pin"

-- Whether a word is another.
abbrev pub is_word : List ℕ → List ℕ → Bool
is_word word other = pointwise nat_eq word other

-- The name that a word is, of those of terminals: lines that are no command, and files.
abbrev pub file_spelled : List ℕ → Option StepName
file_spelled word =
    if is_word word (codes "bad") then Some name.Bad else (
    if is_word word (codes "rest") then Some name.Rest else (
    if is_word word (codes "ls") then Some name.Ls else (
    if is_word word (codes "cat") then Some name.Cat else (
    if is_word word (codes "dts") then Some name.Dts else (
    if is_word word (codes "run") then Some name.Run else (
    if is_word word (codes "mkdir") then Some name.Mkdir else (
    if is_word word (codes "rm") then Some name.Rm else (
    if is_word word (codes "write") then Some name.Write else (
    if is_word word (codes "asm") then Some name.Asm else None)))))))))

-- The name that a word is, of those of guests and their regions.
abbrev pub guest_spelled : List ℕ → Option StepName
guest_spelled word =
    if is_word word (codes "guests") then Some name.Guests else (
    if is_word word (codes "name") then Some name.Name else (
    if is_word word (codes "stage") then Some name.Stage else (
    if is_word word (codes "add") then Some name.Add else (
    if is_word word (codes "drop") then Some name.Drop else (
    if is_word word (codes "regions") then Some name.Regions else (
    if is_word word (codes "load") then Some name.Load else (
    if is_word word (codes "mem") then Some name.Mem else (
    if is_word word (codes "devreset") then Some name.Devreset else (
    if is_word word (codes "feed") then Some name.Feed else (
    if is_word word (codes "output") then Some name.Output else None))))))))))

-- The name that a word is, of those of VCPUs.
abbrev pub vcpu_spelled : List ℕ → Option StepName
vcpu_spelled word =
    if is_word word (codes "vadd") then Some name.Vadd else (
    if is_word word (codes "vdrop") then Some name.Vdrop else (
    if is_word word (codes "kick") then Some name.Kick else (
    if is_word word (codes "resume") then Some name.Resume else (
    if is_word word (codes "pause") then Some name.Pause else (
    if is_word word (codes "halt") then Some name.Halt else (
    if is_word word (codes "reset") then Some name.Reset else (
    if is_word word (codes "look") then Some name.Look else None)))))))

-- The name that a word is, of those of harts, and of the signals that devices send.
abbrev pub hart_spelled : List ℕ → Option StepName
hart_spelled word =
    if is_word word (codes "tick") then Some name.Tick else (
    if is_word word (codes "idle") then Some name.Idle else (
    if is_word word (codes "dispatch") then Some name.Dispatch else (
    if is_word word (codes "preempt") then Some name.Preempt else (
    if is_word word (codes "leave") then Some name.Leave else (
    if is_word word (codes "take") then Some name.Take else (
    if is_word word (codes "fetch") then Some name.Fetch else (
    if is_word word (codes "access") then Some name.Access else (
    if is_word word (codes "fault") then Some name.Fault else (
    if is_word word (codes "balance") then Some name.Balance else (
    if is_word word (codes "sample") then Some name.Sample else (
    if is_word word (codes "pin") then Some name.Pin else None)))))))))))

-- The first that is found.
abbrev pub first_found : Option StepName → Option StepName → Option StepName
first_found (Some name) other = Some name
first_found None other = other

-- The name that a word is.
abbrev pub name_spelled : List ℕ → Option StepName
name_spelled word = first_found (file_spelled word) (first_found (guest_spelled word) (first_found (vcpu_spelled word) (hart_spelled word)))
