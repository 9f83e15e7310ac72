-- The refusals of each step.
use Rattle.std.specs.Prelude.{◌≡◌, ◌⊎◌, ℕ, List}
use Rattle.hv_kinds.specs.declared.stage.Stage.{Stage}
use Rattle.hv_kinds.specs.declared.cause.Cause.{Cause}
use Rattle.hv_kinds.specs.declared.state.StateName.{StateName}
use Rattle.hv_name.specs.declared.name.StepName.{StepName}
use Rattle.hv_name.specs.declared.name.StepName.TheVariants as name
use Rattle.hv_refusal.specs.declared.refusal.Refusal.{Refusal}
use Rattle.hv_refusal.specs.declared.refusal.Refusal.TheVariants as refusal
use Rattle.hv_refusal.specs.Refusal.{IsRefusal}

-- A line is no command, or has a bad word.
abbrev pub IsNoCommand : Refusal → Type 0
IsNoCommand why = (why ≡ refusal.NoCommand) ⊎ ((n : ℕ) × (why ≡ refusal.BadWords n))

-- The way to an entry is not there.
abbrev pub IsNoWay : Refusal → Type 0
IsNoWay why = (why ≡ refusal.NoEntry) ⊎ (why ≡ refusal.NotDir)

-- There is no file to read or to write.
abbrev pub IsNoFile : Refusal → Type 0
IsNoFile why = IsNoWay why ⊎ (why ≡ refusal.IsDir)

-- The directory refuses: there is no such guest, it has another stage, or its plan has no such region.
abbrev pub IsUnlisted : Refusal → Type 0
IsUnlisted why = (why ≡ refusal.NoSuchGuest) ⊎ (((s : Stage) × (why ≡ refusal.GuestState s)) ⊎ (why ≡ refusal.NoRegion))

-- A guest has no good plan, or there is no room for it.
abbrev pub IsUnnamed : Refusal → Type 0
IsUnnamed why =
    (why ≡ refusal.NoGuest) ⊎ (((path : List ℕ) × (cause : Cause) × (why ≡ refusal.BadNode path cause)) ⊎ ((why ≡ refusal.NameUsed) ⊎ (why ≡ refusal.NoSlot)))

-- A region can't be built.
abbrev pub IsUnbuilt : Refusal → Type 0
IsUnbuilt why =
    (why ≡ refusal.Live) ⊎ (((row : ℕ) × (why ≡ refusal.Overlap row)) ⊎ ((why ≡ refusal.AliasTarget) ⊎ (why ≡ refusal.NoEmulator)))

-- No memory is there.
abbrev pub IsNoMemory : Refusal → Type 0
IsNoMemory why = (why ≡ refusal.NoWindow) ⊎ (why ≡ refusal.NotMemory)

-- The VCPU has another state.
abbrev pub IsWrongState : Refusal → Type 0
IsWrongState why = (s : StateName) × (why ≡ refusal.WrongState s)

-- The refusals of a step.
abbrev pub IsRefusalOf : StepName → Refusal → Type 0
IsRefusalOf name.Bad why = IsNoCommand why
IsRefusalOf name.Ls why = IsNoWay why
IsRefusalOf name.Cat why = IsNoFile why
IsRefusalOf name.Dts why = IsNoFile why ⊎ ((n : ℕ) × (why ≡ refusal.BadTree n))
IsRefusalOf name.Run why = (why ≡ refusal.TooDeep) ⊎ (IsNoFile why ⊎ (why ≡ refusal.TooLong))
IsRefusalOf name.Mkdir why = IsNoWay why ⊎ (why ≡ refusal.Exists)
IsRefusalOf name.Rm why = IsNoWay why ⊎ (why ≡ refusal.NotEmpty)
IsRefusalOf name.Write why = IsNoFile why
IsRefusalOf name.Asm why = IsNoFile why ⊎ ((n : ℕ) × (why ≡ refusal.BadAsm n))
IsRefusalOf name.Name why = IsUnnamed why
IsRefusalOf name.Stage why = IsUnlisted why
IsRefusalOf name.Add why = IsUnlisted why ⊎ IsUnbuilt why
IsRefusalOf name.Drop why = IsUnlisted why ⊎ (why ≡ refusal.NotLive)
IsRefusalOf name.Regions why = IsUnlisted why
IsRefusalOf name.Load why = IsUnlisted why ⊎ (IsNoFile why ⊎ IsNoMemory why)
IsRefusalOf name.Mem why = IsUnlisted why ⊎ IsNoMemory why
IsRefusalOf name.Devreset why = IsUnlisted why
IsRefusalOf name.Feed why = IsUnlisted why ⊎ (why ≡ refusal.NotSerial)
IsRefusalOf name.Output why = IsUnlisted why ⊎ (why ≡ refusal.NotSerial)
IsRefusalOf name.Vadd why = IsWrongState why
IsRefusalOf name.Vdrop why = IsWrongState why
IsRefusalOf name.Kick why = IsUnlisted why ⊎ IsWrongState why
IsRefusalOf name.Resume why = IsUnlisted why ⊎ IsWrongState why
IsRefusalOf name.Pause why = IsUnlisted why ⊎ IsWrongState why
IsRefusalOf name.Halt why = IsUnlisted why ⊎ IsWrongState why
IsRefusalOf name.Reset why = IsUnlisted why ⊎ IsWrongState why
IsRefusalOf name.Dispatch why = IsWrongState why
IsRefusalOf _ why = ⊥

-- A refusal is one of the step's, and has the written form.
abbrev pub MayRefuse : StepName → Refusal → Type 0
MayRefuse word why = IsRefusal why × IsRefusalOf word why
