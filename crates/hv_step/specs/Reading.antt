-- What the words behind a step's name are read as.
use Rattle.std.specs.Prelude.{◌≡◌, ℕ, List, ◌∷◌, ◌++◌, Option}
use Rattle.hv_name.specs.declared.name.StepName.{StepName}
use Rattle.hv_name.specs.declared.name.StepName.TheVariants as name
use Rattle.hv_data.specs.Data.{Number8, AreData, data_words}
use Rattle.hv_step.specs.declared.step.ByGuest.{ByGuest}
use Rattle.hv_step.specs.declared.step.Step.{Step}
use Rattle.hv_step.specs.declared.step.Step.TheVariants as step
use Rattle.hv_step.specs.Words.{name_of, guest_data, step_data, IsStep, IsOver, EndsBefore}
use Rattle.hv_step.specs.declared.step.Bad.{Bad}
use Rattle.hv_step.specs.declared.step.Rest.{Rest}
use Rattle.hv_step.specs.declared.step.Ls.{Ls}
use Rattle.hv_step.specs.declared.step.Cat.{Cat}
use Rattle.hv_step.specs.declared.step.Dts.{Dts}
use Rattle.hv_step.specs.declared.step.Run.{Run}
use Rattle.hv_step.specs.declared.step.Mkdir.{Mkdir}
use Rattle.hv_step.specs.declared.step.Rm.{Rm}
use Rattle.hv_step.specs.declared.step.Write.{Write}
use Rattle.hv_step.specs.declared.step.Asm.{Asm}
use Rattle.hv_step.specs.declared.step.Guests.{Guests}
use Rattle.hv_step.specs.declared.step.Name.{Name}
use Rattle.hv_step.specs.declared.step.Stage.{Stage}
use Rattle.hv_step.specs.declared.step.Add.{Add}
use Rattle.hv_step.specs.declared.step.Drop.{Drop}
use Rattle.hv_step.specs.declared.step.Regions.{Regions}
use Rattle.hv_step.specs.declared.step.Load.{Load}
use Rattle.hv_step.specs.declared.step.Mem.{Mem}
use Rattle.hv_step.specs.declared.step.Devreset.{Devreset}
use Rattle.hv_step.specs.declared.step.Feed.{Feed}
use Rattle.hv_step.specs.declared.step.Output.{Output}
use Rattle.hv_step.specs.declared.step.Vadd.{Vadd}
use Rattle.hv_step.specs.declared.step.Vdrop.{Vdrop}
use Rattle.hv_step.specs.declared.step.Kick.{Kick}
use Rattle.hv_step.specs.declared.step.Resume.{Resume}
use Rattle.hv_step.specs.declared.step.Pause.{Pause}
use Rattle.hv_step.specs.declared.step.Halt.{Halt}
use Rattle.hv_step.specs.declared.step.Reset.{Reset}
use Rattle.hv_step.specs.declared.step.Look.{Look}
use Rattle.hv_step.specs.declared.step.Tick.{Tick}
use Rattle.hv_step.specs.declared.step.Idle.{Idle}
use Rattle.hv_step.specs.declared.step.Dispatch.{Dispatch}
use Rattle.hv_step.specs.declared.step.Preempt.{Preempt}
use Rattle.hv_step.specs.declared.step.Leave.{Leave}
use Rattle.hv_step.specs.declared.step.Take.{Take}
use Rattle.hv_step.specs.declared.step.Fetch.{Fetch}
use Rattle.hv_step.specs.declared.step.Access.{Access}
use Rattle.hv_step.specs.declared.step.Fault.{Fault}
use Rattle.hv_step.specs.declared.step.Balance.{Balance}
use Rattle.hv_step.specs.declared.step.Sample.{Sample}
use Rattle.hv_step.specs.declared.step.Pin.{Pin}

-- Words behind a step's name are those of this written step's data, and these follow.
abbrev pub AreBehind : List (List ℕ) → Step → List (List ℕ) → Type 0
AreBehind words s rest = IsStep s × (words ≡ data_words (step_data s) ++ rest) × EndsBefore s rest

-- Words are those behind a name in front of these, in this step of the name.
abbrev pub AreArguments : StepName → List (List ℕ) → Step → List (List ℕ) → Type 0
AreArguments n words s rest = (name_of s ≡ n) × AreBehind words s rest

-- Words are those behind a name in no step of the name.
abbrev pub AreNoArguments : StepName → List (List ℕ) → Type 0
AreNoArguments name.Bad words = (s : Bad) (rest : List (List ℕ)) → AreBehind words (step.Bad s) rest → ⊥
AreNoArguments name.Rest words = (s : Rest) (rest : List (List ℕ)) → AreBehind words (step.Rest s) rest → ⊥
AreNoArguments name.Ls words = (s : Ls) (rest : List (List ℕ)) → AreBehind words (step.Ls s) rest → ⊥
AreNoArguments name.Cat words = (s : Cat) (rest : List (List ℕ)) → AreBehind words (step.Cat s) rest → ⊥
AreNoArguments name.Dts words = (s : Dts) (rest : List (List ℕ)) → AreBehind words (step.Dts s) rest → ⊥
AreNoArguments name.Run words = (s : Run) (rest : List (List ℕ)) → AreBehind words (step.Run s) rest → ⊥
AreNoArguments name.Mkdir words = (s : Mkdir) (rest : List (List ℕ)) → AreBehind words (step.Mkdir s) rest → ⊥
AreNoArguments name.Rm words = (s : Rm) (rest : List (List ℕ)) → AreBehind words (step.Rm s) rest → ⊥
AreNoArguments name.Write words = (s : Write) (rest : List (List ℕ)) → AreBehind words (step.Write s) rest → ⊥
AreNoArguments name.Asm words = (s : Asm) (rest : List (List ℕ)) → AreBehind words (step.Asm s) rest → ⊥
AreNoArguments name.Guests words = (s : Guests) (rest : List (List ℕ)) → AreBehind words (step.Guests s) rest → ⊥
AreNoArguments name.Name words = (s : Name) (rest : List (List ℕ)) → AreBehind words (step.Name s) rest → ⊥
AreNoArguments name.Stage words = (s : Stage) (rest : List (List ℕ)) → AreBehind words (step.Stage s) rest → ⊥
AreNoArguments name.Add words = (s : Add) (rest : List (List ℕ)) → AreBehind words (step.Add s) rest → ⊥
AreNoArguments name.Drop words = (s : Drop) (rest : List (List ℕ)) → AreBehind words (step.Drop s) rest → ⊥
AreNoArguments name.Regions words = (s : Regions) (rest : List (List ℕ)) → AreBehind words (step.Regions s) rest → ⊥
AreNoArguments name.Load words = (s : Load) (rest : List (List ℕ)) → AreBehind words (step.Load s) rest → ⊥
AreNoArguments name.Mem words = (s : Mem) (rest : List (List ℕ)) → AreBehind words (step.Mem s) rest → ⊥
AreNoArguments name.Devreset words = (s : Devreset) (rest : List (List ℕ)) → AreBehind words (step.Devreset s) rest → ⊥
AreNoArguments name.Feed words = (s : Feed) (rest : List (List ℕ)) → AreBehind words (step.Feed s) rest → ⊥
AreNoArguments name.Output words = (s : Output) (rest : List (List ℕ)) → AreBehind words (step.Output s) rest → ⊥
AreNoArguments name.Vadd words = (s : Vadd) (rest : List (List ℕ)) → AreBehind words (step.Vadd s) rest → ⊥
AreNoArguments name.Vdrop words = (s : Vdrop) (rest : List (List ℕ)) → AreBehind words (step.Vdrop s) rest → ⊥
AreNoArguments name.Kick words = (s : Kick) (rest : List (List ℕ)) → AreBehind words (step.Kick s) rest → ⊥
AreNoArguments name.Resume words = (s : Resume) (rest : List (List ℕ)) → AreBehind words (step.Resume s) rest → ⊥
AreNoArguments name.Pause words = (s : Pause) (rest : List (List ℕ)) → AreBehind words (step.Pause s) rest → ⊥
AreNoArguments name.Halt words = (s : Halt) (rest : List (List ℕ)) → AreBehind words (step.Halt s) rest → ⊥
AreNoArguments name.Reset words = (s : Reset) (rest : List (List ℕ)) → AreBehind words (step.Reset s) rest → ⊥
AreNoArguments name.Look words = (s : Look) (rest : List (List ℕ)) → AreBehind words (step.Look s) rest → ⊥
AreNoArguments name.Tick words = (s : Tick) (rest : List (List ℕ)) → AreBehind words (step.Tick s) rest → ⊥
AreNoArguments name.Idle words = (s : Idle) (rest : List (List ℕ)) → AreBehind words (step.Idle s) rest → ⊥
AreNoArguments name.Dispatch words = (s : Dispatch) (rest : List (List ℕ)) → AreBehind words (step.Dispatch s) rest → ⊥
AreNoArguments name.Preempt words = (s : Preempt) (rest : List (List ℕ)) → AreBehind words (step.Preempt s) rest → ⊥
AreNoArguments name.Leave words = (s : Leave) (rest : List (List ℕ)) → AreBehind words (step.Leave s) rest → ⊥
AreNoArguments name.Take words = (s : Take) (rest : List (List ℕ)) → AreBehind words (step.Take s) rest → ⊥
AreNoArguments name.Fetch words = (s : Fetch) (rest : List (List ℕ)) → AreBehind words (step.Fetch s) rest → ⊥
AreNoArguments name.Access words = (s : Access) (rest : List (List ℕ)) → AreBehind words (step.Access s) rest → ⊥
AreNoArguments name.Fault words = (s : Fault) (rest : List (List ℕ)) → AreBehind words (step.Fault s) rest → ⊥
AreNoArguments name.Balance words = (s : Balance) (rest : List (List ℕ)) → AreBehind words (step.Balance s) rest → ⊥
AreNoArguments name.Sample words = (s : Sample) (rest : List (List ℕ)) → AreBehind words (step.Sample s) rest → ⊥
AreNoArguments name.Pin words = (s : Pin) (rest : List (List ℕ)) → AreBehind words (step.Pin s) rest → ⊥

-- Words are those of a VCPU's number and of its guest, and these follow.
abbrev pub AreByGuest : List (List ℕ) → ℕ → Option ByGuest → List (List ℕ) → Type 0
AreByGuest words vcpu guest rest = AreData (Number8 vcpu ∷ guest_data guest) × (words ≡ data_words (Number8 vcpu ∷ guest_data guest) ++ rest) × IsOver guest rest

-- Words are those of a guest by which a step is made, and these follow.
abbrev pub AreGuest : List (List ℕ) → Option ByGuest → List (List ℕ) → Type 0
AreGuest words guest rest = AreData (guest_data guest) × (words ≡ data_words (guest_data guest) ++ rest) × IsOver guest rest
