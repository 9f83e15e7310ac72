-- The data and the words of steps.
use Rattle.std.specs.Prelude.{◌≡◌, ◌≢◌, ℕ, List, [], ◌∷◌, ◌++◌, Option, Some, None}
use Rattle.hv_name.specs.declared.name.StepName.{StepName}
use Rattle.hv_name.specs.declared.name.StepName.TheVariants as name
use Rattle.hv_name.specs.StepName.{name_word}
use Rattle.hv_data.specs.Data.{Datum, Number, Number8, Address, Hex, Name, PathOf, Born, At, To, Towards, Accessed, AreData, data_words, spaced}
use Rattle.hv_step.specs.declared.step.ByGuest.{ByGuest}
use Rattle.hv_step.specs.declared.step.Step.{Step}
use Rattle.hv_step.specs.declared.step.Step.TheVariants as step

-- The name of a step.
abbrev pub name_of : Step → StepName
name_of (step.Bad s) = name.Bad
name_of (step.Rest s) = name.Rest
name_of (step.Ls s) = name.Ls
name_of (step.Cat s) = name.Cat
name_of (step.Dts s) = name.Dts
name_of (step.Run s) = name.Run
name_of (step.Mkdir s) = name.Mkdir
name_of (step.Rm s) = name.Rm
name_of (step.Write s) = name.Write
name_of (step.Asm s) = name.Asm
name_of (step.Guests s) = name.Guests
name_of (step.Name s) = name.Name
name_of (step.Stage s) = name.Stage
name_of (step.Add s) = name.Add
name_of (step.Drop s) = name.Drop
name_of (step.Regions s) = name.Regions
name_of (step.Load s) = name.Load
name_of (step.Mem s) = name.Mem
name_of (step.Devreset s) = name.Devreset
name_of (step.Feed s) = name.Feed
name_of (step.Output s) = name.Output
name_of (step.Vadd s) = name.Vadd
name_of (step.Vdrop s) = name.Vdrop
name_of (step.Kick s) = name.Kick
name_of (step.Resume s) = name.Resume
name_of (step.Pause s) = name.Pause
name_of (step.Halt s) = name.Halt
name_of (step.Reset s) = name.Reset
name_of (step.Look s) = name.Look
name_of (step.Tick s) = name.Tick
name_of (step.Idle s) = name.Idle
name_of (step.Dispatch s) = name.Dispatch
name_of (step.Preempt s) = name.Preempt
name_of (step.Leave s) = name.Leave
name_of (step.Take s) = name.Take
name_of (step.Fetch s) = name.Fetch
name_of (step.Access s) = name.Access
name_of (step.Fault s) = name.Fault
name_of (step.Balance s) = name.Balance
name_of (step.Sample s) = name.Sample
name_of (step.Pin s) = name.Pin

-- The data of the guest by which a VCPU's step is made, which are none where it is made by the VCPU's number alone.
abbrev pub guest_data : Option ByGuest → List Datum
guest_data None = []
guest_data (Some g) = Name g.name ∷ Born g.generation ∷ []

-- The data that a step's words show, in their order.
abbrev pub step_data : Step → List Datum
step_data (step.Bad s) = Hex s.line ∷ []
step_data (step.Rest s) = []
step_data (step.Ls s) = PathOf s.path ∷ []
step_data (step.Cat s) = PathOf s.path ∷ []
step_data (step.Dts s) = PathOf s.path ∷ []
step_data (step.Run s) = PathOf s.path ∷ []
step_data (step.Mkdir s) = PathOf s.path ∷ []
step_data (step.Rm s) = PathOf s.path ∷ []
step_data (step.Write s) = PathOf s.path ∷ Hex s.bytes ∷ []
step_data (step.Asm s) = PathOf s.source ∷ PathOf s.target ∷ []
step_data (step.Guests s) = []
step_data (step.Name s) = Name s.name ∷ []
step_data (step.Stage s) = Name s.name ∷ At s.from ∷ To s.to ∷ []
step_data (step.Add s) = Name s.name ∷ Name s.region ∷ At s.stage ∷ Born s.generation ∷ []
step_data (step.Drop s) = Name s.name ∷ Name s.region ∷ At s.stage ∷ Born s.generation ∷ []
step_data (step.Regions s) = Name s.name ∷ Born s.generation ∷ []
step_data (step.Load s) = Name s.name ∷ PathOf s.path ∷ Address s.address ∷ Born s.generation ∷ []
step_data (step.Mem s) = Name s.name ∷ Address s.address ∷ Number s.count ∷ Born s.generation ∷ []
step_data (step.Devreset s) = Name s.name ∷ Name s.region ∷ Born s.generation ∷ []
step_data (step.Feed s) = Name s.name ∷ Name s.region ∷ Hex s.bytes ∷ Born s.generation ∷ []
step_data (step.Output s) = Name s.name ∷ Name s.region ∷ Born s.generation ∷ []
step_data (step.Vadd s) = Number8 s.vcpu ∷ Number s.birth ∷ []
step_data (step.Vdrop s) = Number8 s.vcpu ∷ []
step_data (step.Kick s) = Number8 s.vcpu ∷ guest_data s.guest
step_data (step.Resume s) = Number8 s.vcpu ∷ guest_data s.guest
step_data (step.Pause s) = Number8 s.vcpu ∷ guest_data s.guest
step_data (step.Halt s) = Number8 s.vcpu ∷ guest_data s.guest
step_data (step.Reset s) = Number8 s.vcpu ∷ guest_data s.guest
step_data (step.Look s) = Number8 s.vcpu ∷ []
step_data (step.Tick s) = Number8 s.slot ∷ []
step_data (step.Idle s) = []
step_data (step.Dispatch s) = Number8 s.vcpu ∷ []
step_data (step.Preempt s) = Number8 s.vcpu ∷ []
step_data (step.Leave s) = Number8 s.vcpu ∷ []
step_data (step.Take s) = Number8 s.vcpu ∷ []
step_data (step.Fetch s) = Number8 s.vcpu ∷ Number8 s.row ∷ Born (Some s.generation) ∷ []
step_data (step.Access s) = Number8 s.vcpu ∷ Number8 s.row ∷ Address s.address ∷ Number8 s.size ∷ Towards s.direction ∷ Address s.value ∷ Born (Some s.generation) ∷ []
step_data (step.Fault s) = Number8 s.vcpu ∷ Address s.address ∷ Number8 s.size ∷ Accessed s.access ∷ Born (Some s.generation) ∷ []
step_data (step.Balance s) = []
step_data (step.Sample s) = Number8 s.row ∷ Number8 s.parent ∷ Number8 s.source ∷ Born (Some s.generation) ∷ []
step_data (step.Pin s) = Number8 s.row ∷ Number8 s.vcpu ∷ Born (Some s.generation) ∷ []

-- The words of a step are its name and its data.
abbrev pub step_words : Step → List (List ℕ)
step_words s = name_word (name_of s) ∷ data_words (step_data s)

-- The text of a step is its words, one space apart.
abbrev pub step_text : Step → List ℕ
step_text s = name_word (name_of s) ++ spaced (data_words (step_data s))

-- A step's data have written forms.
abbrev pub IsStep : Step → Type 0
IsStep s = AreData (step_data s)

-- The second of these words begins with the sign of a generation.
abbrev pub GoesOn : List (List ℕ) → Type 0
GoesOn words = (first : List ℕ) × (behind : List ℕ) × (rest : List (List ℕ)) × (words ≡ first ∷ (64 ∷ behind) ∷ rest)

-- The second of these words, if there is one, does not begin so.
abbrev pub Ends : List (List ℕ) → Type 0
Ends words = (first behind : List ℕ) (rest : List (List ℕ)) → words ≢ first ∷ (64 ∷ behind) ∷ rest

-- A VCPU's step that is made by its number alone ends before these words; a name and a generation would belong to it.
abbrev pub IsOver : Option ByGuest → List (List ℕ) → Type 0
IsOver None rest = Ends rest
IsOver (Some g) rest = Unit {0}

-- A step ends before these words.
abbrev pub EndsBefore : Step → List (List ℕ) → Type 0
EndsBefore (step.Kick s) rest = IsOver s.guest rest
EndsBefore (step.Resume s) rest = IsOver s.guest rest
EndsBefore (step.Pause s) rest = IsOver s.guest rest
EndsBefore (step.Halt s) rest = IsOver s.guest rest
EndsBefore (step.Reset s) rest = IsOver s.guest rest
EndsBefore s rest = Unit {0}

-- Words begin with those of this written step, and these follow.
pub record BeginWithStep (words : List (List ℕ)) (s : Step) (rest : List (List ℕ)) : Type 0 where
  pub written : IsStep s
  pub words_are : words ≡ step_words s ++ rest
  pub ends : EndsBefore s rest

-- Words begin with those of no written step.
abbrev pub BeginWithNoStep : List (List ℕ) → Type 0
BeginWithNoStep words = (s : Step) (rest : List (List ℕ)) → BeginWithStep words s rest → ⊥

-- Two steps are one, and so is what follows them.
pub record IsOneStep (one other : Step) (rest behind : List (List ℕ)) : Type 0 where
  pub same_step : one ≡ other
  pub same_rest : rest ≡ behind
