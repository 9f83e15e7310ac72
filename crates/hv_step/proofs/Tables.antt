-- Steps told by their names and their data.
use Rattle.std.proofs.Common.{◌≡◌, ℕ, List, [], ◌∷◌, refl, ap}
use Rattle.std.specs.Prelude.{Option, Some, None, slice_index_or}
use Rattle.hv_kinds.specs.declared.stage.Stage.{Stage}
use Rattle.hv_kinds.specs.declared.stage.Stage.TheVariants as stage
use Rattle.hv_kinds.specs.declared.access.Direction.{Direction}
use Rattle.hv_kinds.specs.declared.access.Direction.TheVariants as direction
use Rattle.hv_kinds.specs.declared.access.AccessKind.{AccessKind}
use Rattle.hv_kinds.specs.declared.access.AccessKind.TheVariants as access
use Rattle.hv_kinds.specs.declared.generation.Generation.{Generation}
use Rattle.hv_name.specs.declared.name.StepName.{StepName}
use Rattle.hv_name.specs.declared.name.StepName.TheVariants as name
use Rattle.hv_data.specs.Data.{Datum, Number, Number8, Address, Hex, Name, PathOf, Born, At, To, Towards, Accessed}
use Rattle.hv_step.specs.declared.step.ByGuest.{ByGuest}
use Rattle.hv_step.specs.declared.step.Step.{Step}
use Rattle.hv_step.specs.declared.step.Step.TheVariants as step
use Rattle.hv_step.specs.Words.{name_of, guest_data, step_data}
use Rattle.hv_step.specs.Reading.{AreBehind, AreNoArguments}

-- words that are no arguments of a name are those behind it in no step
pub no_step_of : (s : Step) (words rest : List (List ℕ)) → AreNoArguments (name_of s) words → AreBehind words s rest → ⊥
no_step_of (step.Bad s) words rest none h = none s rest h
no_step_of (step.Rest s) words rest none h = none s rest h
no_step_of (step.Ls s) words rest none h = none s rest h
no_step_of (step.Cat s) words rest none h = none s rest h
no_step_of (step.Dts s) words rest none h = none s rest h
no_step_of (step.Run s) words rest none h = none s rest h
no_step_of (step.Mkdir s) words rest none h = none s rest h
no_step_of (step.Rm s) words rest none h = none s rest h
no_step_of (step.Write s) words rest none h = none s rest h
no_step_of (step.Asm s) words rest none h = none s rest h
no_step_of (step.Guests s) words rest none h = none s rest h
no_step_of (step.Name s) words rest none h = none s rest h
no_step_of (step.Stage s) words rest none h = none s rest h
no_step_of (step.Add s) words rest none h = none s rest h
no_step_of (step.Drop s) words rest none h = none s rest h
no_step_of (step.Regions s) words rest none h = none s rest h
no_step_of (step.Load s) words rest none h = none s rest h
no_step_of (step.Mem s) words rest none h = none s rest h
no_step_of (step.Devreset s) words rest none h = none s rest h
no_step_of (step.Feed s) words rest none h = none s rest h
no_step_of (step.Output s) words rest none h = none s rest h
no_step_of (step.Vadd s) words rest none h = none s rest h
no_step_of (step.Vdrop s) words rest none h = none s rest h
no_step_of (step.Kick s) words rest none h = none s rest h
no_step_of (step.Resume s) words rest none h = none s rest h
no_step_of (step.Pause s) words rest none h = none s rest h
no_step_of (step.Halt s) words rest none h = none s rest h
no_step_of (step.Reset s) words rest none h = none s rest h
no_step_of (step.Look s) words rest none h = none s rest h
no_step_of (step.Tick s) words rest none h = none s rest h
no_step_of (step.Idle s) words rest none h = none s rest h
no_step_of (step.Dispatch s) words rest none h = none s rest h
no_step_of (step.Preempt s) words rest none h = none s rest h
no_step_of (step.Leave s) words rest none h = none s rest h
no_step_of (step.Take s) words rest none h = none s rest h
no_step_of (step.Fetch s) words rest none h = none s rest h
no_step_of (step.Access s) words rest none h = none s rest h
no_step_of (step.Fault s) words rest none h = none s rest h
no_step_of (step.Balance s) words rest none h = none s rest h
no_step_of (step.Sample s) words rest none h = none s rest h
no_step_of (step.Pin s) words rest none h = none s rest h

-- The number of a datum that is one.
abbrev pub number_in : Datum → ℕ
number_in (Number n) = n
number_in (Number8 n) = n
number_in (Address n) = n
number_in d = 0

-- The bytes or the name of a datum.
abbrev pub bytes_in : Datum → List ℕ
bytes_in (Hex bytes) = bytes
bytes_in (Name name) = name
bytes_in d = []

-- The path of a datum.
abbrev pub path_in : Datum → List (List ℕ)
path_in (PathOf path) = path
path_in d = []

-- The generation of a datum, if there is one.
abbrev pub generation_in : Datum → Option Generation
generation_in (Born generation) = generation
generation_in d = None

-- The generation of a datum that has one.
abbrev pub born_in : Datum → Generation
born_in (Born (Some g)) = g
born_in d = record { slot = 0; birth = 0 }

-- The stage of a datum.
abbrev pub stage_in : Datum → Stage
stage_in (At s) = s
stage_in d = stage.Making

-- The next stage of a datum.
abbrev pub next_stage_in : Datum → Option Stage
next_stage_in (To s) = s
next_stage_in d = None

-- The direction of a datum.
abbrev pub direction_in : Datum → Direction
direction_in (Towards d) = d
direction_in d = direction.Read

-- The kind of access of a datum.
abbrev pub access_in : Datum → AccessKind
access_in (Accessed a) = a
access_in d = access.Execute

-- The datum at an index.
abbrev pub at : List Datum → ℕ → Datum
at ds i = slice_index_or ds i (Number 0)

-- The guest that data name behind a VCPU's number.
abbrev pub guest_in : List Datum → Option ByGuest
guest_in (v ∷ n ∷ g ∷ more) = Some (record { name = bytes_in n; generation = generation_in g })
guest_in ds = None

-- The step of a name with these data, whose data are again these wherever they are of the name's kinds.
abbrev pub step_of : StepName → List Datum → Step
step_of name.Bad ds = step.Bad (record { line = bytes_in (at ds 0) })
step_of name.Rest ds = step.Rest (record {})
step_of name.Ls ds = step.Ls (record { path = path_in (at ds 0) })
step_of name.Cat ds = step.Cat (record { path = path_in (at ds 0) })
step_of name.Dts ds = step.Dts (record { path = path_in (at ds 0) })
step_of name.Run ds = step.Run (record { path = path_in (at ds 0) })
step_of name.Mkdir ds = step.Mkdir (record { path = path_in (at ds 0) })
step_of name.Rm ds = step.Rm (record { path = path_in (at ds 0) })
step_of name.Write ds = step.Write (record { path = path_in (at ds 0); bytes = bytes_in (at ds 1) })
step_of name.Asm ds = step.Asm (record { source = path_in (at ds 0); target = path_in (at ds 1) })
step_of name.Guests ds = step.Guests (record {})
step_of name.Name ds = step.Name (record { name = bytes_in (at ds 0) })
step_of name.Stage ds = step.Stage (record { name = bytes_in (at ds 0); from = stage_in (at ds 1); to = next_stage_in (at ds 2) })
step_of name.Add ds = step.Add (record { name = bytes_in (at ds 0); region = bytes_in (at ds 1); stage = stage_in (at ds 2); generation = generation_in (at ds 3) })
step_of name.Drop ds = step.Drop (record { name = bytes_in (at ds 0); region = bytes_in (at ds 1); stage = stage_in (at ds 2); generation = generation_in (at ds 3) })
step_of name.Regions ds = step.Regions (record { name = bytes_in (at ds 0); generation = generation_in (at ds 1) })
step_of name.Load ds = step.Load (record { name = bytes_in (at ds 0); path = path_in (at ds 1); address = number_in (at ds 2); generation = generation_in (at ds 3) })
step_of name.Mem ds = step.Mem (record { name = bytes_in (at ds 0); address = number_in (at ds 1); count = number_in (at ds 2); generation = generation_in (at ds 3) })
step_of name.Devreset ds = step.Devreset (record { name = bytes_in (at ds 0); region = bytes_in (at ds 1); generation = generation_in (at ds 2) })
step_of name.Feed ds = step.Feed (record { name = bytes_in (at ds 0); region = bytes_in (at ds 1); bytes = bytes_in (at ds 2); generation = generation_in (at ds 3) })
step_of name.Output ds = step.Output (record { name = bytes_in (at ds 0); region = bytes_in (at ds 1); generation = generation_in (at ds 2) })
step_of name.Vadd ds = step.Vadd (record { vcpu = number_in (at ds 0); birth = number_in (at ds 1) })
step_of name.Vdrop ds = step.Vdrop (record { vcpu = number_in (at ds 0) })
step_of name.Kick ds = step.Kick (record { vcpu = number_in (at ds 0); guest = guest_in ds })
step_of name.Resume ds = step.Resume (record { vcpu = number_in (at ds 0); guest = guest_in ds })
step_of name.Pause ds = step.Pause (record { vcpu = number_in (at ds 0); guest = guest_in ds })
step_of name.Halt ds = step.Halt (record { vcpu = number_in (at ds 0); guest = guest_in ds })
step_of name.Reset ds = step.Reset (record { vcpu = number_in (at ds 0); guest = guest_in ds })
step_of name.Look ds = step.Look (record { vcpu = number_in (at ds 0) })
step_of name.Tick ds = step.Tick (record { slot = number_in (at ds 0) })
step_of name.Idle ds = step.Idle (record {})
step_of name.Dispatch ds = step.Dispatch (record { vcpu = number_in (at ds 0) })
step_of name.Preempt ds = step.Preempt (record { vcpu = number_in (at ds 0) })
step_of name.Leave ds = step.Leave (record { vcpu = number_in (at ds 0) })
step_of name.Take ds = step.Take (record { vcpu = number_in (at ds 0) })
step_of name.Fetch ds = step.Fetch (record { vcpu = number_in (at ds 0); row = number_in (at ds 1); generation = born_in (at ds 2) })
step_of name.Access ds = step.Access (record { vcpu = number_in (at ds 0); row = number_in (at ds 1); address = number_in (at ds 2); size = number_in (at ds 3); direction = direction_in (at ds 4); value = number_in (at ds 5); generation = born_in (at ds 6) })
step_of name.Fault ds = step.Fault (record { vcpu = number_in (at ds 0); address = number_in (at ds 1); size = number_in (at ds 2); access = access_in (at ds 3); generation = born_in (at ds 4) })
step_of name.Balance ds = step.Balance (record {})
step_of name.Sample ds = step.Sample (record { row = number_in (at ds 0); parent = number_in (at ds 1); source = number_in (at ds 2); generation = born_in (at ds 3) })
step_of name.Pin ds = step.Pin (record { row = number_in (at ds 0); vcpu = number_in (at ds 1); generation = born_in (at ds 2) })

guest_back : (v : ℕ) (o : Option ByGuest) → guest_in (Number8 v ∷ guest_data o) ≡ o
guest_back v None = refl
guest_back v (Some g) = refl

-- a step is that of its name and its data
pub step_back : (s : Step) → step_of (name_of s) (step_data s) ≡ s
step_back (step.Kick s) = ap (λ (o : Option ByGuest). step.Kick (record { vcpu = s.vcpu; guest = o })) (guest_back s.vcpu s.guest)
step_back (step.Resume s) = ap (λ (o : Option ByGuest). step.Resume (record { vcpu = s.vcpu; guest = o })) (guest_back s.vcpu s.guest)
step_back (step.Pause s) = ap (λ (o : Option ByGuest). step.Pause (record { vcpu = s.vcpu; guest = o })) (guest_back s.vcpu s.guest)
step_back (step.Halt s) = ap (λ (o : Option ByGuest). step.Halt (record { vcpu = s.vcpu; guest = o })) (guest_back s.vcpu s.guest)
step_back (step.Reset s) = ap (λ (o : Option ByGuest). step.Reset (record { vcpu = s.vcpu; guest = o })) (guest_back s.vcpu s.guest)
step_back (step.Bad s) = refl
step_back s = refl
