-- How the steps of a line are kept.
use Rattle.std.specs.Prelude.{ℕ, Bool, if◌then◌else◌, List, [], ◌∷◌, map, replicate}
use Rattle.hv_region.specs.declared.plan.RegionPlan.{RegionPlan}
use Rattle.hv_rules.specs.Line as line
use Rattle.hv_rules.specs.Line.{each, of_rows, is_built, is_built_alias, is_owned, has_device}
use Rattle.hv_programs.specs.declared.ask.Change.{Change}
use Rattle.hv_programs.specs.declared.ask.Change.TheVariants as change
use Rattle.hv_programs.specs.declared.ask.Asked.{Asked}
use Rattle.hv_programs.specs.declared.ask.Asked.TheVariants as asked
use Rattle.hv_programs.specs.declared.ask.Ask.{Ask}
use Rattle.hv_programs.specs.declared.ask.Ask.TheVariants as ask
use Rattle.hv_programs.specs.declared.ask.Numbered.{Numbered}
use Rattle.hv_programs.specs.declared.ask.Numbered.TheVariants as kind
use Rattle.hv_programs.specs.declared.ask.Choice.{Choice}
use Rattle.hv_programs.specs.declared.ask.Choice.TheVariants as choice
use Rattle.hv_programs.specs.declared.ask.Steps.{Steps}
use Rattle.hv_programs.specs.declared.ask.Steps.TheVariants.{Rests, Listed}

-- What is asked of each VCPU of a guest.
abbrev pub change_of : Change → line.Change
change_of change.Kick = line.kick
change_of change.Resume = line.resume
change_of change.Pause = line.pause
change_of change.Halt = line.halt
change_of change.Reset = line.reset

-- What a line asks for.
abbrev pub asked_of : Asked → line.Asked
asked_of (asked.Rests count) = line.rests count
asked_of asked.Looks = line.looks
asked_of (asked.Create name) = line.create name
asked_of (asked.Destroy name) = line.destroy name
asked_of (asked.EachVcpu what name) = line.each_vcpu (change_of what) name

-- One step of a line.
abbrev pub ask_of : Ask → line.Ask
ask_of ask.Rest = line.rest
ask_of (ask.Look vcpu) = line.look vcpu
ask_of ask.Claim = line.claim
ask_of (ask.Turn from to) = line.turn from to
ask_of (ask.Add row) = line.add row
ask_of (ask.Drop stage row) = line.drop stage row
ask_of (ask.AddVcpu index) = line.add_vcpu index
ask_of (ask.DropVcpu index) = line.drop_vcpu index
ask_of (ask.Change what index) = line.change (change_of what) index
ask_of (ask.ResetDevice row) = line.reset_device row

-- The step of a kind with a number.
abbrev pub numbered : Numbered → ℕ → line.Ask
numbered kind.Look number = line.look number
numbered kind.Add number = line.add number
numbered (kind.Drop stage) number = line.drop stage number
numbered kind.AddVcpu number = line.add_vcpu number
numbered kind.DropVcpu number = line.drop_vcpu number
numbered (kind.Change what) number = line.change (change_of what) number
numbered kind.ResetDevice number = line.reset_device number

-- Whether a region is among those that are chosen.
abbrev pub chosen : Choice → RegionPlan → Bool
chosen choice.Built region = is_built region
chosen choice.BuiltAliases region = is_built_alias region
chosen choice.Owned region = is_owned region
chosen choice.Devices region = has_device region

abbrev pub one_of : line.Ask → List line.Ask
one_of asked = asked ∷ []

-- A step for each number below a count.
abbrev pub each_of : Numbered → (count : ℕ) → List line.Ask
each_of kind count = each (numbered kind) count

-- A step for a region in a row, if it is chosen.
abbrev pub row_of : Numbered → Choice → (row : ℕ) → RegionPlan → List line.Ask
row_of kind choice row region = if chosen choice region then numbered kind row ∷ [] else []

-- A step for each region that is chosen, by row from a number on.
abbrev pub rows_of : Numbered → Choice → (row : ℕ) → List RegionPlan → List line.Ask
rows_of kind choice row regions = of_rows (numbered kind) (chosen choice) row regions

-- The steps of the life of a guest, and of its end.
abbrev pub life_of : (vcpus : ℕ) → List RegionPlan → List line.Ask
life_of vcpus regions = line.steps_of (line.create []) vcpus regions

abbrev pub end_of : (vcpus : ℕ) → List RegionPlan → List line.Ask
end_of vcpus regions = line.steps_of (line.destroy []) vcpus regions

-- The steps of a change of each VCPU.
abbrev pub changes_of : Change → (vcpus : ℕ) → List RegionPlan → List line.Ask
changes_of what vcpus regions = line.steps_of (line.each_vcpu (change_of what) []) vcpus regions

-- The steps of a line.
abbrev pub steps_in : Steps → List line.Ask
steps_in (Rests count) = replicate count line.rest
steps_in (Listed asks) = map ask_of asks.items
