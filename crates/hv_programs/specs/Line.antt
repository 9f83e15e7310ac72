-- How a line is kept: its steps, how many of them stand, and the way that it goes.
use Rattle.std.specs.Prelude.{ℕ, zero, suc, ◌<◌, ◌≤◌, Option, None, Some, Ok, List, [], ◌∷◌, ◌++◌, drop, length, slice_get}
use Rattle.std.specs.Option.{option_to_list}
use Rattle.hv_answer.specs.declared.reply.Reply.{Reply}
use Rattle.hv_answer.specs.declared.reply.Reply.TheVariants as reply
use Rattle.hv_kinds.specs.declared.generation.Generation.{Generation}
use Rattle.hv_region.specs.declared.plan.GuestPlan.{GuestPlan}
use Rattle.hv_refusal.specs.declared.refusal.Refusal.{Refusal}
use Rattle.hv_text.specs.declared.limits.TheConstants.{SLOTS, GUEST_VCPUS, GUEST_REGIONS, VCPUS}
use Rattle.hv_rules.specs.Carry.{Carry, nothing}
use Rattle.hv_rules.specs.Line as line
use Rattle.hv_rules.specs.Line.{Place, ends_for, later_verdict, place_after, why_refused}
use Rattle.hv_rules.specs.Refused.{refusal_of}
use Rattle.hv_programs.specs.declared.line.Way.{Way}
use Rattle.hv_programs.specs.declared.line.Way.TheVariants as way
use Rattle.hv_programs.specs.declared.verdict.Verdict.{Verdict}
use Rattle.hv_programs.specs.declared.verdict.Verdict.TheVariants as verdict

-- The first steps of a list, the last one first.
abbrev pub latest : List line.Ask → ℕ → List line.Ask
latest steps zero = []
latest steps (suc n) = option_to_list (slice_get steps n) ++ latest steps n

-- A place is kept by the line's steps, how many of them stand, and the way.
abbrev pub place_of : Way → List line.Ask → ℕ → Place
place_of way.On steps made = line.on (latest steps made) (drop made steps)
place_of (way.Back why) steps made = line.back why.value (latest steps made)
place_of (way.Over why) steps made = line.over why.value

-- What a reply says of a line.
abbrev pub verdict_of : Verdict → line.Verdict
verdict_of verdict.GoesOn = line.goes_on
verdict_of (verdict.TurnsBack why) = line.turns_back why.value
verdict_of (verdict.Ends why) = line.ends why.value

-- The verdict on a step that so many steps precede.
abbrev pub verdict_at : ℕ → line.Ask → Reply → line.Verdict
verdict_at zero ask r = ends_for (refusal_of r)
verdict_at (suc n) ask r = later_verdict ask r

-- The refusal of a verdict.
abbrev pub refusal_in : line.Verdict → Option Refusal
refusal_in line.goes_on = None
refusal_in (line.turns_back why) = Some why
refusal_in (line.ends why) = Some why

-- For what a reply ends a line or turns it back, if it does; one that has turned back or ended stays so.
abbrev pub refused_by : Place → Reply → Option Refusal
refused_by (line.on made todo) r = why_refused (place_after (line.on made todo) r)
refused_by _ r = None

-- A look is at a VCPU of the board, and a step of a guest's VCPU is of one that a guest can have.
abbrev pub IsAsk : line.Ask → Type 0
IsAsk (line.look vcpu) = vcpu < VCPUS
IsAsk (line.add_vcpu index) = index < GUEST_VCPUS
IsAsk (line.drop_vcpu index) = index < GUEST_VCPUS
IsAsk (line.change what index) = index < GUEST_VCPUS
IsAsk _ = Unit {0}

abbrev pub AreAsks : List line.Ask → Type 0
AreAsks [] = Unit {0}
AreAsks (ask ∷ asks) = IsAsk ask × AreAsks asks

-- A guest's slot is one of the board's.
abbrev pub IsGuest : Option (ℕ × ℕ) → Type 0
IsGuest None = Unit {0}
IsGuest (Some guest) = guest.0 < SLOTS

abbrev pub IsGiven : Option Generation → Type 0
IsGiven None = Unit {0}
IsGiven (Some generation) = generation.slot < SLOTS

-- A claim gives one of the board's slots.
abbrev pub GivesSlot : Reply → Type 0
GivesSlot (reply.Name (Ok claimed)) = claimed.slot < SLOTS
GivesSlot _ = Unit {0}

-- A plan has no more VCPUs and regions than a guest can have.
abbrev pub IsPlanned : Option GuestPlan → Type 0
IsPlanned None = Unit {0}
IsPlanned (Some plan) = (length plan.vcpus.items ≤ GUEST_VCPUS) × (length plan.regions.items ≤ GUEST_REGIONS)

-- Slot and birth of a guest are handed over, and nothing else.
abbrev pub with_guest : Option (ℕ × ℕ) → Carry
with_guest guest = record nothing { guest = guest }

-- What holds of a line as it is kept.
pub record IsKept (steps : List line.Ask) (made : ℕ) (guest : Option (ℕ × ℕ)) : Type 0 where
  pub stands : made ≤ length steps
  pub asks : AreAsks steps
  pub guest_is : IsGuest guest
