-- A terminal's next step, as it is asked, and how long a script may be that it runs.
use Rattle.std.specs.Prelude.{◌≡◌, ◌≢◌, ℕ, ◌-◌, nat_le, if◌then◌else◌, Option, None, Some, Result, Err, List}
use Rattle.std.specs.Option.{option_map}
use Rattle.hv_answer.specs.declared.reply.Reply.{Reply}
use Rattle.hv_answer.specs.declared.reply.Reply.TheVariants as reply
use Rattle.hv_kinds.specs.declared.generation.Generation.{Generation}
use Rattle.hv_region.specs.declared.plan.RegionPlan.{RegionPlan}
use Rattle.hv_region.specs.declared.plan.VcpuPlan.{VcpuPlan}
use Rattle.hv_refusal.specs.declared.refusal.Refusal.{Refusal}
use Rattle.hv_refusal.specs.declared.refusal.Refusal.TheVariants as refusal
use Rattle.hv_step.specs.declared.step.ByGuest.{ByGuest}
use Rattle.hv_step.specs.declared.step.Step.{Step}
use Rattle.hv_step.specs.declared.step.Step.TheVariants as step
use Rattle.hv_text.specs.declared.limits.TheConstants.{OPEN_SCRIPTS, MOST_LINES}
use Rattle.hv_rules.specs.Line.{given_vcpu}
use Rattle.hv_model.specs.Plans.{Planned, planned, refusal_for, region_of, row_of, vcpus_of}
use Rattle.hv_model.specs.Shown.{showing}
use Rattle.hv_model.specs.Terminal.{LengthAnswers, vcpu_given}
use Rattle.hv_terminals.specs.Plans.{refusal_in, region_given}
use Rattle.hv_terminals.specs.declared.due.Hands.{Hands}

-- How many lines a script may have that is run now, where so many are open that have so many lines; none where too many
-- are open.
abbrev pub room_for : (depth lines : ℕ) → Option ℕ
room_for depth lines = if nat_le OPEN_SCRIPTS depth then None else Some (MOST_LINES - lines)

-- The VCPU and the guest of a change, where the directory gives this generation.
abbrev pub vcpu_shown : (index : ℕ) → (given : Option Generation) → (vcpu : ℕ) → Option ByGuest → ℕ
vcpu_shown index given vcpu None = vcpu
vcpu_shown index given vcpu (Some by) = given_vcpu given index

abbrev pub guest_shown : (given : Option Generation) → Option ByGuest → Option ByGuest
guest_shown given None = None
guest_shown given (Some by) = Some (record by { generation = given })

-- A step that is due, where the directory gives this generation: a step by guest shows it, and a change of a VCPU the
-- number of the VCPU too.
abbrev pub shown_at : (index : ℕ) → (given : Option Generation) → Step → Step
shown_at index given (step.Kick s) =
    step.Kick (record { vcpu = vcpu_shown index given s.vcpu s.guest; guest = guest_shown given s.guest })
shown_at index given (step.Resume s) =
    step.Resume (record { vcpu = vcpu_shown index given s.vcpu s.guest; guest = guest_shown given s.guest })
shown_at index given (step.Pause s) =
    step.Pause (record { vcpu = vcpu_shown index given s.vcpu s.guest; guest = guest_shown given s.guest })
shown_at index given (step.Halt s) =
    step.Halt (record { vcpu = vcpu_shown index given s.vcpu s.guest; guest = guest_shown given s.guest })
shown_at index given (step.Reset s) =
    step.Reset (record { vcpu = vcpu_shown index given s.vcpu s.guest; guest = guest_shown given s.guest })
shown_at index given s = showing given s

-- The reply to a run is TooDeep where no script may be opened; else the length decides, where a script was found with its
-- number of lines.
abbrev pub RunFits : (room found : Option ℕ) → Result (List ℕ) Refusal → Type 0
RunFits None found r = r ≡ Err refusal.TooDeep
RunFits (Some room) None r = r ≢ Err refusal.TooDeep
RunFits (Some room) (Some lines) r = LengthAnswers (nat_le lines room) r

-- What a terminal hands over for a step: why no guest is made of a name, the row of a region, its plan with the number of
-- its guest's VCPUs, index and plan of a VCPU, and how many lines a script may have that is run.
pub record Handing : Type 0 where
  pub stopped : Option Refusal
  pub row : Option ℕ
  pub plan : Option (RegionPlan × ℕ)
  pub vcpu : Option (ℕ × VcpuPlan)
  pub room : Option ℕ

abbrev pub handing : Hands → Handing
handing hands = record {
  stopped = option_map refusal_in hands.stopped;
  row = hands.row;
  plan = region_given hands.plan;
  vcpu = hands.vcpu;
  room = hands.room;
}

-- Nothing is handed over.
abbrev pub no_handing : Handing
no_handing = record { stopped = None; row = None; plan = None; vcpu = None; room = None }

-- What is handed over for a step, of a line on a guest, where a script may have so many lines.
abbrev pub handing_for : List Planned → (guest : List ℕ) → (room : Option ℕ) → Step → Handing
handing_for plans guest room (step.Run s) = record no_handing { room = room }
handing_for plans guest room (step.Name s) = record no_handing { stopped = refusal_for (planned plans s.name) }
handing_for plans guest room (step.Add s) =
    record no_handing { row = row_of plans s.name s.region; plan = region_of plans s.name s.region }
handing_for plans guest room (step.Drop s) = record no_handing { row = row_of plans s.name s.region }
handing_for plans guest room (step.Devreset s) = record no_handing { row = row_of plans s.name s.region }
handing_for plans guest room (step.Feed s) = record no_handing { row = row_of plans s.name s.region }
handing_for plans guest room (step.Output s) = record no_handing { row = row_of plans s.name s.region }
handing_for plans guest room (step.Vadd s) = record no_handing { vcpu = vcpu_given (vcpus_of plans guest) s.vcpu }
handing_for plans guest room s = no_handing

-- The reply that a terminal gives itself: a rest is done.
abbrev pub own_reply : Step → Option Reply
own_reply (step.Rest s) = Some reply.Rest
own_reply s = None
