-- The states that the VCPUs of a board had, as a history tells them.
use Rattle.std.specs.Prelude.{◌≡◌, ℕ, zero, suc, ◌==◌, Bool, true, false, if◌then◌else◌, Option, None, Some, Ok, List, [], ◌∷◌, ◌++◌, codes, filter_map, length}
use Rattle.std.specs.Fmt.{decimal}
use Rattle.std.specs.List.{AllByRecursion, flat_map, range_with_len}
use Rattle.hv_answer.specs.declared.reply.Outcome.{Outcome}
use Rattle.hv_answer.specs.declared.reply.Outcome.TheVariants.{Wait}
use Rattle.hv_answer.specs.declared.reply.Reply.{Reply}
use Rattle.hv_answer.specs.declared.reply.Reply.TheVariants as reply
use Rattle.hv_data.specs.Text.{state_text}
use Rattle.hv_event.specs.declared.event.ActorId.{ActorId}
use Rattle.hv_event.specs.declared.event.ActorId.TheVariants.{Hart}
use Rattle.hv_event.specs.declared.event.Event.{Event}
use Rattle.hv_kinds.specs.declared.state.State.{State}
use Rattle.hv_kinds.specs.declared.state.State.TheVariants.{Unknown, Reset, Ready, Running, Paused, Halted}
use Rattle.hv_step.specs.declared.step.Step.{Step}
use Rattle.hv_step.specs.declared.step.Step.TheVariants as step
use Rattle.hv_text.specs.declared.limits.TheConstants.{VCPUS}
use Rattle.hv_model.specs.Transcript.{line}

-- An instruction that waits pauses its VCPU until an interrupt comes.
abbrev pub waiting : (vcpu : ℕ) → Outcome → Option (ℕ × State)
waiting vcpu Wait = Some (vcpu, Paused true)
waiting vcpu outcome = None

-- The VCPU whose state a step changes, if it changes one, and the state that it leads to.
abbrev pub led_to : ActorId → Step → Reply → Option (ℕ × State)
led_to by (step.Vadd s) (reply.Vadd (Ok done)) = Some (s.vcpu, Reset)
led_to by (step.Vdrop s) (reply.Vdrop (Ok done)) = Some (s.vcpu, Unknown)
led_to by (step.Kick s) (reply.Kick (Ok done)) = Some (s.vcpu, Ready)
led_to by (step.Resume s) (reply.Resume (Ok done)) = Some (s.vcpu, Ready)
led_to by (step.Pause s) (reply.Pause (Ok done)) = Some (s.vcpu, Paused false)
led_to by (step.Halt s) (reply.Halt (Ok done)) = Some (s.vcpu, Halted)
led_to by (step.Reset s) (reply.Reset (Ok done)) = Some (s.vcpu, Reset)
led_to (Hart h) (step.Dispatch s) (reply.Dispatch (Ok slice)) = Some (s.vcpu, Running h)
led_to by (step.Preempt s) r = Some (s.vcpu, Ready)
led_to by (step.Fetch s) (reply.Fetch (Some fetched)) = waiting s.vcpu fetched.outcome
led_to by (step.Pin s) (reply.Pin (Some pinned)) = if pinned.woke then Some (s.vcpu, Ready) else None
led_to by s r = None

-- The state of a VCPU, where it is the one that is changed.
abbrev pub if_of : (vcpu : ℕ) → Option (ℕ × State) → Option State
if_of vcpu None = None
if_of vcpu (Some led) = if vcpu == led.0 then Some led.1 else None

-- The states that a VCPU came to, in order of change.
abbrev pub changes_of : List Event → (vcpu : ℕ) → List State
changes_of H vcpu = filter_map (λ e. if_of vcpu (led_to e.actor e.step e.reply)) H

-- VCPU 0 is there from the start, and is Reset then; the others are Unknown, which isn't told.
abbrev pub first_states : (vcpu : ℕ) → List State
first_states zero = Reset ∷ []
first_states (suc v) = []

abbrev pub states_of : List Event → (vcpu : ℕ) → List State
states_of H vcpu = first_states vcpu ++ changes_of H vcpu

abbrev pub last_of : State → List State → State
last_of state [] = state
last_of state (next ∷ states) = last_of next states

-- A VCPU that had a state is told with all of them, or briefly with their number and the last one.
abbrev pub states_line : (brief : Bool) → (vcpu : ℕ) → List State → List ℕ
states_line brief vcpu [] = []
states_line false vcpu (state ∷ states) =
    line (codes "vcpu " ++ decimal vcpu ++ flat_map (λ s. 32 ∷ state_text s) (state ∷ states))
states_line true vcpu (state ∷ states) =
    line (codes "vcpu " ++ decimal vcpu ++ 32 ∷ decimal (length (state ∷ states)) ++ 32 ∷ state_text (last_of state states))

-- The VCPUs by number, with these states.
abbrev pub states_shown : (brief : Bool) → (ℕ → List State) → List ℕ
states_shown brief states = line (codes "states") ++ flat_map (λ v. states_line brief v (states v)) (range_with_len 0 VCPUS)

abbrev pub states_text : (brief : Bool) → List Event → List ℕ
states_text brief H = states_shown brief (states_of H)

-- No step of a history changes a VCPU.
abbrev pub ArePlain : List Event → Type 0
ArePlain H = AllByRecursion (λ e. led_to e.actor e.step e.reply ≡ None) H
