-- What is due of a task, whatever generation the directory gives.
use Rattle.std.proofs.Common.{◌≡◌, ◌≢◌, ◌≤◌, ℕ, zero, suc, List, [], ◌∷◌, ◌++◌, Some, None, refl, ap, ◌∙◌, sym, arith, replicate, length}
use Rattle.std.specs.Prelude.{Option, IfSome}
use Rattle.hv_kinds.specs.declared.generation.Generation.{Generation}
use Rattle.hv_region.specs.declared.plan.GuestPlan.{GuestPlan}
use Rattle.hv_region.specs.declared.plan.RegionPlan.{RegionPlan}
use Rattle.hv_step.specs.declared.step.Step.{Step}
use Rattle.hv_step.specs.declared.step.Step.TheVariants as step
use Rattle.hv_rules.specs.Line as line
use Rattle.hv_rules.specs.Line.{Ask, Asked, Change, LineState, begun_for, each, first, left, next_step, step_for, step_of, steps_of}
use Rattle.hv_model.specs.Shown.{showing}
use Rattle.hv_words.specs.Commands.{FitAll, Gives, NumberGiven, RestCount}
use Rattle.hv_words.specs.declared.command.Command.{Command}
use Rattle.hv_words.specs.declared.command.Command.TheVariants as command
use Rattle.hv_terminals.specs.Due.{guest_shown, shown_at, vcpu_shown}
use Rattle.hv_terminals.specs.Plans.{HasVcpu}
use Rattle.hv_terminals.specs.Task.{HasSteps, index_in}
use Rattle.hv_terminals.specs.Work.{IsOnce, IsRead, IsSeveral}

change-shown : (l : LineState) (given : Option Generation) (what : Change) (index : ℕ) → shown_at index given (step_of l None (line.change what index)) ≡ step_of l given (line.change what index)
change-shown l given line.kick index = refl
change-shown l given line.resume index = refl
change-shown l given line.pause index = refl
change-shown l given line.halt index = refl
change-shown l given line.reset index = refl

-- a step of a line that shows a generation is the one that the line has where the directory gives it
ask-shown : (l : LineState) (given : Option Generation) (a : Ask) → shown_at (index_in a) given (step_of l None a) ≡ step_of l given a
ask-shown l given (line.change what index) = change-shown l given what index
ask-shown l given _ = refl

pub line_shown :
    (l : LineState) (a : Ask) (i : ℕ) (s : Step) (given : Option Generation)
    → Some a ≡ first (left l.place) → i ≡ index_in a → Some s ≡ next_step l None
    → next_step l given ≡ Some (shown_at i given s)
line_shown l a i s given first-is index asked =
    let now : next_step l None ≡ Some (step_of l None a) = ap (step_for l None) (sym first-is) in
    let same : s ≡ step_of l None a = cc (asked, now) in
    ap (step_for l given) (sym first-is)
    ∙ ap (λ (t : Step). Some t) (sym (ap (λ (t : Step). shown_at i given t) same ∙ ap (λ (n : ℕ). shown_at n given (step_of l None a)) index ∙ ask-shown l given a))

-- a command of one step shows what any step by guest does
pub once_shown : (s : Step) (given : Option Generation) → IsOnce s → shown_at 0 given s ≡ showing given s
once_shown (step.Kick s) given is =
    ap (λ by. step.Kick (record { vcpu = vcpu_shown 0 given s.vcpu by; guest = guest_shown given by })) is
    ∙ sym (ap (λ by. step.Kick (record { vcpu = s.vcpu; guest = by })) is)
once_shown (step.Resume s) given is =
    ap (λ by. step.Resume (record { vcpu = vcpu_shown 0 given s.vcpu by; guest = guest_shown given by })) is
    ∙ sym (ap (λ by. step.Resume (record { vcpu = s.vcpu; guest = by })) is)
once_shown (step.Pause s) given is =
    ap (λ by. step.Pause (record { vcpu = vcpu_shown 0 given s.vcpu by; guest = guest_shown given by })) is
    ∙ sym (ap (λ by. step.Pause (record { vcpu = s.vcpu; guest = by })) is)
once_shown (step.Halt s) given is =
    ap (λ by. step.Halt (record { vcpu = vcpu_shown 0 given s.vcpu by; guest = guest_shown given by })) is
    ∙ sym (ap (λ by. step.Halt (record { vcpu = s.vcpu; guest = by })) is)
once_shown (step.Reset s) given is =
    ap (λ by. step.Reset (record { vcpu = vcpu_shown 0 given s.vcpu by; guest = guest_shown given by })) is
    ∙ sym (ap (λ by. step.Reset (record { vcpu = s.vcpu; guest = by })) is)
once_shown _ given is = refl

-- the first of steps stands before those behind them
first-append : (xs ys : List Ask) → first xs ≢ None → first (xs ++ ys) ≢ None
first-append [] ys some = absurd (some refl)
first-append (x ∷ xs) ys some = some

each-some : (ask : ℕ → Ask) (count : ℕ) → 1 ≤ count → first (each ask count) ≢ None
each-some ask zero some = absurd (omega arith)
each-some ask (suc zero) some = λ is. absurd (cc is)
each-some ask (suc (suc n)) some = first-append (each ask (suc n)) (ask (suc n) ∷ []) (each-some ask (suc n) (omega arith))

rests-some : (count : ℕ) → 1 ≤ count → first (replicate count line.rest) ≢ None
rests-some zero some = absurd (omega arith)
rests-some (suc n) some = λ is. absurd (cc is)

changes-some : (what : Change) (name : List ℕ) (vcpus : ℕ) (regions : List RegionPlan) → 1 ≤ vcpus → first (steps_of (line.each_vcpu what name) vcpus regions) ≢ None
changes-some line.reset name vcpus regions some = first-append (each (line.change line.reset) vcpus) _ (each-some (line.change line.reset) vcpus some)
changes-some line.kick name vcpus regions some = each-some (line.change line.kick) vcpus some
changes-some line.resume name vcpus regions some = each-some (line.change line.resume) vcpus some
changes-some line.pause name vcpus regions some = each-some (line.change line.pause) vcpus some
changes-some line.halt name vcpus regions some = each-some (line.change line.halt) vcpus some

steps-some : (asked : Asked) (vcpus : ℕ) (regions : List RegionPlan) → IsSeveral asked → 1 ≤ vcpus → first (steps_of asked vcpus regions) ≢ None
steps-some (line.rests count) vcpus regions is some = rests-some count is
steps-some line.looks vcpus regions is some = each-some line.look 33 (omega arith)
steps-some (line.create name) vcpus regions is some = λ is. absurd (cc is)
steps-some (line.destroy name) vcpus regions is some = λ is. absurd (cc is)
steps-some (line.each_vcpu what name) vcpus regions is some = changes-some what name vcpus regions some

-- a line that is begun has steps
pub begun_has_steps : (asked : Asked) (plan : Option GuestPlan) → IsSeveral asked → IfSome plan HasVcpu → HasSteps (begun_for asked plan)
begun_has_steps asked None is some = steps-some asked 1 [] is (omega arith)
begun_has_steps asked (Some plan) is some = steps-some asked (length plan.vcpus.items) plan.regions.items is some

fit-rests : (words : List (List ℕ)) (count : ℕ) → FitAll (RestCount ∷ []) words (NumberGiven count ∷ []) → IsRead (command.TermRest count)
fit-rests [] count fit = absurd fit
fit-rests (word ∷ words) count fit = (fit.0.1, fit.0.2)

-- a command that a line gives is one that was read
pub read_is : (text : List ℕ) (c : Command) → Gives text c → IsRead c
read_is text (command.TermRest count) gives = fit-rests gives.arguments count gives.fit
read_is text _ gives = tt
