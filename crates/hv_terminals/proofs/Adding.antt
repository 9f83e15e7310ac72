-- A line adds the VCPUs of its guest's plan, whatever is replied.
use Rattle.std.proofs.Common.{◌≡◌, ℕ, zero, suc, ◌+◌, ◌<◌, ◌≤◌, Bool, true, false, if◌then◌else◌, List, [], ◌∷◌, ◌++◌, Some, None, Ok, Err, length, map, replicate, refl, ap, ◌∙◌, sym, subst, arith}
use Rattle.std.specs.Prelude.{Option, Result, cond, find}
use Rattle.std.specs.List.{AllByRecursion}
use Rattle.std.specs.Option.{IfSome}
use Rattle.hv_answer.specs.declared.reply.Reply.{Reply}
use Rattle.hv_answer.specs.declared.reply.Reply.TheVariants as reply
use Rattle.hv_kinds.specs.declared.generation.Generation.{Generation}
use Rattle.hv_kinds.specs.declared.stage.Stage.TheVariants.{Making, Made, Ending}
use Rattle.hv_refusal.specs.declared.refusal.Refusal.{Refusal}
use Rattle.hv_refusal.specs.declared.refusal.Refusal.TheVariants as refusal
use Rattle.hv_region.specs.declared.plan.GuestPlan.{GuestPlan}
use Rattle.hv_region.specs.declared.plan.RegionPlan.{RegionPlan}
use Rattle.hv_step.specs.declared.step.Step.{Step}
use Rattle.hv_step.specs.declared.step.Step.TheVariants as step
use Rattle.hv_text.specs.declared.limits.TheConstants.{GUEST_VCPUS, GUEST_REGIONS, VCPUS}
use Rattle.hv_words.specs.Said.{said}
use Rattle.hv_words.specs.declared.command.Command.{Command}
use Rattle.hv_words.specs.declared.refusal.WordsRefusal.{WordsRefusal}
use Rattle.hv_rules.specs.Carry.{Carry}
use Rattle.hv_rules.specs.Line as line
use Rattle.hv_rules.specs.Line.{Ask, Asked, LineState, Place, Verdict, begun_for, each, guest_name, learnt, left, line_after, moved, next_step, of_rows, place_after, steps_of, undoing, verdict}
use Rattle.hv_model.specs.declared.entry.Entry.{Entry}
use Rattle.hv_model.specs.Plans.{Planned, good, is_named, plan_of, planned, refusal_for, vcpus_in, vcpus_of}
use Rattle.hv_model.specs.Session.{Begun, Present, Session, begun, first_of, goes, kept, kept_for, left_of, made_at, present, present_with, task_for, task_of}
use Rattle.hv_model.specs.Shown.{shown_in}
use Rattle.hv_model.specs.Terminal.{FitsPresent, FitsTask, Goes, IsNextStep, TerminalAgrees, TerminalState, terminal_after, terminal_with}
use Rattle.hv_model.specs.Work.{Work, line_of, once, plan_for, several, work_of}
use Rattle.hv_programs.specs.Line.{AreAsks, GivesSlot, IsAsk, IsGuest}
use Rattle.hv_programs.proofs.Asks.{steps_are}
use Rattle.hv_terminals.specs.Adding.{AddsItsVcpus, AddsItsVcpusIf, AddsWithin, IsAskWithin, IsStoppedSo, LineAddsItsVcpus}
use Rattle.hv_terminals.specs.Plans.{AreSized, IsSized, IsSizedPlan}

-- what holds of the steps of a line
module _ (P : Ask → Type 0) where
  all-append : (xs ys : List Ask) → AllByRecursion P xs → AllByRecursion P ys → AllByRecursion P (xs ++ ys)
  all-append [] ys a b = b
  all-append (x ∷ xs) ys a b = (a.0, all-append xs ys a.1 b)

  all-each : (ask : ℕ → Ask) (count : ℕ) → ((n : ℕ) → n < count → P (ask n)) → AllByRecursion P (each ask count)
  all-each ask zero are = tt
  all-each ask (suc n) are =
      all-append (each ask n) (ask n ∷ []) (all-each ask n (λ k below. are k (omega arith))) (are n (omega arith), tt)

  all-if : (ask : Ask) (b : Bool) → P ask → AllByRecursion P (if b then ask ∷ [] else [])
  all-if ask true is = (is, tt)
  all-if ask false is = tt

  all-rows : (ask : ℕ → Ask) (chosen : RegionPlan → Bool) (row : ℕ) (regions : List RegionPlan) → ((n : ℕ) → P (ask n)) → AllByRecursion P (of_rows ask chosen row regions)
  all-rows ask chosen row [] are = tt
  all-rows ask chosen row (region ∷ regions) are =
      all-append (if chosen region then ask row ∷ [] else []) (of_rows ask chosen (row + 1) regions)
      (all-if (ask row) (chosen region) (are row))
      (all-rows ask chosen (row + 1) regions are)

  all-rests : (count : ℕ) → P line.rest → AllByRecursion P (replicate count line.rest)
  all-rests zero is = tt
  all-rests (suc n) is = (is, all-rests n is)

  -- what holds of what undoes a step and of each step that is left holds of those that are left behind a reply
  module _ (undone : (ask : Ask) → P (undoing ask)) where
    all-undone : (made : List Ask) → AllByRecursion P (map undoing made)
    all-undone [] = tt
    all-undone (ask ∷ made) = (undone ask, all-undone made)

    all-moved : (made : List Ask) (ask : Ask) (todo : List Ask) (v : Verdict) → AllByRecursion P todo → AllByRecursion P (left (moved made ask todo v))
    all-moved made ask todo line.goes_on all = all
    all-moved made ask todo (line.turns_back why) all = all-undone made
    all-moved made ask todo (line.ends why) all = tt

    all-after : (p : Place) (r : Reply) → AllByRecursion P (left p) → AllByRecursion P (left (place_after p r))
    all-after (line.on made []) r all = tt
    all-after (line.on made (ask ∷ todo)) r all = all-moved made ask todo (verdict made ask r) all.1
    all-after (line.back why []) r all = tt
    all-after (line.back why (ask ∷ made)) r all = all.1
    all-after (line.over why) r all = tt

-- what undoes a step adds no VCPU
undoing-within : (vcpus : ℕ) (ask : Ask) → IsAskWithin vcpus (undoing ask)
undoing-within vcpus (line.add row) = (tt, tt)
undoing-within vcpus _ = (tt, tt)

-- a line makes a guest
abbrev Creates : Asked → Type 0
Creates (line.create name) = Unit {0}
Creates _ = ⊥

-- the steps of a line add as many VCPUs as its guest has, if it makes one
steps-add : (asked : Asked) (vcpus : ℕ) (regions : List RegionPlan) (most : ℕ) → (Creates asked → vcpus ≤ most) → AllByRecursion (AddsWithin most) (steps_of asked vcpus regions)
steps-add (line.rests count) vcpus regions most few = all-rests (AddsWithin most) count tt
steps-add line.looks vcpus regions most few = all-each (AddsWithin most) line.look VCPUS (λ n below. tt)
steps-add (line.create name) vcpus regions most few =
    let P : Ask → Type 0 = AddsWithin most in
    let enough : vcpus ≤ most = few tt in
    let built : List Ask = of_rows line.add line.is_built 0 regions in
    let aliases : List Ask = of_rows line.add line.is_built_alias 0 regions in
    let added : List Ask = each line.add_vcpu vcpus in
    all-append P (line.claim ∷ [] ++ built ++ aliases ++ added) (line.turn Making (Some Made) ∷ [])
    (all-append P (line.claim ∷ [] ++ built ++ aliases) added
    (all-append P (line.claim ∷ [] ++ built) aliases
    (all-append P (line.claim ∷ []) built (tt, tt) (all-rows P line.add line.is_built 0 regions (λ n. tt)))
    (all-rows P line.add line.is_built_alias 0 regions (λ n. tt)))
    (all-each P line.add_vcpu vcpus (λ n below. omega (arith, below, enough))))
    (tt, tt)
steps-add (line.destroy name) vcpus regions most few =
    let P : Ask → Type 0 = AddsWithin most in
    let dropped : List Ask = each line.drop_vcpu vcpus in
    let owned : List Ask = of_rows (line.drop Ending) line.is_owned 0 regions in
    all-append P (line.turn Made (Some Ending) ∷ [] ++ dropped ++ owned) (line.turn Ending None ∷ [])
    (all-append P (line.turn Made (Some Ending) ∷ [] ++ dropped) owned
    (all-append P (line.turn Made (Some Ending) ∷ []) dropped (tt, tt) (all-each P line.drop_vcpu vcpus (λ n below. tt)))
    (all-rows P (line.drop Ending) line.is_owned 0 regions (λ n. tt)))
    (tt, tt)
steps-add (line.each_vcpu line.reset name) vcpus regions most few =
    all-append (AddsWithin most) (each (line.change line.reset) vcpus) (of_rows line.reset_device line.has_device 0 regions)
    (all-each (AddsWithin most) (line.change line.reset) vcpus (λ n below. tt))
    (all-rows (AddsWithin most) line.reset_device line.has_device 0 regions (λ n. tt))
steps-add (line.each_vcpu asked name) vcpus regions most few = all-each (AddsWithin most) (line.change asked) vcpus (λ n below. tt)

are-both : (most : ℕ) (asks : List Ask) → AreAsks asks → AllByRecursion (AddsWithin most) asks → AllByRecursion (IsAskWithin most) asks
are-both most [] are add = tt
are-both most (ask ∷ asks) are add = ((are.0, add.0), are-both most asks are.1 add.1)

steps-within :
    (asked : Asked) (vcpus : ℕ) (regions : List RegionPlan) (most : ℕ)
    → vcpus ≤ GUEST_VCPUS → (Creates asked → vcpus ≤ most) → AllByRecursion (IsAskWithin most) (steps_of asked vcpus regions)
steps-within asked vcpus regions most few enough =
    are-both most (steps_of asked vcpus regions) (steps_are asked vcpus regions few) (steps-add asked vcpus regions most enough)

-- a guest that is found among plans has no more VCPUs and regions than a guest can have
sized-found : (test : Planned → Bool) (plans : List Planned) → AreSized plans → IfSome (find test plans) IsSized
sized-found test [] sized = tt
sized-found test (guest ∷ plans) sized =
    elim (test guest) as (λ b. IfSome (cond b (Some guest) (find test plans)) IsSized) [
      | true ↦ sized.0
      | false ↦ sized-found test plans sized.1
    ]

sized-good : (found : Option Planned) → IfSome found IsSized → IfSome (good found) IsSizedPlan
sized-good None sized = tt
sized-good (Some (Err fault)) sized = tt
sized-good (Some (Ok plan)) sized = sized

pub sized_plan : (plans : List Planned) (name : List ℕ) → AreSized plans → IfSome (plan_of plans name) IsSizedPlan
sized_plan plans name sized = sized-good (planned plans name) (sized-found (is_named name) plans sized)

-- so has the guest that a line is about
sized-for : (plans : List Planned) (asked : Asked) → AreSized plans → IfSome (plan_for plans asked) IsSizedPlan
sized-for plans (line.create name) sized = sized_plan plans name sized
sized-for plans (line.destroy name) sized = sized_plan plans name sized
sized-for plans (line.each_vcpu what name) sized = sized_plan plans name sized
sized-for plans _ sized = tt

-- a guest that is made has as many VCPUs as its plan
few-made : (plans : List Planned) (asked : Asked) (plan : GuestPlan) → plan_for plans asked ≡ Some plan → Creates asked → length plan.vcpus.items ≤ length (vcpus_of plans (guest_name asked))
few-made plans (line.create name) plan is creates =
    let same : length (vcpus_of plans name) ≡ length plan.vcpus.items = ap (λ (found : Option GuestPlan). length (vcpus_in found)) is in
    omega (arith, same)
few-made plans (line.rests count) plan is creates = absurd creates
few-made plans line.looks plan is creates = absurd creates
few-made plans (line.destroy name) plan is creates = absurd creates
few-made plans (line.each_vcpu what name) plan is creates = absurd creates

-- a line that is begun adds VCPUs of its guest's plan, if that is a good one or no guest is made
begun-with :
    (plans : List Planned) (asked : Asked) (plan : GuestPlan)
    → plan_for plans asked ≡ Some plan → IsSizedPlan plan → AddsItsVcpus plans (begun_for asked (Some plan))
begun-with plans asked plan is sized = record {
  guest = tt;
  asks =
      steps-within asked (length plan.vcpus.items) plan.regions.items (length (vcpus_of plans (guest_name asked)))
      sized.few_vcpus (few-made plans asked plan is);
}

begun-without : (plans : List Planned) (asked : Asked) → (Creates asked → ⊥) → AddsItsVcpus plans (begun_for asked None)
begun-without plans asked none = record {
  guest = tt;
  asks = steps-within asked 1 [] (length (vcpus_of plans (guest_name asked))) (omega arith) (λ creates. absurd (none creates));
}

-- what a line knows of its guest
learnt-guest : (guest : Option (ℕ × ℕ)) (r : Reply) (c : Carry) → IsGuest guest → GivesSlot r → IsGuest c.guest → IsGuest (learnt guest r c)
learnt-guest guest (reply.Name (Ok claimed)) c is gives handed = gives
learnt-guest guest (reply.Name (Err why)) c is gives handed = is
learnt-guest guest (reply.Stage (Ok done)) c is gives handed = handed
learnt-guest guest (reply.Stage (Err why)) c is gives handed = is
learnt-guest guest _ c is gives handed = is

kept-adds : (plans : List Planned) (l : LineState) (asks : List Ask) → AddsItsVcpus plans l → AddsItsVcpusIf plans (kept_for l asks)
kept-adds plans l [] adds = tt
kept-adds plans l (ask ∷ asks) adds = adds

-- a line that adds VCPUs of its guest's plan still does so behind a reply
line-adds :
    (plans : List Planned) (l : LineState) (r : Reply) (c : Carry)
    → AddsItsVcpus plans l → GivesSlot r → IsGuest c.guest → AddsItsVcpusIf plans (kept (line_after l r c))
line-adds plans l r c adds gives handed =
    let most : ℕ = length (vcpus_of plans (guest_name l.asked)) in
    kept-adds plans (line_after l r c) (left (place_after l.place r)) (record {
      guest = learnt-guest l.guest r c adds.guest gives handed;
      asks = all-after (IsAskWithin most) (undoing-within most) l.place r adds.asks;
    })

-- a name that has no good plan is stopped
stopped-without : (found : Option Planned) → good found ≡ None → (why : Refusal) × (refusal_for found ≡ Some why)
stopped-without None none = (refusal.NoGuest, refl)
stopped-without (Some (Err fault)) none = (refusal.BadNode fault.path fault.cause, refl)
stopped-without (Some (Ok plan)) none = absurd (cc none)

-- a line whose claim is refused is over
claim-over : (plans : List Planned) (name : List ℕ) (why : Refusal) (r : Reply) (c : Carry) → r ≡ reply.Name (Err why) → AddsItsVcpusIf plans (kept (line_after (begun_for (line.create name) None) r c))
claim-over plans name why r c is =
    subst (λ (k : Reply). AddsItsVcpusIf plans (kept (line_after (begun_for (line.create name) None) k c))) (sym is) tt

-- and a line that makes a guest without a good plan has its claim refused
claim-stopped :
    (plans : List Planned) (name : List ℕ) (given : Option Generation) (s : Step) (r : Reply) (c : Carry)
    → plan_of plans name ≡ None → next_step (begun_for (line.create name) None) given ≡ Some s
    → Goes plans (begun_for (line.create name) None) s r c → IsStoppedSo s r c
    → AddsItsVcpusIf plans (kept (line_after (begun_for (line.create name) None) r c))
claim-stopped plans name given s r c none next goes-so stopped =
    let same : step.Name (record { name = name }) ≡ s = cc next in
    let claims : c.stopped ≡ refusal_for (planned plans name) =
    subst (λ (k : Step). Goes plans (begun_for (line.create name) None) k r c) (sym same) goes-so
    in
    let so : (why : Refusal) → c.stopped ≡ Some why → r ≡ reply.Name (Err why) =
    subst (λ (k : Step). IsStoppedSo k r c) (sym same) stopped
    in
    let why = stopped-without (planned plans name) none in
    claim-over plans name why.0 r c (so why.0 (claims ∙ why.1))

module _ (plans : List Planned) (sized : AreSized plans) (given : Option Generation) (s : Step) (r : Reply) (c : Carry)
    (stopped : IsStoppedSo s r c) (gives : GivesSlot r) (handed : IsGuest c.guest) where
  -- the first step of a line leaves one that adds VCPUs of its guest's plan, or none
  first-adds :
      (asked : Asked) (plan : Option GuestPlan)
      → plan_for plans asked ≡ plan → IfSome plan IsSizedPlan → next_step (begun_for asked plan) given ≡ Some s → Goes plans (begun_for asked plan) s r c
      → AddsItsVcpusIf plans (kept (line_after (begun_for asked plan) r c))
  first-adds asked (Some plan) is few next goes-so = line-adds plans (begun_for asked (Some plan)) r c (begun-with plans asked plan is few) gives handed
  first-adds (line.create name) None is few next goes-so = claim-stopped plans name given s r c is next goes-so stopped
  first-adds (line.rests count) None is few next goes-so = line-adds plans (begun_for (line.rests count) None) r c (begun-without plans (line.rests count) (λ no'. no')) gives handed
  first-adds line.looks None is few next goes-so = line-adds plans (begun_for line.looks None) r c (begun-without plans line.looks (λ no'. no')) gives handed
  first-adds (line.destroy name) None is few next goes-so = line-adds plans (begun_for (line.destroy name) None) r c (begun-without plans (line.destroy name) (λ no'. no')) gives handed
  first-adds (line.each_vcpu what name) None is few next goes-so = line-adds plans (begun_for (line.each_vcpu what name) None) r c (begun-without plans (line.each_vcpu what name) (λ no'. no')) gives handed

module _ (plans : List Planned) (sized : AreSized plans) (lines : ℕ) (s : Step) (r : Reply) (c : Carry)
    (stopped : IsStoppedSo s r c) (gives : GivesSlot r) (handed : IsGuest c.guest) where
  -- so does a command that is begun
  work-adds : (p : Present) (w : Work) → FitsTask plans p lines (task_for plans w) s r c → AddsItsVcpusIf plans (left_of (task_for plans w) r c)
  work-adds p (once asked) fits = tt
  work-adds p (several asked) fits =
      first-adds plans sized (shown_in s) s r c stopped gives handed asked (plan_for plans asked) refl (sized-for plans asked sized) fits.0 fits.1

  read-adds : (p : Present) (text : List ℕ) (read : Result Command WordsRefusal) → FitsTask plans p lines (task_of plans text read) s r c → AddsItsVcpusIf plans (left_of (task_of plans text read) r c)
  read-adds p text (Ok asked) fits = work-adds p (work_of asked) fits
  read-adds p text (Err why) fits = tt

  begun-adds : (session : Session) (next : Option Begun) → FitsPresent plans lines (first_of plans next) s r c → AddsItsVcpusIf plans (made_at (first_of plans next) session r c).line
  begun-adds session None fits = absurd fits
  begun-adds session (Some b) fits =
      read-adds (record { task = task_of plans b.line (said b.line); boot = b.boot; own = b.own }) b.line (said b.line) fits

  -- and a session behind its step
  session-adds :
      (session : Session) (l : Option LineState)
      → AddsItsVcpusIf plans l → FitsPresent plans lines (present_with plans l session) s r c
      → AddsItsVcpusIf plans (made_at (present_with plans l session) session r c).line
  session-adds session None adds fits = begun-adds session (begun session) fits
  session-adds session (Some l) adds fits = line-adds plans l r c adds gives handed

kept-adding :
    (t : TerminalState) (owed : List Step) (s : Step) (r : Reply) (c : Carry)
    → IsNextStep t owed s r c → AreSized t.plans → IsStoppedSo s r c → GivesSlot r → IsGuest c.guest → LineAddsItsVcpus t
    → LineAddsItsVcpus (terminal_with t owed s r c)
kept-adding t [] s r c next sized stopped gives handed adds =
    session-adds t.plans sized t.session.lines s r c stopped gives handed t.session t.session.line adds next
kept-adding t (due ∷ owed) s r c next sized stopped gives handed adds = adds

-- a terminal's line adds the VCPUs of its guest's plan behind each event
pub terminal-adds :
    (t : TerminalState) (e : Entry)
    → TerminalAgrees t e → AreSized t.plans → IsStoppedSo e.event.step e.event.reply e.carry → GivesSlot e.event.reply → IsGuest e.carry.guest → LineAddsItsVcpus t
    → LineAddsItsVcpus (terminal_after t e)
terminal-adds t e agrees = kept-adding t t.owed e.event.step e.event.reply e.carry agrees.step

-- what a line that is begun asks for first is of the board, and adds a VCPU of its guest's plan if it adds one
abbrev pub IfNext : (most : ℕ) → List Ask → Type 0
IfNext most asks = IfSome (line.first asks) (IsAskWithin most)

pub next_within : (most : ℕ) (asks : List Ask) → AllByRecursion (IsAskWithin most) asks → IfNext most asks
next_within most [] all = tt
next_within most (ask ∷ asks) all = all.0

next-begun : (plans : List Planned) (asked : Asked) (plan : Option GuestPlan) → plan_for plans asked ≡ plan → IfSome plan IsSizedPlan → IfNext (length (vcpus_of plans (guest_name asked))) (left (begun_for asked plan).place)
next-begun plans asked (Some plan) is few =
    next_within (length (vcpus_of plans (guest_name asked))) (left (begun_for asked (Some plan)).place) (begun-with plans asked plan is few).asks
next-begun plans (line.create name) None is few = (tt, tt)
next-begun plans (line.rests count) None is few = next_within (length (vcpus_of plans [])) (left (begun_for (line.rests count) None).place) (begun-without plans (line.rests count) (λ no'. no')).asks
next-begun plans line.looks None is few = next_within (length (vcpus_of plans [])) (left (begun_for line.looks None).place) (begun-without plans line.looks (λ no'. no')).asks
next-begun plans (line.destroy name) None is few = next_within (length (vcpus_of plans name)) (left (begun_for (line.destroy name) None).place) (begun-without plans (line.destroy name) (λ no'. no')).asks
next-begun plans (line.each_vcpu what name) None is few = next_within (length (vcpus_of plans name)) (left (begun_for (line.each_vcpu what name) None).place) (begun-without plans (line.each_vcpu what name) (λ no'. no')).asks

pub next_of_line : (plans : List Planned) (asked : Asked) → AreSized plans → IfNext (length (vcpus_of plans (guest_name asked))) (left (line_of plans asked).place)
next_of_line plans asked sized = next-begun plans asked (plan_for plans asked) refl (sized-for plans asked sized)
