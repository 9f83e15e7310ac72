-- The steps that a terminal owes are of its guests and of the board.
use Rattle.std.proofs.Common.{◌≡◌, ℕ, ◌+◌, ◌<◌, ◌≤◌, ◌==◌, Bool, true, false, List, [], ◌∷◌, ◌++◌, length, Some, None, Ok, Err, refl, ap, ◌∙◌, sym, subst, arith}
use Rattle.std.specs.Prelude.{Option, Result, if◌then◌else◌}
use Rattle.std.specs.List.{All}
use Rattle.std.specs.Option.{IfSome}
use Rattle.std.proofs.lemmas.List.Elements.{All-nil, All-cons, All-head, All-tail, All-append}
use Rattle.hv_answer.specs.declared.reply.Reply.{Reply}
use Rattle.hv_answer.specs.declared.reply.Reply.TheVariants as reply
use Rattle.hv_kinds.specs.declared.changes.SignalChanges.{SignalChanges}
use Rattle.hv_kinds.specs.declared.generation.Generation.{Generation}
use Rattle.hv_kinds.specs.declared.stage.Stage.{Stage}
use Rattle.hv_kinds.specs.declared.stage.Stage.TheVariants as stage
use Rattle.hv_region.specs.declared.plan.RegionPlan.{RegionPlan}
use Rattle.hv_step.specs.declared.step.Sample.{Sample}
use Rattle.hv_step.specs.declared.step.Step.{Step}
use Rattle.hv_step.specs.declared.step.Step.TheVariants as step
use Rattle.hv_text.specs.declared.limits.TheConstants.{GUEST_REGIONS, SLOTS}
use Rattle.hv_words.specs.Said.{said}
use Rattle.hv_words.specs.declared.command.Command.{Command}
use Rattle.hv_words.specs.declared.command.Command.TheVariants as command
use Rattle.hv_words.specs.declared.refusal.WordsRefusal.{WordsRefusal}
use Rattle.hv_rules.specs.Carry.{Carry}
use Rattle.hv_rules.specs.Line as line
use Rattle.hv_rules.specs.Line.{Ask, Change, LineState, first, has_device, left, step_for}
use Rattle.hv_rules.specs.Owed.{child_samples, sample_to}
use Rattle.hv_model.specs.declared.entry.Entry.{Entry}
use Rattle.hv_model.specs.Plans.{Planned, region_at, regions_of}
use Rattle.hv_model.specs.Session.{Begun, Present, Session, begun, first_of, present, present_with, task_for, task_of}
use Rattle.hv_model.specs.Shown.{showing, shown_in}
use Rattle.hv_model.specs.Terminal.{FitsPresent, FitsTask, IsNextStep, TerminalAgrees, TerminalState, children_owe, if_made, owed_after, row_owes, terminal_after, terminal_with}
use Rattle.hv_model.specs.Work.{Work, line_of, once, several, work_of}
use Rattle.hv_programs.specs.Line.{IsGiven}
use Rattle.hv_programs.specs.Owed.{IsOwed, IsParent, IsSampleOwed}
use Rattle.hv_programs.proofs.OwedLemmas.{all-owed}
use Rattle.hv_terminals.specs.Terminal.{Brings, BringsRow, HasGoodRegions, HaveOtherParents}

-- what a change of a region's signals owes
row-owed : (given : Option Generation) (c : Carry) (changes : SignalChanges) → BringsRow given c → All IsOwed (row_owes given c.row c.parent changes)
row-owed given c changes brings = row-with given c.row brings.0 brings.1
  where
    row-with : (given : Option Generation) (row : Option ℕ) → IsGiven given → IfSome row (λ r. (r < GUEST_REGIONS) × IsParent r c.parent) → All IsOwed (row_owes given row c.parent changes)
    row-with None None is some = All-nil IsOwed
    row-with None (Some row) is some = All-nil IsOwed
    row-with (Some guest) None is some = All-nil IsOwed
    row-with (Some guest) (Some row) is some = all-owed guest row is some.0 c.parent changes some.1

-- the sample of a region to its parent
child-owed : (guest : Generation) (row new : ℕ) (parent : Option (ℕ × ℕ)) → guest.slot < SLOTS → row < GUEST_REGIONS → IsParent row parent → All IsOwed (sample_to guest row new parent)
child-owed guest row new None slot below is = All-nil IsOwed
child-owed guest row new (Some parent) slot below is =
    elim (parent.0 == new) as (λ b. All IsOwed (if b then step.Sample (record { row = row; parent = parent.0; source = parent.1; generation = guest }) ∷ [] else [])) [
      | true ↦
          All-cons IsOwed (step.Sample (record { row = row; parent = parent.0; source = parent.1; generation = guest })) []
          (record { slot = slot; row = below; parent = is.0; apart = is.1 }) (All-nil IsOwed)
      | false ↦ All-nil IsOwed
    ]

samples-owed : (guest : Generation) (new from : ℕ) (regions : List RegionPlan) → guest.slot < SLOTS → from + length regions ≤ GUEST_REGIONS → HaveOtherParents from regions → All IsOwed (child_samples guest new from regions)
samples-owed guest new from [] slot below others = All-nil IsOwed
samples-owed guest new from (region ∷ regions) slot below others =
    All-append IsOwed (sample_to guest from new region.parent) (child_samples guest new (from + 1) regions)
    (child-owed guest from new region.parent slot (omega arith) others.0)
    (samples-owed guest new (from + 1) regions slot (omega arith) others.1)

children-owed : (given : Option Generation) (row : Option ℕ) (region : Option RegionPlan) (regions : List RegionPlan) → IsGiven given → HasGoodRegions regions → All IsOwed (children_owe given row region regions)
children-owed None row region regions is good = All-nil IsOwed
children-owed (Some guest) None region regions is good = All-nil IsOwed
children-owed (Some guest) (Some row) None regions is good = All-nil IsOwed
children-owed (Some guest) (Some row) (Some region) regions is good =
    elim (has_device region) as (λ b. All IsOwed (if b then child_samples guest row 0 regions else [])) [
      | true ↦ samples-owed guest row 0 regions is (omega (arith, good.few)) good.parents
      | false ↦ All-nil IsOwed
    ]

made-owed : (at : Stage) (steps : List Step) → All IsOwed steps → All IsOwed (if_made at steps)
made-owed stage.Made steps all = all
made-owed _ steps all = All-nil IsOwed

-- what a step owes
after-owed :
    (plans : List Planned) (s : Step) (r : Reply) (c : Carry)
    → ((name : List ℕ) → HasGoodRegions (regions_of plans name)) → Brings s c → ((sample : Sample) → s ≡ step.Sample sample → IsSampleOwed sample)
    → All IsOwed (owed_after plans s r c)
after-owed plans (step.Add s) (reply.Add (Ok changes)) c good brings sampled =
    made-owed s.stage
    (row_owes s.generation c.row c.parent changes ++ children_owe s.generation c.row (region_at plans s.name c.row) (regions_of plans s.name))
    (All-append IsOwed (row_owes s.generation c.row c.parent changes) (children_owe s.generation c.row (region_at plans s.name c.row) (regions_of plans s.name))
    (row-owed s.generation c changes brings)
    (children-owed s.generation c.row (region_at plans s.name c.row) (regions_of plans s.name) brings.0 (good s.name)))
after-owed plans (step.Add s) (reply.Add (Err why)) c good brings sampled = All-nil IsOwed
after-owed plans (step.Drop s) (reply.Drop (Ok changes)) c good brings sampled =
    made-owed s.stage (row_owes s.generation c.row c.parent changes) (row-owed s.generation c changes brings)
after-owed plans (step.Drop s) (reply.Drop (Err why)) c good brings sampled = All-nil IsOwed
after-owed plans (step.Devreset s) (reply.Devreset (Ok changes)) c good brings sampled = row-owed s.generation c changes brings
after-owed plans (step.Devreset s) (reply.Devreset (Err why)) c good brings sampled = All-nil IsOwed
after-owed plans (step.Feed s) (reply.Feed (Ok changes)) c good brings sampled = row-owed s.generation c changes brings
after-owed plans (step.Feed s) (reply.Feed (Err why)) c good brings sampled = All-nil IsOwed
after-owed plans (step.Sample s) (reply.Sample (Some taken)) c good brings sampled =
    let is = sampled s refl in all-owed s.generation s.parent is.slot is.parent None taken.changes tt
after-owed plans (step.Sample s) (reply.Sample None) c good brings sampled = All-nil IsOwed
after-owed plans s r c good brings sampled = All-nil IsOwed

-- no step that a session asks for is a sample
change-samples : (l : LineState) (given : Option Generation) (what : Change) (index : ℕ) (s : Sample) → line.step_of l given (line.change what index) ≡ step.Sample s → ⊥
change-samples l given line.kick index s is = cc is
change-samples l given line.resume index s is = cc is
change-samples l given line.pause index s is = cc is
change-samples l given line.halt index s is = cc is
change-samples l given line.reset index s is = cc is

ask-samples : (l : LineState) (given : Option Generation) (a : Ask) (s : Sample) → line.step_of l given a ≡ step.Sample s → ⊥
ask-samples l given (line.change what index) s is = change-samples l given what index s is
ask-samples l given line.rest s is = cc is
ask-samples l given (line.look vcpu) s is = cc is
ask-samples l given line.claim s is = cc is
ask-samples l given (line.turn from to) s is = cc is
ask-samples l given (line.add row) s is = cc is
ask-samples l given (line.drop at row) s is = cc is
ask-samples l given (line.add_vcpu index) s is = cc is
ask-samples l given (line.drop_vcpu index) s is = cc is
ask-samples l given (line.reset_device row) s is = cc is

line-samples : (l : LineState) (given : Option Generation) (next : Option Ask) (s : Sample) → step_for l given next ≡ Some (step.Sample s) → ⊥
line-samples l given None s is = cc is
line-samples l given (Some a) s is = ask-samples l given a s (cc is)

shown-samples : (given : Option Generation) (a : Step) (s : Sample) → showing given a ≡ step.Sample s → a ≡ step.Sample s
shown-samples given (step.Add a) s is = absurd (cc is)
shown-samples given (step.Drop a) s is = absurd (cc is)
shown-samples given (step.Regions a) s is = absurd (cc is)
shown-samples given (step.Load a) s is = absurd (cc is)
shown-samples given (step.Mem a) s is = absurd (cc is)
shown-samples given (step.Devreset a) s is = absurd (cc is)
shown-samples given (step.Feed a) s is = absurd (cc is)
shown-samples given (step.Output a) s is = absurd (cc is)
shown-samples given _ s is = is

work-samples : (c : Command) (s : Sample) → work_of c ≡ once (step.Sample s) → ⊥
work-samples (command.TermRest count) s is = cc is
work-samples _ s is = cc is

work-fits :
    (plans : List Planned) (p : Present) (lines : ℕ) (c : Command) (w : Work) (s : Sample) (r : Reply) (k : Carry)
    → work_of c ≡ w → FitsTask plans p lines (task_for plans w) (step.Sample s) r k → ⊥
work-fits plans p lines c (once asked) s r k is fits =
    work-samples c s (is ∙ ap once (shown-samples (shown_in (step.Sample s)) asked s (sym fits.0)))
work-fits plans p lines c (several asked) s r k is fits =
    line-samples (line_of plans asked) (shown_in (step.Sample s)) (first (left (line_of plans asked).place)) s fits.0

read-fits :
    (plans : List Planned) (p : Present) (lines : ℕ) (text : List ℕ) (read : Result Command WordsRefusal) (s : Sample) (r : Reply) (k : Carry)
    → FitsTask plans p lines (task_of plans text read) (step.Sample s) r k → ⊥
read-fits plans p lines text (Ok c) s r k fits = work-fits plans p lines c (work_of c) s r k refl fits
read-fits plans p lines text (Err why) s r k fits = cc fits.0

first-fits : (plans : List Planned) (lines : ℕ) (next : Option Begun) (s : Sample) (r : Reply) (c : Carry) → FitsPresent plans lines (first_of plans next) (step.Sample s) r c → ⊥
first-fits plans lines None s r c fits = fits
first-fits plans lines (Some b) s r c fits =
    read-fits plans (record { task = task_of plans b.line (said b.line); boot = b.boot; own = b.own }) lines b.line (said b.line) s r c fits

line-fits :
    (plans : List Planned) (lines : ℕ) (session : Session) (l : Option LineState) (s : Sample) (r : Reply) (c : Carry)
    → FitsPresent plans lines (present_with plans l session) (step.Sample s) r c → ⊥
line-fits plans lines session None s r c fits = first-fits plans lines (begun session) s r c fits
line-fits plans lines session (Some l) s r c fits = line-samples l (shown_in (step.Sample s)) (first (left l.place)) s fits.0

-- a sample that a terminal makes is one that it owed
sample-owed :
    (t : TerminalState) (owed : List Step) (s : Step) (r : Reply) (c : Carry)
    → IsNextStep t owed s r c → All IsOwed owed → (sample : Sample) → s ≡ step.Sample sample → IsSampleOwed sample
sample-owed t [] s r c next all sample is =
    absurd (line-fits t.plans t.session.lines t.session t.session.line sample r c (subst (λ (k : Step). FitsPresent t.plans t.session.lines (present t.plans t.session) k r c) is next))
sample-owed t (due ∷ owed) s r c next all sample is = subst IsOwed (sym next.0 ∙ is) (All-head IsOwed due owed all)

kept-with :
    (t : TerminalState) (owed : List Step) (s : Step) (r : Reply) (c : Carry)
    → All IsOwed owed → All IsOwed (owed_after t.plans s r c) → All IsOwed (terminal_with t owed s r c).owed
kept-with t [] s r c all more = more
kept-with t (due ∷ owed) s r c all more = All-append IsOwed owed (owed_after t.plans s r c) (All-tail IsOwed due owed all) more

pub terminal-kept :
    (t : TerminalState) (e : Entry)
    → TerminalAgrees t e → Brings e.event.step e.carry → ((name : List ℕ) → HasGoodRegions (regions_of t.plans name)) → All IsOwed t.owed
    → All IsOwed (terminal_after t e).owed
terminal-kept t e agrees brings good all =
    kept-with t t.owed e.event.step e.event.reply e.carry all
    (after-owed t.plans e.event.step e.event.reply e.carry good brings
    (sample-owed t t.owed e.event.step e.event.reply e.carry agrees.step all))
