-- A terminal in code: its state with room for what it may owe and open, what is due of it, and what is known of a step that
-- was made so.
use Rattle.std.specs.Prelude.{◌≡◌, ◌<◌, ℕ, ◌+◌, ◌==◌, ◌≤◌, if◌then◌else◌, true, Option, None, Some, Ok, List, [], ◌∷◌, length}
use Rattle.std.specs.Option.{IfSome}
use Rattle.hv_answer.specs.declared.reply.Reply.{Reply}
use Rattle.hv_answer.specs.declared.reply.Reply.TheVariants as reply
use Rattle.hv_kinds.specs.declared.generation.Generation.{Generation}
use Rattle.hv_region.specs.declared.plan.RegionPlan.{RegionPlan}
use Rattle.hv_step.specs.declared.step.Step.{Step}
use Rattle.hv_step.specs.declared.step.Step.TheVariants as step
use Rattle.hv_text.specs.Lines.{script_lines}
use Rattle.hv_text.specs.declared.limits.TheConstants.{GUEST_REGIONS, GUEST_VCPUS, SLOTS}
use Rattle.hv_programs.specs.Line.{IsGiven}
use Rattle.hv_programs.specs.Owed.{IsParent}
use Rattle.hv_programs.specs.declared.owed.TheConstants.{MOST_OWED}
use Rattle.hv_rules.specs.Carry.{Carry, nothing}
use Rattle.hv_rules.specs.Handed.{handed_over}
use Rattle.hv_model.specs.Origin.{Origin, boot_script}
use Rattle.hv_model.specs.Plans.{Planned}
use Rattle.hv_model.specs.Session.{Session, present, session_after}
use Rattle.hv_model.specs.Terminal.{TerminalState, is_interrupt}
use Rattle.hv_terminals.specs.Due.{Handing, RunFits, handing, no_handing, shown_at}
use Rattle.hv_terminals.specs.Session.{IsDuePresent, begins_at, session_at_start}
use Rattle.hv_terminals.specs.declared.due.Begins.{Begins}
use Rattle.hv_terminals.specs.declared.due.Begins.TheVariants as begins
use Rattle.hv_terminals.specs.declared.due.Due.{Due}

-- A terminal, for how many steps more that it owes there is room, and for how many scripts behind the boot script and
-- behind the own one.
pub record TerminalKept : Type 0 where
  pub terminal : TerminalState
  pub owed_room : ℕ
  pub boot_room : ℕ
  pub own_room : ℕ

-- There is room for all that one step may owe, and for a script that it may open.
pub record HasRoom (t : TerminalKept) : Type 0 where
  pub owed : MOST_OWED + GUEST_REGIONS ≤ t.owed_room
  pub boot : 1 ≤ t.boot_room
  pub own : 1 ≤ t.own_room

-- A terminal at the start, of these plans, with a boot script or none, and with its own script.
abbrev pub at_start : List Planned → (boot : Option (List ℕ)) → (own : List ℕ) → TerminalState
at_start plans boot own = record {
  count = 0;
  owed = [];
  session = session_at_start boot own;
  plans = plans;
}

-- The boot script of a terminal, which the first one has.
abbrev pub boot_given : Origin → (terminal : ℕ) → Option (List ℕ)
boot_given O t = if t == 0 then Some (boot_script O) else None

-- What is due where a step is owed: this step, for which nothing is handed over.
pub record IsDueOwed (next : Step) (due : Due) : Type 0 where
  pub step : due.step ≡ next
  pub interrupt : is_interrupt next ≡ true
  pub index : due.index < GUEST_VCPUS
  pub own : due.reply ≡ None
  pub hands : handing due.hands ≡ no_handing

-- What is due of a terminal: the first step that is owed, or else what is due of its session.
abbrev pub IsDueFrom : (owed : List Step) → List Planned → Session → Option Due → Type 0
IsDueFrom [] plans s due = IsDuePresent plans s.lines (present plans s) due
IsDueFrom (next ∷ owed) plans s None = ⊥
IsDueFrom (next ∷ owed) plans s (Some due) = IsDueOwed next due

abbrev pub IsDue : TerminalState → Option Due → Type 0
IsDue t due = IsDueFrom t.owed t.plans t.session due

-- What is begun with the step that is due.
abbrev pub begins_from : (owed : List Step) → List Planned → Session → Begins
begins_from [] plans s = begins_at plans s
begins_from (next ∷ owed) plans s = begins.Nothing

abbrev pub begins_with : TerminalState → Begins
begins_with t = begins_from t.owed t.plans t.session

-- A terminal without the owed step that it made, or with the session once it made its step.
abbrev pub made_from : (owed : List Step) → TerminalState → Reply → Carry → TerminalState
made_from [] t r c = record t { session = session_after t.plans t.session r c }
made_from (next ∷ owed) t r c = record t { owed = owed }

abbrev pub made_of : TerminalState → Reply → Carry → TerminalState
made_of t r c = made_from t.owed t r c

-- The guest of a step that may owe others is in one of the board's slots.
abbrev pub IsInSlot : Step → Type 0
IsInSlot (step.Add s) = IsGiven s.generation
IsInSlot (step.Drop s) = IsGiven s.generation
IsInSlot (step.Devreset s) = IsGiven s.generation
IsInSlot (step.Feed s) = IsGiven s.generation
IsInSlot (step.Sample s) = s.generation.slot < SLOTS
IsInSlot _ = Unit {0}

-- Of what is handed over, the row of a region and its interrupt parent decide what is owed.
abbrev pub with_region : (row : Option ℕ) → (parent : Option (ℕ × ℕ)) → Carry
with_region row parent = record nothing { row = row; parent = parent }

-- The reply is the one that the terminal gives itself, if it does.
abbrev pub IsOwn : Option Reply → Reply → Type 0
IsOwn None r = Unit {0}
IsOwn (Some own) r = r ≡ own

-- A step was made with what the terminal handed over: the reply to a run fits the room for a script, and row, plan, VCPU
-- and refusal of a name are those that it gave.
abbrev pub Keeps : Handing → Step → Reply → Carry → Type 0
Keeps h (step.Run s) (reply.Run r) c = RunFits h.room c.lines r
Keeps h (step.Run s) r c = ⊥
Keeps h (step.Name s) r c = c.stopped ≡ h.stopped
Keeps h (step.Add s) r c = (c.row ≡ h.row) × (c.plan ≡ h.plan)
Keeps h (step.Drop s) r c = c.row ≡ h.row
Keeps h (step.Devreset s) r c = c.row ≡ h.row
Keeps h (step.Feed s) r c = c.row ≡ h.row
Keeps h (step.Output s) r c = c.row ≡ h.row
Keeps h (step.Vadd s) r c = c.vcpu ≡ h.vcpu
Keeps h s r c = Unit {0}

-- A step that was due was made: it shows the generation that the directory gave, its reply is the terminal's own where that
-- gives one, it keeps to what was handed over, and hands over no more than its row names.
pub record IsMadeSo (due : Due) (given : Option Generation) (s : Step) (r : Reply) (c : Carry) : Type 0 where
  pub step : s ≡ shown_at due.index given due.step
  pub own : IsOwn due.reply r
  pub keeps : Keeps (handing due.hands) s r c
  pub alone : handed_over s c ≡ c

-- A script that a reply opens is that of a run, and as many lines as it has were handed over.
abbrev pub IsCounted : Step → Reply → Carry → Type 0
IsCounted (step.Run s) (reply.Run (Ok script)) c = c.lines ≡ Some (length (script_lines script))
IsCounted s (reply.Run (Ok script)) c = ⊥
IsCounted s r c = Unit {0}

-- The interrupts of the regions of a guest, by row from a number on, go to other regions, if to any.
abbrev pub HaveOtherParents : (from : ℕ) → List RegionPlan → Type 0
HaveOtherParents from [] = Unit {0}
HaveOtherParents from (region ∷ regions) = IsParent from region.parent × HaveOtherParents (from + 1) regions

-- The regions of a guest's plan: no more than a guest can have, whose interrupts go to others among them.
pub record HasGoodRegions (regions : List RegionPlan) : Type 0 where
  pub few : length regions ≤ GUEST_REGIONS
  pub parents : HaveOtherParents 0 regions

-- What a step brings to a terminal is of the board: the guest that it shows, and the row of a region with its parent.
abbrev pub BringsRow : (given : Option Generation) → Carry → Type 0
BringsRow given c = IsGiven given × IfSome c.row (λ row. (row < GUEST_REGIONS) × IsParent row c.parent)

abbrev pub Brings : Step → Carry → Type 0
Brings (step.Add s) c = BringsRow s.generation c
Brings (step.Drop s) c = BringsRow s.generation c
Brings (step.Devreset s) c = BringsRow s.generation c
Brings (step.Feed s) c = BringsRow s.generation c
Brings _ c = Unit {0}
