-- A step of a terminal: an interrupt step that it owes, the one step of a command, or a step of a line.
use Rattle.std.proofs.Common.{◌≡◌, ℕ, ◌≤◌, inl, true, refl, sym, ap, subst, List, length, Option, None, Some, Result, Ok, Err}
use Rattle.hv_answer.specs.declared.reply.Reply.{Reply}
use Rattle.hv_kinds.specs.declared.generation.Generation.{Generation}
use Rattle.hv_kinds.specs.declared.stage.Stage.TheVariants.{Made}
use Rattle.hv_model.specs.Plans.{Planned, plan_of}
use Rattle.hv_model.specs.Session.{Begun, Present, Scripts, Session, Task, begun, first_of, goes, left_of, made_at, makes, present_with, session_after, task_for, task_of, tells}
use Rattle.hv_model.specs.Session as session
use Rattle.hv_model.specs.Shown.{showing, shown_in}
use Rattle.hv_model.specs.Terminal.{Asks, FitsPresent, FitsTask, is_interrupt}
use Rattle.hv_model.specs.Work.{Work, once, several, work_of}
use Rattle.hv_region.specs.declared.plan.GuestPlan.{GuestPlan}
use Rattle.hv_rules.specs.Carry.{Carry}
use Rattle.hv_rules.specs.Line.{LineState}
use Rattle.hv_step.specs.declared.step.Step.{Step}
use Rattle.hv_step.specs.declared.step.Step.TheVariants as step
use Rattle.hv_text.specs.declared.limits.TheConstants.{GUEST_VCPUS}
use Rattle.hv_words.specs.Said.{said}
use Rattle.hv_words.specs.declared.command.Command.{Command}
use Rattle.hv_words.specs.declared.command.Command.TheVariants as command
use Rattle.hv_words.specs.declared.refusal.WordsRefusal.{WordsRefusal}
use Rattle.hv_order_laws.specs.Owners.{IsDirectory, LineFits, Scene, SlotFits, owned_by}
use Rattle.hv_order_laws.proofs.Begun.{begun-step, calm-proper, calm-spares, held-step, is_calm}
use Rattle.hv_order_laws.proofs.Ending.{AreLed}
use Rattle.hv_order_laws.proofs.Lines.{LineStep}
use Rattle.hv_order_laws.proofs.Steps.{IsProper, SceneStep, Spares}

-- the one step of a command is on guests that are made, if it changes the regions of one, and turns no stage
abbrev IsCommandStep : Step → Type 0
IsCommandStep (step.Name s) = ⊥
IsCommandStep (step.Stage s) = ⊥
IsCommandStep (step.Vadd s) = ⊥
IsCommandStep (step.Add s) = s.stage ≡ Made
IsCommandStep (step.Drop s) = s.stage ≡ Made
IsCommandStep s = Unit {0}

abbrev IsWork : Work → Type 0
IsWork (once asked) = IsCommandStep asked
IsWork (several asked) = Unit {0}

command-work : (c : Command) → IsWork (work_of c)
command-work (command.VfsLs path) = tt
command-work _ = tt

showing-command : (g : Option Generation) (s : Step) → IsCommandStep s → IsCommandStep (showing g s)
showing-command g (step.Name s) is = absurd is
showing-command g (step.Stage s) is = absurd is
showing-command g (step.Vadd s) is = absurd is
showing-command g (step.Add s) is = is
showing-command g (step.Drop s) is = is
showing-command g s is = tt

command-proper : (plans : List Planned) (before : Scene) (p : Present) (lines : ℕ) (s : Step) (r : Reply) (c : Carry) → IsCommandStep s → Asks plans p lines s r c → IsProper plans before s c
command-proper plans before p lines (step.Stage s) r c is asks = absurd is
command-proper plans before p lines (step.Vadd s) r c is asks = absurd is
command-proper plans before p lines (step.Add s) r c is asks = asks
command-proper plans before p lines s r c is asks = tt

command-spares : (name : List ℕ) (slot : ℕ) (s : Step) → IsCommandStep s → Spares name slot s
command-spares name slot (step.Stage s) is = absurd is
command-spares name slot (step.Vadd s) is = absurd is
command-spares name slot (step.Add s) is = inl is
command-spares name slot (step.Drop s) is = inl is
command-spares name slot s is = tt

pub interrupt-calm : (s : Step) → is_interrupt s ≡ true → is_calm s ≡ true
interrupt-calm (step.Sample s) is = refl
interrupt-calm (step.Pin s) is = refl
interrupt-calm _ is = absurd (cc is)

module _ (plans : List Planned) (before after : Scene) (ok : IsDirectory before.dir) (slots : (slot : ℕ) → SlotFits plans before slot) (led : (slot : ℕ) → AreLed (before.windows slot)) (few : (name : List ℕ) (plan : GuestPlan) → plan_of plans name ≡ Some plan → length plan.vcpus.items ≤ GUEST_VCPUS) (s : Step) (r : Reply) (c : Carry) (happened : SceneStep before after s r c) (lines : ℕ) where
  -- a terminal that was at no line

  module _ (boot own : Scripts) where
    abbrev at : Task → Present
    at task = record { task = task; boot = boot; own = own }

    work-step : (work : Work) → IsWork work → FitsTask plans (at (task_for plans work)) lines (task_for plans work) s r c → LineStep plans before after None (left_of (task_for plans work) r c) s c
    work-step (once asked) is fits =
        let made : IsCommandStep s = subst IsCommandStep (sym fits.0) (showing-command (shown_in s) asked is) in
        record {
          proper = command-proper plans before (at (makes asked)) lines s r c made fits.1;
          fits = tt;
          spares = λ slot e there else. command-spares e.name slot s made;
          own = λ name none. absurd (let never : None ≡ Some name = none in cc);
        }
    work-step (several asked) is fits = begun-step plans before after ok slots led r c few asked s fits.0 happened fits.1

    said-step : (line : List ℕ) (it : Result Command WordsRefusal) → FitsTask plans (at (task_of plans line it)) lines (task_of plans line it) s r c
        → LineStep plans before after None (left_of (task_of plans line it) r c) s c
    said-step line (Ok it) fits = work-step (work_of it) (command-work it) fits
    said-step line (Err why) fits =
        let calm : is_calm s ≡ true = ap is_calm fits.0 in
        record {
          proper = calm-proper plans before s c calm;
          fits = tt;
          spares = λ slot e there else. calm-spares e.name slot s calm;
          own = λ name none. absurd (let never : None ≡ Some name = none in cc);
        }

  begun-by : (it : Session) (b : Option Begun) → FitsPresent plans lines (first_of plans b) s r c → LineStep plans before after None (made_at (first_of plans b) it r c).line s c
  begun-by it None fits = absurd fits
  begun-by it (Some b) fits = said-step b.boot b.own b.line (said b.line) fits

  line-by : (it : Session) (line : Option LineState) → LineFits before plans line → FitsPresent plans lines (present_with plans line it) s r c
      → LineStep plans before after (owned_by line) (made_at (present_with plans line it) it r c).line s c
  line-by it None was fits = begun-by it (begun it) fits
  line-by it (Some line) was fits = held-step plans before after ok slots led r c line.asked line.regions line.guest line.place s was fits.0 happened fits.1

  pub session-step : (it : Session) → LineFits before plans it.line → FitsPresent plans lines (session.present plans it) s r c
      → LineStep plans before after (owned_by it.line) (session_after plans it r c).line s c
  session-step it was fits = line-by it it.line was fits
