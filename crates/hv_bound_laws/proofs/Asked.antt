-- A region is added by the plan of its guest: a terminal alone adds regions, and hands over their rows and plans.
use Rattle.std.proofs.Common.{◌≡◌, ℕ, Bool, true, false, eq-eqb, refl, ap, subst, ◌∙◌, List, [], ◌∷◌, Option, None, Some}
use Rattle.hv_answer.specs.declared.reply.Reply.{Reply}
use Rattle.hv_event.specs.declared.event.ActorId.{ActorId}
use Rattle.hv_event.specs.declared.event.ActorId.TheVariants.{Hart, Terminal}
use Rattle.hv_laws.proofs.Frame.{touched}
use Rattle.hv_laws.proofs.Legal.{cell-becomes}
use Rattle.hv_machine.specs.Machine.{MayHappen, State, next_state, touches}
use Rattle.hv_model.proofs.BoardLemmas.{touch-actor}
use Rattle.hv_model.specs.Cell.{Actor, same_actor}
use Rattle.hv_model.specs.declared.entry.Entry.{Entry}
use Rattle.hv_model.specs.Origin.{Origin}
use Rattle.hv_model.specs.Plans.{Planned, region_of, row_of}
use Rattle.hv_model.specs.Rules.{machine}
use Rattle.hv_model.specs.Session.{Present, Task, goes, makes, present, tells}
use Rattle.hv_model.specs.Terminal.{FitsPresent, FitsTask, IsNextStep, TerminalAgrees, TerminalState, is_interrupt}
use Rattle.hv_rules.specs.Carry.{Carry}
use Rattle.hv_step.specs.declared.step.Step.{Step}
use Rattle.hv_step.specs.declared.step.Step.TheVariants as step
use Rattle.hv_order_laws.proofs.Begun.{is_calm}
use Rattle.hv_order_laws.proofs.Harts.{hart-calm}
use Rattle.hv_order_laws.proofs.Legal.{IsKnown}

abbrev pub IsAsked : List Planned → Step → Carry → Type 0
IsAsked plans (step.Add x) c = (c.row ≡ row_of plans x.name x.region) × (c.plan ≡ region_of plans x.name x.region)
IsAsked plans x c = Unit {0}

calm-asked : (plans : List Planned) (x : Step) (c : Carry) → is_calm x ≡ true → IsAsked plans x c
calm-asked plans (step.Add x) c calm = absurd (cc calm)
calm-asked plans x c calm = tt

interrupt-asked : (plans : List Planned) (x : Step) (c : Carry) → is_interrupt x ≡ true → IsAsked plans x c
interrupt-asked plans (step.Add x) c is = absurd (cc is)
interrupt-asked plans x c is = tt

abbrev is-addition : Step → Bool
is-addition (step.Add x) = true
is-addition x = false

task-asked : (plans : List Planned) (p : Present) (lines : ℕ) (task : Task) (x : Step) (r : Reply) (c : Carry) → FitsTask plans p lines task x r c → IsAsked plans x c
task-asked plans p lines (makes asked) (step.Add x) r c fits = fits.1
task-asked plans p lines (goes line) (step.Add x) r c fits = fits.1
task-asked plans p lines (tells line why) (step.Add x) r c fits = absurd (let never : true ≡ false = ap is-addition fits.0 in cc)
task-asked plans p lines task x r c fits = tt

present-asked : (plans : List Planned) (at : Option Present) (lines : ℕ) (x : Step) (r : Reply) (c : Carry) → FitsPresent plans lines at x r c → IsAsked plans x c
present-asked plans None lines x r c fits = absurd fits
present-asked plans (Some p) lines x r c fits = task-asked plans p lines p.task x r c fits

next-asked : (tv : TerminalState) (owed : List Step) (x : Step) (r : Reply) (c : Carry) → IsNextStep tv owed x r c → IsAsked tv.plans x c
next-asked tv (due ∷ owed) x r c fits = interrupt-asked tv.plans x c fits.1
next-asked tv [] x r c fits = present-asked tv.plans (present tv.plans tv.session) tv.session.lines x r c fits

module _ (O : Origin) (s : State (machine O)) (e : Entry) (may : MayHappen (machine O) s e) (k : IsKnown O s) where
  terminal-agrees : (t : ℕ) → e.event.actor ≡ Terminal t → TerminalAgrees (s (Actor (Terminal t))).value e
  terminal-agrees t by =
      let m = machine O in
      let y = Actor (Terminal t) in
      (touched (touches m y e) (m.IsAllowedAt y (s y).value e) (m.apply_at y (s y).value e) (s y).value (next_state m s e y).value
      (touch-actor O e (Terminal t) ∙ ap (same_actor (Terminal t)) by ∙ eq-eqb t t refl) (cell-becomes m s e may y)).0

  asked-by : (by : ActorId) → e.event.actor ≡ by → IsAsked O.opening.plans e.event.step e.carry
  asked-by (Hart h) by = calm-asked O.opening.plans e.event.step e.carry (hart-calm O s h e k.currents by may)
  asked-by (Terminal t) by =
      let tv = (s (Actor (Terminal t))).value in
      subst (λ (plans : List Planned). IsAsked plans e.event.step e.carry) (k.planned t)
      (next-asked tv tv.owed e.event.step e.event.reply e.carry (terminal-agrees t by).step)

  pub asked : IsAsked O.opening.plans e.event.step e.carry
  asked = asked-by e.event.actor refl
