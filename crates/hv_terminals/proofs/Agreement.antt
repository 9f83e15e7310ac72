-- A terminal agrees to a step that was due of it, once it was made with what the terminal handed over.
use Rattle.std.proofs.Common.{◌≡◌, ℕ, ◌+◌, ◌-◌, ◌≤◌, Bool, true, false, nat_le, List, [], ◌∷◌, length, Some, None, Ok, Err, refl, ap, ◌∙◌, sym, subst, arith}
use Rattle.std.specs.Prelude.{Option, Result, if◌then◌else◌}
use Rattle.std.specs.Option.{option_and_then}
use Rattle.hv_answer.specs.declared.reply.Reply.{Reply}
use Rattle.hv_answer.specs.declared.reply.Reply.TheVariants as reply
use Rattle.hv_kinds.specs.declared.generation.Generation.{Generation}
use Rattle.hv_refusal.specs.declared.refusal.Refusal.{Refusal}
use Rattle.hv_step.specs.declared.step.Run.{Run}
use Rattle.hv_step.specs.declared.step.Step.{Step}
use Rattle.hv_step.specs.declared.step.Step.TheVariants as step
use Rattle.hv_text.specs.Lines.{script_lines}
use Rattle.hv_text.specs.declared.limits.TheConstants.{MOST_LINES, OPEN_SCRIPTS}
use Rattle.hv_rules.specs.Carry.{Carry}
use Rattle.hv_rules.specs.Line as line
use Rattle.hv_rules.specs.Line.{Ask, Change, LineState, first, guest_name, left, next_step, step_for}
use Rattle.hv_model.specs.declared.entry.Entry.{Entry}
use Rattle.hv_model.specs.Plans.{Planned}
use Rattle.hv_model.specs.Session.{Present, Task, makes, goes, tells, lines_run, present, scripts_of}
use Rattle.hv_model.specs.Shown.{showing, shown_in}
use Rattle.hv_model.specs.Terminal.{Asks, FitsPresent, FitsTask, Goes, IsNextStep, LengthAnswers, RunAnswers, TerminalAgrees, TerminalState, is_interrupt}
use Rattle.hv_terminals.specs.Due.{Handing, RunFits, handing_for, own_reply, room_for, shown_at}
use Rattle.hv_terminals.specs.Session.{IsDuePresent, room_at}
use Rattle.hv_terminals.specs.Task.{IsDueOf, handing_in}
use Rattle.hv_terminals.specs.Terminal.{IsCounted, IsDue, IsDueFrom, IsMadeSo, IsOwn, Keeps}
use Rattle.hv_terminals.specs.declared.due.Due.{Due}

-- a step of a command shows the generation that it was given
showing-again : (given : Option Generation) (a : Step) → showing (shown_in (showing given a)) a ≡ showing given a
showing-again given (step.Add s) = refl
showing-again given (step.Drop s) = refl
showing-again given (step.Regions s) = refl
showing-again given (step.Load s) = refl
showing-again given (step.Mem s) = refl
showing-again given (step.Devreset s) = refl
showing-again given (step.Feed s) = refl
showing-again given (step.Output s) = refl
showing-again given _ = refl

-- and so does a step of a line
change-again : (l : LineState) (given : Option Generation) (what : Change) (index : ℕ) → line.step_of l (shown_in (line.step_of l given (line.change what index))) (line.change what index) ≡ line.step_of l given (line.change what index)
change-again l given line.kick index = refl
change-again l given line.resume index = refl
change-again l given line.pause index = refl
change-again l given line.halt index = refl
change-again l given line.reset index = refl

ask-again : (l : LineState) (given : Option Generation) (a : Ask) → line.step_of l (shown_in (line.step_of l given a)) a ≡ line.step_of l given a
ask-again l given (line.change what index) = change-again l given what index
ask-again l given _ = refl

step-again : (l : LineState) (given : Option Generation) (next : Option Ask) (s : Step) → step_for l given next ≡ Some s → step_for l (shown_in s) next ≡ Some s
step-again l given None s is = absurd (cc is)
step-again l given (Some a) s is =
    let same : line.step_of l given a ≡ s = cc is in
    subst (λ (t : Step). step_for l (shown_in t) (Some a) ≡ Some t) same (ap (λ (t : Step). Some t) (ask-again l given a))

-- the reply to a run fits the room that is left
length-fits : (lines n : ℕ) (r : Result (List ℕ) Refusal) → lines ≤ MOST_LINES → LengthAnswers (nat_le n (MOST_LINES - lines)) r → LengthAnswers (nat_le (lines + n) MOST_LINES) r
length-fits lines n r few fits =
    let same : nat_le n (MOST_LINES - lines) ≡ nat_le (lines + n) MOST_LINES = grind arith in
    subst (λ (b : Bool). LengthAnswers b r) same fits

run-found : (lines : ℕ) (found : Option ℕ) (r : Result (List ℕ) Refusal) → lines ≤ MOST_LINES → RunFits (Some (MOST_LINES - lines)) found r → RunAnswers false lines found r
run-found lines None r few fits = fits
run-found lines (Some n) r few fits = length-fits lines n r few fits

run-answers : (depth lines : ℕ) (found : Option ℕ) (r : Result (List ℕ) Refusal) → lines ≤ MOST_LINES → RunFits (room_for depth lines) found r → RunAnswers (nat_le OPEN_SCRIPTS depth) lines found r
run-answers depth lines found r few =
    elim (nat_le OPEN_SCRIPTS depth) as (λ b. RunFits (if b then None else Some (MOST_LINES - lines)) found r → RunAnswers b lines found r) [
      | true ↦ λ fits. fits
      | false ↦ λ fits. run-found lines found r few fits
    ]

-- what the terminal says of the one step of a command
asks-so :
    (plans : List Planned) (p : Present) (lines : ℕ) (given : Option Generation) (a : Step) (r : Reply) (c : Carry)
    → lines ≤ MOST_LINES → Keeps (handing_for plans [] (room_at p lines) a) (showing given a) r c → Asks plans p lines (showing given a) r c
asks-so plans p lines given (step.Run s) (reply.Run r) c few keeps = run-answers (length (scripts_of p)) lines c.lines r few keeps
asks-so plans p lines given (step.Run s) _ c few keeps = absurd keeps
asks-so plans p lines given (step.Add s) r c few keeps = keeps
asks-so plans p lines given (step.Drop s) r c few keeps = keeps
asks-so plans p lines given (step.Devreset s) r c few keeps = keeps
asks-so plans p lines given (step.Feed s) r c few keeps = keeps
asks-so plans p lines given (step.Output s) r c few keeps = keeps
asks-so plans p lines given _ r c few keeps = tt

-- what it says of a step of a line
change-goes : (plans : List Planned) (l : LineState) (given : Option Generation) (what : Change) (index : ℕ) (r : Reply) (c : Carry) → Goes plans l (line.step_of l given (line.change what index)) r c
change-goes plans l given line.kick index r c = tt
change-goes plans l given line.resume index r c = tt
change-goes plans l given line.pause index r c = tt
change-goes plans l given line.halt index r c = tt
change-goes plans l given line.reset index r c = tt

ask-goes :
    (plans : List Planned) (l : LineState) (given : Option Generation) (a : Ask) (r : Reply) (c : Carry)
    → IsOwn (own_reply (line.step_of l None a)) r
    → Keeps (handing_for plans (guest_name l.asked) None (line.step_of l None a)) (line.step_of l given a) r c
    → Goes plans l (line.step_of l given a) r c
ask-goes plans l given line.rest r c own keeps = own
ask-goes plans l given (line.look vcpu) r c own keeps = tt
ask-goes plans l given line.claim r c own keeps = keeps
ask-goes plans l given (line.turn from to) r c own keeps = tt
ask-goes plans l given (line.add row) r c own keeps = keeps
ask-goes plans l given (line.drop stage row) r c own keeps = keeps
ask-goes plans l given (line.add_vcpu index) r c own keeps = keeps
ask-goes plans l given (line.drop_vcpu index) r c own keeps = tt
ask-goes plans l given (line.change what index) r c own keeps = change-goes plans l given what index r c
ask-goes plans l given (line.reset_device row) r c own keeps = keeps

goes-so :
    (plans : List Planned) (l : LineState) (given : Option Generation) (next : Option Ask) (s : Step) (r : Reply) (c : Carry)
    → step_for l given next ≡ Some s → IsOwn (option_and_then own_reply (step_for l None next)) r
    → Keeps (handing_in plans l (step_for l None next)) s r c → Goes plans l s r c
goes-so plans l given None s r c is own keeps = absurd (cc is)
goes-so plans l given (Some a) s r c is own keeps =
    let same : line.step_of l given a ≡ s = cc is in
    subst (λ (t : Step). Goes plans l t r c) same
    (ask-goes plans l given a r c own (subst (λ (t : Step). Keeps (handing_in plans l (step_for l None (Some a))) t r c) (sym same) keeps))

module _ (plans : List Planned) (p : Present) (lines : ℕ) (due : Due) (given : Option Generation) (s : Step) (r : Reply) (c : Carry)
    (few : lines ≤ MOST_LINES) (made : IsMadeSo due given s r c) where
  task-agrees : (t : Task) → IsDueOf plans (room_at p lines) t due → FitsTask plans p lines t s r c
  task-agrees (makes a) is =
      let shown : Some (showing given a) ≡ Some (shown_at due.index given due.step) = is.shown given in
      let same : s ≡ showing given a = cc (shown, made.step) in
      let keeps : Keeps (handing_for plans [] (room_at p lines) a) s r c = subst (λ (h : Handing). Keeps h s r c) is.hands made.keeps in (
        same ∙ sym (showing-again given a) ∙ ap (λ (t : Step). showing (shown_in t) a) (sym same),
        subst (λ (t : Step). Asks plans p lines t r c) (sym same)
            (asks-so plans p lines given a r c few (subst (λ (t : Step). Keeps (handing_for plans [] (room_at p lines) a) t r c) same keeps)),
      )
  task-agrees (goes l) is =
      let next : next_step l given ≡ Some s = is.shown given ∙ ap (λ (t : Step). Some t) (sym made.step) in (
        step-again l given (first (left l.place)) s next,
        goes-so plans l given (first (left l.place)) s r c next
            (subst (λ (own : Option Reply). IsOwn own r) is.own made.own)
            (subst (λ (h : Handing). Keeps h s r c) is.hands made.keeps),
      )
  task-agrees (tells text why) is =
      let shown : Some (step.Bad (record { line = text })) ≡ Some (shown_at due.index given due.step) = is.shown given in
      (cc (shown, made.step), subst (λ (own : Option Reply). IsOwn own r) is.own made.own)

present-agrees :
    (plans : List Planned) (lines : ℕ) (p : Option Present) (due : Due) (given : Option Generation) (s : Step) (r : Reply) (c : Carry)
    → lines ≤ MOST_LINES → IsMadeSo due given s r c → IsDuePresent plans lines p (Some due) → FitsPresent plans lines p s r c
present-agrees plans lines None due given s r c few made is = absurd is
present-agrees plans lines (Some p) due given s r c few made is = task-agrees plans p lines due given s r c few made p.task is

-- an interrupt step shows nothing more
interrupt-shown : (index : ℕ) (given : Option Generation) (s : Step) → is_interrupt s ≡ true → shown_at index given s ≡ s
interrupt-shown index given (step.Sample s) is = refl
interrupt-shown index given (step.Pin s) is = refl
interrupt-shown index given _ is = absurd (cc is)

step-agrees :
    (t : TerminalState) (owed : List Step) (due : Due) (given : Option Generation) (s : Step) (r : Reply) (c : Carry)
    → t.session.lines ≤ MOST_LINES → IsMadeSo due given s r c → IsDueFrom owed t.plans t.session (Some due) → IsNextStep t owed s r c
step-agrees t [] due given s r c few made is = present-agrees t.plans t.session.lines (present t.plans t.session) due given s r c few made is
step-agrees t (next ∷ owed) due given s r c few made is =
    let same : s ≡ next = made.step ∙ ap (shown_at due.index given) is.step ∙ interrupt-shown due.index given next is.interrupt in
    (same, ap is_interrupt same ∙ is.interrupt)

pub terminal-agrees :
    (t : TerminalState) (due : Due) (given : Option Generation) (e : Entry)
    → IsDue t (Some due) → t.session.lines ≤ MOST_LINES → e.event.index ≡ t.count + 1
    → IsMadeSo due given e.event.step e.event.reply e.carry → TerminalAgrees t e
terminal-agrees t due given e is few index made = record {
  index = index;
  step = step-agrees t t.owed due given e.event.step e.event.reply e.carry few made is;
  carry = sym made.alone;
}

-- no step of a line runs a script
change-runs : (l : LineState) (given : Option Generation) (what : Change) (index : ℕ) (s : Run) → line.step_of l given (line.change what index) ≡ step.Run s → ⊥
change-runs l given line.kick index s is = cc is
change-runs l given line.resume index s is = cc is
change-runs l given line.pause index s is = cc is
change-runs l given line.halt index s is = cc is
change-runs l given line.reset index s is = cc is

ask-runs : (l : LineState) (given : Option Generation) (a : Ask) (s : Run) → line.step_of l given a ≡ step.Run s → ⊥
ask-runs l given (line.change what index) s is = change-runs l given what index s is
ask-runs l given line.rest s is = cc is
ask-runs l given (line.look vcpu) s is = cc is
ask-runs l given line.claim s is = cc is
ask-runs l given (line.turn from to) s is = cc is
ask-runs l given (line.add row) s is = cc is
ask-runs l given (line.drop stage row) s is = cc is
ask-runs l given (line.add_vcpu index) s is = cc is
ask-runs l given (line.drop_vcpu index) s is = cc is
ask-runs l given (line.reset_device row) s is = cc is

line-runs : (l : LineState) (given : Option Generation) (next : Option Ask) (s : Run) → step_for l given next ≡ Some (step.Run s) → ⊥
line-runs l given None s is = cc is
line-runs l given (Some a) s is = ask-runs l given a s (cc is)

-- a script that is run has no more lines than are left
opened-fits : (fits : Bool) (script : List ℕ) → LengthAnswers fits (Ok script) → fits ≡ true
opened-fits true script answers = refl
opened-fits false script answers = absurd (cc answers)

opened-few : (full : Bool) (lines n : ℕ) (found : Option ℕ) (script : List ℕ) → found ≡ Some n → RunAnswers full lines found (Ok script) → lines + n ≤ MOST_LINES
opened-few true lines n found script is answers = absurd (cc answers)
opened-few false lines n None script is answers = absurd (cc is)
opened-few false lines n (Some m) script is answers =
    let same : m ≡ n = cc is in
    let fits : nat_le (lines + m) MOST_LINES ≡ true = opened-fits (nat_le (lines + m) MOST_LINES) script answers in
    grind (arith, fits, same)

task-few :
    (plans : List Planned) (p : Present) (lines : ℕ) (t : Task) (s : Run) (script : List ℕ) (c : Carry)
    → FitsTask plans p lines t (step.Run s) (reply.Run (Ok script)) c → c.lines ≡ Some (length (script_lines script))
    → lines + length (script_lines script) ≤ MOST_LINES
task-few plans p lines (makes a) s script c fits counted =
    opened-few (nat_le OPEN_SCRIPTS (length (scripts_of p))) lines (length (script_lines script)) c.lines script counted fits.1
task-few plans p lines (goes l) s script c fits counted = absurd (line-runs l None (first (left l.place)) s fits.0)
task-few plans p lines (tells text why) s script c fits counted = absurd (cc fits.0)

present-few :
    (plans : List Planned) (p : Option Present) (lines : ℕ) (s : Run) (script : List ℕ) (c : Carry)
    → FitsPresent plans lines p (step.Run s) (reply.Run (Ok script)) c → c.lines ≡ Some (length (script_lines script))
    → lines + length (script_lines script) ≤ MOST_LINES
present-few plans None lines s script c fits counted = absurd fits
present-few plans (Some p) lines s script c fits counted = task-few plans p lines p.task s script c fits counted

run-few :
    (t : TerminalState) (owed : List Step) (s : Run) (script : List ℕ) (c : Carry)
    → IsNextStep t owed (step.Run s) (reply.Run (Ok script)) c → c.lines ≡ Some (length (script_lines script))
    → t.session.lines + length (script_lines script) ≤ MOST_LINES
run-few t [] s script c next counted = present-few t.plans (present t.plans t.session) t.session.lines s script c next counted
run-few t (due ∷ owed) s script c next counted = absurd (cc next.1)

script-few :
    (t : TerminalState) (s : Step) (script : List ℕ) (c : Carry)
    → IsNextStep t t.owed s (reply.Run (Ok script)) c → IsCounted s (reply.Run (Ok script)) c
    → t.session.lines + length (script_lines script) ≤ MOST_LINES
script-few t (step.Run s) script c next counted = run-few t t.owed s script c next counted
script-few t _ script c next counted = absurd counted

lines-few :
    (t : TerminalState) (s : Step) (r : Reply) (c : Carry)
    → IsNextStep t t.owed s r c → IsCounted s r c → t.session.lines ≤ MOST_LINES → t.session.lines + lines_run r ≤ MOST_LINES
lines-few t s (reply.Run (Ok script)) c next counted few = script-few t s script c next counted
lines-few t s (reply.Run (Err why)) c next counted few = omega (arith, few)
lines-few t s _ c next counted few = omega (arith, few)

pub few-lines : (t : TerminalState) (e : Entry) → TerminalAgrees t e → IsCounted e.event.step e.event.reply e.carry → t.session.lines ≤ MOST_LINES → t.session.lines + lines_run e.event.reply ≤ MOST_LINES
few-lines t e agrees counted few = lines-few t e.event.step e.event.reply e.carry agrees.step counted few
