-- Of the scripts that a terminal has open the outermost never gets longer, and a command of its own makes it shorter.
use Rattle.std.proofs.Common.{◌≡◌, ℕ, ◌<◌, ◌≤◌, List, [], ◌∷◌, length, refl, ap, sym, subst, ◌∙◌, arith}
use Rattle.std.specs.Prelude.{Ok, Option, None, Some, IsSome}
use Rattle.hv_step.specs.declared.step.Step.{Step}
use Rattle.hv_answer.specs.declared.reply.Reply.{Reply}
use Rattle.hv_answer.specs.declared.reply.Reply.TheVariants as reply
use Rattle.hv_words.specs.Words.{commands_of}
use Rattle.hv_rules.specs.Carry.{Carry}
use Rattle.hv_rules.specs.Line.{LineState}
use Rattle.hv_words.specs.Said.{said}
use Rattle.hv_model.specs.declared.entry.Entry.{Entry}
use Rattle.hv_model.specs.Plans.{Planned}
use Rattle.hv_model.specs.Session.{Scripts, Session, next_in, Begun, begun_own, begun_boot, begun, Task, makes, goes, tells, task_of, first_of, Present, present_with, present, with_script, opened, made_at, session_after}
use Rattle.hv_model.specs.Terminal.{TerminalState, FitsPresent, IsNextStep, terminal_with, terminal_after, IsAtBootEnd}

-- how many commands the outermost of open scripts has
abbrev bottom_of : List (List ℕ) → Scripts → ℕ
bottom_of script [] = length script
bottom_of script (s ∷ ss) = bottom_of s ss

abbrev pub bottom : Scripts → ℕ
bottom [] = 0
bottom (s ∷ ss) = bottom_of s ss

-- a command that is next leaves a script open, and the outermost no longer than this
abbrev NextKeeps : ℕ → Option (List ℕ × Scripts) → Type 0
NextKeeps limit None = Unit {0}
NextKeeps limit (Some n) = (0 < length n.1) × (bottom n.1 ≤ limit)

fewer-left : (l : List ℕ) (ls : List (List ℕ)) (ss : Scripts) → bottom_of ls ss ≤ bottom_of (l ∷ ls) ss
fewer-left l ls [] = omega arith
fewer-left l ls (s ∷ ss) = omega arith

next-keeps : (ss : Scripts) → NextKeeps (bottom ss) (next_in ss)
next-keeps [] = tt
next-keeps ([] ∷ []) = tt
next-keeps ([] ∷ s ∷ ss) = next-keeps (s ∷ ss)
next-keeps ((l ∷ ls) ∷ ss) = (omega arith, fewer-left l ls ss)

-- what is begun leaves the outermost own script no longer than this, whatever is opened
record Keeps (limit : ℕ) (b : Begun) : Type 0 where
  left : bottom b.own ≤ limit
  opens : (task : Task) (script : List (List ℕ)) → bottom (opened (record { task = task; boot = b.boot; own = b.own }) script).own ≤ limit

abbrev BegunKeeps : ℕ → Option Begun → Type 0
BegunKeeps limit None = Unit {0}
BegunKeeps limit (Some b) = Keeps limit b

open-own : (limit : ℕ) (line : List ℕ) (own : Scripts) → 0 < length own → bottom own ≤ limit → Keeps limit (record { line = line; boot = []; own = own })
open-own limit line [] some h = absurd (omega arith)
open-own limit line (s ∷ ss) some h = record { left = h; opens = λ task script. h }

open-boot : (limit : ℕ) (line : List ℕ) (boot own : Scripts) → 0 < length boot → bottom own ≤ limit → Keeps limit (record { line = line; boot = boot; own = own })
open-boot limit line [] own some h = absurd (omega arith)
open-boot limit line (s ∷ ss) own some h = record { left = h; opens = λ task script. h }

own-keeps : (limit : ℕ) (next : Option (List ℕ × Scripts)) → NextKeeps limit next → BegunKeeps limit (begun_own next)
own-keeps limit None h = tt
own-keeps limit (Some n) h = open-own limit n.0 n.1 h.0 h.1

begun-keeps : (among : ℕ) (next : Option (List ℕ × Scripts)) (own : Scripts) → NextKeeps among next → BegunKeeps (bottom own) (begun_boot next own)
begun-keeps among None own h = own-keeps (bottom own) (next_in own) (next-keeps own)
begun-keeps among (Some n) own h = open-boot (bottom own) n.0 n.1 own h.0 (omega arith)

-- what a session is at leaves it so, whatever a command runs
abbrev PresentKeeps : ℕ → Option Present → Type 0
PresentKeeps limit None = Unit {0}
PresentKeeps limit (Some p) = (r : Reply) → bottom (with_script p.task p r).own ≤ limit

task-keeps : (limit : ℕ) (task : Task) (line : List ℕ) (boot own : Scripts) (r : Reply) → Keeps limit (record { line = line; boot = boot; own = own })
    → bottom (with_script task (record { task = task; boot = boot; own = own }) r).own ≤ limit
task-keeps limit (makes asked) line boot own (reply.Run (Ok script)) h = h.opens (makes asked) (commands_of script)
task-keeps limit (makes asked) line boot own r h = h.left
task-keeps limit (goes l) line boot own r h = h.left
task-keeps limit (tells text why) line boot own r h = h.left

first-keeps : (limit : ℕ) (plans : List Planned) (next : Option Begun) → BegunKeeps limit next → PresentKeeps limit (first_of plans next)
first-keeps limit plans None h = tt
first-keeps limit plans (Some b) h = λ r. task-keeps limit (task_of plans b.line (said b.line)) b.line b.boot b.own r h

with-keeps : (plans : List Planned) (l : Option LineState) (s : Session) → PresentKeeps (bottom s.own) (present_with plans l s)
with-keeps plans None s = first-keeps (bottom s.own) plans (begun s) (begun-keeps (bottom s.boot) (next_in s.boot) s.own (next-keeps s.boot))
with-keeps plans (Some l) s = λ r. omega arith

made-keeps : (p : Option Present) (s : Session) (r : Reply) (c : Carry) → PresentKeeps (bottom s.own) p → bottom (made_at p s r c).own ≤ bottom s.own
made-keeps None s r c h = omega arith
made-keeps (Some p) s r c h = h r

session-keeps : (plans : List Planned) (s : Session) (r : Reply) (c : Carry) → bottom (session_after plans s r c).own ≤ bottom s.own
session-keeps plans s r c = made-keeps (present plans s) s r c (with-keeps plans s.line s)

owed-keeps : (t : TerminalState) (owed : List Step) (st : Step) (r : Reply) (c : Carry) → bottom (terminal_with t owed st r c).session.own ≤ bottom t.session.own
owed-keeps t (due ∷ owed) st r c = omega arith
owed-keeps t [] st r c = session-keeps t.plans t.session r c

pub after-keeps : (t : TerminalState) (e : Entry) → bottom (terminal_after t e).session.own ≤ bottom t.session.own
after-keeps t e = owed-keeps t t.owed e.event.step e.event.reply e.carry

-- the first command of the own script makes it shorter
own-shorter : (plans : List Planned) (s : Session) (script : List (List ℕ)) (r : Reply) (c : Carry) → IsSome (first_of plans (begun_own (next_in (script ∷ []))))
    → bottom (made_at (first_of plans (begun_own (next_in (script ∷ [])))) s r c).own < length script
own-shorter plans s [] r c some = absurd (cc some)
own-shorter plans s (l ∷ ls) r c some =
    let shorter : bottom (with_script (task_of plans l (said l)) (record { task = task_of plans l (said l); boot = []; own = ls ∷ [] }) r).own ≤ length ls =
    task-keeps (length ls) (task_of plans l (said l)) l [] (ls ∷ []) r (open-own (length ls) l (ls ∷ []) (omega arith) (omega arith)) in
    omega arith

at-own : (plans : List Planned) (s : Session) (script : List (List ℕ)) → s.line ≡ None → next_in s.boot ≡ None → s.own ≡ script ∷ []
    → present plans s ≡ first_of plans (begun_own (next_in (script ∷ [])))
at-own plans s script line boot own =
    ap (λ (l : Option LineState). present_with plans l s) line
    ∙ ap (λ (next : Option (List ℕ × Scripts)). first_of plans (begun_boot next s.own)) boot
    ∙ ap (λ (o : Scripts). first_of plans (begun_own (next_in o))) own

fits-some : (plans : List Planned) (lines : ℕ) (p : Option Present) (st : Step) (r : Reply) (c : Carry) → FitsPresent plans lines p st r c → IsSome p
fits-some plans lines None st r c h = absurd h
fits-some plans lines (Some p) st r c h = refl

pub after-boot : (t : TerminalState) (e : Entry) (script : List (List ℕ)) → IsAtBootEnd t → t.session.own ≡ script ∷ []
    → IsNextStep t t.owed e.event.step e.event.reply e.carry → bottom (terminal_after t e).session.own < length script
after-boot t e script at_end alone h =
    let st = e.event.step in
    let r = e.event.reply in
    let c = e.carry in
    let Next : List Step → Type 0 = λ owed. IsNextStep t owed st r c in
    let Shorter : List Step → Type 0 = λ owed. bottom (terminal_with t owed st r c).session.own < length script in
    let h' : IsNextStep t [] st r c = subst Next at_end.owed h in
    let is = at-own t.plans t.session script at_end.booted.line at_end.booted.boot alone in
    let some = subst IsSome is (fits-some t.plans t.session.lines (present t.plans t.session) st r c h') in
    let Made : Option Present → Type 0 = λ p. bottom (made_at p t.session r c).own < length script in
    subst Shorter (sym at_end.owed) (subst Made (sym is) (own-shorter t.plans t.session script r c some))
