-- What is due of a terminal at its end, and what its step leaves of it.
use Rattle.std.proofs.Common.{◌≡◌, ℕ, ◌+◌, List, [], ◌∷◌, ◌++◌, Some, None, Ok, Err, refl, ap, ◌∙◌, sym}
use Rattle.std.specs.Prelude.{Option, ◌↔◌, slice_get}
use Rattle.hv_answer.specs.declared.reply.Reply.{Reply}
use Rattle.hv_answer.specs.declared.reply.Reply.TheVariants as reply
use Rattle.hv_step.specs.declared.step.Step.{Step}
use Rattle.hv_step.specs.declared.step.Step.TheVariants as step
use Rattle.hv_rules.specs.Carry.{Carry}
use Rattle.hv_rules.specs.Line.{LineState}
use Rattle.hv_model.specs.Plans.{Planned}
use Rattle.hv_model.specs.Session.{Begun, HasEnded, Present, Scripts, Session, begun, begun_boot, begun_own, first_of, next_in, present, present_with}
use Rattle.hv_model.specs.Terminal.{IsAtEnd, TerminalState, owed_after, terminal_with}
use Rattle.hv_terminals.specs.Session.{IsDuePresent}
use Rattle.hv_terminals.specs.Terminal.{made_from, made_of, with_region}
use Rattle.hv_terminals.specs.declared.due.Due.{Due}

-- nothing is owed where no step is the first
pub none-owed : (owed : List Step) → slice_get owed 0 ≡ None → owed ≡ []
none-owed [] is = refl
none-owed (next ∷ owed) is = absurd (cc is)

pub some-owed : (owed : List Step) (next : Step) → slice_get owed 0 ≡ Some next → owed ≡ [] → ⊥
some-owed owed next is nothing =
    let none : slice_get owed 0 ≡ None = ap (λ (steps : List Step). slice_get steps 0) nothing in
    cc (none, is)

-- a session that is at nothing has ended
own-none : (next : Option (List ℕ × Scripts)) → begun_own next ≡ None → next ≡ None
own-none None is = refl
own-none (Some next) is = absurd (cc is)

boot-none : (next : Option (List ℕ × Scripts)) (own : Scripts) → begun_boot next own ≡ None → (next ≡ None) × (next_in own ≡ None)
boot-none None own is = (refl, own-none (next_in own) is)
boot-none (Some next) own is = absurd (cc is)

first-none : (plans : List Planned) (next : Option Begun) → first_of plans next ≡ None → next ≡ None
first-none plans None is = refl
first-none plans (Some b) is = absurd (cc is)

line-none : (plans : List Planned) (s : Session) (line : Option LineState) → present_with plans line s ≡ None → (line ≡ None) × (begun s ≡ None)
line-none plans s None is = (refl, first-none plans (begun s) is)
line-none plans s (Some l) is = absurd (cc is)

ended-where-none : (plans : List Planned) (s : Session) → present plans s ≡ None → HasEnded s
ended-where-none plans s is =
    let found = line-none plans s s.line is in
    let left = boot-none (next_in s.boot) s.own found.1 in
    record { line = found.0; boot = left.0; own = left.1 }

-- and one that has ended is at nothing
none-where-ended : (plans : List Planned) (s : Session) → HasEnded s → present plans s ≡ None
none-where-ended plans s ended =
    ap (λ (line : Option LineState). present_with plans line s) ended.line
    ∙ ap (λ (next : Option (List ℕ × Scripts)). first_of plans (begun_boot next s.own)) ended.boot
    ∙ ap (λ (next : Option (List ℕ × Scripts)). first_of plans (begun_own next)) ended.own

due-none : (plans : List Planned) (lines : ℕ) (p : Option Present) (due : Option Due) → IsDuePresent plans lines p due → (due ≡ None) ↔ (p ≡ None)
due-none plans lines None None is = (λ e. refl, λ e. refl)
due-none plans lines None (Some due) is = absurd is
due-none plans lines (Some p) None is = absurd is
due-none plans lines (Some p) (Some due) is = (λ e. absurd (cc e), λ e. absurd (cc e))

-- nothing is due exactly at the end
pub due-end : (t : TerminalState) (due : Option Due) → t.owed ≡ [] → IsDuePresent t.plans t.session.lines (present t.plans t.session) due → (due ≡ None) ↔ IsAtEnd t
due-end t due owed is =
    let both = due-none t.plans t.session.lines (present t.plans t.session) due is in (
      λ none. record { owed = owed; ended = ended-where-none t.plans t.session (both.0 none) },
      λ ended. both.1 (none-where-ended t.plans t.session ended.ended),
    )

-- of what is handed over, row and parent decide what is owed
pub owed-alone : (plans : List Planned) (s : Step) (r : Reply) (c : Carry) → owed_after plans s r (with_region c.row c.parent) ≡ owed_after plans s r c
owed-alone plans (step.Add s) (reply.Add (Ok changes)) c = refl
owed-alone plans (step.Add s) (reply.Add (Err why)) c = refl
owed-alone plans (step.Drop s) (reply.Drop (Ok changes)) c = refl
owed-alone plans (step.Drop s) (reply.Drop (Err why)) c = refl
owed-alone plans (step.Devreset s) (reply.Devreset (Ok changes)) c = refl
owed-alone plans (step.Devreset s) (reply.Devreset (Err why)) c = refl
owed-alone plans (step.Feed s) (reply.Feed (Ok changes)) c = refl
owed-alone plans (step.Feed s) (reply.Feed (Err why)) c = refl
owed-alone plans (step.Sample s) (reply.Sample (Some sampled)) c = refl
owed-alone plans (step.Sample s) (reply.Sample None) c = refl
owed-alone plans s r c = refl

-- a terminal that made its step, owes what follows, and counts it
abbrev owing : TerminalState → List Step → TerminalState
owing t more = record t { owed = t.owed ++ more }

abbrev counting : TerminalState → TerminalState
counting t = record t { count = t.count + 1 }

took-with : (t : TerminalState) (owed : List Step) (s : Step) (r : Reply) (c : Carry) → t.owed ≡ owed → counting (owing (made_from owed t r c) (owed_after (made_from owed t r c).plans s r c)) ≡ terminal_with t owed s r c
took-with t [] s r c is = ap (λ (owed : List Step). record (terminal_with t [] s r c) { owed = owed ++ owed_after t.plans s r c }) is
took-with t (next ∷ owed) s r c is = refl

pub took-is :
    (t middle owes new : TerminalState) (s : Step) (r : Reply) (c : Carry) (row : Option ℕ) (parent : Option (ℕ × ℕ))
    → c.row ≡ row → c.parent ≡ parent → middle ≡ made_of t r c
    → owes ≡ owing middle (owed_after middle.plans s r (with_region row parent)) → new ≡ counting owes
    → new ≡ terminal_with t t.owed s r c
took-is t middle owes new s r c row parent row-is parent-is made more counted =
    let handed : with_region row parent ≡ with_region c.row c.parent =
    ap (λ (k : Option ℕ). with_region k parent) (sym row-is) ∙ ap (λ (k : Option (ℕ × ℕ)). with_region c.row k) (sym parent-is)
    in
    counted
    ∙ ap counting (more ∙ ap (λ (k : Carry). owing middle (owed_after middle.plans s r k)) handed ∙ ap (owing middle) (owed-alone middle.plans s r c))
    ∙ ap (λ (m : TerminalState). counting (owing m (owed_after m.plans s r c))) made
    ∙ took-with t t.owed s r c refl
