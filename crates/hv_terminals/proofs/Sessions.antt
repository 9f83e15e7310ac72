-- What a session is at, and what the step leaves of it.
use Rattle.std.proofs.Common.{◌≡◌, ◌≢◌, ℕ, ◌+◌, List, [], ◌∷◌, Some, None, Ok, Err, refl, ap, ◌∙◌, sym, subst}
use Rattle.std.specs.Prelude.{Option}
use Rattle.hv_answer.specs.declared.reply.Reply.{Reply}
use Rattle.hv_answer.specs.declared.reply.Reply.TheVariants as reply
use Rattle.hv_step.specs.declared.step.Step.{Step}
use Rattle.hv_words.specs.Said.{said}
use Rattle.hv_words.specs.declared.refusal.WordsRefusal.{WordsRefusal}
use Rattle.hv_rules.specs.Carry.{Carry}
use Rattle.hv_rules.specs.Line.{Ask, LineState, first, learnt, left, line_after, place_after}
use Rattle.hv_model.specs.Plans.{Planned}
use Rattle.hv_model.specs.Session.{Begun, Session, Task, begun, first_of, goes, kept, kept_for, lines_run, made_at, makes, present, present_with, session_after, task_of, tells}
use Rattle.hv_programs.specs.Line.{with_guest}
use Rattle.hv_terminals.specs.Due.{room_for}
use Rattle.hv_terminals.specs.Scripts.{begun_depth, begun_line}
use Rattle.hv_terminals.specs.Session.{IsDuePresent, begins_at, begins_present, gone_on, room_at, with_task}
use Rattle.hv_terminals.specs.Task.{IsDueOf, begins_of}
use Rattle.hv_terminals.specs.declared.due.Begins.{Begins}
use Rattle.hv_terminals.specs.declared.due.Begins.TheVariants as begins
use Rattle.hv_terminals.specs.declared.due.Due.{Due}

-- a line is kept where it has a step left
kept-with : (l : LineState) (asks : List Ask) (a : Ask) → first asks ≡ Some a → kept_for l asks ≡ Some l
kept-with l [] a is = absurd (cc is)
kept-with l (ask ∷ more) a is = refl

pub kept_with : (l : LineState) (a : Ask) → first (left l.place) ≡ Some a → kept l ≡ Some l
kept_with l a is = kept-with l (left l.place) a is

kept-without : (l : LineState) (asks : List Ask) → first asks ≡ None → kept_for l asks ≡ None
kept-without l [] is = refl
kept-without l (ask ∷ more) is = absurd (cc is)

pub kept_without : (l : LineState) → first (left l.place) ≡ None → kept l ≡ None
kept_without l is = kept-without l (left l.place) is

-- of what is handed over, a line learns the guest alone
learnt-guest : (guest : Option (ℕ × ℕ)) (r : Reply) (c : Carry) → learnt guest r c ≡ learnt guest r (with_guest c.guest)
learnt-guest guest (reply.Name (Ok claimed)) c = refl
learnt-guest guest (reply.Stage (Ok done)) c = refl
learnt-guest guest (reply.Name (Err why)) c = refl
learnt-guest guest (reply.Stage (Err why)) c = refl
learnt-guest guest _ c = refl

pub line-alone : (l : LineState) (r : Reply) (c : Carry) → line_after l r c ≡ line_after l r (with_guest c.guest)
line-alone l r c = ap (λ (guest : Option (ℕ × ℕ)). record l { guest = guest; place = place_after l.place r }) (learnt-guest l.guest r c)

go-alone : (b : Begun) (l : LineState) (s : Session) (r : Reply) (c : Carry) → made_at (Some (with_task (goes l) b)) s r (with_guest c.guest) ≡ made_at (Some (with_task (goes l) b)) s r c
go-alone b l s r c =
    ap (λ (line : LineState). record { line = kept line; boot = b.boot; own = b.own; lines = s.lines + lines_run r }) (sym (line-alone l r c))

-- what is due of a session that is at a line
pub due-of-line : (plans : List Planned) (s : Session) (l : LineState) (due : Due) → s.line ≡ Some l → ((room : Option ℕ) → IsDueOf plans room (goes l) due) → IsDuePresent plans s.lines (present plans s) (Some due)
due-of-line plans s l due is going =
    subst (λ (line : Option LineState). IsDuePresent plans s.lines (present_with plans line s) (Some due)) (sym is)
    (going (room_at (record { task = goes l; boot = s.boot; own = s.own }) s.lines))

-- what is due of a session that is at a command
due-of-first :
    (plans : List Planned) (lines : ℕ) (next : Option Begun) (text : List ℕ) (depth : ℕ) (due : Due)
    → begun_line next ≡ Some text → depth ≡ begun_depth next
    → IsDueOf plans (room_for depth lines) (task_of plans text (said text)) due → IsDuePresent plans lines (first_of plans next) (Some due)
due-of-first plans lines None text depth due is deep found = absurd (cc is)
due-of-first plans lines (Some b) text depth due is deep found =
    let same : text ≡ b.line = cc is in
    subst (λ (t : List ℕ). IsDueOf plans (room_for (begun_depth (Some b)) lines) (task_of plans t (said t)) due) same
    (subst (λ (n : ℕ). IsDueOf plans (room_for n lines) (task_of plans text (said text)) due) deep found)

pub due-of-begun :
    (plans : List Planned) (s : Session) (text : List ℕ) (depth : ℕ) (due : Due)
    → s.line ≡ None → begun_line (begun s) ≡ Some text → depth ≡ begun_depth (begun s)
    → IsDueOf plans (room_for depth s.lines) (task_of plans text (said text)) due → IsDuePresent plans s.lines (present plans s) (Some due)
due-of-begun plans s text depth due none is deep found =
    subst (λ (line : Option LineState). IsDuePresent plans s.lines (present_with plans line s) (Some due)) (sym none)
    (due-of-first plans s.lines (begun s) text depth due is deep found)

-- a step of a command begins something
begins-some : (t : Task) → begins.Nothing ≡ begins_of t → ⊥
begins-some (makes asked) is = cc is
begins-some (goes l) is = cc is
begins-some (tells text why) is = cc is

module _ (plans : List Planned) (s : Session) (r : Reply) (c : Carry) where
  -- a step of the line that is begun begins nothing
  going-first : (next : Option Begun) → begins.Nothing ≡ begins_present None (first_of plans next) → s ≡ made_at (first_of plans next) s r c
  going-first None is = refl
  going-first (Some b) is = absurd (begins-some (task_of plans b.line (said b.line)) is)

  going-with : (line : Option LineState) → begins.Nothing ≡ begins_present line (present_with plans line s) → gone_on line s r (with_guest c.guest) ≡ made_at (present_with plans line s) s r c
  going-with None is = going-first (begun s) is
  going-with (Some l) is = go-alone (record { line = []; boot = s.boot; own = s.own }) l s r c

  pub going-after : begins.Nothing ≡ begins_at plans s → gone_on s.line s r (with_guest c.guest) ≡ session_after plans s r c
  going-after is = going-with s.line is

  -- another begins the next command
  module _ (new : Session) (which : Begins) (some : which ≢ begins.Nothing)
      (made : (b : Begun) (t : Task) → s.line ≡ None → begun s ≡ Some b → which ≡ begins_of t → new ≡ made_at (Some (with_task t b)) s r c) where
    begun-first : (next : Option Begun) → s.line ≡ None → begun s ≡ next → which ≡ begins_present None (first_of plans next) → new ≡ made_at (first_of plans next) s r c
    begun-first None none is begins' = absurd (some begins')
    begun-first (Some b) none is begins' = made b (task_of plans b.line (said b.line)) none is begins'

    begun-with : (line : Option LineState) → s.line ≡ line → which ≡ begins_present line (present_with plans line s) → new ≡ made_at (present_with plans line s) s r c
    begun-with None is begins' = begun-first (begun s) is refl begins'
    begun-with (Some l) is begins' = absurd (some begins')

    pub begun-after : which ≡ begins_at plans s → new ≡ session_after plans s r c
    begun-after begins' = begun-with s.line refl begins'

-- by what is begun with it: a command of one step
pub command-made :
    (s new : Session) (r : Reply) (c : Carry)
    → ((b : Begun) (asked : Step) → s.line ≡ None → begun s ≡ Some b → new ≡ made_at (Some (with_task (makes asked) b)) s r c)
    → (b : Begun) (t : Task) → s.line ≡ None → begun s ≡ Some b → begins.Command ≡ begins_of t → new ≡ made_at (Some (with_task t b)) s r c
command-made s new r c made b (makes asked) none is begins' = made b asked none is
command-made s new r c made b (goes l) none is begins' = absurd (cc begins')
command-made s new r c made b (tells text why) none is begins' = absurd (cc begins')

-- a line of several steps
pub line-made :
    (s new : Session) (r : Reply) (c : Carry) (l : LineState)
    → ((b : Begun) → begun s ≡ Some b → new ≡ made_at (Some (with_task (goes l) b)) s r (with_guest c.guest))
    → (b : Begun) (t : Task) → s.line ≡ None → begun s ≡ Some b → begins.Line l ≡ begins_of t → new ≡ made_at (Some (with_task t b)) s r c
line-made s new r c l made b (makes asked) none is begins' = absurd (cc begins')
line-made s new r c l made b (goes k) none is begins' =
    let same : l ≡ k = cc begins' in
    subst (λ (line : LineState). new ≡ made_at (Some (with_task (goes line) b)) s r c) same (made b is ∙ go-alone b l s r c)
line-made s new r c l made b (tells text why) none is begins' = absurd (cc begins')

-- or a line of a script that is no command
pub told-made :
    (s new : Session) (r : Reply) (c : Carry)
    → ((b : Begun) (text : List ℕ) (why : WordsRefusal) → s.line ≡ None → begun s ≡ Some b → new ≡ made_at (Some (with_task (tells text why) b)) s r c)
    → (b : Begun) (t : Task) → s.line ≡ None → begun s ≡ Some b → begins.NoCommand ≡ begins_of t → new ≡ made_at (Some (with_task t b)) s r c
told-made s new r c made b (makes asked) none is begins' = absurd (cc begins')
told-made s new r c made b (goes l) none is begins' = absurd (cc begins')
told-made s new r c made b (tells text why) none is begins' = made b text why none is
