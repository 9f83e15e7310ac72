-- What a step that a session asked for shows, by what is begun with it.
use Rattle.std.proofs.Common.{◌≡◌, ℕ, ◌+◌, false, List, ◌++◌, Some, None, Ok, Err, refl, ap, ◌∙◌, sym, subst, append_assoc}
use Rattle.std.specs.Prelude.{Option, Result}
use Rattle.std.specs.Option.{option_map}
use Rattle.hv_answer.specs.declared.reply.Reply.{Reply}
use Rattle.hv_answer.specs.declared.reply.Reply.TheVariants as reply
use Rattle.hv_refusal.specs.declared.refusal.Refusal.{Refusal}
use Rattle.hv_region.specs.declared.plan.GuestPlan.{GuestPlan}
use Rattle.hv_step.specs.declared.step.Bad.{Bad}
use Rattle.hv_step.specs.declared.step.Step.{Step}
use Rattle.hv_step.specs.declared.step.Step.TheVariants as step
use Rattle.hv_rules.specs.Carry.{Carry}
use Rattle.hv_rules.specs.Line.{Asked, LineState, begun_for, line_after, why_refused}
use Rattle.hv_words.specs.Said.{said}
use Rattle.hv_words.specs.declared.command.Command.{Command}
use Rattle.hv_words.specs.declared.refusal.WordsRefusal.{WordsRefusal}
use Rattle.hv_model.specs.Plans.{Planned}
use Rattle.hv_model.specs.Session.{Begun, Present, Session, Task, begun, first_of, goes, kept, lines_run, makes, present, present_with, task_for, task_of, tells}
use Rattle.hv_model.specs.Shown.{shown_in}
use Rattle.hv_model.specs.Terminal.{FitsPresent, FitsTask, is_interrupt, refusal_of}
use Rattle.hv_model.specs.Transcript.{ShowsStep, changed_by, going_shown, refused_shown}
use Rattle.hv_model.specs.Work.{Work, line_of, once, plan_for, several, work_of}
use Rattle.hv_shown.specs.Appends.{IsStepShown}
use Rattle.hv_terminals.specs.Session.{begins_at, begins_present, with_task}
use Rattle.hv_terminals.specs.Task.{begins_of}
use Rattle.hv_terminals.specs.declared.due.Begins.{Begins}
use Rattle.hv_terminals.specs.declared.due.Begins.TheVariants as begins
use Rattle.hv_transcript.specs.declared.kept.Kept.{Kept}
use Rattle.hv_transcript.specs.Kept.{ShowsAt, ShowsGoing, ShowsNext, ShowsOnce, begun_shown}
use Rattle.hv_transcript.specs.Telling.{session_told, with_told}
use Rattle.hv_transcript.proofs.Interrupts.{command-asked, interrupts, line-asked, once-asked, showing-same}
use Rattle.hv_transcript.proofs.Lines.{left-again, refused-again}

-- a line that is begun knows no guest, and has not turned back
guest-first : (asked : Asked) (plan : Option GuestPlan) → (begun_for asked plan).guest ≡ None
guest-first asked None = refl
guest-first asked (Some plan) = refl

why-first : (asked : Asked) (plan : Option GuestPlan) → why_refused (begun_for asked plan).place ≡ None
why-first asked None = refl
why-first asked (Some plan) = refl

-- a line of a script that is no command shows why
refused-text : (plans : List Planned) (bad : Bad) (why : Refusal) (s : Step) (r : Reply) (text : List ℕ) → s ≡ step.Bad bad → r ≡ reply.Bad why → ShowsStep plans s r text → text ≡ refused_shown why
refused-text plans bad why s r text is answered shows =
    let Shows : Step → Reply → Type 0 = λ x y. ShowsStep plans x y text in
    subst (λ (y : Reply). Shows (step.Bad bad) y) answered (subst (λ (x : Step). Shows x r) is shows)

refused-can : (bad : Bad) (why : Refusal) (s : Step) (r : Reply) → s ≡ step.Bad bad → r ≡ reply.Bad why → IsStepShown s r
refused-can bad why s r is answered =
    subst (λ (x : Step). IsStepShown x r) (sym is) (subst (λ (y : Reply). IsStepShown (step.Bad bad) y) (sym answered) tt)

module _ (plans : List Planned) (before : Session) (old : Kept) (s : Step) (r : Reply) (from to : List ℕ) (new : Kept) where
  -- the session, were this its line
  abbrev having : Option LineState → Session
  having line = record before { line = line }

  -- what the calls say that show a step with which this is begun, where this is the line
  abbrev pub Gives : Begins → Option LineState → Type 0
  Gives begins.Nothing None = ⊥
  Gives begins.Nothing (Some l) =
      ShowsGoing plans (with_told old.guest l) (old.changed + changed_by r) s r from to new
  Gives begins.Command line = ShowsOnce plans (begun_shown before) s r from to new
  Gives (begins.Line l) line =
      ShowsGoing plans (with_told None l) (old.changed + changed_by r) s r (from ++ begun_shown before) to new
  Gives begins.NoCommand line = ShowsOnce plans (begun_shown before) s r from to new

  -- a step of the line that is begun
  going-told :
      (l : LineState) → is_interrupt s ≡ false → Gives begins.Nothing (Some l)
      → ShowsAt plans (present_with plans (Some l) before) (present_with plans (Some (with_told old.guest l)) before) (having (Some l)) old s r from to new
  going-told l asked shows = record {
    asked = asked;
    behind = going_shown plans (with_told old.guest l) (old.changed + changed_by r) s r;
    shows = refl;
    appended = shows.appended;
    told = λ c.
        ap (λ (line : Option LineState). record before { line = line; lines = before.lines + lines_run r })
        (ap (λ (k : Kept). option_map (with_told k.guest) (kept (line_after l r c))) shows.known ∙ left-again l old.guest r c);
    changed = ap (λ (k : Kept). k.changed) shows.known;
    refused = λ c. ap (λ (k : Kept). k.refused) shows.known ∙ refused-again l old.guest r c;
  }

  -- the first step of a line
  first-told :
      (b : Begun) (l : LineState) → l.guest ≡ None → is_interrupt s ≡ false → Gives (begins.Line l) None
      → ShowsAt plans (Some (with_task (goes l) b)) (Some (with_task (goes l) b)) (having None) old s r from to new
  first-told b l none asked shows =
      let fresh : with_told None l ≡ l = ap (λ (guest : Option (ℕ × ℕ)). with_told guest l) (sym none) in
      let same : ShowsGoing plans l (old.changed + changed_by r) s r (from ++ begun_shown before) to new =
      subst (λ (k : LineState). ShowsGoing plans k (old.changed + changed_by r) s r (from ++ begun_shown before) to new) fresh shows
      in
      record {
        asked = asked;
        behind = going_shown plans l (old.changed + changed_by r) s r;
        shows = refl;
        appended = same.appended ∙ append_assoc from (begun_shown before) (going_shown plans l (old.changed + changed_by r) s r);
        told = λ c.
            ap (λ (line : Option LineState). record { line = line; boot = b.boot; own = b.own; lines = before.lines + lines_run r })
            (ap (λ (k : Kept). option_map (with_told k.guest) (kept (line_after l r c))) same.known ∙ left-again l l.guest r c);
        changed = ap (λ (k : Kept). k.changed) same.known;
        refused = λ c. ap (λ (k : Kept). k.refused) same.known ∙ refused-again l l.guest r c;
      }

  -- the one step of a command
  makes-told :
      (b : Begun) (one : Step) → is_interrupt s ≡ false → Gives begins.Command None
      → ShowsAt plans (Some (with_task (makes one) b)) (Some (with_task (makes one) b)) (having None) old s r from to new
  makes-told b one asked shows = record {
    asked = asked;
    behind = shows.answer.text;
    shows = shows.answer.shows;
    appended = shows.answer.appended ∙ append_assoc from (begun_shown before) shows.answer.text;
    told = λ c. refl;
    changed = ap (λ (k : Kept). k.changed) shows.known;
    refused = λ c. ap (λ (k : Kept). k.refused) shows.known;
  }

  -- a line of a script that is no command
  tells-told :
      (b : Begun) (line : List ℕ) (why : WordsRefusal) → s ≡ step.Bad (record { line = line }) → r ≡ reply.Bad (refusal_of why) → Gives begins.NoCommand None
      → ShowsAt plans (Some (with_task (tells line why) b)) (Some (with_task (tells line why) b)) (having None) old s r from to new
  tells-told b line why is answered shows = record {
    asked = ap is_interrupt is;
    behind = shows.answer.text;
    shows = refused-text plans (record { line = line }) (refusal_of why) s r shows.answer.text is answered shows.answer.shows;
    appended = shows.answer.appended ∙ append_assoc from (begun_shown before) shows.answer.text;
    told = λ c. refl;
    changed = ap (λ (k : Kept). k.changed) shows.known;
    refused = λ c. ap (λ (k : Kept). k.refused) shows.known;
  }

  module _ (given : Carry) where
    work-told :
        (b : Begun) (w : Work) → interrupts w ≡ false → FitsTask plans (with_task (task_for plans w) b) before.lines (task_for plans w) s r given → Gives (begins_of (task_for plans w)) None
        → ShowsAt plans (Some (with_task (task_for plans w) b)) (Some (with_task (task_for plans w) b)) (having None) old s r from to new
    work-told b (once one) none fits shows =
        makes-told b one (ap is_interrupt fits.0 ∙ showing-same (shown_in s) one ∙ sym (once-asked one) ∙ none) shows
    work-told b (several asked) none fits shows =
        first-told b (line_of plans asked) (guest-first asked (plan_for plans asked))
        (line-asked (line_of plans asked) (shown_in s) s fits.0) shows

    begun-told :
        (b : Begun) (read : Result Command WordsRefusal) → FitsTask plans (with_task (task_of plans b.line read) b) before.lines (task_of plans b.line read) s r given → Gives (begins_of (task_of plans b.line read)) None
        → ShowsAt plans (Some (with_task (task_of plans b.line read) b)) (Some (with_task (task_of plans b.line read) b)) (having None) old s r from to new
    begun-told b (Ok command) fits shows = work-told b (work_of command) (command-asked command) fits shows
    begun-told b (Err why) fits shows = tells-told b b.line why fits.0 fits.1 shows

    next-told :
        (next : Option Begun) → FitsPresent plans before.lines (first_of plans next) s r given → Gives (begins_present None (first_of plans next)) None
        → ShowsAt plans (first_of plans next) (first_of plans next) (having None) old s r from to new
    next-told None fits shows = absurd fits
    next-told (Some b) fits shows = begun-told b (said b.line) fits shows

    line-told :
        (line : Option LineState) → FitsPresent plans before.lines (present_with plans line before) s r given → Gives (begins_present line (present_with plans line before)) line
        → ShowsAt plans (present_with plans line before) (present_with plans (option_map (with_told old.guest) line) (session_told old.guest (having line))) (having line) old s r from to new
    line-told None fits shows = next-told (begun before) fits shows
    line-told (Some l) fits shows = going-told l (line-asked l (shown_in s) s fits.0) shows

  -- a step that was asked for, by what is begun with it
  pub asked-told :
      (which : Begins) → which ≡ begins_at plans before → (c : Carry) × FitsPresent plans before.lines (present plans before) s r c → Gives which before.line
      → ShowsNext plans before old s r from to new
  asked-told which is next shows =
      line-told next.0 before.line next.1 (subst (λ (w : Begins). Gives w before.line) is shows)

-- a step of a command begins something
begins-some : (t : Task) → begins.Nothing ≡ begins_of t → ⊥
begins-some (makes asked) is = cc is
begins-some (goes l) is = cc is
begins-some (tells text why) is = cc is

module _ (plans : List Planned) (before : Session) (s : Step) (r : Reply) (c : Carry) where
  -- where nothing is begun with a step that is asked for, there is a line
  some-next : (next : Option Begun) → begins.Nothing ≡ begins_present None (first_of plans next) → FitsPresent plans before.lines (first_of plans next) s r c → ⊥
  some-next None is fits = fits
  some-next (Some b) is fits = begins-some (task_of plans b.line (said b.line)) is

  some-with : (line : Option LineState) → begins.Nothing ≡ begins_present line (present_with plans line before) → FitsPresent plans before.lines (present_with plans line before) s r c → line ≡ None → ⊥
  some-with None is fits none = some-next (begun before) is fits
  some-with (Some l) is fits none = cc none

  pub some-line : begins.Nothing ≡ begins_at plans before → FitsPresent plans before.lines (present plans before) s r c → before.line ≡ None → ⊥
  some-line is fits none = some-with before.line is fits none

  -- what a line of a script shows that is no command can be shown
  can-task : (p : Present) (t : Task) → begins.NoCommand ≡ begins_of t → FitsTask plans p before.lines t s r c → IsStepShown s r
  can-task p (makes asked) is fits = absurd (cc is)
  can-task p (goes l) is fits = absurd (cc is)
  can-task p (tells text why) is fits = refused-can (record { line = text }) (refusal_of why) s r fits.0 fits.1

  can-next : (next : Option Begun) → begins.NoCommand ≡ begins_present None (first_of plans next) → FitsPresent plans before.lines (first_of plans next) s r c → IsStepShown s r
  can-next None is fits = absurd fits
  can-next (Some b) is fits = can-task (with_task (task_of plans b.line (said b.line)) b) (task_of plans b.line (said b.line)) is fits

  can-with : (line : Option LineState) → begins.NoCommand ≡ begins_present line (present_with plans line before) → FitsPresent plans before.lines (present_with plans line before) s r c → IsStepShown s r
  can-with None is fits = can-next (begun before) is fits
  can-with (Some l) is fits = absurd (cc is)

  pub no-command-can : begins.NoCommand ≡ begins_at plans before → FitsPresent plans before.lines (present plans before) s r c → IsStepShown s r
  no-command-can is fits = can-with before.line is fits

module _ (plans : List Planned) (before : Session) (l : LineState) where
  -- a line that is begun with its first step has not turned back
  why-work : (w : Work) → begins.Line l ≡ begins_of (task_for plans w) → why_refused l.place ≡ None
  why-work (once one) is = absurd (cc is)
  why-work (several asked) is =
      let same : l ≡ line_of plans asked = cc is in
      ap (λ (k : LineState). why_refused k.place) same ∙ why-first asked (plan_for plans asked)

  why-read : (text : List ℕ) (read : Result Command WordsRefusal) → begins.Line l ≡ begins_of (task_of plans text read) → why_refused l.place ≡ None
  why-read text (Ok command) is = why-work (work_of command) is
  why-read text (Err why) is = absurd (cc is)

  why-next : (next : Option Begun) → begins.Line l ≡ begins_present None (first_of plans next) → why_refused l.place ≡ None
  why-next None is = absurd (cc is)
  why-next (Some b) is = why-read b.line (said b.line) is

  why-with : (line : Option LineState) → begins.Line l ≡ begins_present line (present_with plans line before) → why_refused l.place ≡ None
  why-with None is = why-next (begun before) is
  why-with (Some k) is = absurd (cc is)

  pub first-why : begins.Line l ≡ begins_at plans before → why_refused l.place ≡ None
  first-why is = why-with before.line is
