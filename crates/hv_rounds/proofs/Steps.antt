-- The first step of a line.
use Rattle.std.proofs.Common.{◌≡◌, ℕ, zero, suc, ◌+◌, ◌-◌, ◌≤◌, nat_le, List, [], ◌∷◌, ◌++◌, length, replicate, append_assoc, Option, Some, None, Result, Ok, Err, refl, ap, sym, subst, ◌∙◌, arith}
use Rattle.hv_text.specs.Lines.{script_lines}
use Rattle.hv_words.specs.declared.command.Command.{Command}
use Rattle.hv_words.specs.declared.command.Command.TheVariants as command
use Rattle.hv_words.specs.declared.refusal.WordsRefusal.{WordsRefusal}
use Rattle.hv_words.specs.declared.refusal.WordsRefusal.TheVariants as line
use Rattle.hv_words.proofs.SaidLemmas.{says_what_is_told}
use Rattle.hv_words.specs.Commands.{Gives, FitAll, RestCount, NumberGiven, Kind}
use Rattle.hv_words.specs.Said.{said}
use Rattle.hv_event.specs.declared.event.ActorId.TheVariants as actor
use Rattle.hv_step.specs.declared.step.Step.{Step}
use Rattle.hv_step.specs.declared.step.Step.TheVariants as step
use Rattle.hv_answer.specs.declared.reply.Reply.{Reply}
use Rattle.hv_answer.specs.declared.reply.Reply.TheVariants as reply
use Rattle.hv_refusal.specs.declared.refusal.Refusal.{Refusal}
use Rattle.hv_refusal.specs.declared.refusal.Refusal.TheVariants as refusal
use Rattle.hv_files.specs.declared.refusal.FileRefusal.{FileRefusal}
use Rattle.hv_model.specs.declared.entry.Entry.{Entry}
use Rattle.hv_rules.specs.Carry.{Carry, nothing}
use Rattle.hv_rules.specs.Handed.{handed_over}
use Rattle.hv_rules.specs.Line.{Ask, LineState, Verdict, goes_on, on, rest, rests, line_after, moved, verdict, why_refused}
use Rattle.hv_model.specs.Files.{FileMap, FindsScript, FilesAgree, answered}
use Rattle.hv_model.specs.Plans.{Planned}
use Rattle.hv_model.specs.Session.{Scripts, Session, makes, goes, Present, task_of, first_of, present, present_with, scripts_of, kept, made_at, begun}
use Rattle.hv_model.specs.Shown.{shown_in, showing}
use Rattle.hv_model.specs.Terminal.{RunAnswers, Asks, FitsTask, FitsPresent, refusal_of}
use Rattle.hv_model.specs.Transcript.{ShowsReply, ShowsStep, ShowsTask, ShowsPresent, begin_shown, changed_by, done_shown, end_shown, ended_shown, going_shown, refused_shown}
use Rattle.hv_fpart.specs.Part.{IsFilesStep}
use Rattle.hv_rounds.specs.declared.files.FileCell.{FileCell}
use Rattle.hv_rounds.specs.declared.terminal.Terminal.{Terminal}
use Rattle.hv_rounds.specs.Cells.{resting, session_of, MadeOne, SameButShown}
use Rattle.hv_rounds.specs.Step.{IsStep, IsBegun, IsBadLine, IsShowable, ShowsDone, ShowsEnd, AppendsEnd, AppendsEvent, FilesPart, TouchesFiles}
use Rattle.hv_rounds.specs.Answer.{AnswersScript, RunOpens}

-- a line that gives a command is read as it
pub said-command : (l : List ℕ) (c : Command) → Gives l c → said l ≡ Ok c
said-command l c gives = sym ((says_what_is_told l (Ok c)).0 gives)

-- what a terminal is at that has begun a line, which is read as this
abbrev pub begun_at : List Planned → List ℕ → Terminal → Result Command WordsRefusal → Present
begun_at plans line t read = record { task = task_of plans line read; boot = t.boot; own = t.own }

present-is : (t t1 : Terminal) (line : List ℕ) (read : Result Command WordsRefusal) → IsBegun t t1 line → said line ≡ read
    → (plans : List Planned) → present plans (session_of t) ≡ Some (begun_at plans line t1 read)
present-is t t1 line read b says plans =
    ap (λ (left : ℕ). present_with plans (resting t.asked left) (session_of t)) b.done
    ∙ ap (first_of plans) b.command
    ∙ ap (λ (r : Result Command WordsRefusal). Some (begun_at plans line t1 r)) says

-- an entry that is the first step of what the line says
pub first-step : (old new : FileCell) (t t1 t' : Terminal) (line : List ℕ) (e : Entry) (read : Result Command WordsRefusal)
    → IsBegun t t1 line → said line ≡ read
    → ((plans : List Planned) → FitsTask plans (begun_at plans line t1 read) t1.lines (task_of plans line read) e.event.step e.event.reply e.carry)
    → e.event.actor ≡ actor.Terminal t1.number → e.event.index ≡ t1.count + 1 → e.carry ≡ handed_over e.event.step e.carry
    → t'.number ≡ t1.number → t'.count ≡ t1.count + 1 → t'.stamp ≡ e.event.stamp
    → ((plans : List Planned) (c : Carry) → session_of t' ≡ made_at (Some (begun_at plans line t1 read)) (session_of t) e.event.reply c)
    → IsShowable e.event.reply
    → ((plans : List Planned) (changed : ℕ) (text : List ℕ) → ShowsEnd t'.rests e.event.reply text → ShowsTask plans (task_of plans line read) changed e.event.step e.event.reply text)
    → FilesPart e.event.step old new t1.stamp e
    → IsStep old new t t' e
first-step old new t t1 t' line e read b says fits actor_is index carry number count stamp session showable shows files =
    let Part : ℕ → Type 0 = λ own. FilesPart e.event.step old new own e in
    record {
      actor = actor_is ∙ ap actor.Terminal b.number;
      number = number ∙ b.number;
      agrees = λ plans.
          let Fits : ℕ → Type 0 = λ lines. FitsTask plans (begun_at plans line t1 read) lines (task_of plans line read) e.event.step e.event.reply e.carry in
          let Next : Option Present → Type 0 = λ p. FitsPresent plans t.lines p e.event.step e.event.reply e.carry in
          record {
            index = index ∙ ap (λ n. n + 1) b.count;
            step = subst Next (sym (present-is t t1 line read b says plans)) (subst Fits b.lines (fits plans));
            carry = carry;
          };
      count = count ∙ ap (λ n. n + 1) b.count;
      session = λ plans c. session plans c ∙ ap (λ (p : Option Present). made_at p (session_of t) e.event.reply c) (sym (present-is t t1 line read b says plans));
      showable = showable;
      shows = λ plans changed text ends.
          let Shows : Option Present → Type 0 = λ p. ShowsPresent plans p changed e.event.step e.event.reply text in
          subst Shows (sym (present-is t t1 line read b says plans)) (shows plans changed text ends);
      stamp = stamp;
      files = subst Part b.stamp files;
    }

-- a terminal's session once a command of one step is made, or a bad line told
pub once-session : (t t1 t' : Terminal) (line : List ℕ) (stamp : ℕ) → IsBegun t t1 line → MadeOne t1 t' stamp
    → session_of t' ≡ record { line = None; boot = t1.boot; own = t1.own; lines = t.lines }
once-session t t1 t' line stamp b m =
    let left : resting t'.asked t'.rests ≡ None = ap (resting t'.asked) (m.rests ∙ b.rests) in
    λ i. record { line = left i; boot = m.boot i; own = m.own i; lines = (m.lines ∙ b.lines) i }

-- a line that rests

-- a rest is never refused
verdict-rest : (made : List Ask) → verdict made rest reply.Rest ≡ goes_on
verdict-rest [] = refl
verdict-rest (a ∷ made) = refl

abbrev rest-line : ℕ → List Ask → List Ask → LineState
rest-line a made todo = record { asked = rests a; regions = []; guest = None; place = on made todo }

after-rest : (a : ℕ) (made todo : List Ask) (c : Carry) → line_after (rest-line a made (rest ∷ todo)) reply.Rest c ≡ rest-line a (rest ∷ made) todo
after-rest a made todo c = ap (λ (v : Verdict). record { asked = rests a; regions = []; guest = None; place = moved made rest todo v }) (verdict-rest made)

kept-rests : (a n k : ℕ) → k ≡ a - n → kept (rest-line a (replicate k rest) (replicate n rest)) ≡ resting a n
kept-rests a zero k is = refl
kept-rests a (suc n) k is = ap (λ (j : ℕ). Some (rest-line a (replicate j rest) (replicate (suc n) rest))) is

-- the line is kept with a rest less
rest-kept : (a n k : ℕ) → suc k ≡ a - n → (c : Carry) → kept (line_after (rest-line a (replicate k rest) (replicate (suc n) rest)) reply.Rest c) ≡ resting a n
rest-kept a n k is c = ap kept (after-rest a (replicate k rest) (replicate n rest) c) ∙ kept-rests a n (suc k) is

-- and shows its end where none is left
rest-end : (a n k : ℕ) (text : List ℕ) → ShowsEnd n reply.Rest text
    → text ≡ end_shown (kept (rest-line a (replicate k rest) (replicate n rest))) (done_shown [])
rest-end a zero k text shows = shows
rest-end a (suc n) k text shows = shows

rest-shown : (plans : List Planned) (a n k changed : ℕ) (text : List ℕ) → ShowsEnd n reply.Rest text
    → text ≡ going_shown plans (rest-line a (replicate k rest) (replicate (suc n) rest)) changed (step.Rest (record {})) reply.Rest
rest-shown plans a n k changed text shows =
    let Shown : LineState → List ℕ = λ l. end_shown (kept l) (ended_shown (why_refused l.place) []) in
    rest-end a n (suc k) text shows ∙ ap Shown (sym (after-rest a (replicate k rest) (replicate n rest) nothing))

-- a line that rests does so once at least
rests-given : (ks : List Kind) (ws : List (List ℕ)) (n : ℕ) → ks ≡ RestCount ∷ [] → FitAll ks ws (NumberGiven n ∷ []) → 1 ≤ n
rests-given ks ws n is fit =
    let Fit : List Kind → Type 0 = λ k. FitAll k ws (NumberGiven n ∷ []) in
    fits ws (subst Fit is fit)
  where
    fits : (vs : List (List ℕ)) → FitAll (RestCount ∷ []) vs (NumberGiven n ∷ []) → 1 ≤ n
    fits [] h = absurd h
    fits (v ∷ vs) h = h.0.1

pub rests-some : (l : List ℕ) (n : ℕ) → Gives l (command.TermRest n) → 1 ≤ n
rests-some l n gives = rests-given (RestCount ∷ []) gives.arguments n refl gives.fit

-- a line is read that rests
pub rests-begun : (plans : List Planned) (l : List ℕ) (t1 : Terminal) (n lines : ℕ)
    → FitsTask plans (begun_at plans l t1 (Ok (command.TermRest (suc n)))) lines (task_of plans l (Ok (command.TermRest (suc n)))) (step.Rest (record {})) reply.Rest nothing
rests-begun plans l t1 n lines = (refl, refl)

pub first-rest-session : (plans : List Planned) (t t1 t' : Terminal) (l : List ℕ) (n stamp : ℕ) (c : Carry) → IsBegun t t1 l → t'.asked ≡ suc n → t'.rests ≡ n
    → t'.boot ≡ t1.boot → t'.own ≡ t1.own → t'.lines ≡ t1.lines
    → session_of t' ≡ made_at (Some (begun_at plans l t1 (Ok (command.TermRest (suc n))))) (session_of t) reply.Rest c
first-rest-session plans t t1 t' l n stamp c b asked left boot own lines =
    let line : resting t'.asked t'.rests ≡ resting (suc n) n = ap (λ (a : ℕ). resting a t'.rests) asked ∙ ap (resting (suc n)) left in
    let after = sym (rest-kept (suc n) n 0 (omega arith) c) in
    let none : t.lines ≡ t.lines + 0 = omega arith in
    λ i. record { line = (line ∙ after) i; boot = boot i; own = own i; lines = (lines ∙ b.lines ∙ none) i }

pub first-rest-shown : (plans : List Planned) (l : List ℕ) (n changed : ℕ) (text : List ℕ) → ShowsEnd n reply.Rest text
    → ShowsTask plans (task_of plans l (Ok (command.TermRest (suc n)))) changed (step.Rest (record {})) reply.Rest text
first-rest-shown plans l n changed text shows = rest-shown plans (suc n) n 0 changed text shows

-- a further rest of a line
abbrev rest-entry : (number index stamp : ℕ) → Entry
rest-entry number index stamp = record {
  event = record { actor = actor.Terminal number; index = index; stamp = stamp; step = step.Rest (record {}); reply = reply.Rest };
  carry = record nothing { lines = None };
}

pub rest-step : (old : FileCell) (t t' : Terminal) (n stamp : ℕ) → t.rests ≡ suc n → suc n ≤ t.asked
    → t'.number ≡ t.number → t'.count ≡ t.count + 1 → t'.stamp ≡ stamp → t'.asked ≡ t.asked → t'.rests ≡ n
    → t'.boot ≡ t.boot → t'.own ≡ t.own → t'.lines ≡ t.lines → stamp ≡ t.stamp + 1
    → IsStep old old t t' (rest-entry t.number (t.count + 1) stamp)
rest-step old t t' n stamp is le number count stamp_is asked left boot own lines next =
    let k = t.asked - suc n in
    let L = rest-line t.asked (replicate k rest) (replicate (suc n) rest) in
    let here : (plans : List Planned) → present plans (session_of t) ≡ Some (record { task = goes L; boot = t.boot; own = t.own }) =
    λ plans. ap (λ (m : ℕ). present_with plans (resting t.asked m) (session_of t)) is in
    let fewer : suc k ≡ t.asked - n = omega arith in
    record {
      actor = refl;
      number = number;
      agrees = λ plans.
          let Next : Option Present → Type 0 = λ p. FitsPresent plans t.lines p (step.Rest (record {})) reply.Rest (record nothing { lines = None }) in
          record { index = refl; step = subst Next (sym (here plans)) (refl, refl); carry = refl };
      count = count;
      session = λ plans c.
          let line : resting t'.asked t'.rests ≡ resting t.asked n = ap (λ (a : ℕ). resting a t'.rests) asked ∙ ap (resting t.asked) left in
          let none : t.lines ≡ t.lines + 0 = omega arith in
          (λ i. record { line = (line ∙ sym (rest-kept t.asked n k fewer c)) i; boot = boot i; own = own i; lines = (lines ∙ none) i })
          ∙ ap (λ (p : Option Present). made_at p (session_of t) reply.Rest c) (sym (here plans));
      showable = tt;
      shows = λ plans changed text ends.
          let Shows : Option Present → Type 0 = λ p. ShowsPresent plans p changed (step.Rest (record {})) reply.Rest text in
          let Ends : ℕ → Type 0 = λ m. ShowsEnd m reply.Rest text in
          subst Shows (sym (here plans)) (rest-shown plans t.asked n k changed text (subst Ends left ends));
      stamp = stamp_is;
      files = record { same = refl; next = next };
    }

-- the steps that the files decide

pub files-fit : (plans : List Planned) (p : Present) (lines : ℕ) (s : Step) (r : Reply) (c : Carry) → IsFilesStep s → (s ≡ showing (shown_in s) s) × Asks plans p lines s r c
files-fit plans p lines (step.Ls s) r c kind = (refl, tt)
files-fit plans p lines (step.Cat s) r c kind = (refl, tt)
files-fit plans p lines (step.Dts s) r c kind = (refl, tt)
files-fit plans p lines (step.Mkdir s) r c kind = (refl, tt)
files-fit plans p lines (step.Rm s) r c kind = (refl, tt)
files-fit plans p lines (step.Write s) r c kind = (refl, tt)
files-fit plans p lines (step.Asm s) r c kind = (refl, tt)
files-fit plans p lines s r c kind = absurd kind

pub files-hand-nothing : (s : Step) (c : Carry) → IsFilesStep s → handed_over s c ≡ nothing
files-hand-nothing (step.Ls s) c kind = refl
files-hand-nothing (step.Cat s) c kind = refl
files-hand-nothing (step.Dts s) c kind = refl
files-hand-nothing (step.Mkdir s) c kind = refl
files-hand-nothing (step.Rm s) c kind = refl
files-hand-nothing (step.Write s) c kind = refl
files-hand-nothing (step.Asm s) c kind = refl
files-hand-nothing s c kind = absurd kind

pub files-touch : (s : Step) (old new : FileCell) (own : ℕ) (e : Entry) → IsFilesStep s → TouchesFiles old new own e → FilesPart s old new own e
files-touch (step.Ls s) old new own e kind h = h
files-touch (step.Cat s) old new own e kind h = h
files-touch (step.Dts s) old new own e kind h = h
files-touch (step.Mkdir s) old new own e kind h = h
files-touch (step.Rm s) old new own e kind h = h
files-touch (step.Write s) old new own e kind h = h
files-touch (step.Asm s) old new own e kind h = h
files-touch s old new own e kind h = absurd kind

-- what the replies to them show is the end of the line
shown-by : (r s : Reply) (text : List ℕ) → r ≡ s → (ShowsDone s text → ShowsReply s text) → ShowsDone r text → ShowsReply r text
shown-by r s text is shows h = subst (λ (z : Reply). ShowsReply z text) (sym is) (shows (subst (λ (z : Reply). ShowsDone z text) is h))

pub files-shown : (plans : List Planned) (s : Step) (r : Reply) (c : Carry) (m : FileMap) (text : List ℕ) → IsFilesStep s → FilesAgree m s r c → ShowsEnd 0 r text → ShowsStep plans s r text
files-shown plans (step.Ls s) r c m text kind h shows = shown-by r _ text h (λ x. x) shows
files-shown plans (step.Cat s) r c m text kind h shows = shown-by r _ text h (λ x. x) shows
files-shown plans (step.Dts s) r c m text kind h shows = shown-by r (reply.Dts h.0) text h.1 (λ x. x) shows
files-shown plans (step.Mkdir s) r c m text kind h shows = shown-by r _ text h (λ x. x) shows
files-shown plans (step.Rm s) r c m text kind h shows = shown-by r _ text h (λ x. x) shows
files-shown plans (step.Write s) r c m text kind h shows = shown-by r _ text h (λ x. x) shows
files-shown plans (step.Asm s) r c m text kind h shows = shown-by r (reply.Asm h.0) text h.1 (λ x. x) shows
files-shown plans s r c m text kind h shows = absurd kind

-- and they open no script
abbrev one-made : Present → Session → Session
one-made p t = record { line = None; boot = p.boot; own = p.own; lines = t.lines }

no-lines : (p : Present) (t : Session) → record { line = None; boot = p.boot; own = p.own; lines = t.lines + 0 } ≡ one-made p t
no-lines p t = ap (λ (n : ℕ). record { line = None; boot = p.boot; own = p.own; lines = n }) (omega arith)

made-for : (p : Present) (r s : Reply) (t : Session) (d : Carry) → r ≡ s → made_at (Some p) t s d ≡ one-made p t → made_at (Some p) t r d ≡ one-made p t
made-for p r s t d same h = ap (λ (z : Reply). made_at (Some p) t z d) same ∙ h

pub files-made : (asked : Step) (boot own : Scripts) (s : Step) (r : Reply) (c : Carry) (m : FileMap) (t : Session) (d : Carry) → IsFilesStep s → FilesAgree m s r c
    → made_at (Some (record { task = makes asked; boot = boot; own = own })) t r d ≡ record { line = None; boot = boot; own = own; lines = t.lines }
files-made asked boot own (step.Ls s) r c m t d kind h = let p : Present = record { task = makes asked; boot = boot; own = own } in made-for p r _ t d h (no-lines p t)
files-made asked boot own (step.Cat s) r c m t d kind h = let p : Present = record { task = makes asked; boot = boot; own = own } in made-for p r _ t d h (no-lines p t)
files-made asked boot own (step.Dts s) r c m t d kind h = let p : Present = record { task = makes asked; boot = boot; own = own } in made-for p r (reply.Dts h.0) t d h.1 (no-lines p t)
files-made asked boot own (step.Mkdir s) r c m t d kind h = let p : Present = record { task = makes asked; boot = boot; own = own } in made-for p r _ t d h (no-lines p t)
files-made asked boot own (step.Rm s) r c m t d kind h = let p : Present = record { task = makes asked; boot = boot; own = own } in made-for p r _ t d h (no-lines p t)
files-made asked boot own (step.Write s) r c m t d kind h = let p : Present = record { task = makes asked; boot = boot; own = own } in made-for p r _ t d h (no-lines p t)
files-made asked boot own (step.Asm s) r c m t d kind h = let p : Present = record { task = makes asked; boot = boot; own = own } in made-for p r (reply.Asm h.0) t d h.1 (no-lines p t)
files-made asked boot own s r c m t d kind h = absurd kind

-- a line that gives no command

pub bad-read : (l : List ℕ) (why : Refusal) → IsBadLine l why → (read : WordsRefusal) × (said l ≡ Err read) × (refusal_of read ≡ why)
bad-read l refusal.NoCommand bad = (line.NoCommand, sym ((says_what_is_told l (Err line.NoCommand)).0 bad), refl)
bad-read l (refusal.BadWords n) bad = (line.BadWords n, sym ((says_what_is_told l (Err (line.BadWords n))).0 bad), refl)
bad-read l why bad = absurd bad

pub bad-session : (plans : List Planned) (t t1 t' : Terminal) (l : List ℕ) (read : WordsRefusal) (stamp : ℕ) (c : Carry) (why : Refusal) → IsBegun t t1 l → MadeOne t1 t' stamp
    → session_of t' ≡ made_at (Some (begun_at plans l t1 (Err read))) (session_of t) (reply.Bad why) c
bad-session plans t t1 t' l read stamp c why b m =
    let none : t.lines ≡ t.lines + 0 = omega arith in
    once-session t t1 t' l stamp b m ∙ (λ i. record { line = None; boot = t1.boot; own = t1.own; lines = none i })

pub bad-shown : (text : List ℕ) (read : WordsRefusal) (why : Refusal) (left : ℕ) → left ≡ 0 → refusal_of read ≡ why → ShowsEnd left (reply.Bad why) text
    → text ≡ refused_shown (refusal_of read)
bad-shown text read why left done is shows =
    let Ends : ℕ → Type 0 = λ n. ShowsEnd n (reply.Bad why) text in
    let end : text ≡ refused_shown why = subst Ends done shows in
    end ∙ ap refused_shown (sym is)

-- a script that is run

pub opens-number : (t t' : Terminal) (r : Result (List ℕ) Refusal) → RunOpens t t' r → t'.number ≡ t.number
opens-number t t' (Ok bytes) o = o.number
opens-number t t' (Err why) o = ap (λ (u : Terminal). u.number) o

pub opens-count : (t t' : Terminal) (r : Result (List ℕ) Refusal) → RunOpens t t' r → t'.count ≡ t.count
opens-count t t' (Ok bytes) o = o.count
opens-count t t' (Err why) o = ap (λ (u : Terminal). u.count) o

pub opens-rests : (t t' : Terminal) (r : Result (List ℕ) Refusal) → RunOpens t t' r → t'.rests ≡ t.rests
opens-rests t t' (Ok bytes) o = o.rests
opens-rests t t' (Err why) o = ap (λ (u : Terminal). u.rests) o

pub run-session : (plans : List Planned) (c : Carry) (t t1 t2 t' : Terminal) (l : List ℕ) (stamp : ℕ) (path : List (List ℕ)) (r : Result (List ℕ) Refusal)
    → IsBegun t t1 l → RunOpens t1 t2 r → MadeOne t2 t' stamp
    → session_of t' ≡ made_at (Some (begun_at plans l t1 (Ok (command.VfsRun path)))) (session_of t) (reply.Run r) c
run-session plans c t t1 t2 t' l stamp path (Ok bytes) b o m =
    let scripts = o.scripts (task_of plans l (Ok (command.VfsRun path))) in
    let left : resting t'.asked t'.rests ≡ None = ap (resting t'.asked) (m.rests ∙ o.rests ∙ b.rests) in
    λ i. record {
      line = left i;
      boot = (m.boot ∙ sym (ap (λ (p : Present). p.boot) scripts)) i;
      own = (m.own ∙ sym (ap (λ (p : Present). p.own) scripts)) i;
      lines = (m.lines ∙ o.lines_are ∙ ap (λ n. n + length (script_lines bytes)) b.lines) i;
    }
run-session plans c t t1 t2 t' l stamp path (Err why) b o m =
    let left : resting t'.asked t'.rests ≡ None = ap (resting t'.asked) (m.rests ∙ ap (λ (u : Terminal). u.rests) o ∙ b.rests) in
    let none : t.lines ≡ t.lines + 0 = omega arith in
    λ i. record {
      line = left i;
      boot = (m.boot ∙ ap (λ (u : Terminal). u.boot) o) i;
      own = (m.own ∙ ap (λ (u : Terminal). u.own) o) i;
      lines = (m.lines ∙ ap (λ (u : Terminal). u.lines) o ∙ b.lines ∙ none) i;
    }

finds-of : (due : Result (List ℕ) FileRefusal) (r : Result (List ℕ) Refusal) (lines : Option ℕ) → AnswersScript (answered due) r lines → FindsScript due r lines
finds-of (Ok bytes) r lines h = h
finds-of (Err why) r lines h = h

pub finds-script : (due : Result (List ℕ) FileRefusal) (found r : Result (List ℕ) Refusal) (lines : Option ℕ) → found ≡ answered due → AnswersScript found r lines → FindsScript due r lines
finds-script due found r lines is h =
    let Answers : Result (List ℕ) Refusal → Type 0 = λ f. AnswersScript f r lines in
    finds-of due r lines (subst Answers is h)

pub run-answers : (p : Present) (depth lines : ℕ) (found : Option ℕ) (r : Result (List ℕ) Refusal) → depth ≡ length (scripts_of p) → RunAnswers (nat_le 4 depth) lines found r
    → RunAnswers (nat_le 4 (length (scripts_of p))) lines found r
run-answers p depth lines found r is h =
    let At : ℕ → Type 0 = λ d. RunAnswers (nat_le 4 d) lines found r in
    subst At is h

-- a step stays one where its terminal shows something
pub step-shown : (old new : FileCell) (t t1 t' : Terminal) (e : Entry) → IsStep old new t t1 e → SameButShown t1 t' → IsStep old new t t' e
step-shown old new t t1 t' e step same =
    record {
      actor = step.actor;
      number = same.number ∙ step.number;
      agrees = step.agrees;
      count = same.count ∙ step.count;
      session = λ plans c.
          let session : session_of t' ≡ session_of t1 =
          λ i. record { line = resting (same.asked i) (same.rests i); boot = same.boot i; own = same.own i; lines = same.lines i } in
          session ∙ step.session plans c;
      showable = step.showable;
      shows = λ plans changed text ends.
          let Ends : ℕ → Type 0 = λ left. ShowsEnd left e.event.reply text in
          step.shows plans changed text (subst Ends same.rests ends);
      stamp = same.stamp ∙ step.stamp;
      files = step.files;
    }

-- what its event shows
pub event-shown : (old new : FileCell) (t t1 : Terminal) (e : Entry) (before between after : List ℕ) → IsStep old new t t1 e
    → between ≡ before ++ begin_shown (session_of t).line (begun (session_of t)) → AppendsEnd t1.rests e.event.reply between after → AppendsEvent t e.event before after
event-shown old new t t1 e before between after step begins ends =
    let start = begin_shown (session_of t).line (begun (session_of t)) in
    record {
      text = start ++ ends.text;
      shows = λ plans. record { behind = ends.text; shows = step.shows plans (0 + changed_by e.event.reply) ends.text ends.shows; text_is = refl };
      appended = ends.appended ∙ ap (λ (text : List ℕ). text ++ ends.text) begins ∙ append_assoc before start ends.text;
    }
