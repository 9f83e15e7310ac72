-- What was made so far, when one step more is made.
use Rattle.std.proofs.Common.{◌≡◌, ◌≢◌, ℕ, ◌+◌, ◌<◌, ◌≤◌, Bool, true, false, not, eqb, eq-eqb, eqb-true, inl, inr, List, [], ◌∷◌, ◌++◌, map, filter, refl, ap, sym, subst, ◌∙◌, arith, append_assoc, length-append}
use Rattle.std.specs.Prelude.{Any, Option, None, Some, length}
use Rattle.std.specs.List.{AllByRecursion}
use Rattle.std.proofs.lemmas.Bool.{ne_eqb}
use Rattle.std.proofs.lemmas.List.Quantifiers.{Any-push}
use Rattle.std.proofs.lemmas.List.{get_or_append_left}
use Rattle.hv_text.specs.declared.limits.TheConstants.{GREATEST_STAMP}
use Rattle.hv_machine.specs.Machine.{Machine, State, next_state, state_after, IsRun, MayHappen}
use Rattle.hv_machine.proofs.Lists.{append-nothing, filter-append, all-map}
use Rattle.hv_merge.specs.Merging.{IsLog, IsFollowedBy}
use Rattle.hv_event.specs.declared.event.ActorId.{ActorId}
use Rattle.hv_event.specs.declared.event.ActorId.TheVariants.{Terminal}
use Rattle.hv_event.specs.declared.event.Event.{Event}
use Rattle.hv_model.specs.declared.entry.Entry.{Entry}
use Rattle.hv_model.specs.Origin.{Origin}
use Rattle.hv_model.specs.Plans.{Planned}
use Rattle.hv_answer.specs.declared.reply.Reply.{Reply}
use Rattle.hv_model.specs.Session.{session_after}
use Rattle.hv_model.specs.States.{led_to}
use Rattle.hv_model.specs.Rules.{machine}
use Rattle.hv_model.specs.Report.{is_terminal, told_at_start}
use Rattle.hv_model.specs.Terminal.{is_interrupt}
use Rattle.hv_model.specs.Transcript.{IsTranscript, ShowsEvent, Telling, told_after, while_left, changed_by, asked_among}
use Rattle.hv_rules.specs.Carry.{nothing}
use Rattle.hv_rules.specs.Line.{LineState}
use Rattle.hv_step.specs.declared.step.Step.{Step}
use Rattle.hv_step.specs.declared.step.Step.TheVariants as step
use Rattle.hv_rounds.specs.declared.files.FileCell.{FileCell}
use Rattle.hv_rounds.specs.declared.terminal.Terminal.{Terminal as TerminalCell}
use Rattle.hv_rounds.specs.declared.board.Board.{Board}
use Rattle.hv_rounds.specs.Cells.{session_of, telling_of}
use Rattle.hv_rounds.specs.Step.{IsStep, AppendsEvent, FilesPart}
use Rattle.hv_rounds.specs.Board.{at, IsBoardStep, Holds, own_events, asked_events, told, ShownAt, IsHeld, IsByTerminal, Goes}
use Rattle.hv_rounds.proofs.Boards.{may-happen, holds-next, part-of, leaves, takes}
use Rattle.hv_rounds.proofs.Shown.{none-changed}

module _ (m : Machine) where
  pub run-push : (s : State m) (es : List m.Event) (e : m.Event) → IsRun m s es → MayHappen m (state_after m s es) e → IsRun m s (es ++ e ∷ [])
  run-push s [] e run may = (may, tt)
  run-push s (f ∷ es) e run may = (run.0, run-push (next_state m s f) es e run.1 may)

  pub after-push : (s : State m) (es : List m.Event) (e : m.Event) → state_after m s (es ++ e ∷ []) ≡ next_state m (state_after m s es) e
  after-push s [] e = refl
  after-push s (f ∷ es) e = after-push (next_state m s f) es e

pub all-push : {A : Type 0} (P : A → Type 0) (xs : List A) (x : A) → AllByRecursion P xs → P x → AllByRecursion P (xs ++ x ∷ [])
all-push P [] x h p = (p, tt)
all-push P (y ∷ xs) x h p = (h.0, all-push P xs x h.1 p)

pub map-push : {A B : Type 0} (f : A → B) (xs : List A) (x : A) → map f (xs ++ x ∷ []) ≡ map f xs ++ f x ∷ []
map-push f [] x = refl
map-push f (y ∷ xs) x = ap (λ zs. f y ∷ zs) (map-push f xs x)

told-push : (plans : List Planned) (t : Telling) (es : List Event) (e : Event) → told plans t (es ++ e ∷ []) ≡ told_after plans (told plans t es) e
told-push plans t [] e = refl
told-push plans t (f ∷ es) e = told-push plans (told_after plans t f) es e

transcript-push : (plans : List Planned) (t : Telling) (es : List Event) (e : Event) (text more : List ℕ) → IsTranscript plans t es text → ShowsEvent plans (told plans t es) e more
    → IsTranscript plans t (es ++ e ∷ []) (text ++ more)
transcript-push plans t [] e text more is shows = (more, [], ap (λ zs. zs ++ more) is ∙ sym (append-nothing more), shows, refl)
transcript-push plans t (f ∷ es) e text more is shows =
    let here = is.0 in
    let later = is.1 in
    (here, later ++ more, ap (λ zs. zs ++ more) is.2 ∙ append_assoc here later more, is.3, transcript-push plans (told_after plans t f) es e later more is.4 shows)

-- what is told of a terminal that has made one step more
while-none : (line : Option LineState) → while_left line 0 ≡ 0
while-none None = refl
while-none (Some line) = refl

telling-next : (plans : List Planned) (old new : FileCell) (x x' : TerminalCell) (e : Entry) → IsStep old new x x' e → telling_of x' ≡ told_after plans (telling_of x) e.event
telling-next plans old new x x' e step =
    let after = session_after plans (session_of x) e.event.reply nothing in
    let none : 0 ≡ while_left after.line (0 + changed_by e.event.reply) =
    sym (while-none after.line) ∙ ap (λ (n : ℕ). while_left after.line (0 + n)) (sym (none-changed e.event.reply step.showable)) in
    λ i. record { session = (step.session plans nothing) i; changed = none i }

-- it is no interrupt step
asked-for : (old new : FileCell) (own : ℕ) (e : Entry) (st : Step) → FilesPart st old new own e → is_interrupt st ≡ false
asked-for old new own e (step.Ls s) h = refl
asked-for old new own e (step.Cat s) h = refl
asked-for old new own e (step.Dts s) h = refl
asked-for old new own e (step.Run s) h = refl
asked-for old new own e (step.Mkdir s) h = refl
asked-for old new own e (step.Rm s) h = refl
asked-for old new own e (step.Write s) h = refl
asked-for old new own e (step.Asm s) h = refl
asked-for old new own e (step.Rest s) h = refl
asked-for old new own e (step.Bad s) h = refl
asked-for old new own e st h = absurd h

-- it changes no VCPU
plain-for : (old new : FileCell) (own : ℕ) (e : Entry) (by : ActorId) (st : Step) (r : Reply) → FilesPart st old new own e → led_to by st r ≡ None
plain-for old new own e by (step.Ls s) r h = refl
plain-for old new own e by (step.Cat s) r h = refl
plain-for old new own e by (step.Dts s) r h = refl
plain-for old new own e by (step.Run s) r h = refl
plain-for old new own e by (step.Mkdir s) r h = refl
plain-for old new own e by (step.Rm s) r h = refl
plain-for old new own e by (step.Write s) r h = refl
plain-for old new own e by (step.Asm s) r h = refl
plain-for old new own e by (step.Rest s) r h = refl
plain-for old new own e by (step.Bad s) r h = refl
plain-for old new own e by st r h = absurd h

own-push : (t : ℕ) (es : List Entry) (e : Entry) → own_events t (es ++ e ∷ []) ≡ own_events t es ++ filter (λ x. is_terminal t x.actor) (e.event ∷ [])
own-push t es e = ap (filter (λ (x : Event). is_terminal t x.actor)) (map-push (λ (x : Entry). x.event) es e) ∙ filter-append (λ (x : Event). is_terminal t x.actor) (map (λ (x : Entry). x.event) es) (e.event ∷ [])

kept-one : (p : Event → Bool) (e : Event) → p e ≡ true → filter p (e ∷ []) ≡ e ∷ []
kept-one p e h = rw h refl

kept-none : (p : Event → Bool) (e : Event) → p e ≡ false → filter p (e ∷ []) ≡ []
kept-none p e h = rw h refl

log-push : (es : List Event) (e : Event) → IsLog es → AllByRecursion (λ f. (f.stamp < e.stamp) × (f.actor ≡ e.actor)) es → IsLog (es ++ e ∷ [])
log-push [] e log all = (tt, tt)
log-push (f ∷ es) e log all = (all-push (IsFollowedBy f) es e log.0 (all.0.1, all.0.0), log-push es e log.1 all.1)

-- the terminal of an event has shown one event more
shown-own : (O : Origin) (t : ℕ) (es : List Entry) (e : Entry) (old new : FileCell) (x x' : TerminalCell) → e.event.actor ≡ Terminal t → x.stamp < e.event.stamp → ShownAt O t es x
    → IsStep old new x x' e → AppendsEvent x e.event x.shown x'.shown → ShownAt O t (es ++ e ∷ []) x'
shown-own O t es e old new x x' is later h step shown =
    let plans = O.opening.plans in
    let start = told_at_start O t in
    let stamp = step.stamp in
    let own : own_events t (es ++ e ∷ []) ≡ own_events t es ++ e.event ∷ [] =
    own-push t es e ∙ ap (λ zs. own_events t es ++ zs) (kept-one (λ y. is_terminal t y.actor) e.event (ap (is_terminal t) is ∙ eq-eqb t t refl)) in
    let Asked : Event → Bool = λ y. not (is_interrupt y.step) in
    let asked : asked_events t (es ++ e ∷ []) ≡ asked_events t es ++ e.event ∷ [] =
    ap (filter Asked) own ∙ filter-append Asked (own_events t es) (e.event ∷ [])
    ∙ ap (λ zs. asked_events t es ++ zs) (kept-one Asked e.event (ap not (asked-for old new x.stamp e e.event.step step.files))) in
    let Was : Event → Type 0 = λ f. (f.stamp ≤ x.stamp) × (f.actor ≡ Terminal t) in
    let Before : Event → Type 0 = λ f. (f.stamp < e.event.stamp) × (f.actor ≡ e.event.actor) in
    let Now : Event → Type 0 = λ f. (f.stamp ≤ x'.stamp) × (f.actor ≡ Terminal t) in
    let log : IsLog (own_events t es ++ e.event ∷ []) =
    log-push (own_events t es) e.event h.log (all-map Was Before (λ f w. (let at_most = w.0 in omega arith, w.1 ∙ sym is)) (own_events t es) h.upto) in
    let upto : AllByRecursion Now (own_events t es ++ e.event ∷ []) =
    all-push Now (own_events t es) e.event (all-map Was Now (λ f w. (let at_most = w.0 in omega arith, w.1)) (own_events t es) h.upto) (omega arith, is) in
    let Log : List Event → Type 0 = IsLog in
    let Upto : List Event → Type 0 = AllByRecursion Now in
    let Script : List Event → Type 0 = λ events. IsTranscript plans start events x'.shown in
    let After : List ℕ → Type 0 = IsTranscript plans start (asked_events t es ++ e.event ∷ []) in
    let Shows : Telling → Type 0 = λ v. ShowsEvent plans v e.event shown.text in
    record {
      count = step.count ∙ ap (λ n. n + 1) h.count ∙ sym (ap length own ∙ length-append (own_events t es) (e.event ∷ []));
      value = telling-next plans old new x x' e step ∙ ap (λ v. told_after plans v e.event) h.value ∙ sym (told-push plans start (asked_events t es) e.event)
          ∙ ap (told plans start) (sym asked);
      shown = subst Script (sym asked) (subst After (sym shown.appended)
          (transcript-push plans start (asked_events t es) e.event x.shown shown.text h.shown (subst Shows h.value (shown.shows plans))));
      log = subst Log (sym own) log;
      upto = subst Upto (sym own) upto;
    }

-- and each other one has not
shown-other : (O : Origin) (t u : ℕ) (es : List Entry) (e : Entry) (x : TerminalCell) → e.event.actor ≡ Terminal t → u ≢ t → ShownAt O u es x → ShownAt O u (es ++ e ∷ []) x
shown-other O t u es e x is apart h =
    let plans = O.opening.plans in
    let start = told_at_start O u in
    let own : own_events u (es ++ e ∷ []) ≡ own_events u es =
    own-push u es e ∙ ap (λ zs. own_events u es ++ zs) (kept-none (λ y. is_terminal u y.actor) e.event (ap (is_terminal u) is ∙ ne_eqb u t apart)) ∙ append-nothing (own_events u es) in
    let asked : asked_events u (es ++ e ∷ []) ≡ asked_events u es = ap asked_among own in
    let Log : List Event → Type 0 = IsLog in
    let Upto : List Event → Type 0 = AllByRecursion (λ f. (f.stamp ≤ x.stamp) × (f.actor ≡ Terminal u)) in
    let Script : List Event → Type 0 = λ events. IsTranscript plans start events x.shown in
    record {
      count = h.count ∙ ap length (sym own);
      value = h.value ∙ ap (told plans start) (sym asked);
      shown = subst Script (sym asked) h.shown;
      log = subst Log (sym own) h.log;
      upto = subst Upto (sym own) h.upto;
    }

Any-more : {A : Type 0} (P : A → Type 0) (xs : List A) (y : A) → Any P xs → Any P (xs ++ y ∷ [])
Any-more {A} P xs y h =
    let lt = h.2 in
    (h.0, h.1, (let more = length-append {A = A} xs (y ∷ []) in omega arith), get_or_append_left xs (y ∷ []) h.1 h.0 h.2 ∙ h.3, h.4)

held-more : (es : List Entry) (e : Entry) (n : ℕ) → IsHeld es n → IsHeld (es ++ e ∷ []) n
held-more es e n (inl none) = inl none
held-more es e n (inr some) = inr (Any-more (λ x. x.event.stamp ≡ n) es e some)

held-here : (es : List Entry) (e : Entry) (n : ℕ) → n ≡ e.event.stamp → IsHeld (es ++ e ∷ []) n
held-here es e n is = inr (Any-push (λ x. x.event.stamp ≡ n) es e (sym is))

files-held-next : (es : List Entry) (old new : FileCell) (own : ℕ) (e : Entry) → FilesPart e.event.step old new own e → IsHeld es old.stamp → IsHeld (es ++ e ∷ []) new.stamp
files-held-next es old new own e part h =
    elim (part-of 0 old new own e e.event.step part) [
      | leaves untouched none l ↦ subst (λ (f : FileCell). IsHeld (es ++ e ∷ []) f.stamp) (sym l.same) (held-more es e old.stamp h)
      | takes touched one l ↦ held-here es e new.stamp l.stamp
    ]

-- a step's stamp is above its terminal's
pub event-rises : (files files' : FileCell) (x x' : TerminalCell) (e : Entry) → IsStep files files' x x' e → x.stamp < e.event.stamp
event-rises files files' x x' e s =
    elim (part-of 0 files files' x.stamp e e.event.step s.files) [
      | leaves untouched none h ↦ let next = h.next in omega arith
      | takes touched one h ↦ let next = h.next in omega arith
    ]

-- one step more
pub goes-step : (O : Origin) (s : State (machine O)) (before made : List Entry) (b b' : Board) (t : ℕ) (e : Entry) (d : TerminalCell) → t < 4
    → Goes O s before made b → IsBoardStep b b' t e → Goes O s before (made ++ e ∷ []) b'
goes-step O s before made b b' t e d below goes step =
    let m = machine O in
    let at_end = state_after m s made in
    let next : Holds O (next_state m at_end e) b' = holds-next O at_end b b' t e d below goes.holds step in
    let actor_is = (step.step d).actor ∙ ap Terminal (goes.holds.numbers t d below) in
    let whole : (before ++ made) ++ e ∷ [] ≡ before ++ (made ++ e ∷ []) = append_assoc before made (e ∷ []) in
    let HoldsAt : State m → Type 0 = λ u. Holds O u b' in
    let later = λ (x : TerminalCell). event-rises b.files b'.files (at b t x) (at b' t x) e (step.step x) in
    record {
      run = run-push m s made e goes.run (may-happen O at_end b b' t e d below goes.holds step);
      holds = subst HoldsAt (sym (after-push m s made e)) next;
      shown = λ u x lt.
          let At : List Entry → Type 0 = λ es. ShownAt O u es (at b' u x) in
          let Goal : Bool → Type 0 = λ same. eqb u t ≡ same → ShownAt O u ((before ++ made) ++ e ∷ []) (at b' u x) in
          subst At whole (elim (eqb u t) as Goal [
            | true ↦ λ same.
                let is : u ≡ t = eqb-true u t same in
                subst (λ (v : ℕ). ShownAt O v ((before ++ made) ++ e ∷ []) (at b' v x)) (sym is)
                (shown-own O t (before ++ made) e b.files b'.files (at b t x) (at b' t x) actor_is (later x) (goes.shown t x below) (step.step x) (step.shown x))
            | false ↦ λ apart.
                let different : u ≢ t = λ same. (let there = eq-eqb u t same in absurd (cc)) in
                subst (λ (y : TerminalCell). ShownAt O u ((before ++ made) ++ e ∷ []) y) (sym (step.others u x different))
                (shown-other O t u (before ++ made) e (at b u x) actor_is different (goes.shown u x lt))
          ] refl);
      in_range = all-push (λ (x : Entry). x.event.stamp ≤ GREATEST_STAMP) made e goes.in_range (let bounded = (at b' t d).stamp_bounded in let is = (step.step d).stamp in omega arith);
      by_terminals = all-push IsByTerminal made e goes.by_terminals (record { number = t; is_one = below; actor = actor_is; plain = plain-for b.files b'.files (at b t d).stamp e e.event.actor e.event.step e.event.reply (step.step d).files });
      files_held = subst (λ (es : List Entry). IsHeld es b'.files.stamp) whole (files-held-next (before ++ made) b.files b'.files (at b t d).stamp e (step.step d).files goes.files_held);
      held = λ u x lt.
          let At : List Entry → Type 0 = λ es. IsHeld es (at b' u x).stamp in
          let Goal : Bool → Type 0 = λ same. eqb u t ≡ same → IsHeld ((before ++ made) ++ e ∷ []) (at b' u x).stamp in
          subst At whole (elim (eqb u t) as Goal [
            | true ↦ λ same.
                let is : u ≡ t = eqb-true u t same in
                held-here (before ++ made) e (at b' u x).stamp (ap (λ (v : ℕ). (at b' v x).stamp) is ∙ (step.step x).stamp)
            | false ↦ λ apart.
                let different : u ≢ t = λ same. (let there = eq-eqb u t same in absurd (cc)) in
                subst (λ (y : TerminalCell). IsHeld ((before ++ made) ++ e ∷ []) y.stamp) (sym (step.others u x different)) (held-more (before ++ made) e (at b u x).stamp (goes.held u x lt))
          ] refl);
    }
