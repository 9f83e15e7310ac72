-- A transcript is that of the events that it was told.
use Rattle.std.proofs.Common.{◌≡◌, ℕ, Bool, true, false, not, List, [], ◌∷◌, ◌++◌, None, filter, refl, ap, ◌∙◌, sym, subst, append-nil, append_assoc, arith}
use Rattle.std.specs.Prelude.{Option}
use Rattle.std.specs.Option.{option_map}
use Rattle.std.proofs.lemmas.List.Elements.{filter-append}
use Rattle.hv_event.specs.declared.event.Event.{Event}
use Rattle.hv_step.specs.declared.step.Step.{Step}
use Rattle.hv_rules.specs.Carry.{Carry}
use Rattle.hv_rules.specs.Line.{LineState}
use Rattle.hv_model.specs.declared.entry.Entry.{Entry}
use Rattle.hv_model.specs.Plans.{Planned}
use Rattle.hv_model.specs.Session.{Session, session_after}
use Rattle.hv_model.specs.Terminal.{TerminalState, is_interrupt, terminal_after, terminal_with}
use Rattle.hv_model.specs.Transcript.{IsTranscript, ShowsEvent, Telling, asked_among, told_after}
use Rattle.hv_terminals.specs.Terminal.{at_start}
use Rattle.hv_transcript.specs.Telling.{IsNew, KeepsUp, ShowsAsked, TellsOn, TellsWhere, TranscriptKept, telling_of, with_told}
use Rattle.hv_transcript.specs.Told.{IsTranscriptOf, told_through}

-- what is told through one event more
told-push : (plans : List Planned) (t : Telling) (es : List Event) (e : Event) → told_through plans t (es ++ e ∷ []) ≡ told_after plans (told_through plans t es) e
told-push plans t [] e = refl
told-push plans t (f ∷ es) e = told-push plans (told_after plans t f) es e

-- and what it shows
transcript-push :
    (plans : List Planned) (t : Telling) (es : List Event) (e : Event) (text more : List ℕ)
    → IsTranscript plans t es text → ShowsEvent plans (told_through plans t es) e more → IsTranscript plans t (es ++ e ∷ []) (text ++ more)
transcript-push plans t [] e text more is shows = (more, [], ap (λ (zs : List ℕ). zs ++ more) is ∙ sym (append-nil more), shows, refl)
transcript-push plans t (f ∷ es) e text more is shows =
    let here = is.0 in
    let later = is.1 in
    (here, later ++ more, ap (λ (zs : List ℕ). zs ++ more) is.2 ∙ append_assoc here later more, is.3, transcript-push plans (told_after plans t f) es e later more is.4 shows)

-- of one event more those that are asked for
one-of : (e : Event) (b : Bool) → is_interrupt e.step ≡ b → filter (λ (x : Event). not (is_interrupt x.step)) (e ∷ []) ≡ (elim b [ true ↦ [] | false ↦ e ∷ [] ])
one-of e true is = rw is refl
one-of e false is = rw is refl

asked-push : (es : List Event) (e : Event) → is_interrupt e.step ≡ false → asked_among (es ++ e ∷ []) ≡ asked_among es ++ e ∷ []
asked-push es e is =
    filter-append (λ (x : Event). not (is_interrupt x.step)) es (e ∷ []) ∙ ap (λ (zs : List Event). asked_among es ++ zs) (one-of e false is)

owed-push : (es : List Event) (e : Event) → is_interrupt e.step ≡ true → asked_among (es ++ e ∷ []) ≡ asked_among es
owed-push es e is =
    filter-append (λ (x : Event). not (is_interrupt x.step)) es (e ∷ []) ∙ ap (λ (zs : List Event). asked_among es ++ zs) (one-of e true is) ∙ append-nil (asked_among es)

-- at the start
pub begins-told : (plans : List Planned) (x : TranscriptKept) (s : Session) → IsNew x → s.line ≡ None → IsTranscriptOf plans (record { session = s; changed = 0 }) [] x s
begins-told plans x s is none = record {
  text = ap (λ (y : TranscriptKept). y.text) is;
  told =
      sym (ap (λ (y : TranscriptKept). telling_of y s) is
      ∙ ap (λ (line : Option LineState). record { session = record s { line = option_map (with_told None) line }; changed = 0 }) none
      ∙ sym (ap (λ (line : Option LineState). record { session = record s { line = line }; changed = 0 }) none));
}

pub begins-up : (plans : List Planned) (boot : Option (List ℕ)) (own : List ℕ) (x : TranscriptKept) → IsNew x → KeepsUp x (at_start plans boot own)
begins-up plans boot own x is = record {
  refusal = ap (λ (y : TranscriptKept). y.refused) is;
  changed = let none = ap (λ (y : TranscriptKept). y.changed) is in omega (arith, none);
}

module _ (plans : List Planned) (start : Telling) (events : List Event) (old new : TranscriptKept) (e : Event) where
  -- an event that was asked for
  grows-asked : (s : Session) (c : Carry) → IsTranscriptOf plans start events old s → is_interrupt e.step ≡ false → ShowsAsked plans old new s e → IsTranscriptOf plans start (events ++ e ∷ []) new (session_after plans s e.reply c)
  grows-asked s c is asked shows =
      let Shows : Telling → Type 0 = λ t. ShowsEvent plans t e shows.here in
      let Shown : List Event → Type 0 = λ es. IsTranscript plans start es new.text in
      let After : List ℕ → Type 0 = IsTranscript plans start (asked_among events ++ e ∷ []) in
      record {
        text = subst Shown (sym (asked-push events e asked)) (subst After (sym shows.appended)
            (transcript-push plans start (asked_among events) e old.text shows.here is.text (subst Shows (sym is.told) shows.shows)));
        told = ap (told_through plans start) (asked-push events e asked)
            ∙ told-push plans start (asked_among events) e
            ∙ ap (λ (t : Telling). told_after plans t e) is.told
            ∙ sym (shows.told c);
      }

  -- an interrupt
  grows-owed : (s : Session) → IsTranscriptOf plans start events old s → is_interrupt e.step ≡ true → new ≡ old → IsTranscriptOf plans start (events ++ e ∷ []) new s
  grows-owed s is owed same =
      let Shown : List Event → Type 0 = λ es. IsTranscript plans start es new.text in
      let Text : TranscriptKept → Type 0 = λ x. IsTranscript plans start (asked_among events) x.text in
      record {
        text = subst Shown (sym (owed-push events e owed)) (subst Text (sym same) is.text);
        told = ap (told_through plans start) (owed-push events e owed) ∙ is.told ∙ ap (λ (x : TranscriptKept). telling_of x s) (sym same);
      }

grows-where :
    (start : Telling) (events : List Event) (t : TerminalState) (old new : TranscriptKept) (made : Entry) (owed : List Step)
    → IsTranscriptOf t.plans start events old t.session → TellsWhere owed t old new made.event
    → IsTranscriptOf t.plans start (events ++ made.event ∷ []) new (terminal_with t owed made.event.step made.event.reply made.carry).session
grows-where start events t old new made [] is tells = grows-asked t.plans start events old new made.event t.session made.carry is tells.0 tells.1
grows-where start events t old new made (due ∷ owed) is tells = grows-owed t.plans start events old new made.event t.session is tells.0 tells.1

pub grows :
    (start : Telling) (events : List Event) (t : TerminalState) (old new : TranscriptKept) (made : Entry)
    → IsTranscriptOf t.plans start events old t.session → TellsOn t old new made.event
    → IsTranscriptOf t.plans start (events ++ made.event ∷ []) new (terminal_after t made).session
grows start events t old new made is tells = grows-where start events t old new made t.owed is tells
