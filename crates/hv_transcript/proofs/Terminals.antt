-- What an event of a terminal adds to its transcript, and that the transcript keeps up.
use Rattle.std.proofs.Common.{◌≡◌, ◌≤◌, ℕ, ◌+◌, true, List, [], ◌∷◌, ◌++◌, refl, ap, ◌∙◌, sym, subst, arith}
use Rattle.hv_answer.specs.declared.reply.Reply.{Reply}
use Rattle.hv_event.specs.declared.event.Event.{Event}
use Rattle.hv_step.specs.declared.step.Step.{Step}
use Rattle.hv_rules.specs.Carry.{Carry, nothing}
use Rattle.hv_model.specs.Session.{Session, begun, made_at, present, session_after}
use Rattle.hv_model.specs.Terminal.{FitsPresent, IsNextStep, TerminalState, is_interrupt, terminal_with}
use Rattle.hv_model.specs.Transcript.{begin_shown, changed_by}
use Rattle.hv_terminals.specs.Session.{begins_at}
use Rattle.hv_terminals.specs.Terminal.{begins_from, begins_with}
use Rattle.hv_terminals.specs.declared.due.Begins.{Begins}
use Rattle.hv_transcript.specs.declared.kept.Kept.{Kept}
use Rattle.hv_transcript.specs.Kept.{ShowsNext, transcript_of}
use Rattle.hv_transcript.specs.Telling.{KeepsUp, ShowsAsked, TellsOn, TellsWhere, TranscriptKept, session_told}
use Rattle.hv_transcript.proofs.Lines.{changed-few, while-few}

-- where nothing is owed, the session's step is next, and with it what the session begins
pub asked-begins : (t : TerminalState) (which : Begins) → t.owed ≡ [] → which ≡ begins_with t → which ≡ begins_at t.plans t.session
asked-begins t which none is = is ∙ ap (λ (owed : List Step). begins_from owed t.plans t.session) none

pub asked-next :
    (t : TerminalState) (s : Step) (r : Reply) → t.owed ≡ [] → (c : Carry) × IsNextStep t t.owed s r c
    → (c : Carry) × FitsPresent t.plans t.session.lines (present t.plans t.session) s r c
asked-next t s r none next = (next.0, subst (λ (owed : List Step). IsNextStep t owed s r next.0) none next.1)

module _ (t : TerminalState) (old : Kept) (from to : List ℕ) (new : Kept) (none : t.owed ≡ []) where
  -- a step that the session asked for adds what it shows
  asked-tells : (e : Event) → ShowsNext t.plans t.session old e.step e.reply from to new → ShowsAsked t.plans (transcript_of from old) (transcript_of to new) t.session e
  asked-tells e shows =
      let told : Session = session_told old.guest t.session in
      let after : Session = session_after t.plans told e.reply nothing in record {
        here = begin_shown told.line (begun t.session) ++ shows.behind;
        shows = record { behind = shows.behind; shows = shows.shows; text_is = refl };
        appended = shows.appended;
        told = λ c.
            ap (λ (session : Session). record { session = session; changed = new.changed }) (shows.told c)
            ∙ ap (λ (changed : ℕ). record { session = after; changed = changed }) shows.changed;
      }

  pub tells-asked :
      (s : Step) (r : Reply) → ShowsNext t.plans t.session old s r from to new → (e : Event) → e.step ≡ s → e.reply ≡ r
      → TellsOn t (transcript_of from old) (transcript_of to new) e
  tells-asked s r shows e is answered =
      let Shows : Step → Reply → Type 0 = λ x y. ShowsNext t.plans t.session old x y from to new in
      let here : Shows e.step e.reply =
      subst (λ (x : Step). Shows x e.reply) (sym is) (subst (λ (y : Reply). Shows s y) (sym answered) shows)
      in
      subst (λ (owed : List Step). TellsWhere owed t (transcript_of from old) (transcript_of to new) e) (sym none)
      (here.asked, asked-tells e here)

  -- and the transcript keeps up with the terminal that takes its reply
  pub keeps-asked :
      (s : Step) (r : Reply) → ShowsNext t.plans t.session old s r from to new → old.changed ≤ t.count → (c : Carry)
      → KeepsUp (transcript_of to new) (terminal_with t t.owed s r c)
  keeps-asked s r shows few c =
      let line = (made_at (present t.plans (session_told old.guest t.session)) (session_told old.guest t.session) r nothing).line in
      let most = while-few line (old.changed + changed_by r) in
      let one = changed-few r in
      subst (λ (owed : List Step). KeepsUp (transcript_of to new) (terminal_with t owed s r c)) (sym none) (record {
        refusal = shows.refused c;
        changed = omega (arith, shows.changed, most, one, few);
      })

-- a step that was owed, an interrupt, adds nothing
interrupt-of : (t : TerminalState) (owed : List Step) (s : Step) (r : Reply) (c : Carry) → (owed ≡ [] → ⊥) → IsNextStep t owed s r c → is_interrupt s ≡ true
interrupt-of t [] s r c some next = absurd (some refl)
interrupt-of t (due ∷ owed) s r c some next = next.1

tells-where : (t : TerminalState) (x : TranscriptKept) (e : Event) (owed : List Step) → (owed ≡ [] → ⊥) → is_interrupt e.step ≡ true → TellsWhere owed t x x e
tells-where t x e [] some is = absurd (some refl)
tells-where t x e (due ∷ owed) some is = (is, refl)

pub tells-owed :
    (t : TerminalState) (x : TranscriptKept) (s : Step) (r : Reply) → (t.owed ≡ [] → ⊥) → (c : Carry) × IsNextStep t t.owed s r c
    → (e : Event) → e.step ≡ s → TellsOn t x x e
tells-owed t x s r some next e is =
    tells-where t x e t.owed some (ap is_interrupt is ∙ interrupt-of t t.owed s r next.0 some next.1)

keeps-where : (t : TerminalState) (x : TranscriptKept) (s : Step) (r : Reply) (c : Carry) (owed : List Step) → (owed ≡ [] → ⊥) → KeepsUp x t → KeepsUp x (terminal_with t owed s r c)
keeps-where t x s r c [] some keeps = absurd (some refl)
keeps-where t x s r c (due ∷ owed) some keeps = record {
  refusal = keeps.refusal;
  changed = let few = keeps.changed in omega (arith, few);
}

pub keeps-owed : (t : TerminalState) (x : TranscriptKept) (s : Step) (r : Reply) (c : Carry) → (t.owed ≡ [] → ⊥) → KeepsUp x t → KeepsUp x (terminal_with t t.owed s r c)
keeps-owed t x s r c some keeps = keeps-where t x s r c t.owed some keeps
