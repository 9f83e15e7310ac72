-- The whole run.
use Rattle.std.proofs.Common.{◌≡◌, ◌≢◌, ℕ, zero, suc, ◌<◌, ◌≤◌, Bool, true, false, eqb, eq-eqb, eqb-true, inl, List, [], ◌∷◌, ◌++◌, refl, ap, sym, subst, ◌∙◌, arith}
use Rattle.std.specs.Prelude.{slice_index_or, length}
use Rattle.std.specs.List.{AllByRecursion}
use Rattle.std.proofs.lemmas.Bool.{ne_eqb}
use Rattle.hv_machine.specs.Machine.{State}
use Rattle.hv_machine.proofs.Lists.{all-map, append-nothing}
use Rattle.hv_event.specs.declared.event.ActorId.TheVariants.{Terminal}
use Rattle.hv_event.specs.declared.event.Event.{Event}
use Rattle.hv_merge.specs.Merging.{AreLogs}
use Rattle.hv_model.specs.declared.entry.Entry.{Entry}
use Rattle.hv_model.specs.Origin.{Origin}
use Rattle.hv_model.specs.Files.{load_files}
use Rattle.hv_model.specs.Session.{Session}
use Rattle.hv_model.specs.Rules.{machine}
use Rattle.hv_model.specs.Legal.{session_at_start, begun}
use Rattle.hv_model.specs.Report.{is_terminal, told_at_start}
use Rattle.hv_model.specs.Transcript.{IsTranscript}
use Rattle.hv_rounds.specs.declared.terminal.Terminal.{Terminal as TerminalCell}
use Rattle.hv_rounds.specs.declared.board.Board.{Board}
use Rattle.hv_rounds.specs.Cells.{session_of, value_of, IsNew, BeginsAt}
use Rattle.hv_rounds.specs.Board.{at, Goes, ShownAt, IsHeld, own_events, asked_events, BeginTogether}
use Rattle.hv_rounds.specs.Phase.{BootPart}
use Rattle.hv_rounds.specs.Close.{logs_of}
use Rattle.hv_rounds.proofs.PhaseLemmas.{terminal_of}
use Rattle.hv_rounds.proofs.Merged.{are-logs}

-- the board at the start

record Starts (O : Origin) (b : Board) (t : ℕ) : Type 0 where
  session : (d : TerminalCell) → session_of (at b t d) ≡ session_at_start O t
  new : (d : TerminalCell) → IsNew (at b t d) t

starts-at : (O : Origin) (b : Board) (t : ℕ) (x : TerminalCell) → ((d : TerminalCell) → at b t d ≡ x) → session_of x ≡ session_at_start O t → IsNew x t → Starts O b t
starts-at O b t x is session new = record {
  session = λ d. ap session_of (is d) ∙ session;
  new = λ d. subst (λ (y : TerminalCell). IsNew y t) (sym (is d)) new;
}

pub opened-board : (O : Origin) (b : Board) (x0 x1 x2 x3 : TerminalCell) → b.terminals.items ≡ x0 ∷ x1 ∷ x2 ∷ x3 ∷ []
    → b.files.tree ≡ load_files O.opening.files → b.files.stamp ≡ 0
    → session_of x0 ≡ session_at_start O 0 → IsNew x0 0 → session_of x1 ≡ session_at_start O 1 → IsNew x1 1
    → session_of x2 ≡ session_at_start O 2 → IsNew x2 2 → session_of x3 ≡ session_at_start O 3 → IsNew x3 3 → BootPart O [] b
opened-board O b x0 x1 x2 x3 items tree stamp v0 n0 v1 n1 v2 n2 v3 n3 =
    record {
      goes = record {
        run = tt;
        holds = record {
          files = sym tree;
          files_stamp = sym stamp;
          terminals = λ t d lt.
              let starts = all t lt in
              λ i. record { count = (sym (starts.new d).count) i; owed = []; session = (sym (starts.session d)) i; plans = O.opening.plans };
          stamps = λ t d lt. sym ((all t lt).new d).stamp;
          numbers = λ t d lt. ((all t lt).new d).number_is;
          shelf = refl;
          harts = λ h. refl;
        };
        shown = λ t d lt.
            let starts = all t lt in
            record { count = (starts.new d).count; value = λ i. record { session = starts.session d i; changed = 0 }; shown = (starts.new d).shown; log = tt; upto = tt };
        in_range = tt;
        by_terminals = tt;
        files_held = inl stamp;
        held = λ t d lt. inl ((all t lt).new d).stamp;
      };
      alone = tt;
      own = λ d. ap (λ (v : Session). v.own) ((all 0 (omega arith)).session d);
    }
  where
    at-item : (t : ℕ) (d : TerminalCell) → at b t d ≡ slice_index_or (x0 ∷ x1 ∷ x2 ∷ x3 ∷ []) t d
    at-item t d = ap (λ (xs : List TerminalCell). slice_index_or xs t d) items

    all : (t : ℕ) → t < 4 → Starts O b t
    all zero lt = starts-at O b 0 x0 (at-item 0) v0 n0
    all (suc zero) lt = starts-at O b 1 x1 (at-item 1) v1 n1
    all (suc (suc zero)) lt = starts-at O b 2 x2 (at-item 2) v2 n2
    all (suc (suc (suc zero))) lt = starts-at O b 3 x3 (at-item 3) v3 n3
    all (suc (suc (suc (suc t)))) lt = absurd (omega arith)

-- beginning together

others-none : (t : ℕ) → t ≢ 0 → (es : List Entry) → AllByRecursion (λ e. e.event.actor ≡ Terminal 0) es → own_events t es ≡ []
others-none t apart [] h = refl
others-none t apart (e ∷ es) h =
    let here : is_terminal t e.event.actor ≡ false = ap (is_terminal t) h.0 ∙ ne_eqb t 0 apart in
    rw here (others-none t apart es h.1)

pub counts-fit : (O : Origin) (boot : List Entry) (b : Board) → BootPart O boot b → (t : ℕ) (d : TerminalCell) → t < 4 → (at b t d).count ≤ (at b 0 d).stamp
counts-fit O boot b p t d lt =
    let Goal : Bool → Type 0 = λ same. eqb t 0 ≡ same → (at b t d).count ≤ (at b 0 d).stamp in
    elim (eqb t 0) as Goal [
      | true ↦ λ same.
          let is : t ≡ 0 = eqb-true t 0 same in
          subst (λ (u : ℕ). (at b u d).count ≤ (at b 0 d).stamp) (sym is) (at b 0 d).count_bounded
      | false ↦ λ apart.
          let different : t ≢ 0 = λ same. (let there = eq-eqb t 0 same in absurd (cc)) in
          let none : (at b t d).count ≡ 0 =
          (p.goes.shown t d lt).count ∙ ap length (others-none t different boot p.alone) in
          omega arith
    ] refl

module _ (O : Origin) where
  same-value : {t t' : TerminalCell} {stamp : ℕ} → BeginsAt t t' stamp → value_of O.opening.plans t ≡ value_of O.opening.plans t'
  same-value e = λ i. record { count = (sym e.count) i; owed = []; session = (sym e.session) i; plans = O.opening.plans }

pub begun-goes : (O : Origin) (boot : List Entry) (b b' : Board) → BootPart O boot b → BeginTogether b b' → Goes O (begun O boot) boot [] b'
begun-goes O boot b b' p together =
    let whole : boot ++ [] ≡ boot = append-nothing boot in
    let holds = p.goes.holds in
    record {
      run = tt;
      holds = record {
        files = holds.files ∙ ap (λ f. f.tree) (sym together.files);
        files_stamp = holds.files_stamp ∙ ap (λ f. f.stamp) (sym together.files);
        terminals = λ t d lt. holds.terminals t d lt ∙ same-value O (together.each t d lt);
        stamps = λ t d lt. holds.stamps 0 d (omega arith) ∙ sym (together.each t d lt).stamp_is;
        numbers = λ t d lt. (together.each t d lt).number ∙ holds.numbers t d lt;
        shelf = holds.shelf;
        harts = holds.harts;
      };
      shown = λ t d lt.
          let h = p.goes.shown t d lt in
          let e = together.each t d lt in
          let Now : List Event → Type 0 = AllByRecursion (λ f. (f.stamp ≤ (at b' t d).stamp) × (f.actor ≡ Terminal t)) in
          let Shown : List ℕ → Type 0 = IsTranscript O.opening.plans (told_at_start O t) (asked_events t boot) in
          let Goal : Bool → Type 0 = λ same. eqb t 0 ≡ same → Now (own_events t boot) in
          let upto : Now (own_events t boot) =
          elim (eqb t 0) as Goal [
            | true ↦ λ same.
                let is : t ≡ 0 = eqb-true t 0 same in
                let stamps : (at b t d).stamp ≡ (at b' t d).stamp = ap (λ (u : ℕ). (at b u d).stamp) is ∙ sym e.stamp_is in
                subst (λ (n : ℕ). AllByRecursion (λ (f : Event). (f.stamp ≤ n) × (f.actor ≡ Terminal t)) (own_events t boot)) stamps h.upto
            | false ↦ λ apart.
                let different : t ≢ 0 = λ same. (let there = eq-eqb t 0 same in absurd (cc)) in
                subst Now (sym (others-none t different boot p.alone)) tt
          ] refl in
          subst (λ (es : List Entry). ShownAt O t es (at b' t d)) (sym whole) (record { count = e.count ∙ h.count; value = (λ i. record { session = e.session i; changed = 0 }) ∙ h.value; shown = subst Shown (sym e.shown) h.shown; log = h.log; upto = upto });
      in_range = tt;
      by_terminals = tt;
      files_held = subst (λ (es : List Entry). IsHeld es b'.files.stamp) (sym whole) (subst (λ (f : _). IsHeld boot f.stamp) (sym together.files) p.goes.files_held);
      held = λ t d lt.
          subst (λ (es : List Entry). IsHeld es (at b' t d).stamp) (sym whole)
          (subst (λ (n : ℕ). IsHeld boot n) (sym (together.each t d lt).stamp_is) (p.goes.held 0 d (omega arith)));
    }

-- the logs

pub goes-logs : (O : Origin) (s : State (machine O)) (before made : List Entry) (b : Board) → Goes O s before made b → AreLogs (logs_of (before ++ made))
goes-logs O s before made b g =
    let d = terminal_of b in
    are-logs (before ++ made) (λ t lt. (g.shown t d lt).log)
    (λ t lt. all-map (λ (e : Event). (e.stamp ≤ (at b t d).stamp) × (e.actor ≡ Terminal t)) (λ (e : Event). e.actor ≡ Terminal t) (λ e h. h.1) (own_events t (before ++ made)) (g.shown t d lt).upto)
