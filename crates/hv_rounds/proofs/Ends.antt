-- What a closed board leaves.
use Rattle.std.proofs.Common.{◌≡◌, ℕ, zero, suc, ◌<◌, ◌≤◌, max, Bool, true, false, ◌&&◌, inl, inr, ◌⊎◌, Option, Some, None, Result, Ok, Err, List, [], ◌∷◌, ◌++◌, map, filter, cond, length, refl, ap, sym, subst, ◌∙◌, arith}
use Rattle.std.specs.Prelude.{slice_index_or, Any, IfOk, is_none}
use Rattle.std.specs.List.{AllByRecursion, range_with_len}
use Rattle.std.proofs.lemmas.Bool.{cases_lt}
use Rattle.hv_text.specs.declared.limits.TheConstants.{GREATEST_STAMP}
use Rattle.hv_machine.specs.Machine.{State, state_after}
use Rattle.hv_machine.specs.Phases.{IsTwoPart}
use Rattle.hv_machine.proofs.Lists.{all-map, all-of, append-nothing}
use Rattle.hv_event.specs.declared.event.ActorId.{ActorId}
use Rattle.hv_event.specs.declared.event.CellId.TheVariants as component
use Rattle.hv_event.specs.declared.event.ActorId.TheVariants.{Hart, Terminal}
use Rattle.hv_event.specs.declared.event.Event.{Event}
use Rattle.hv_merge.specs.Merging.{AreLogs, IsMergeOf}
use Rattle.hv_model.specs.declared.entry.Entry.{Entry}
use Rattle.hv_model.specs.Origin.{Origin, terminals}
use Rattle.hv_model.specs.Cell.{Component, Actor, is_actor, same_actor}
use Rattle.hv_model.specs.CellLaws.{same_actor-self}
use Rattle.hv_model.specs.Session.{Session, next_in, HasBooted, HasEnded, has_ended}
use Rattle.hv_model.specs.Terminal.{TerminalState, IsAtBootEnd, IsAtEnd}
use Rattle.hv_model.specs.Hart.{HasMade, hart_at_start}
use Rattle.hv_model.specs.Rules.{machine}
use Rattle.hv_model.specs.Legal.{first, start, own_at_start, booted, begun, Leads, IsComplete}
use Rattle.hv_model.specs.Legal.{IsSpent as IsSpentIn}
use Rattle.hv_model.specs.Rounds.{TakesTurns}
use Rattle.hv_model.specs.Report.{events_of, told_at_start, AreTranscripts}
use Rattle.hv_model.specs.Transcript.{IsTranscript, asked_among}
use Rattle.hv_model.proofs.RunLemmas.{made-leads, boot-leads, all-merged, in-range-merged}
use Rattle.hv_model.specs.States.{ArePlain, led_to}
use Rattle.hv_rounds.specs.declared.terminal.Terminal.{Terminal as TerminalCell}
use Rattle.hv_rounds.specs.declared.board.Board.{Board}
use Rattle.hv_rounds.specs.declared.whole.Outcome.{Outcome}
use Rattle.hv_rounds.specs.Cells.{session_of, value_of}
use Rattle.hv_rounds.specs.Board.{at, Goes, Holds, IsHeld, IsByTerminal, FoundLast, EndedFrom}
use Rattle.hv_rounds.specs.Phase.{BootPart, BootEnds, RoundsEnd, IsBooted}
use Rattle.hv_rounds.specs.Close.{logs_of, Closes}
use Rattle.hv_rounds.specs.Outcome.{IsFinished, IsSpent, IsOutcome}
use Rattle.hv_rounds.proofs.PhaseLemmas.{terminal_of, four-items, is-none, and-both}
use Rattle.hv_rounds.proofs.Merged.{MergedEntries, merged-entries, own-in-merged, entries_by, by-here, by-other}
use Rattle.hv_rounds.proofs.Wholes.{goes-logs}

-- an element that passes, by recursion

abbrev Has : {A : Type 0} → (A → Type 0) → List A → Type 0
Has P [] = ⊥
Has P (x ∷ xs) = P x ⊎ Has P xs

has-at : {A : Type 0} (P : A → Type 0) (xs : List A) (k : ℕ) (x : A) → k < length xs → slice_index_or xs k x ≡ x → P x → Has P xs
has-at P [] k x lt is p = absurd (omega arith)
has-at P (y ∷ ys) zero x lt is p = inl (subst P (sym is) p)
has-at P (y ∷ ys) (suc k) x lt is p = inr (has-at P ys k x (omega arith) is p)

any-has : {A : Type 0} (P : A → Type 0) (xs : List A) → Has P xs → Any P xs
any-has P [] h = absurd h
any-has P (x ∷ xs) (inl p) = (0, x, omega arith, refl, p)
any-has P (x ∷ xs) (inr h) = let k = any-has P xs h in (suc k.0, k.1, omega (arith, k.2), k.3, k.4)

has-map : {A B : Type 0} (Q : B → Type 0) (f : A → B) (xs : List A) → Has (λ x. Q (f x)) xs → Has Q (map f xs)
has-map Q f [] h = h
has-map Q f (x ∷ xs) (inl q) = inl q
has-map Q f (x ∷ xs) (inr h) = inr (has-map Q f xs h)

has-unfiltered : {A : Type 0} (P : A → Type 0) (p : A → Bool) (xs : List A) → Has P (filter p xs) → Has P xs
has-unfiltered P p [] h = h
has-unfiltered P p (x ∷ xs) h =
    let Goal : Bool → Type 0 = λ b. Has P (cond b (x ∷ filter p xs) (filter p xs)) → P x ⊎ Has P xs in
    elim (p x) as Goal [
      | true ↦ λ k. elim k [ inl here ↦ inl here | inr later ↦ inr (has-unfiltered P p xs later) ]
      | false ↦ λ k. inr (has-unfiltered P p xs k)
    ] h

-- it is among those of its actor
has-own : (P : Entry → Type 0) (es : List Entry) → Has P es → (a : ActorId) × Has P (entries_by a es)
has-own P [] h = absurd h
has-own P (e ∷ es) (inl p) =
    let Own : List Entry → Type 0 = Has P in
    (e.event.actor, subst Own (sym (by-here e.event.actor e es (same_actor-self e.event.actor))) (inl p))
has-own P (e ∷ es) (inr h) =
    let k = has-own P es h in
    let Own : List Entry → Type 0 = Has P in
    let Goal : Bool → Type 0 = λ b. same_actor k.0 e.event.actor ≡ b → Has P (entries_by k.0 (e ∷ es)) in (
      k.0,
      elim (same_actor k.0 e.event.actor) as Goal [
        | true ↦ λ same. subst Own (sym (by-here k.0 e es same)) (inr k.1)
        | false ↦ λ apart. subst Own (sym (by-other k.0 e es apart)) k.1
      ] refl,
    )

-- a stamp that was made is in the merged list
held-in-merged : (O : Origin) (es : List Entry) (H : List Event) (n : ℕ) → MergedEntries O es H → Any (λ e. e.event.stamp ≡ n) es → Any (λ e. e.stamp ≡ n) H
held-in-merged O es H n m found =
    let At : Entry → Type 0 = λ e. e.event.stamp ≡ n in
    let Is : Event → Type 0 = λ e. e.stamp ≡ n in
    let own = has-own At es (has-at At es found.0 found.1 found.2 found.3 found.4) in
    let Own : List Entry → Type 0 = Has At in
    let merged : Has At (entries_by own.0 m.all) = subst Own (sym (m.merged.whole (Actor own.0))) own.1 in
    let all : Has At m.all = has-unfiltered At (λ e. same_actor own.0 e.event.actor) m.all merged in
    let There : List Event → Type 0 = Any Is in
    subst There m.events (any-has Is (map (λ e. e.event) m.all) (has-map Is (λ e. e.event) m.all all))

-- no event changes a VCPU
all-events : (P : Event → Type 0) (es : List Entry) → AllByRecursion (λ e. P e.event) es → AllByRecursion P (map (λ (e : Entry). e.event) es)
all-events P [] h = tt
all-events P (e ∷ es) h = (h.0, all-events P es h.1)

plain-merged : (O : Origin) (es : List Entry) (H : List Event) → MergedEntries O es H → AllByRecursion IsByTerminal es → ArePlain H
plain-merged O es H m by =
    let Plain : Event → Type 0 = λ e. led_to e.actor e.step e.reply ≡ None in
    let Made : Entry → Type 0 = λ e. Plain e.event in
    let each : AllByRecursion Made es = all-map IsByTerminal Made (λ e b. b.plain) es by in
    let All : List Event → Type 0 = AllByRecursion Plain in
    subst All m.events (all-events Plain m.all (all-merged O Made es m.all m.merged each))

-- the last stamp was made

max-one : (x y : ℕ) → (max x y ≡ x) ⊎ (max x y ≡ y)
max-one x y = elim (cases_lt x y) [ inl less ↦ inr (omega arith) | inr not_less ↦ inl (omega arith) ]

made-stamp : (es : List Entry) (m n : ℕ) → m ≡ n → n ≡ GREATEST_STAMP → IsHeld es m → Any (λ e. e.event.stamp ≡ n) es
made-stamp es m n is last (inl none) = absurd (omega arith)
made-stamp es m n is last (inr some) = subst (λ (k : ℕ). Any (λ (e : Entry). e.event.stamp ≡ k) es) is some

found-made : (O : Origin) (s : State (machine O)) (before made : List Entry) (b : Board) (n : ℕ) → Goes O s before made b → FoundLast b n → Any (λ e. e.event.stamp ≡ n) (before ++ made)
found-made O s before made b n g found =
    let d = terminal_of b in
    let t = found.terminal in
    elim (max-one (at b t d).stamp b.files.stamp) [
      | inl own ↦ made-stamp (before ++ made) (at b t d).stamp n (sym own ∙ found.found d) found.last (g.held t d found.is_one)
      | inr files ↦ made-stamp (before ++ made) b.files.stamp n (sym files ∙ found.found d) found.last g.files_held
    ]

-- ends

at-end : (t : TerminalState) → t.owed ≡ [] → has_ended t.session ≡ true → IsAtEnd t
at-end t owed is =
    let s = t.session in
    let both = and-both (is_none s.line) (is_none (next_in s.boot) && is_none (next_in s.own)) is in
    let scripts = and-both (is_none (next_in s.boot)) (is_none (next_in s.own)) both.1 in
    record {
      owed = owed;
      ended = record { line = is-none s.line both.0; boot = is-none (next_in s.boot) scripts.0; own = is-none (next_in s.own) scripts.1 };
    }

-- what is at its end has ended
ended-at : (s : Session) → HasEnded s → has_ended s ≡ true
ended-at s end =
    let line : is_none s.line ≡ true = ap is_none end.line in
    let boot : is_none (next_in s.boot) ≡ true = ap is_none end.boot in
    let own : is_none (next_in s.own) ≡ true = ap is_none end.own in
    rw line (rw boot own)

-- a step that a board has stopped is due in the state that the board holds
spent-in : (O : Origin) (s : State (machine O)) (b : Board) (n : ℕ) → Holds O s b → FoundLast b n → IsSpentIn O s
spent-in O s b n holds found =
    let d = terminal_of b in
    let t = found.terminal in
    record {
      terminal = t;
      is_one = found.is_one;
      due = λ end.
          (let ended : has_ended (session_of (at b t d)) ≡ true = ended-at (session_of (at b t d)) (subst IsAtEnd (holds.terminals t d found.is_one) end).ended in
          let left = found.left d in
          absurd (cc));
      found = ap (λ (k : ℕ). max k (s (Component component.Files)).stamp) (holds.stamps t d found.is_one)
          ∙ ap (max (at b t d).stamp) holds.files_stamp ∙ found.found d ∙ found.last;
    }

all-join : {A : Type 0} (P : A → Type 0) (xs ys : List A) → AllByRecursion P xs → AllByRecursion P ys → AllByRecursion P (xs ++ ys)
all-join P [] ys h k = k
all-join P (x ∷ xs) ys h k = (h.0, all-join P xs ys h.1 k)

all-four : (P : ℕ → Type 0) → P 0 → P 1 → P 2 → P 3 → AllByRecursion P (0 ∷ 1 ∷ 2 ∷ 3 ∷ [])
all-four P a b c d = (a, (b, (c, (d, tt))))

four-transcripts : (O : Origin) (H : List Event) (xs : List TerminalCell) → length xs ≡ 4
    → ((t : ℕ) (d : TerminalCell) → t < 4 → IsTranscript O.opening.plans (told_at_start O t) (asked_among (events_of t H)) (slice_index_or xs t d).shown)
    → AreTranscripts O H terminals (map (λ x. x.shown) xs)
four-transcripts O H [] four h = absurd (omega arith)
four-transcripts O H (x ∷ []) four h = absurd (omega arith)
four-transcripts O H (x ∷ y ∷ []) four h = absurd (omega arith)
four-transcripts O H (x ∷ y ∷ z ∷ []) four h = absurd (omega arith)
four-transcripts O H (x ∷ y ∷ z ∷ w ∷ []) four h = (h 0 x (omega arith), (h 1 x (omega arith), (h 2 x (omega arith), (h 3 x (omega arith), tt))))
four-transcripts O H (x ∷ y ∷ z ∷ w ∷ v ∷ xs) four h = absurd (omega arith)

module _ (O : Origin) (boot : List Entry) (b : Board) (p : BootPart O boot b) where
  boot-value : (d : TerminalCell) → (booted O boot first).value ≡ value_of O.opening.plans (at b 0 d)
  boot-value d = p.goes.holds.terminals 0 d (omega arith)

  boot-within : (booted O boot first).value.session.own ≡ own_at_start O 0
  boot-within = let d = terminal_of b in ap (λ (v : TerminalState). v.session.own) (boot-value d) ∙ p.own d

  boot-alone : AllByRecursion (λ e. (machine O).actor e ≡ first) boot
  boot-alone = all-map (λ (e : Entry). e.event.actor ≡ Terminal 0) (λ (e : Entry). (machine O).actor e ≡ first) (λ e h. ap Actor h) boot p.alone

  pub boot-logs : AreLogs (logs_of (boot ++ []))
  boot-logs = let Logs : List Entry → Type 0 = λ es. AreLogs (logs_of es) in subst Logs (sym (append-nothing boot)) (goes-logs O (start O) [] boot b p.goes)

  -- a run that was stopped in the boot script
  pub spent-boot : (b' : Board) (n : ℕ) (o : Outcome) → ((d : TerminalCell) → HasBooted (session_of (at b 0 d)) → ⊥) → b'.files ≡ b.files → FoundLast b n → Closes b' (boot ++ []) (Some n) o → IsSpent O o n
  spent-boot b' n o not_end files found c =
      let same : boot ++ [] ≡ boot = append-nothing boot in
      let By : List Entry → Type 0 = AllByRecursion IsByTerminal in
      let Range : List Entry → Type 0 = AllByRecursion (λ e. e.event.stamp ≤ GREATEST_STAMP) in
      let Made : List Entry → Type 0 = Any (λ e. e.event.stamp ≡ n) in
      let merged = merged-entries O (boot ++ []) o.history.items (subst By (sym same) p.goes.by_terminals) c.history in
      let parts : IsTwoPart (machine O) is_actor first (start O) boot [] = record { alone = boot-alone; boot_runs = p.goes.run; later_runs = tt } in
      let d = terminal_of b in
      let leads = boot-leads O boot merged.all parts merged.merged (subst Range (sym same) p.goes.in_range) boot-within (λ end. not_end d (subst IsAtBootEnd (boot-value d) end).booted) in
      let Led : List Event → Type 0 = λ H. Leads O H (booted O boot) in
      record {
        run = record { state = booted O boot; legal = subst Led merged.events leads; spent = spent-in O (booted O boot) b n p.goes.holds found; final = p.goes.holds.files ∙ ap (λ f. f.tree) (sym files) ∙ sym c.files; shelf = p.goes.holds.shelf };
        last = found.last;
        held = held-in-merged O (boot ++ []) o.history.items n merged (subst Made (sym same) (found-made O (start O) [] boot b n p.goes found));
      }

  module _ (end : (d : TerminalCell) → HasBooted (session_of (at b 0 d))) (made : List Entry) (c : Board) (g : Goes O (begun O boot) boot made c) where
    boot-ended : IsAtBootEnd (booted O boot first).value
    boot-ended = let d = terminal_of b in subst IsAtBootEnd (sym (boot-value d)) (record { owed = refl; booted = end d })

    both-by : AllByRecursion IsByTerminal (boot ++ made)
    both-by = all-join IsByTerminal boot made p.goes.by_terminals g.by_terminals

    both-range : AllByRecursion (λ e. e.event.stamp ≤ GREATEST_STAMP) (boot ++ made)
    both-range = all-join (λ e. e.event.stamp ≤ GREATEST_STAMP) boot made p.goes.in_range g.in_range

    both-parts : IsTwoPart (machine O) is_actor first (start O) boot made
    both-parts = record { alone = boot-alone; boot_runs = p.goes.run; later_runs = g.run }

    both-lead : (H : List Event) → MergedEntries O (boot ++ made) H → Leads O H (state_after (machine O) (begun O boot) made)
    both-lead H merged =
        let Led : List Event → Type 0 = λ H. Leads O H (state_after (machine O) (begun O boot) made) in
        subst Led merged.events (made-leads O boot made merged.all both-parts merged.merged both-range boot-within boot-ended)

    -- a run that was stopped in its rounds
    pub spent-later : (b' : Board) (n : ℕ) (o : Outcome) → b'.files ≡ c.files → FoundLast c n → Closes b' (boot ++ made) (Some n) o → IsSpent O o n
    spent-later b' n o files found k =
        let merged = merged-entries O (boot ++ made) o.history.items both-by k.history in
        record {
          run = record {
            state = state_after (machine O) (begun O boot) made;
            legal = both-lead o.history.items merged;
            spent = spent-in O (state_after (machine O) (begun O boot) made) c n g.holds found;
            final = g.holds.files ∙ ap (λ f. f.tree) (sym files) ∙ sym k.files;
            shelf = g.holds.shelf;
          };
          last = found.last;
          held = held-in-merged O (boot ++ made) o.history.items n merged (found-made O (begun O boot) boot made c n g found);
        }

    -- what is left to do at the end: nothing
    complete : O.opening.turns ≡ 0 → EndedFrom c 0 → IsComplete O (state_after (machine O) (begun O boot) made)
    complete turns ended =
        let d = terminal_of c in
        let of : (t : ℕ) → t < 4 → IsAtEnd (state_after (machine O) (begun O boot) made (Actor (Terminal t))).value =
        λ t lt. subst IsAtEnd (sym (g.holds.terminals t d lt)) (at-end (value_of O.opening.plans (at c t d)) refl (ended t d (omega arith) lt)) in
        record {
          terminals = all-four (λ t. IsAtEnd (state_after (machine O) (begun O boot) made (Actor (Terminal t))).value) (of 0 (omega arith)) (of 1 (omega arith)) (of 2 (omega arith)) (of 3 (omega arith));
          harts = all-of (λ h. HasMade O.opening.turns (state_after (machine O) (begun O boot) made (Actor (Hart h))).value) (λ h.
              (let is : (state_after (machine O) (begun O boot) made (Actor (Hart h))).value ≡ hart_at_start O.opening.harts O.opening.turns h = g.holds.harts h in
              subst (HasMade O.opening.turns) (sym is) (record { turns_are = sym turns; pending = refl; owed = refl }))) (range_with_len 0 O.opening.harts);
        }

    -- what the terminals have shown
    shown : (H : List Event) → IsMergeOf (logs_of (boot ++ made)) H → AreTranscripts O H terminals (map (λ x. x.shown) c.terminals.items)
    shown H merge =
        four-transcripts O H c.terminals.items (four-items c) (λ t d lt.
        (let Script : List Event → Type 0 = λ own. IsTranscript O.opening.plans (told_at_start O t) (asked_among own) (at c t d).shown in
        subst Script (sym (own-in-merged (boot ++ made) H both-by merge t)) (g.shown t d lt).shown))

    -- a run that came to its end
    pub finished : (o : Outcome) → O.opening.turns ≡ 0 → TakesTurns O (begun O boot) [] made → EndedFrom c 0 → Closes c (boot ++ made) None o → IsFinished O o
    finished o turns took ended k =
        let merged = merged-entries O (boot ++ made) o.history.items both-by k.history in
        record {
          run = record {
            state = state_after (machine O) (begun O boot) made;
            legal = both-lead o.history.items merged;
            complete = complete turns ended;
            final = g.holds.files ∙ sym k.files;
            shelf = g.holds.shelf;
          };
          rounds = record {
            boot = boot;
            made = made;
            all = merged.all;
            parts = both-parts;
            boot_ended = boot-ended;
            within = boot-within;
            turns = took;
            merged = merged.merged;
            events = merged.events;
            in_range = in-range-merged O (boot ++ made) merged.all merged.merged both-range;
          };
          shown = subst (AreTranscripts O o.history.items terminals) (sym k.shown) (shown o.history.items k.history);
          plain = plain-merged O (boot ++ made) o.history.items merged both-by;
        }

-- outcomes

pub ok-map : {A E : Type 0} (P Q : A → Type 0) (r : Result A E) → ((x : A) → P x → Q x) → IfOk r P → IfOk r Q
ok-map P Q (Ok x) f h = f x h
ok-map P Q (Err e) f h = tt

pub boot-outcome : (O : Origin) (boot : List Entry) (b : Board) (n : ℕ) (o : Outcome) → BootEnds O boot b (Some n) → Closes b (boot ++ []) (Some n) o → IsOutcome O o o.spent
boot-outcome O boot b n o ends k =
    let Is : Option ℕ → Type 0 = λ s. IsOutcome O o s in
    subst Is (sym k.spent_is) (spent-boot O boot ends.0 ends.1 b n o ends.2 ends.3 ends.4 k)

pub stopped-logs : (O : Origin) (boot : List Entry) (b : Board) (n : ℕ) → BootEnds O boot b (Some n) → AreLogs (logs_of (boot ++ []))
stopped-logs O boot b n ends = boot-logs O boot ends.0 ends.1

pub rounds-logs : (O : Origin) (boot made : List Entry) (b : Board) (spent : Option ℕ) → RoundsEnd O (begun O boot) boot made b spent → AreLogs (logs_of (boot ++ made))
rounds-logs O boot made b None ends = goes-logs O (begun O boot) boot made b ends.0
rounds-logs O boot made b (Some n) ends = goes-logs O (begun O boot) boot made ends.0 ends.1

rounds-by : (O : Origin) (boot made : List Entry) (b1 b : Board) (spent : Option ℕ) (o : Outcome) → O.opening.turns ≡ 0 → IsBooted O boot b1
    → RoundsEnd O (begun O boot) boot made b spent → Closes b (boot ++ made) spent o → IsOutcome O o spent
rounds-by O boot made b1 b None o turns i ends k = finished O boot b1 i.part i.ended made b ends.0 o turns ends.1 ends.2 k
rounds-by O boot made b1 b (Some n) o turns i ends k = spent-later O boot b1 i.part i.ended made ends.0 ends.1 b n o ends.2 ends.3 k

pub rounds-outcome : (O : Origin) (boot made : List Entry) (b1 b : Board) (spent : Option ℕ) (o : Outcome) → O.opening.turns ≡ 0 → IsBooted O boot b1
    → RoundsEnd O (begun O boot) boot made b spent → Closes b (boot ++ made) spent o → IsOutcome O o o.spent
rounds-outcome O boot made b1 b spent o turns i ends k =
    let Is : Option ℕ → Type 0 = λ s. IsOutcome O o s in
    subst Is (sym k.spent_is) (rounds-by O boot made b1 b spent o turns i ends k)
