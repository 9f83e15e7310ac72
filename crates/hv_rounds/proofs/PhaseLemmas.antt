-- The phases of a run.
use Rattle.std.proofs.Common.{◌≡◌, ◌≢◌, ℕ, zero, suc, ◌+◌, ◌-◌, ◌*◌, ◌<◌, ◌≤◌, Bool, true, false, ◌&&◌, inl, inr, Option, Some, None, Ok, Err, List, [], ◌∷◌, ◌++◌, length, refl, ap, sym, ◌∙◌, arith}
use Rattle.std.specs.Prelude.{slice_index_or, is_none}
use Rattle.std.proofs.lemmas.List.{get_or_default}
use Rattle.hv_text.specs.declared.limits.TheConstants.{GREATEST_STAMP}
use Rattle.hv_machine.specs.Machine.{State, state_after}
use Rattle.hv_event.specs.declared.event.ActorId.TheVariants.{Terminal}
use Rattle.hv_answer.specs.declared.reply.Reply.{Reply}
use Rattle.hv_answer.specs.declared.reply.Reply.TheVariants as reply
use Rattle.hv_model.specs.declared.entry.Entry.{Entry}
use Rattle.hv_model.specs.Origin.{Origin}
use Rattle.hv_rules.specs.Carry.{Carry}
use Rattle.hv_rules.specs.Line.{LineState}
use Rattle.hv_words.specs.Said.{said}
use Rattle.hv_model.specs.Plans.{Planned}
use Rattle.hv_model.specs.Session.{Scripts, Session, next_in, begun_boot, Task, makes, goes, tells, task_of, first_of, Present, present_with, with_script, made_at, session_after, HasBooted, has_ended}
use Rattle.hv_model.specs.Rules.{machine}
use Rattle.hv_model.specs.Legal.{start}
use Rattle.hv_rounds.specs.declared.files.FileCell.{FileCell}
use Rattle.hv_rounds.specs.declared.terminal.Terminal.{Terminal as TerminalCell}
use Rattle.hv_rounds.specs.declared.board.Board.{Board}
use Rattle.hv_rounds.specs.Cells.{session_of}
use Rattle.hv_rounds.specs.Step.{IsStep}
use Rattle.hv_rounds.specs.Board.{at, IsBoardStep, Goes, IsTurn}
use Rattle.hv_rounds.specs.Phase.{BootPart, RoundsEnd}
use Rattle.hv_rounds.proofs.Boards.{part-of, leaves, takes}
use Rattle.hv_rounds.proofs.Goes.{goes-step, all-push}
use Rattle.hv_rounds.proofs.Rounds.{last_terminals, TookTurns, turns-push, turns-end, round-begins, turn-taken, no-turn}

-- the terminals of a board are four

pub four-items : (b : Board) → length b.terminals.items ≡ 4
four-items b = omega (arith, b.four)

one-of : (xs : List TerminalCell) → length xs ≡ 4 → TerminalCell
one-of [] four = absurd (omega arith)
one-of (x ∷ xs) four = x

-- some terminal of the board
pub terminal_of : Board → TerminalCell
terminal_of b = one-of b.terminals.items (four-items b)

-- the terminal at an index
pub item-at : (b : Board) (t : ℕ) (d x : TerminalCell) → t < 4 → x ≡ slice_index_or b.terminals.items t x → at b t d ≡ x
item-at b t d x lt is = get_or_default b.terminals.items t d x (let four = four-items b in omega arith) ∙ sym is

-- stamps rise

pub stamp_at : List TerminalCell → ℕ → ℕ
stamp_at [] t = 0
stamp_at (x ∷ xs) zero = x.stamp
stamp_at (x ∷ xs) (suc t) = stamp_at xs t

stamp-is : (xs : List TerminalCell) (t : ℕ) (d : TerminalCell) → t < length xs → stamp_at xs t ≡ (slice_index_or xs t d).stamp
unfolding stamp_at
stamp-is [] t d lt = absurd (omega arith)
stamp-is (x ∷ xs) zero d lt = refl
stamp-is (x ∷ xs) (suc t) d lt = stamp-is xs t d (omega arith)

stamp-of : (b : Board) (t : ℕ) (d : TerminalCell) → t < 4 → stamp_at b.terminals.items t ≡ (at b t d).stamp
stamp-of b t d lt = stamp-is b.terminals.items t d (let four = four-items b in omega arith)

rises : (files files' : FileCell) (x x' : TerminalCell) (e : Entry) → IsStep files files' x x' e → x.stamp < x'.stamp
rises files files' x x' e s =
    let stamp = s.stamp in
    elim (part-of 0 files files' x.stamp e e.event.step s.files) [
      | leaves untouched none h ↦ let next = h.next in omega arith
      | takes touched one h ↦ let next = h.next in omega arith
    ]

own-rises : (b b' : Board) (t : ℕ) (e : Entry) → t < 4 → IsBoardStep b b' t e → stamp_at b.terminals.items t < stamp_at b'.terminals.items t
own-rises b b' t e lt s =
    let d = terminal_of b in
    let old = stamp-of b t d lt in
    let new = stamp-of b' t d lt in
    let more = rises b.files b'.files (at b t d) (at b' t d) e (s.step d) in
    omega arith

other-stays : (b b' : Board) (t u : ℕ) (e : Entry) → u < 4 → u ≢ t → IsBoardStep b b' t e → stamp_at b'.terminals.items u ≡ stamp_at b.terminals.items u
other-stays b b' t u e lt apart s =
    let d = terminal_of b in
    stamp-of b' u d lt ∙ ap (λ (x : TerminalCell). x.stamp) (s.others u d apart) ∙ sym (stamp-of b u d lt)

bounded : (b : Board) (t : ℕ) → t < 4 → stamp_at b.terminals.items t ≤ GREATEST_STAMP
bounded b t lt =
    let d = terminal_of b in
    let is = stamp-of b t d lt in
    let most = (at b t d).stamp_bounded in
    omega arith

-- all four stamps
pub total : List TerminalCell → ℕ
total xs = stamp_at xs 0 + stamp_at xs 1 + stamp_at xs 2 + stamp_at xs 3

pub boot-smaller : (b b' : Board) (e : Entry) → IsBoardStep b b' 0 e → GREATEST_STAMP - stamp_at b'.terminals.items 0 < GREATEST_STAMP - stamp_at b.terminals.items 0
boot-smaller b b' e s =
    let more = own-rises b b' 0 e (omega arith) s in
    let most = bounded b' 0 (omega arith) in
    omega arith

pub rounds-smaller : (b b' : Board) (t : ℕ) (e : Entry) → t < 4 → IsBoardStep b b' t e → 4 * GREATEST_STAMP - total b'.terminals.items < 4 * GREATEST_STAMP - total b.terminals.items
unfolding total
rounds-smaller b b' zero e lt s =
    let more = own-rises b b' 0 e lt s in
    let s1 = other-stays b b' 0 1 e (omega arith) (λ q. omega arith) s in
    let s2 = other-stays b b' 0 2 e (omega arith) (λ q. omega arith) s in
    let s3 = other-stays b b' 0 3 e (omega arith) (λ q. omega arith) s in
    let m0 = bounded b' 0 (omega arith) in
    let m1 = bounded b' 1 (omega arith) in
    let m2 = bounded b' 2 (omega arith) in
    let m3 = bounded b' 3 (omega arith) in
    omega arith
rounds-smaller b b' (suc zero) e lt s =
    let more = own-rises b b' 1 e lt s in
    let s0 = other-stays b b' 1 0 e (omega arith) (λ q. omega arith) s in
    let s2 = other-stays b b' 1 2 e (omega arith) (λ q. omega arith) s in
    let s3 = other-stays b b' 1 3 e (omega arith) (λ q. omega arith) s in
    let m0 = bounded b' 0 (omega arith) in
    let m1 = bounded b' 1 (omega arith) in
    let m2 = bounded b' 2 (omega arith) in
    let m3 = bounded b' 3 (omega arith) in
    omega arith
rounds-smaller b b' (suc (suc zero)) e lt s =
    let more = own-rises b b' 2 e lt s in
    let s0 = other-stays b b' 2 0 e (omega arith) (λ q. omega arith) s in
    let s1 = other-stays b b' 2 1 e (omega arith) (λ q. omega arith) s in
    let s3 = other-stays b b' 2 3 e (omega arith) (λ q. omega arith) s in
    let m0 = bounded b' 0 (omega arith) in
    let m1 = bounded b' 1 (omega arith) in
    let m2 = bounded b' 2 (omega arith) in
    let m3 = bounded b' 3 (omega arith) in
    omega arith
rounds-smaller b b' (suc (suc (suc zero))) e lt s =
    let more = own-rises b b' 3 e lt s in
    let s0 = other-stays b b' 3 0 e (omega arith) (λ q. omega arith) s in
    let s1 = other-stays b b' 3 1 e (omega arith) (λ q. omega arith) s in
    let s2 = other-stays b b' 3 2 e (omega arith) (λ q. omega arith) s in
    let m0 = bounded b' 0 (omega arith) in
    let m1 = bounded b' 1 (omega arith) in
    let m2 = bounded b' 2 (omega arith) in
    let m3 = bounded b' 3 (omega arith) in
    omega arith
rounds-smaller b b' (suc (suc (suc (suc t)))) e lt s = absurd (omega arith)

-- a step of the boot script leaves the terminal's own script

open-some : (scripts : Scripts) (n : List ℕ × Scripts) → next_in scripts ≡ Some n → (x : List (List ℕ)) × (xs : Scripts) × (n.1 ≡ x ∷ xs)
open-some [] n is = absurd (cc)
open-some ([] ∷ scripts) n is = open-some scripts n is
open-some ((l ∷ ls) ∷ scripts) n is = let same : (l, ls ∷ scripts) ≡ n = cc in (ls, scripts, ap (λ (p : List ℕ × Scripts). p.1) (sym same))

task-own : (task : Task) (x : List (List ℕ)) (xs own : Scripts) (r : Reply) → (with_script task (record { task = task; boot = x ∷ xs; own = own }) r).own ≡ own
task-own (makes asked) x xs own (reply.Run (Ok script)) = refl
task-own (makes asked) x xs own (reply.Run (Err why)) = refl
task-own (makes asked) x xs own r = refl
task-own (goes line) x xs own r = refl
task-own (tells line why) x xs own r = refl

-- what a session is at, by its line and by the next command of the boot script
abbrev present_from : List Planned → Option LineState → Option (List ℕ × Scripts) → Session → Option Present
present_from plans None next s = first_of plans (begun_boot next s.own)
present_from plans (Some line) next s = Some (record { task = goes line; boot = s.boot; own = s.own })

present-from : (plans : List Planned) (line : Option LineState) (s : Session) → present_with plans line s ≡ present_from plans line (next_in s.boot) s
present-from plans None s = refl
present-from plans (Some line) s = refl

made-own : (plans : List Planned) (line : Option LineState) (next : Option (List ℕ × Scripts)) (s : Session) (r : Reply) (c : Carry) → (line ≡ None → next ≡ None → ⊥)
    → ((n : List ℕ × Scripts) → next ≡ Some n → (x : List (List ℕ)) × (xs : Scripts) × (n.1 ≡ x ∷ xs))
    → (made_at (present_from plans line next s) s r c).own ≡ s.own
made-own plans (Some line) next s r c some open' = refl
made-own plans None None s r c some open' = absurd (some refl refl)
made-own plans None (Some n) s r c some open' =
    let o = open' n refl in
    let task = task_of plans n.0 (said n.0) in
    ap (λ (boot : Scripts). (with_script task (record { task = task; boot = boot; own = s.own }) r).own) o.2 ∙ task-own task o.0 o.1 s.own r

own-stays : (plans : List Planned) (s : Session) (r : Reply) (c : Carry) → (HasBooted s → ⊥) → (session_after plans s r c).own ≡ s.own
own-stays plans s r c not_end =
    ap (λ (p : Option Present). (made_at p s r c).own) (present-from plans s.line s)
    ∙ made-own plans s.line (next_in s.boot) s r c (λ line boot. not_end (record { line = line; boot = boot })) (open-some s.boot)

-- one step more of the boot script
pub boot-step : (O : Origin) (made : List Entry) (b b' : Board) (e : Entry) → BootPart O made b → IsBoardStep b b' 0 e
    → ((d : TerminalCell) → HasBooted (session_of (at b 0 d)) → ⊥) → BootPart O (made ++ e ∷ []) b'
boot-step O made b b' e p s not_end =
    let d = terminal_of b in
    record {
      goes = goes-step O (start O) [] made b b' 0 e d (omega arith) p.goes s;
      alone = all-push (λ (x : Entry). x.event.actor ≡ Terminal 0) made e p.alone ((s.step d).actor ∙ ap Terminal (p.goes.holds.numbers 0 d (omega arith)));
      own = λ x. ap (λ (v : Session). v.own) ((s.step x).session O.opening.plans e.carry) ∙ own-stays O.opening.plans (session_of (at b 0 x)) e.event.reply e.carry (not_end x) ∙ p.own x;
    }

-- a terminal whose boot script has not ended has not ended
pub is-none : {A : Type 0} (o : Option A) → is_none o ≡ true → o ≡ None
is-none None h = refl
is-none (Some n) h = absurd (cc)

pub and-both : (p q : Bool) → (p && q) ≡ true → (p ≡ true) × (q ≡ true)
and-both true true h = (refl, refl)
and-both true false h = absurd (cc)
and-both false q h = absurd (cc)

pub not-ended : (s : Session) → (HasBooted s → ⊥) → has_ended s ≡ false
not-ended s not_end =
    let Goal : Bool → Type 0 = λ b. has_ended s ≡ b → b ≡ false in
    elim (has_ended s) as Goal [
      | true ↦ λ is.
          let both = and-both (is_none s.line) (is_none (next_in s.boot) && is_none (next_in s.own)) is in
          let scripts = and-both (is_none (next_in s.boot)) (is_none (next_in s.own)) both.1 in
          absurd (not_end (record { line = is-none s.line both.0; boot = is-none (next_in s.boot) scripts.0 }))
      | false ↦ λ is. refl
    ] refl

-- the rounds

pub open-not-ended : (b : Board) (from t : ℕ) → IsTurn b from (Some t) → (t < 4) × ((d : TerminalCell) → has_ended (session_of (at b t d)) ≡ false)
open-not-ended b from t (inl o) = (o.within, o.open_here)
open-not-ended b from t (inr both) = (both.1.within, both.1.open_here)

-- what the rounds keep
pub record RoundsGo (O : Origin) (s : State (machine O)) (before made : List Entry) (from : ℕ) (b : Board) : Type 0 where
  pub goes : Goes O s before made b
  pub took : TookTurns O s [] made (last_terminals (4 - from))

pub rounds-init : (O : Origin) (s : State (machine O)) (before : List Entry) (b : Board) → O.opening.turns ≡ 0 → Goes O s before [] b → RoundsGo O s before [] 0 b
rounds-init O s before b turns went = record { goes = went; took = round-begins O s b (terminal_of b) turns went.holds }

pub rounds-step : (O : Origin) (s : State (machine O)) (before made : List Entry) (from t : ℕ) (b b' : Board) (e : Entry) → from ≤ 4 → O.opening.turns ≡ 0 → RoundsGo O s before made from b
    → IsTurn b from (Some t) → IsBoardStep b b' t e → RoundsGo O s before (made ++ e ∷ []) (t + 1) b'
rounds-step O s before made from t b b' e le turns go turn made_step =
    let d = terminal_of b in
    let below = (open-not-ended b from t turn).0 in
    let here = state_after (machine O) s made in
    let taken = turn-taken O here b d turns go.goes.holds from t le turn in
    let actor_is = (made_step.step d).actor ∙ ap Terminal (go.goes.holds.numbers t d below) in
    let left : 3 - t ≡ 4 - (t + 1) = omega arith in
    record {
      goes = goes-step O s before made b b' t e d below go.goes made_step;
      took = turns-push O s [] (last_terminals (4 - from)) (last_terminals (4 - (t + 1))) made e go.took
          (taken ∙ ap (λ a. Some (a, last_terminals (3 - t))) (sym actor_is) ∙ ap (λ n. Some (e.event.actor, last_terminals n)) left);
    }

pub rounds-over : (O : Origin) (s : State (machine O)) (before made : List Entry) (from : ℕ) (b : Board) → from ≤ 4 → O.opening.turns ≡ 0 → RoundsGo O s before made from b
    → IsTurn b from None → RoundsEnd O s before made b None
rounds-over O s before made from b le turns go turn =
    let here = state_after (machine O) s made in
    (go.goes, turns-end O s [] (last_terminals (4 - from)) made go.took (no-turn O here b (terminal_of b) turns go.goes.holds from le turn), turn.1)
