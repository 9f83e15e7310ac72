-- A step of the board is a step of the abstract machine.
use Rattle.std.proofs.Common.{◌≡◌, ◌≢◌, ℕ, ◌+◌, ◌<◌, Bool, true, false, eqb, eq-eqb, eqb-true, List, [], ◌∷◌, map, refl, ap, sym, subst, ◌∙◌, arith}
use Rattle.std.proofs.lemmas.Bool.{ne_eqb}
use Rattle.std.specs.List.{AllByRecursion, list_any}
use Rattle.hv_machine.specs.Machine.{Machine, State, cell_after, greatest, touches, next_state, MayHappen}
use Rattle.hv_event.specs.declared.event.ActorId.{ActorId}
use Rattle.hv_event.specs.declared.event.ActorId.TheVariants.{Hart, Terminal}
use Rattle.hv_event.specs.declared.event.CellId.{CellId}
use Rattle.hv_event.specs.declared.event.CellId.TheVariants as component
use Rattle.hv_step.specs.declared.step.Step.{Step}
use Rattle.hv_step.specs.declared.step.Step.TheVariants as step
use Rattle.hv_model.specs.declared.entry.Entry.{Entry}
use Rattle.hv_model.specs.Origin.{Origin}
use Rattle.hv_model.specs.Cell.{Cell, Component, Actor, same_cell, same_actor}
use Rattle.hv_model.specs.Files.{FilesAgree, files_after}
use Rattle.hv_answer.specs.declared.reply.Reply.{Reply}
use Rattle.hv_rules.specs.Carry.{Carry}
use Rattle.hv_model.specs.Plans.{Planned}
use Rattle.hv_model.specs.Terminal.{TerminalState, TerminalAgrees, terminal_after, owed_after}
use Rattle.hv_model.proofs.BoardLemmas.{touch-actor}
use Rattle.hv_model.specs.Rules.{machine, components_of, IsAllowedAt}
use Rattle.hv_rules.specs.Footprint.{components}
use Rattle.hv_rounds.specs.declared.files.FileCell.{FileCell}
use Rattle.hv_rounds.specs.declared.terminal.Terminal.{Terminal as TerminalCell}
use Rattle.hv_rounds.specs.declared.board.Board.{Board}
use Rattle.hv_rounds.specs.Cells.{value_of}
use Rattle.hv_rounds.specs.Step.{IsStep, FilesPart, TouchesFiles, LeavesFiles}
use Rattle.hv_rounds.specs.Board.{at, IsBoardStep, Holds}

module _ (m : Machine) (s : State m) (e : m.Event) (x : m.Cell) where
  pub next-touched : touches m x e ≡ true → next_state m s e x ≡ cell_after m.rules x (s x) e
  next-touched h = rw h refl

  pub next-untouched : touches m x e ≡ false → next_state m s e x ≡ s x
  next-untouched h = rw h refl

eqb-is : (u t : ℕ) → eqb u t ≡ true → u ≡ t
eqb-is u t e = eqb-true u t e

eqb-apart : (u t : ℕ) → eqb u t ≡ false → u ≢ t
eqb-apart u t e same = let there = eq-eqb u t same in absurd (cc)

-- the components of an event if its step were this
abbrev components_by : (harts : ℕ) → Entry → Step → List CellId
components_by harts e st = components harts e.event.actor st e.event.reply e.carry

-- whether a step touches the files
abbrev touches_files : (harts : ℕ) → Entry → Step → Bool
touches_files harts e st = list_any (same_cell (Component component.Files)) (map Component (components_by harts e st))

touch-files : (O : Origin) (e : Entry) → touches (machine O) (Component component.Files) e ≡ touches_files O.opening.harts e e.event.step
touch-files O e = refl

-- what a step does to the files, as one of two records
pub data Part (harts : ℕ) (old new : FileCell) (own : ℕ) (e : Entry) (st : Step) : Type 0 where
  leaves : touches_files harts e st ≡ false → components_by harts e st ≡ [] → LeavesFiles old new own e → Part harts old new own e st
  takes : touches_files harts e st ≡ true → components_by harts e st ≡ component.Files ∷ [] → TouchesFiles old new own e → Part harts old new own e st

pub part-of : (harts : ℕ) (old new : FileCell) (own : ℕ) (e : Entry) (st : Step) → FilesPart st old new own e → Part harts old new own e st
part-of harts old new own e (step.Ls s) h = takes refl refl h
part-of harts old new own e (step.Cat s) h = takes refl refl h
part-of harts old new own e (step.Dts s) h = takes refl refl h
part-of harts old new own e (step.Run s) h = takes refl refl h
part-of harts old new own e (step.Mkdir s) h = takes refl refl h
part-of harts old new own e (step.Rm s) h = takes refl refl h
part-of harts old new own e (step.Write s) h = takes refl refl h
part-of harts old new own e (step.Asm s) h = takes refl refl h
part-of harts old new own e (step.Rest s) h = leaves refl refl h
part-of harts old new own e (step.Bad s) h = leaves refl refl h
part-of harts old new own e st h = absurd h

-- such a step owes no other
owed-none : (plans : List Planned) (old new : FileCell) (own : ℕ) (e : Entry) (st : Step) (r : Reply) (c : Carry) → FilesPart st old new own e → owed_after plans st r c ≡ []
owed-none plans old new own e (step.Ls s) r c h = refl
owed-none plans old new own e (step.Cat s) r c h = refl
owed-none plans old new own e (step.Dts s) r c h = refl
owed-none plans old new own e (step.Run s) r c h = refl
owed-none plans old new own e (step.Mkdir s) r c h = refl
owed-none plans old new own e (step.Rm s) r c h = refl
owed-none plans old new own e (step.Write s) r c h = refl
owed-none plans old new own e (step.Asm s) r c h = refl
owed-none plans old new own e (step.Rest s) r c h = refl
owed-none plans old new own e (step.Bad s) r c h = refl
owed-none plans old new own e st r c h = absurd h

after-value : (plans : List Planned) (old new : FileCell) (t t' : TerminalCell) (e : Entry) → IsStep old new t t' e
    → terminal_after (value_of plans t) e ≡ value_of plans t'
after-value plans old new t t' e step =
    let none = owed-none plans old new t.stamp e e.event.step e.event.reply e.carry step.files in
    λ i. record {
      count = (sym step.count) i;
      owed = none i;
      session = (sym (step.session plans e.carry)) i;
      plans = plans;
    }

module _ (O : Origin) (s : State (machine O)) (b b' : Board) (t : ℕ) (e : Entry) (d : TerminalCell) (below : t < 4)
    (holds : Holds O s b) (made : IsBoardStep b b' t e) where
  abbrev m : Machine
  m = machine O

  abbrev F : Cell
  F = Component component.Files

  abbrev here : TerminalCell
  here = at b t d

  abbrev step_is : IsStep b.files b'.files (at b t d) (at b' t d) e
  step_is = made.step d

  actor-is : e.event.actor ≡ Terminal t
  actor-is = step_is.actor ∙ ap Terminal (holds.numbers t d below)

  own-stamp : (s (Actor (Terminal t))).stamp ≡ here.stamp
  own-stamp = holds.stamps t d below

  part : Part O.opening.harts b.files b'.files here.stamp e e.event.step
  part = part-of O.opening.harts b.files b'.files here.stamp e e.event.step step_is.files

  own-agrees : IsAllowedAt (Actor (Terminal t)) (s (Actor (Terminal t))).value e
  own-agrees = subst (λ (v : TerminalState). TerminalAgrees v e) (sym (holds.terminals t d below)) (step_is.agrees O.opening.plans)

  -- the cells of a step
  abbrev AgreedBy : ActorId → List CellId → Type 0
  AgreedBy a cs = AllByRecursion (λ x. IsAllowedAt x (s x).value e) (Actor a ∷ map Component cs)

  abbrev Stamped : ActorId → List CellId → Type 0
  Stamped a cs = e.event.stamp ≡ greatest (map (λ x. (s x).stamp) (Actor a ∷ map Component cs)) + 1

  pub may-happen : MayHappen m s e
  may-happen =
      elim part [
        | leaves untouched none h ↦
            let agreed : AgreedBy (Terminal t) [] = (own-agrees, tt) in
            let stamped : Stamped (Terminal t) [] = let next = h.next in omega (arith, own-stamp, next) in
            let all : AgreedBy e.event.actor (components_of O.opening.harts e) = subst (λ a. AgreedBy a (components_of O.opening.harts e)) (sym actor-is) (subst (AgreedBy (Terminal t)) (sym none) agreed) in
            let stamp : Stamped e.event.actor (components_of O.opening.harts e) = subst (λ a. Stamped a (components_of O.opening.harts e)) (sym actor-is) (subst (Stamped (Terminal t)) (sym none) stamped) in
            record { agreed = all; stamped = stamp }
        | takes touched one h ↦
            let files : FilesAgree (s F).value e.event.step e.event.reply e.carry = subst (λ v. FilesAgree v e.event.step e.event.reply e.carry) (sym holds.files) h.agrees in
            let agreed : AgreedBy (Terminal t) (component.Files ∷ []) = (own-agrees, (files, tt)) in
            let stamped : Stamped (Terminal t) (component.Files ∷ []) = let next = h.next in let fs = holds.files_stamp in omega (arith, own-stamp, next, fs) in
            let all : AgreedBy e.event.actor (components_of O.opening.harts e) = subst (λ a. AgreedBy a (components_of O.opening.harts e)) (sym actor-is) (subst (AgreedBy (Terminal t)) (sym one) agreed) in
            let stamp : Stamped e.event.actor (components_of O.opening.harts e) = subst (λ a. Stamped a (components_of O.opening.harts e)) (sym actor-is) (subst (Stamped (Terminal t)) (sym one) stamped) in
            record { agreed = all; stamped = stamp }
      ]

  files-next : ((next_state m s e F).value ≡ b'.files.tree) × ((next_state m s e F).stamp ≡ b'.files.stamp)
  files-next =
      elim part [
        | leaves untouched none h ↦
            let still = next-untouched m s e F (touch-files O e ∙ untouched) in
            (ap (λ k. k.value) still ∙ holds.files ∙ ap (λ (f : FileCell). f.tree) (sym h.same), ap (λ k. k.stamp) still ∙ holds.files_stamp ∙ ap (λ (f : FileCell). f.stamp) (sym h.same))
        | takes touched one h ↦
            let changed = next-touched m s e F (touch-files O e ∙ touched) in
            (ap (λ k. k.value) changed ∙ ap (λ v. files_after v e.event.step e.event.reply) holds.files ∙ sym h.after, ap (λ k. k.stamp) changed ∙ sym h.stamp)
      ]

  abbrev S : Cell
  S = Component component.Shelf

  abbrev AtShelf : List CellId → Bool
  AtShelf cs = list_any (same_cell (Component component.Shelf)) (map Component cs)

  shelf-touched : touches m S e ≡ false
  shelf-touched = elim part [ leaves untouched none h ↦ ap AtShelf none | takes touched one h ↦ ap AtShelf one ]

  own-touched : touches m (Actor (Terminal t)) e ≡ true
  own-touched = touch-actor O e (Terminal t) ∙ ap (same_actor (Terminal t)) actor-is ∙ eq-eqb t t refl

  other-touched : (u : ℕ) → u ≢ t → touches m (Actor (Terminal u)) e ≡ false
  other-touched u apart = touch-actor O e (Terminal u) ∙ ap (same_actor (Terminal u)) actor-is ∙ ne_eqb u t apart

  hart-touched : (h : ℕ) → touches m (Actor (Hart h)) e ≡ false
  hart-touched h = touch-actor O e (Hart h) ∙ ap (same_actor (Hart h)) actor-is

  own-value : (x : TerminalCell) → (next_state m s e (Actor (Terminal t))).value ≡ value_of O.opening.plans (at b' t x)
  own-value x =
      let changed = next-touched m s e (Actor (Terminal t)) own-touched in
      ap (λ k. k.value) changed ∙ ap (λ v. terminal_after v e) (holds.terminals t x below)
      ∙ after-value O.opening.plans b.files b'.files (at b t x) (at b' t x) e (made.step x)

  own-stamp-next : (x : TerminalCell) → (next_state m s e (Actor (Terminal t))).stamp ≡ (at b' t x).stamp
  own-stamp-next x = ap (λ k. k.stamp) (next-touched m s e (Actor (Terminal t)) own-touched) ∙ sym (made.step x).stamp

  pub holds-next : Holds O (next_state m s e) b'
  holds-next = record {
    files = files-next.0;
    files_stamp = files-next.1;
    terminals = λ u x lt.
        let Goal : Bool → Type 0 = λ same. eqb u t ≡ same → (next_state m s e (Actor (Terminal u))).value ≡ value_of O.opening.plans (at b' u x) in
        elim (eqb u t) as Goal [
          | true ↦ λ same. let is : u ≡ t = eqb-is u t same in subst (λ (v : ℕ). (next_state m s e (Actor (Terminal v))).value ≡ value_of O.opening.plans (at b' v x)) (sym is) (own-value x)
          | false ↦ λ apart.
              ap (λ k. k.value) (next-untouched m s e (Actor (Terminal u)) (other-touched u (eqb-apart u t apart))) ∙ holds.terminals u x lt ∙ ap (value_of O.opening.plans) (sym (made.others u x (eqb-apart u t apart)))
        ] refl;
    stamps = λ u x lt.
        let Goal : Bool → Type 0 = λ same. eqb u t ≡ same → (next_state m s e (Actor (Terminal u))).stamp ≡ (at b' u x).stamp in
        elim (eqb u t) as Goal [
          | true ↦ λ same. let is : u ≡ t = eqb-is u t same in subst (λ (v : ℕ). (next_state m s e (Actor (Terminal v))).stamp ≡ (at b' v x).stamp) (sym is) (own-stamp-next x)
          | false ↦ λ apart.
              ap (λ k. k.stamp) (next-untouched m s e (Actor (Terminal u)) (other-touched u (eqb-apart u t apart))) ∙ holds.stamps u x lt ∙ ap (λ (c : TerminalCell). c.stamp) (sym (made.others u x (eqb-apart u t apart)))
        ] refl;
    numbers = λ u x lt.
        let Goal : Bool → Type 0 = λ same. eqb u t ≡ same → (at b' u x).number ≡ u in
        elim (eqb u t) as Goal [
          | true ↦ λ same. let is : u ≡ t = eqb-is u t same in subst (λ (v : ℕ). (at b' v x).number ≡ v) (sym is) ((made.step x).number ∙ holds.numbers t x below)
          | false ↦ λ apart. ap (λ (c : TerminalCell). c.number) (made.others u x (eqb-apart u t apart)) ∙ holds.numbers u x lt
        ] refl;
    shelf = ap (λ k. k.value) (next-untouched m s e S shelf-touched) ∙ holds.shelf;
    harts = λ h. ap (λ k. k.value) (next-untouched m s e (Actor (Hart h)) (hart-touched h)) ∙ holds.harts h;
  }
