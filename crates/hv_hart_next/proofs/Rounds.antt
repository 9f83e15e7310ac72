-- A run in rounds has one history.
use Rattle.std.proofs.Common.{◌≡◌, List, [], ◌∷◌, ◌++◌, map, refl, sym, ap, subst, ◌∙◌}
use Rattle.std.specs.Prelude.{None, Some}
use Rattle.hv_event.specs.declared.event.ActorId.{ActorId}
use Rattle.hv_event.specs.declared.event.ActorId.TheVariants.{Hart, Terminal}
use Rattle.hv_event.specs.declared.event.Event.{Event}
use Rattle.hv_machine.specs.Machine.{State, MayHappen, next_state, events_by, IsRun}
use Rattle.hv_machine.proofs.MergingLemmas.{rising-unique}
use Rattle.hv_model.specs.Cell.{rank_of}
use Rattle.hv_model.specs.declared.entry.Entry.{Entry}
use Rattle.hv_model.specs.Legal.{start, begun}
use Rattle.hv_model.specs.Origin.{Origin, own_script}
use Rattle.hv_model.specs.Rounds.{TakesTurns, IsRounds}
use Rattle.hv_model.specs.Rules.{machine}
use Rattle.hv_next.proofs.Boots.{boot-same}
use Rattle.hv_next.proofs.Unique.{next-unique}
use Rattle.hv_window_laws.specs.Legal.{AreInOrder}
use Rattle.hv_order_laws.specs.Orders.{AreOrdered, ArePlansGood}
use Rattle.hv_order_laws.proofs.Legal.{runs-in-order}
use Rattle.hv_words.specs.Words.{commands_of}
use Rattle.hv_hart_next.proofs.Reached.{Known, known-next, known-run, known-start, known-begun}
use Rattle.hv_hart_next.proofs.Unique.{hart-unique}

abbrev Turn : Type 0
Turn = ActorId × List ActorId

same-turn : (one other : Turn) → Some one ≡ Some other → one ≡ other
same-turn one other e = cc

none-some : (turn : Turn) → None ≡ Some turn → ⊥
none-some turn e = cc

module _ (O : Origin) where
  -- any actor has one next event
  by-actor : (s : State (machine O)) (a : ActorId) (e f : Entry) → Known O s → e.event.actor ≡ a → f.event.actor ≡ a
      → MayHappen (machine O) s e → MayHappen (machine O) s f → e ≡ f
  by-actor s (Hart h) e f known p q a b = hart-unique O s h known e f p q a b
  by-actor s (Terminal t) e f known p q a b = next-unique O s t e f p q a b

  pub actor-unique : (s : State (machine O)) (e f : Entry) → Known O s → e.event.actor ≡ f.event.actor → MayHappen (machine O) s e → MayHappen (machine O) s f → e ≡ f
  actor-unique s e f known same a b = by-actor s e.event.actor e f known refl (sym same) a b

  -- so what is made in turn is known
  made-same : (s : State (machine O)) (left : List ActorId) (es fs : List Entry) → Known O s → AreInOrder O s es → IsRun (machine O) s es → IsRun (machine O) s fs
      → TakesTurns O s left es → TakesTurns O s left fs → es ≡ fs
  made-same s left [] [] known order run ran x y = refl
  made-same s left [] (f ∷ fs) known order run ran x y = absurd (none-some (f.event.actor, y.0) (sym x ∙ y.1))
  made-same s left (e ∷ es) [] known order run ran x y = absurd (none-some (e.event.actor, x.0) (sym y ∙ x.1))
  made-same s left (e ∷ es) (f ∷ fs) known order run ran x y =
      let one : Turn = (e.event.actor, x.0) in
      let other : Turn = (f.event.actor, y.0) in
      let same = same-turn one other (sym x.1 ∙ y.1) in
      let actors : e.event.actor ≡ f.event.actor = ap (λ (turn : Turn). turn.0) same in
      let lefts : y.0 ≡ x.0 = sym (ap (λ (turn : Turn). turn.1) same) in
      let head : e ≡ f = actor-unique s e f known actors run.0 ran.0 in
      let next = next_state (machine O) s e in
      let Runs : Entry → Type 0 = λ z. IsRun (machine O) (next_state (machine O) s z) fs in
      let Turns : Entry → Type 0 = λ z. TakesTurns O (next_state (machine O) s z) y.0 fs in
      let Left : List ActorId → Type 0 = λ l. TakesTurns O next l fs in
      let turns : TakesTurns O next x.0 fs = subst Left lefts (subst Turns (sym head) y.2) in
      let tail : es ≡ fs = made-same next x.0 es fs (known-next O s e run.0 order.0 known) order.1 run.1 (subst Runs (sym head) ran.1) x.2 turns in
      λ i. head i ∷ tail i

  module _ (H K : List Event) (x : IsRounds O H) (y : IsRounds O K) (good : ArePlansGood O) where
    abbrev order : AreOrdered O (start O) x.boot × AreOrdered O (begun O x.boot) x.made
    order = runs-in-order O good x.boot x.made x.parts.boot_runs x.parts.later_runs

    boots : x.boot ≡ y.boot
    boots =
        boot-same O (commands_of (own_script O 0)) (start O) x.boot y.boot x.parts.alone y.parts.alone x.parts.boot_runs y.parts.boot_runs x.boot_ended y.boot_ended x.within y.within

    known : Known O (begun O x.boot)
    known = known-begun O x.boot (known-run O (start O) x.boot x.parts.boot_runs order.0.guests (known-start O))

    makes : x.made ≡ y.made
    makes =
        let Runs : List Entry → Type 0 = λ boot. IsRun (machine O) (begun O boot) y.made in
        let Turns : List Entry → Type 0 = λ boot. TakesTurns O (begun O boot) [] y.made in
        made-same (begun O x.boot) [] x.made y.made known order.1.guests x.parts.later_runs (subst Runs (sym boots) y.parts.later_runs) x.turns (subst Turns (sym boots) y.turns)

    merges : x.all ≡ y.all
    merges =
        let whole : x.boot ++ x.made ≡ y.boot ++ y.made = λ i. boots i ++ makes i in
        rising-unique (machine O) rank_of x.all y.all x.merged.rising y.merged.rising
        (λ a. x.merged.whole a ∙ ap (λ (es : List Entry). events_by (machine O) a es) whole ∙ sym (y.merged.whole a))

    pub one-history : H ≡ K
    one-history = sym x.events ∙ ap (λ (es : List Entry). map (λ (e : Entry). e.event) es) merges ∙ y.events
