-- Without turns of harts a run in rounds has one history.
use Rattle.std.proofs.Common.{◌≡◌, List, [], ◌++◌, map, refl, sym, ap, subst, ◌∙◌}
use Rattle.hv_machine.specs.Machine.{events_by, IsRun}
use Rattle.hv_machine.proofs.MergingLemmas.{rising-unique}
use Rattle.hv_event.specs.declared.event.Event.{Event}
use Rattle.hv_words.specs.Words.{commands_of}
use Rattle.hv_model.specs.Origin.{Origin, own_script}
use Rattle.hv_model.specs.Cell.{rank_of}
use Rattle.hv_model.specs.declared.entry.Entry.{Entry}
use Rattle.hv_model.specs.Legal.{start, begun}
use Rattle.hv_model.specs.Rounds.{TakesTurns, IsRounds}
use Rattle.hv_model.specs.Rules.{machine}
use Rattle.hv_next.proofs.Boots.{boot-same}
use Rattle.hv_next.proofs.Turns.{AreUnmoved, unmoved-after, made-same}

module _ (O : Origin) (still : O.opening.turns ≡ 0) (H K : List Event) (x : IsRounds O H) (y : IsRounds O K) where
  boots : x.boot ≡ y.boot
  boots =
      boot-same O (commands_of (own_script O 0)) (start O) x.boot y.boot x.parts.alone y.parts.alone x.parts.boot_runs y.parts.boot_runs x.boot_ended y.boot_ended x.within y.within

  unmoved : AreUnmoved O (begun O x.boot)
  unmoved = unmoved-after O (start O) x.boot x.parts.alone (λ h. refl)

  makes : x.made ≡ y.made
  makes =
      let Runs : List Entry → Type 0 = λ boot. IsRun (machine O) (begun O boot) y.made in
      let Turns : List Entry → Type 0 = λ boot. TakesTurns O (begun O boot) [] y.made in
      made-same O still (begun O x.boot) [] x.made y.made unmoved x.parts.later_runs (subst Runs (sym boots) y.parts.later_runs) x.turns (subst Turns (sym boots) y.turns)

  merges : x.all ≡ y.all
  merges =
      let whole : x.boot ++ x.made ≡ y.boot ++ y.made = λ i. boots i ++ makes i in
      rising-unique (machine O) rank_of x.all y.all x.merged.rising y.merged.rising
      (λ a. x.merged.whole a ∙ ap (λ (es : List Entry). events_by (machine O) a es) whole ∙ sym (y.merged.whole a))

  pub one-history : H ≡ K
  one-history = sym x.events ∙ ap (λ (es : List Entry). map (λ (e : Entry). e.event) es) merges ∙ y.events
