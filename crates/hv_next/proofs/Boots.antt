-- A boot part is known: it is what Terminal 0 makes until its boot script has ended.
use Rattle.std.proofs.Common.{◌≡◌, ℕ, ◌<◌, ◌≤◌, true, List, [], ◌∷◌, length, refl, sym, ap, subst, arith}
use Rattle.std.specs.List.{AllByRecursion}
use Rattle.hv_machine.specs.Machine.{State, touches, cell_after, next_state, state_after, IsRun}
use Rattle.hv_event.specs.declared.event.ActorId.{ActorId}
use Rattle.hv_event.specs.declared.event.ActorId.TheVariants.{Terminal}
use Rattle.hv_model.proofs.BoardLemmas.{has-actors}
use Rattle.hv_model.specs.Origin.{Origin}
use Rattle.hv_model.specs.Cell.{Cell, Actor}
use Rattle.hv_model.specs.declared.entry.Entry.{Entry}
use Rattle.hv_model.specs.Legal.{first}
use Rattle.hv_model.specs.Rules.{rules, machine}
use Rattle.hv_model.specs.Terminal.{TerminalState, terminal_after, IsAtBootEnd}
use Rattle.hv_next.proofs.Unique.{makes-step, next-unique}
use Rattle.hv_next.proofs.Scripts.{bottom, after-keeps, after-boot}

-- an event that Terminal 0 makes
abbrev pub IsOwn : Entry → Type 0
IsOwn e = Actor e.event.actor ≡ first

same-actor : (a b : ActorId) → Actor a ≡ Actor b → a ≡ b
same-actor a b e = cc

pub by-first : (e : Entry) → IsOwn e → e.event.actor ≡ Terminal 0
by-first e own = same-actor e.event.actor (Terminal 0) own

module _ (O : Origin) where
  abbrev terminal : State (machine O) → TerminalState
  terminal s = (s first).value

  changed : (s : State (machine O)) (e : Entry) (x : Cell) → touches (machine O) x e ≡ true → next_state (machine O) s e x ≡ cell_after rules x (s x) e
  changed s e x touched = rw touched refl

  own-changed : (s : State (machine O)) (e : Entry) → IsOwn e → terminal (next_state (machine O) s e) ≡ terminal_after (terminal s) e
  own-changed s e own =
      let Touched : Cell → Type 0 = λ x. touches (machine O) x e ≡ true in
      ap (λ h. h.value) (changed s e first (subst Touched own ((has-actors O).touched e)))

  bottom-after : (s : State (machine O)) (es : List Entry) → AllByRecursion IsOwn es → bottom (terminal (state_after (machine O) s es)).session.own ≤ bottom (terminal s).session.own
  bottom-after s [] own = omega arith
  bottom-after s (e ∷ es) own =
      let later = bottom-after (next_state (machine O) s e) es own.1 in
      let here = after-keeps (terminal s) e in
      let same = ap (λ (t : TerminalState). bottom t.session.own) (own-changed s e own.0) in
      omega arith

  -- with its boot script at its end Terminal 0 makes no event more that leaves its own script as it is
  over : (script : List (List ℕ)) (s : State (machine O)) (e : Entry) (es : List Entry) → AllByRecursion IsOwn (e ∷ es) → IsRun (machine O) s (e ∷ es)
      → IsAtBootEnd (terminal s) → (terminal s).session.own ≡ script ∷ [] → (terminal (state_after (machine O) s (e ∷ es))).session.own ≡ script ∷ [] → ⊥
  over script s e es own run at_end before after =
      let is = by-first e own.0 in
      let here : bottom (terminal_after (terminal s) e).session.own < length script = after-boot (terminal s) e script at_end before (makes-step O s 0 e is run.0) in
      let later = bottom-after (next_state (machine O) s e) es own.1 in
      let same = ap (λ (t : TerminalState). bottom t.session.own) (own-changed s e own.0) in
      let last = ap bottom after in
      omega arith

  pub boot-same : (script : List (List ℕ)) (s : State (machine O)) (bs cs : List Entry) → AllByRecursion IsOwn bs → AllByRecursion IsOwn cs
      → IsRun (machine O) s bs → IsRun (machine O) s cs
      → IsAtBootEnd (terminal (state_after (machine O) s bs)) → IsAtBootEnd (terminal (state_after (machine O) s cs))
      → (terminal (state_after (machine O) s bs)).session.own ≡ script ∷ [] → (terminal (state_after (machine O) s cs)).session.own ≡ script ∷ [] → bs ≡ cs
  boot-same script s [] [] own mine run ran at_end ended within inside = refl
  boot-same script s [] (c ∷ cs) own mine run ran at_end ended within inside = absurd (over script s c cs mine ran at_end within inside)
  boot-same script s (b ∷ bs) [] own mine run ran at_end ended within inside = absurd (over script s b bs own run ended inside within)
  boot-same script s (b ∷ bs) (c ∷ cs) own mine run ran at_end ended within inside =
      let head : b ≡ c = next-unique O s 0 b c (by-first b own.0) (by-first c mine.0) run.0 ran.0 in
      let Runs : Entry → Type 0 = λ z. IsRun (machine O) (next_state (machine O) s z) cs in
      let Ends : Entry → Type 0 = λ z. IsAtBootEnd (terminal (state_after (machine O) (next_state (machine O) s z) cs)) in
      let Within : Entry → Type 0 = λ z. (terminal (state_after (machine O) (next_state (machine O) s z) cs)).session.own ≡ script ∷ [] in
      let back = sym head in
      let tail : bs ≡ cs = boot-same script (next_state (machine O) s b) bs cs own.1 mine.1 run.1 (subst Runs back ran.1) at_end (subst Ends back ended) within (subst Within back inside) in
      λ i. head i ∷ tail i
