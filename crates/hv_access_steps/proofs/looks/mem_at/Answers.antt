use Rattle.std.proofs.Common.{◌≡◌, ◌∷◌, ◌++◌, ◌∙◌, None, Some, ap, map, subst, sym, take}
use Rattle.std.proofs.lemmas.List.{take-append-drop}
use Rattle.hv_event.specs.declared.event.CellId.TheVariants as component
use Rattle.hv_parts.specs.Takes.{IsTakenAt}
use Rattle.hv_parts.specs.Value.{valued}
use Rattle.hv_rules.specs.Carry.{Carry}
use Rattle.hv_rules.specs.Footprint.{reached_by}
use Rattle.hv_step.specs.declared.step.Step.TheVariants as steps
use Rattle.hv_access_steps.specs.First.{area_first, behind}
use Rattle.hv_access_steps.proofs.Lists.{ok-two}
use Rattle.hv_access_steps.proofs.Looking.{mem-made}
use Rattle.hv_access_steps.proofs.looks.mem_at.Goals as goal

pub returns-in-None : goal.returns-in-None
returns-in-None g c =
    let state = g.E.Emulator.state in
    let s = c.args.step.now in
    let ps = c.args.parts.now in
    let front = c.split_at.result.0.now in
    let back = c.split_at.result.1.now in
    let split : ps ≡ front ++ back = sym (ap (λ l. l ++ back) c.split_at.ensures.front ∙ (ap (λ l. take 1 ps ++ l) c.split_at.ensures.back ∙ take-append-drop 1 ps)) in
    let nowhere : c.args.place ≡ None = c.requires.place ∙ ap (λ w. area_first w s.address s.count (behind (map (valued state) ps))) c.in-None.is in
    λ harts by.
    mem-made state harts by s c.mem_outside.result c.in-Some.generation c.args.window c.args.place ps front back c.in-Some.is c.requires.admitted c.requires.parts split c.split_at.ensures.front_len
    (ap (λ (k : Carry). k.window) c.mem_outside.ensures.handed ∙ sym c.in-None.is) (ap (λ (k : Carry). k.area) c.mem_outside.ensures.handed ∙ sym nowhere)
    (subst (λ w. IsTakenAt state (component.Space c.in-Some.generation.slot ∷ reached_by c.in-Some.generation w c.args.place) (steps.Mem s) c.mem_outside.result back back) (sym c.in-None.is) c.mem_outside.ensures.taken)

pub returns-in-None-place : goal.returns-in-None-place
returns-in-None-place g c =
    let state = g.E.Emulator.state in
    let s = c.args.step.now in
    let ps = c.args.parts.now in
    let front = c.split_at.result.0.now in
    let back = c.split_at.result.1.now in
    let split : ps ≡ front ++ back = sym (ap (λ l. l ++ back) c.split_at.ensures.front ∙ (ap (λ l. take 1 ps ++ l) c.split_at.ensures.back ∙ take-append-drop 1 ps)) in
    ok-two c.mem_own.result _ _ _ c.mem_own.ensures.taken c.mem_own.ensures.handed (
    λ made taken handed harts by.
    mem-made state harts by s made c.in-Some.generation c.args.window c.args.place ps front back c.in-Some.is c.requires.admitted c.requires.parts split c.split_at.ensures.front_len
    (ap (λ (k : Carry). k.window) handed ∙ sym c.in-Some-window.is) (ap (λ (k : Carry). k.area) handed ∙ sym c.in-None-place.is)
    (subst (λ w. IsTakenAt state (component.Space c.in-Some.generation.slot ∷ reached_by c.in-Some.generation w c.args.place) (steps.Mem s) made back back) (sym c.in-Some-window.is)
    (subst (λ o. IsTakenAt state (component.Space c.in-Some.generation.slot ∷ reached_by c.in-Some.generation (Some c.in-Some-window.window) o) (steps.Mem s) made back back) (sym c.in-None-place.is) taken))
    )

pub returns-in-Some-place : goal.returns-in-Some-place
returns-in-Some-place g c =
    let state = g.E.Emulator.state in
    let s = c.args.step.now in
    let ps = c.args.parts.now in
    let front = c.split_at.result.0.now in
    let back = c.split_at.result.1.now in
    let split : ps ≡ front ++ back = sym (ap (λ l. l ++ back) c.split_at.ensures.front ∙ (ap (λ l. take 1 ps ++ l) c.split_at.ensures.back ∙ take-append-drop 1 ps)) in
    ok-two c.mem_area.result _ _ _ c.mem_area.ensures.taken c.mem_area.ensures.handed (
    λ made taken handed harts by.
    mem-made state harts by s made c.in-Some.generation c.args.window c.args.place ps front back c.in-Some.is c.requires.admitted c.requires.parts split c.split_at.ensures.front_len
    (ap (λ (k : Carry). k.window) handed ∙ sym c.in-Some-window.is) (ap (λ (k : Carry). k.area) handed ∙ sym c.in-Some-place.is)
    (subst (λ w. IsTakenAt state (component.Space c.in-Some.generation.slot ∷ reached_by c.in-Some.generation w c.args.place) (steps.Mem s) made back back) (sym c.in-Some-window.is)
    (subst (λ o. IsTakenAt state (component.Space c.in-Some.generation.slot ∷ reached_by c.in-Some.generation (Some c.in-Some-window.window) o) (steps.Mem s) made back back) (sym c.in-Some-place.is) taken))
    )
