use Rattle.std.proofs.Common.{◌≡◌, ◌<◌, ◌+◌, ◌++◌, ◌∷◌, [], List, ℕ, suc, Result, map, length, take, get_or, sym, subst, ◌∙◌, ap, arith}
use Rattle.std.proofs.Math.Seq.{take-suc}
use Rattle.std.proofs.lemmas.List.{get_or_default}
use Rattle.hv_dtree.specs.Nodes.{name_of}
use Rattle.hv_region.specs.declared.plan.GuestPlan.{GuestPlan}
use Rattle.hv_plan.specs.Settings.{guests_of}
use Rattle.hv_plan.specs.Guests.{guest_node}
use Rattle.hv_region.specs.declared.fault.Fault.{Fault}
use Rattle.hv_host.specs.Boards.{IsPlanned, ArePlanned}
use Rattle.hv_host.proofs.Guests.{planned-more, guest-there}
use Rattle.hv_host.proofs.read.plan_all.Goals as goal

pub plan_or_fault-requires-clause-there : goal.plan_or_fault-requires-clause-there
plan_or_fault-requires-clause-there c =
    let k = c.loop-name.name-index in
    let names : c.deref-name-items.result.now ≡ map name_of (guests_of c.args.tree.now) = c.deref-name-items.ensures.value ∙ c.requires.host.guests in
    guest-there c.args.tree.now _ k (subst (λ (ns : List (List ℕ)). k < length ns) names c.loop-name-test.true)
    (ap (λ (ns : List (List ℕ)). get_or ns k []) (sym names) ∙ get_or_default c.deref-name-items.result.now k [] c.name-item.result c.loop-name-test.true ∙ sym c.name-item.is ∙ sym c.as_slice.ensures)

pub loop-name-preserved : goal.loop-name-preserved
loop-name-preserved c =
    let k = c.loop-name.name-index in
    let names = c.deref-name-items.result.now in
    let areas = c.args.host.now.areas.items in
    let root = c.args.tree.now in
    let plans = c.loop-name.plans.items in
    let plan = c.in_ok-plan_or_fault.field-0 in
    let At : List ℕ → Type 0 = λ name. IsPlanned areas (guest_node root name) plan in
    let In : List (Result GuestPlan Fault) → Type 0 = λ all. ArePlanned areas root (take (k + 1) names) all in
    let For : List (List ℕ) → Type 0 = λ some. ArePlanned areas root some (plans ++ plan ∷ []) in
    let next : suc k ≡ k + 1 = omega arith in
    let longer : take (k + 1) names ≡ take k names ++ get_or names k c.name-item.result ∷ [] =
    ap (λ (n : ℕ). take n names) (sym next) ∙ take-suc names k c.name-item.result c.loop-name-test.true in
    let one = subst At (c.as_slice.ensures ∙ c.name-item.is) (subst (λ (as' : List (List ℕ × ℕ)). IsPlanned as' (guest_node root c.as_slice.result.now) plan) c.deref.ensures.value c.in_ok-plan_or_fault.ensures) in
    subst In (sym c.in_ok-push.ensures.items) (subst For (sym longer) (planned-more areas root (take k names) plans _ plan c.loop-name.invariant one))
