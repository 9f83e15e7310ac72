use Rattle.std.proofs.Common.{◌-◌, ◌≤◌, suc, ◌≡◌, sym, subst, arith}
use Rattle.hv_model.specs.declared.entry.Entry.{Entry}
use Rattle.hv_rounds.specs.Step.{IsStep}
use Rattle.hv_rounds.proofs.Steps.{rest-step}
use Rattle.hv_rounds.proofs.step.rest_on.Goals as goal

pub returns-clause-ok : goal.returns-clause-ok
returns-clause-ok c =
    let files = c.args.files.now in
    let t = c.args.terminal.now in
    let t' = c.make.new.self in
    let n = t.rests - 1 in
    let is : t.rests ≡ suc n = (let some = c.requires in omega arith) in
    let le : suc n ≤ t.asked = (let bound = t.rests_bounded in omega arith) in
    let Is : Entry → Type 0 = λ e. IsStep files files t t' e in
    let rest = c.make.ensures.rest in
    subst Is (sym c.make.ensures.entry)
    (rest-step files t t' n c.in_ok-stamp.stamp is le rest.number rest.count rest.stamp_is rest.asked rest.rests rest.boot rest.own rest.lines
    (let ok = c.in_ok-stamp.ensures.ok in omega arith))
