use Rattle.std.proofs.Common.{◌≡◌, ◌≤◌, ◌<◌, ◌-◌, true, false, get_or, sym, ap, subst, ◌∙◌, arith}
use Rattle.hv_emu.specs.Plic.{is_candidate, greatest_priority}
use Rattle.hv_plic.specs.Meaning.{meaning}
use Rattle.hv_plic.proofs.Claims.{priority, first_best, looked_at, best-taken, best-kept, best-passed, candidate-positive, best-claimed, greatest-candidates}
use Rattle.hv_plic.proofs.plic.Plic.best.Goals as goal
use Rattle.hv_plic.proofs.plic.Plic.best.Goals.{then-is_candidate+then-priority-greatest, else-is_candidate, else-is_candidate-via-then-is_candidate+else-priority-greatest, else-is_candidate-via-else-is_candidate}

pub loop-source-preserved : goal.loop-source-preserved
loop-source-preserved c =
    let p = meaning c.args.self.now in
    let s = c.loop-source.source in
    let before = c.loop-source.invariant.0 in
    let some : 1 ≤ s = c.loop-source.invariant.2 in
    let few : s < 32 = c.loop-source-test.true in
    let index : c.from.result ≡ s = c.from.ensures in
    let read : get_or p.priority c.from.result 0 ≡ priority p s = ap (λ i. get_or p.priority i 0) index in
    elim c.if-is_candidate.branch [
      | then-is_candidate+then-priority-greatest w ↦
          let candidate : is_candidate p c.args.context s ≡ true = sym w.if-is_candidate.ensures in
          let greater : c.loop-source.greatest < priority p s = subst (λ n. c.loop-source.greatest < n) read w.if-priority-greatest.true in
          let after = best-taken p c.args.context s c.loop-source.best c.loop-source.greatest some few before candidate greater in
          rw (w.best-is, w.greatest-is, read) (after, few, omega arith, omega arith)
      | else-is_candidate w ↦
          rw (w.best-is, w.greatest-is)
          (elim w.else-is_candidate.branch [
            | else-is_candidate-via-then-is_candidate+else-priority-greatest v ↦
                let candidate : is_candidate p c.args.context s ≡ true = sym v.if-is_candidate.ensures in
                let below : priority p s ≤ c.loop-source.greatest = subst (λ n. n ≤ c.loop-source.greatest) read v.if-priority-greatest.false in
                let positive : 0 < priority p s = candidate-positive p c.args.context s candidate in
                let after = best-kept p c.args.context s c.loop-source.best c.loop-source.greatest some few before candidate positive below in
                (after, c.loop-source.invariant.1, omega arith, omega arith)
            | else-is_candidate-via-else-is_candidate v ↦
                let other : is_candidate p c.args.context s ≡ false = sym v.if-is_candidate.ensures in
                let after = best-passed p c.args.context s c.loop-source.best c.loop-source.greatest some few before other in
                (after, c.loop-source.invariant.1, omega arith, omega arith)
          ])
    ]

-- all sources were looked at
pub returns-clause-source : goal.returns-clause-source
returns-clause-source c =
    let p = meaning c.args.self.now in
    let all : c.loop-source.source - 1 ≡ 31 = let end = c.loop-source-test.false in let within = c.loop-source.invariant.3 in omega arith in
    c.loop-source.invariant.0.best_is ∙ ap (λ n. first_best p (looked_at p c.args.context n)) all ∙ best-claimed p c.args.context

pub returns-clause-priority : goal.returns-clause-priority
returns-clause-priority c =
    let p = meaning c.args.self.now in
    let all : c.loop-source.source - 1 ≡ 31 = let end = c.loop-source-test.false in let within = c.loop-source.invariant.3 in omega arith in
    c.loop-source.invariant.0.greatest_is ∙ ap (λ n. greatest_priority p (looked_at p c.args.context n)) all ∙ greatest-candidates p c.args.context
