use Rattle.std.proofs.Common.{rules, ◌≡◌, ◌+◌, ◌/◌, length, map, List, [], ◌∷◌, ap, sym, subst, ◌∙◌, arith, Vec, Global}
use Rattle.std.specs.List.{sum_by}
use Rattle.std.proofs.lemmas.List.Sums.{sum_by-take-drop}
use Rattle.std.proofs.lemmas.Result.{IfOk-weaker}
use Rattle.hv_event.specs.declared.event.Event.{Event}
use Rattle.hv_merge.specs.Merging.{AreLogs, IsMergeOf}
use Rattle.hv_merge.proofs.LogLemmas.{half_logs, other_half_logs, halves_apart, halves_joined, at_one, at_none}
use Rattle.hv_merge.proofs.logs.+merge.Goals as goal
use Rattle.hv_merge.proofs.logs.+merge.Goals.{in-Some, in-None}

pub merge-requires : goal.merge-requires
merge-requires t c =
    let Logs : List (Vec Event Global) → Type 0 = λ ls. AreLogs (map (λ (log : Vec Event Global). log.items) ls) in
    (search rules, subst Logs (sym c.in_ok-others.ensures.items) (half_logs (λ (log : Vec Event Global). log.items) c.args.logs.items _ c.requires))

pub merge-requires-2 : goal.merge-requires-2
merge-requires-2 t c =
    let Logs : List (Vec Event Global) → Type 0 = λ ls. AreLogs (map (λ (log : Vec Event Global). log.items) ls) in
    (search rules, subst Logs (sym c.in_ok-others.ensures.tail) (other_half_logs (λ (log : Vec Event Global). log.items) c.args.logs.items _ c.requires))

pub merge_two-requires-clause-apart : goal.merge_two-requires-clause-apart
merge_two-requires-clause-apart t c =
    let Logs : List Event → List (Vec Event Global) → Type 0 = λ es ls. IsMergeOf (map (λ (log : Vec Event Global). log.items) ls) es in
    let m = subst (Logs c.in_ok-one.one.items) c.in_ok-others.ensures.items c.in_ok-one.ensures.merged in
    let k = subst (Logs c.in_ok-other.other.items) c.in_ok-others.ensures.tail c.in_ok-other.ensures.merged in
    halves_apart (λ (log : Vec Event Global). log.items) c.args.logs.items _ c.in_ok-one.one.items c.in_ok-other.other.items m k c.requires

pub returns-clause-merged : goal.returns-clause-merged
returns-clause-merged t c =
    let Logs : List Event → List (Vec Event Global) → Type 0 = λ es ls. IsMergeOf (map (λ (log : Vec Event Global). log.items) ls) es in
    let m = subst (Logs c.in_ok-one.one.items) c.in_ok-others.ensures.items c.in_ok-one.ensures.merged in
    let k = subst (Logs c.in_ok-other.other.items) c.in_ok-others.ensures.tail c.in_ok-other.ensures.merged in
    let Both : Vec Event Global → Type 0 = λ all. IsMergeOf (c.in_ok-one.one.items ∷ c.in_ok-other.other.items ∷ []) all.items in
    let All : Vec Event Global → Type 0 = λ all. IsMergeOf (map (λ (log : Vec Event Global). log.items) c.args.logs.items) all.items in
    IfOk-weaker c.merge_two.result Both All (λ all both. halves_joined (λ (log : Vec Event Global). log.items) c.args.logs.items _ c.in_ok-one.one.items c.in_ok-other.other.items m k all.items both) c.merge_two.ensures.merged

pub returns-clause-len : goal.returns-clause-len
returns-clause-len t c =
    let size = sum_by {X = Vec Event Global} (λ log. length log.items) in
    let whole = sum_by-take-drop (λ (log : Vec Event Global). length log.items) c.args.logs.items (c.len-half.result / 2) in
    let one = c.in_ok-one.ensures.len ∙ ap size c.in_ok-others.ensures.items in
    let other = c.in_ok-other.ensures.len ∙ ap size c.in_ok-others.ensures.tail in
    let Both : Vec Event Global → Type 0 = λ all. length all.items ≡ length c.in_ok-one.one.items + length c.in_ok-other.other.items in
    let All : Vec Event Global → Type 0 = λ all. length all.items ≡ size c.args.logs.items in
    IfOk-weaker c.merge_two.result Both All (λ all both. omega (arith, both, one, other, whole)) c.merge_two.ensures.len

pub returns-then-half-eq0-clause-merged : goal.returns-then-half-eq0-clause-merged
returns-then-half-eq0-clause-merged t c =
    elim c.match-pop.branch [
      | in-Some w ↦ rw w.result-is (at_one (λ (log : Vec Event Global). log.items) c.args.logs.items c.pop.new.self.items w.in-Some.log w.in-Some.ensures.items (omega arith) c.requires)
      | in-None w ↦
          let n : length c.args.logs.items ≡ 0 = omega (arith, w.in-None.ensures.cases) in
          rw (w.result-is, w.new.ensures.items) (at_none (λ (log : Vec Event Global). log.items) c.args.logs.items n)
    ]
