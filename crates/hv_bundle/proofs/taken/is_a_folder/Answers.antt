use Rattle.std.proofs.Common.{sym, ◌∙◌}
use Rattle.std.proofs.lemmas.Bool.{false≢true}
use Rattle.hv_bundle.proofs.Neighbours.{least_decides, none_in_folder}
use Rattle.hv_bundle.proofs.taken.is_a_folder.Goals as goal

pub returns-in-Some : goal.returns-in-Some
returns-in-Some c =
    let range = rw c.in-Some.ensures.steps at (c.range.ensures.in_range tt) in
    least_decides c.args.taken.now c.args.path.now c.in-Some.one.now c.is_prefix_of.result range.1.1 range.1.0.0
    (λ one up is_taken. range.2 one (up, tt) is_taken) c.is_prefix_of.ensures.0 c.is_prefix_of.ensures.1

pub returns-in-None : goal.returns-in-None
returns-in-None c =
    let range = c.range.ensures.in_range tt in
    none_in_folder c.args.taken.now c.args.path.now
    (λ one up is_taken. false≢true (sym (range.5 c.in-None.ensures.steps.0 one (up, tt)) ∙ is_taken))
