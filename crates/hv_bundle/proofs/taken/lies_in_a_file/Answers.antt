use Rattle.std.proofs.Common.{sym, ◌∙◌}
use Rattle.std.proofs.lemmas.Bool.{false≢true}
use Rattle.hv_bundle.proofs.Neighbours.{greatest_decides, none_above, not_below}
use Rattle.hv_bundle.proofs.taken.lies_in_a_file.Goals as goal

pub returns-in-Some : goal.returns-in-Some
returns-in-Some c =
    let range = c.range.ensures.in_range tt in
    let found = c.in-Some.one.now in
    let before = c.next_back.new.self in
    let here = range.3 found before c.in-Some.ensures.steps in
    greatest_decides c.args.taken.now c.args.path.now found c.is_prefix_of.result c.requires here.1 here.0.1
    (λ one up is_taken. not_below found one (range.4 found before c.in-Some.ensures.steps one (tt, up) is_taken)) c.is_prefix_of.ensures.0 c.is_prefix_of.ensures.1

pub returns-in-None : goal.returns-in-None
returns-in-None c =
    let range = c.range.ensures.in_range tt in
    none_above c.args.taken.now c.args.path.now
    (λ one up is_taken. false≢true (sym (range.5 c.in-None.ensures.steps.0 one (tt, up)) ∙ is_taken))
