use Rattle.std.proofs.Common.{rules, ◌≡◌, ◌∙◌, ap, tests, position, is_none}
use Rattle.std.proofs.lemmas.Iterator.{YieldsList-from_slice}
use Rattle.std.proofs.lemmas.Iterator.Search.{position_from_yields_List}
use Rattle.hv_dir.proofs.Places.{slot_within}
use Rattle.hv_dir.proofs.dir.Dir.free_slot.Goals as goal

pub returns-clause-value : goal.returns-clause-value
returns-clause-value c =
    position_from_yields_List is_none _ _ _ c.position.ensures.ran (YieldsList-from_slice c.self.inside.entries cc) (λ x b q k. search (rules, tests))
    ∙ ap (λ v. position is_none v.entries) c.self.view_is

pub returns-clause-within : goal.returns-clause-within
returns-clause-within c =
    let found : c.position.result ≡ position is_none c.self.inside.entries =
    position_from_yields_List is_none _ _ c.position.result c.position.ensures.ran (YieldsList-from_slice c.self.inside.entries cc) (λ x b q k. search (rules, tests)) in
    slot_within is_none c.self.inside.entries c.position.result c.self.invariant found
