use Rattle.std.proofs.Common.{◌≡◌, List, ℕ, ◌∷◌, subst, ap, ◌∙◌}
use Rattle.std.specs.Ordering.{nat_cmp}
use Rattle.std.specs.Cmp.Lexicographic.{slice_cmp}
use Rattle.std.specs.BTreeSet.{contains}
use Rattle.hv_dts.specs.Rules.{has_name}
use Rattle.hv_dts.specs.Sets.{Holds}
use Rattle.hv_dts.proofs.Twice.{holds_more, was_there}
use Rattle.hv_dts.proofs.names.note_name.Goals as goal

pub returns : goal.returns
returns c = λ earlier holds.
    let name = c.in_ok-clone.field-0 in
    let copied : name ≡ c.args.name.now = c.in_ok-clone.ensures.cases in (
      was_there c.in_ok-added.added (contains (slice_cmp nat_cmp) c.args.names.now name) c.in_ok-added.ensures.added ∙ holds name ∙ ap (has_name earlier) copied,
      subst (λ (n : List ℕ). Holds c.insert.new.self (n ∷ earlier)) copied (holds_more c.args.names.now c.insert.new.self name earlier holds c.in_ok-added.ensures.updates),
    )
