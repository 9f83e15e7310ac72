use Rattle.std.proofs.Common.{◌≡◌, ◌++◌, OnOk, List, ℕ, length, ap, sym, subst, ◌∙◌}
use Rattle.std.specs.Option.{option_copied}
use Rattle.hv_model.specs.Plans.{vcpus_of}
use Rattle.hv_model.specs.Transcript.{ended_shown, line_shown}
use Rattle.hv_rules.specs.Line.{Asked, guest_name}
use Rattle.hv_transcript.proofs.going.show_over.Goals as goal

pub returns : goal.returns
returns c =
    let plans = c.args.plans.now in
    let Shows : Asked → Type 0 = λ asked.
    OnOk c.show_end.result
    (c.show_end.new.to ≡ c.args.to.now ++ ended_shown (option_copied c.args.why) (line_shown plans asked c.args.known.now.guest c.args.changed))
    in
    subst Shows c.asked.ensures
    (c.show_end.ensures plans
    (ap (λ (asked : Asked). length (vcpus_of plans (guest_name asked))) c.asked.ensures
    ∙ ap (λ (name : List ℕ). length (vcpus_of plans name)) (sym c.guest_name.ensures)
    ∙ ap length (sym c.vcpus_of.ensures.vcpus)))
