use Rattle.std.proofs.Common.{◌≡◌, ◌++◌, ℕ, OnOk, codes, length, sym, subst}
use Rattle.std.specs.Fmt.{decimal}
use Rattle.hv_model.specs.Plans.{vcpus_of}
use Rattle.hv_model.specs.Transcript.{line, line_shown}
use Rattle.hv_programs.specs.Ask.{asked_of}
use Rattle.hv_programs.specs.declared.ask.Asked.{Asked}
use Rattle.hv_rules.specs.Line.{guest_name}
use Rattle.hv_shown.proofs.ends.push_given.Goals as goal

pub returns-in-EachVcpu : goal.returns-in-EachVcpu
returns-in-EachVcpu c plans is =
    let Shows : ℕ → Type 0 = λ n.
    OnOk c.show_count.result (c.show_count.new.to ≡ c.args.to.now ++ line (decimal c.args.changed ++ codes " of " ++ decimal n)) in
    let Given : Asked → Type 0 = λ a.
    OnOk c.show_count.result (c.show_count.new.to ≡ c.args.to.now ++ line_shown plans (asked_of a) c.args.guest c.args.changed) in
    let Long : Asked → Type 0 = λ a. length (vcpus_of plans (guest_name (asked_of a))) ≡ c.args.vcpus in
    subst Given (sym c.in-EachVcpu.is) (subst Shows (sym (subst Long c.in-EachVcpu.is is)) c.show_count.ensures)
