use Rattle.std.proofs.Common.{ℕ, Option, List, [], map, refl, sym, subst}
use Rattle.std.specs.Prelude.{false}
use Rattle.hv_event.specs.declared.event.Event.{Event}
use Rattle.hv_model.specs.Origin.{origin_of, terminals}
use Rattle.hv_model.specs.Report.{AreTranscripts, IsReport}
use Rattle.hv_model.specs.States.{ArePlain}
use Rattle.hv_rounds.specs.Outcome.{IsOutcome}
use Rattle.xvsim.proofs.Counts.{lines_fit}
use Rattle.xvsim.proofs.run.make_run.Goals as goal

pub run-requires-clause-lines : goal.run-requires-clause-lines
run-requires-clause-lines g c = lines_fit c.args.input.files.items c.start_of-opening.result.opening c.start_of-opening.ensures.opening.scripts c.requires.within.short

pub returns-in-Some : goal.returns-in-Some
returns-in-Some g c =
    let devices = map g.E.Emulator.state c.args.parts.items in
    let Comes : Option ℕ → Type 0 = λ spent. IsOutcome (origin_of c.start_of-opening.result.opening devices) c.in_ok-history.field-0 spent in
    let outcome = subst Comes c.in-Some.is (c.in_ok-history.ensures devices) in
    (c.start_of-opening.result.opening, c.start_of-opening.ensures.opening, (refl, refl, record { legal = outcome.run; greatest = outcome.last; held = outcome.held }))

pub report_of_run-requires-clause-plain : goal.report_of_run-requires-clause-plain
report_of_run-requires-clause-plain g c =
    let O = origin_of c.start_of-opening.result.opening [] in
    let Comes : Option ℕ → Type 0 = λ spent. IsOutcome O c.in_ok-history.field-0 spent in
    subst ArePlain (sym c.deref.ensures.value) (subst Comes c.in-None.is (c.in_ok-history.ensures [])).plain

pub report_of_run-requires-clause-shown : goal.report_of_run-requires-clause-shown
report_of_run-requires-clause-shown g c = λ devices.
    let O = origin_of c.start_of-opening.result.opening devices in
    let Comes : Option ℕ → Type 0 = λ spent. IsOutcome O c.in_ok-history.field-0 spent in
    let Show : List Event → Type 0 = λ history. AreTranscripts O history terminals c.in_ok-history.field-0.transcripts in
    subst Show (sym c.deref.ensures.value) (subst Comes c.in-None.is (c.in_ok-history.ensures devices)).shown

pub returns : goal.returns
returns g c =
    let devices = map g.E.Emulator.state c.args.parts.items in
    let O = origin_of c.start_of-opening.result.opening devices in
    let Comes : Option ℕ → Type 0 = λ spent. IsOutcome O c.in_ok-history.field-0 spent in
    let outcome = subst Comes c.in-None.is (c.in_ok-history.ensures devices) in
    let Reports : List Event → Type 0 = λ history. IsReport O history false false c.in_ok-report-in-None.report in
    let report = subst Reports c.deref.ensures.value (c.in_ok-report-in-None.ensures devices) in
    (c.start_of-opening.result.opening, c.start_of-opening.ensures.opening, (refl, refl, record { legal = outcome.run; rounds = outcome.rounds }, report))
