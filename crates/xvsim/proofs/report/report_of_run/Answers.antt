use Rattle.std.proofs.Common.{◌≡◌, ℕ, List, [], ◌∷◌, ◌++◌, codes, length, Bool, arith, refl, ap, sym, ◌∙◌}
use Rattle.std.specs.Fmt.{decimal}
use Rattle.std.specs.List.{flat_map}
use Rattle.hv_event.specs.declared.event.Event.{Event}
use Rattle.hv_event.specs.Line.{event_text}
use Rattle.hv_model.specs.Origin.{Origin, origin_of, terminals}
use Rattle.hv_model.specs.Report.{heading, terminals_text, AreTranscripts}
use Rattle.hv_model.specs.Transcript.{line}
use Rattle.hv_model.proofs.StatesLemmas.{plain-states}
use Rattle.xvsim.proofs.Texts.{report_parts}
use Rattle.xvsim.proofs.report.report_of_run.Goals as goal

as-many : (O : Origin) (H : List Event) (ts : List ℕ) (texts : List (List ℕ)) → AreTranscripts O H ts texts → length texts ≡ length ts
as-many O H [] [] h = refl
as-many O H (t ∷ ts) (x ∷ xs) h = let rest = as-many O H ts xs h.1 in omega arith
as-many O H [] (x ∷ xs) h = absurd h
as-many O H (t ∷ ts) [] h = absurd h

pub returns : goal.returns
returns c = λ devices.
    let O = origin_of c.args.opening.now devices in
    let H = c.args.history.now in
    let texts = c.args.transcripts.now in
    let parts = report_parts (heading O Bool.false) (terminals_text terminals texts) (flat_map (λ e. line (event_text e)) H) (decimal (length H)) in
    let With : List ℕ → List ℕ = λ states. heading O Bool.false ++ terminals_text terminals texts ++ states ++ (line (codes "history") ++ flat_map (λ e. line (event_text e)) H) ++ line (codes "end " ++ decimal (length H)) in
    let shown = c.in_ok-push_terminals.ensures (as-many O H terminals texts (c.requires.shown devices)) in
    record {
      transcripts = texts;
      shown = c.requires.shown devices;
      text_is = (rw (c.in_ok-append-3.ensures.ok, c.in_ok-push_decimal.ensures.ok, c.in_ok-append-2.ensures.ok, c.in_ok-push_events.ensures, c.in_ok-append.ensures.ok, shown, c.in_ok-push_heading.ensures devices, c.from_vec-to.ensures, c.new.ensures.items) parts) ∙ ap With (sym (plain-states H c.requires.plain));
    }
