use Rattle.std.proofs.Common.{sym, subst, ◌∙◌}
use Rattle.hv_dtlex.specs.declared.token.Mode.{Mode}
use Rattle.hv_dtgram.proofs.Gathering.{Leads, leads_on, gathered_all, never_bad}
use Rattle.hv_dtgram.proofs.gathered.gathered_entries.Goals as goal

pub gathering-preserved : goal.gathering-preserved
gathering-preserved c = record {
  within = rw c.in-Ok-Some.field-0-is at c.in-Ok-Some.ensures.within;
  leads = λ tokens lexes.
      subst (λ (m : Mode). Leads c.args.text.now c.in-Ok-Some.token.end m c.take.new.self tokens) (sym c.mode_after-mode.ensures)
      (leads_on c.args.text.now c.gathering.at c.gathering.mode c.gathering.gathered c.take.new.self tokens c.in-Ok-Some.token (c.gathering.invariant.leads tokens lexes)
      (rw c.in-Ok-Some.field-0-is at (sym c.in-Ok-Some.ensures.token)) c.in_ok-take-in-Ok-Some.ensures);
}

pub returns-in-Ok-None : goal.returns-in-Ok-None
returns-in-Ok-None c = λ tokens entries lexes is.
    c.finish.ensures
    ∙ gathered_all c.args.text.now c.gathering.at c.gathering.mode c.gathering.gathered tokens entries (c.gathering.invariant.leads tokens lexes) (rw c.in-Ok-None.field-0-is at (sym c.in-Ok-None.ensures.token)) is

pub returns-in-Err : goal.returns-in-Err
returns-in-Err c = λ tokens entries lexes is.
    absurd (never_bad c.args.text.now c.gathering.at c.gathering.mode c.gathering.gathered tokens c.in-Err.field-0 (c.gathering.invariant.leads tokens lexes) (sym c.in-Err.ensures.token))
