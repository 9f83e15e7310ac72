use Rattle.std.proofs.Common.{rules, ◌≡◌, None, sym, subst, refl, ◌∙◌}
use Rattle.hv_answer.specs.declared.reply.Reply.{Reply}
use Rattle.hv_body.specs.Body.{seen}
use Rattle.hv_handed.specs.Given.{pended}
use Rattle.hv_rules.specs.Body.{ShowsAccess, area_in}
use Rattle.hv_memory_steps.proofs.AccessLemmas.{NeverShown, access_taken, keeps}
use Rattle.hv_memory_steps.proofs.accesses.access.Goals as goal

pub returns-in_err-value-clause-body_kept : goal.returns-in_err-value-clause-body_kept
returns-in_err-value-clause-body_kept g c =
    λ none. let never : NeverShown c.access_body.result = c.in_err-value.ensures.none refl in
    c.access_body.ensures.left
    ∙ keeps (seen g.E.Emulator.state c.args.body.now) c.args.step
    (subst NeverShown c.access_body.ensures.answer never)

pub returns-clause-body : goal.returns-clause-body
returns-clause-body g c =
    let own : area_in c.access_body.result ≡ None = search rules in
    access_taken c.args.step.row c.args.step _ _ (pended c.args.pending) None c.parent_of-parent.result
    (seen g.E.Emulator.state c.args.body.now) _ c.access_body.result c.changes-changed.result
    c.made_access.ensures.handed c.access_body.ensures.answer c.access_body.ensures.left
    (c.changes-changed.ensures _ _ c.of-before.ensures c.of.ensures)
    (subst (λ (r : Reply). ShowsAccess c.access_body.result c.changes-changed.result r)
    (sym (c.made_access.ensures.reply ∙ c.end_access-reply.ensures.reply)) (c.in_ok-value.ensures.some c.changes-changed.result))
    (sym own) c.parent_of-parent.ensures
