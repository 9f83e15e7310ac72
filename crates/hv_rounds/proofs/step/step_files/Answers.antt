use Rattle.std.proofs.Common.{ℕ, Ok, Some, refl, ap, sym, subst, ◌∙◌}
use Rattle.hv_model.specs.Work.{Work}
use Rattle.hv_model.specs.declared.entry.Entry.{Entry}
use Rattle.hv_model.specs.Session.{task_for, made_at}
use Rattle.hv_model.specs.Terminal.{FitsTask}
use Rattle.hv_model.specs.Transcript.{ShowsTask}
use Rattle.hv_rules.specs.Carry.{nothing}
use Rattle.hv_rounds.specs.Cells.{session_of}
use Rattle.hv_rounds.specs.Step.{IsStep, ShowsEnd}
use Rattle.hv_rounds.proofs.Shown.{files-showable}
use Rattle.hv_rounds.proofs.Steps.{first-step, said-command, begun_at, once-session, files-fit, files-hand-nothing, files-made, files-shown, files-touch}
use Rattle.hv_rounds.proofs.step.step_files.Goals as goal

pub returns-clause-ok : goal.returns-clause-ok
returns-clause-ok c = λ t b.
    let line = c.args.line.now in
    let t1 = c.args.terminal.now in
    let t' = c.make.new.self in
    let s = c.args.step in
    let r = c.in_ok-reply.reply in
    let tree = c.args.files.now.tree in
    let kind = c.requires.kind in
    let asked = c.requires.asked in
    let agrees = c.in_ok-reply.ensures.reply in
    let Is : Entry → Type 0 = λ e. IsStep c.args.files.now c.take_stamp.new.self t t' e in
    let rest = c.make.ensures.rest in
    subst Is (sym c.make.ensures.entry)
    (first-step c.args.files.now c.take_stamp.new.self t t1 t' line _ (Ok asked.asked) b (said-command line asked.asked asked.gives)
    (λ plans.
    let p = begun_at plans line t1 (Ok asked.asked) in
    let Fits : Work → Type 0 = λ w. FitsTask plans p t1.lines (task_for plans w) s r nothing in
    subst Fits (sym asked.step_is) (files-fit plans p t1.lines s r nothing kind))
    refl refl (sym (files-hand-nothing s nothing kind)) rest.number rest.count rest.stamp_is
    (λ plans k.
    let made = ap (λ (w : Work). made_at (Some (record { task = task_for plans w; boot = t1.boot; own = t1.own })) (session_of t) r k) asked.step_is in
    once-session t t1 t' line _ b rest ∙ sym (made ∙ files-made s t1.boot t1.own s r nothing tree (session_of t) k kind agrees))
    (files-showable tree s r nothing kind agrees)
    (λ plans changed text shows.
    let Shows : Work → Type 0 = λ w. ShowsTask plans (task_for plans w) changed s r text in
    let Ends : ℕ → Type 0 = λ n. ShowsEnd n r text in
    subst Shows (sym asked.step_is) (files-shown plans s r nothing tree text kind agrees (subst Ends (rest.rests ∙ b.rests) shows)))
    (files-touch s c.args.files.now c.take_stamp.new.self t1.stamp _ kind
    (record { agrees = agrees; after = c.take_stamp.ensures.tree ∙ c.in_ok-reply.ensures.after; stamp = c.take_stamp.ensures.stamp; next = c.in_ok-stamp.ensures.ok })))
