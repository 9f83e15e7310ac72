use Rattle.std.proofs.Common.{[], ◌∷◌, sym, subst}
use Rattle.hv_dts.specs.Sets.{HasNames}
use Rattle.hv_dts.specs.declared.members.Members.{Members}
use Rattle.hv_dts.specs.declared.sibling_names.SiblingNames.{SiblingNames}
use Rattle.hv_dts.proofs.SiblingSets.{opens}
use Rattle.hv_dts.proofs.members.Members.take.Goals as goal

pub returns-in_ok-push-in-Open : goal.returns-in_ok-push-in-Open
returns-in_ok-push-in-Open c = λ names follows.
    let noted = c.in_ok-self-in-Open.ensures names.children follows.children in
    let name = c.in-Open.name in
    let new : Members = record { best = c.in_ok-self-in-Open.field-0; props = c.new-in-Open.result; children = c.replace-inner.new.dest; around = c.push.new.self } in
    opens c.args.self.now new names c.args.entry.now c.in-Open.field-0 name c.replace-inner.result c.in-Open.is follows noted.0 c.new-in-Open.ensures
    (subst (λ (s : SiblingNames). HasNames s []) (sym c.replace-inner.ensures.after) c.new.ensures)
    c.in_ok-push-in-Open.ensures.items
    (subst (λ (s : SiblingNames). HasNames s (name.name ∷ names.children)) (sym c.replace-inner.ensures.value) noted.1)
