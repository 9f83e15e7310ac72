use Rattle.std.proofs.Common.{◌≡◌, ℕ, List, [], ap, sym, ◌∙◌, true≢false}
use Rattle.hv_files.specs.FileMap.{Folder, Holds}
use Rattle.hv_files.specs.Outcome.{missing_at}
use Rattle.hv_files.proofs.Way.{meets_no_file, file_is_last, last_is_file, last_before, none_before}
use Rattle.hv_files.proofs.walk.why_missing.Goals as goal

pub returns-then-is_prefix_of : goal.returns-then-is_prefix_of
returns-then-is_prefix_of c =
    let at = c.in-Some-default-Holds in
    let front = c.is_prefix_of.ensures.0 c.if-is_prefix_of.true in
    let last = last_before c.args.nodes.now c.args.path.now (at.before.now, at.field-0-1.now) _ _ (c.range.ensures.in_range tt) at.ensures.steps in
    sym (ap missing_at (last_is_file c.args.nodes.now.entries c.args.path.now at.before.now front.0 at.field-0-1.now _ c.requires.tree last.there at.field-0-1-is c.requires.absent front.1))

pub returns-else-is_prefix_of : goal.returns-else-is_prefix_of
returns-else-is_prefix_of c =
    let at = c.in-Some-default-Holds in
    let last = last_before c.args.nodes.now c.args.path.now (at.before.now, at.field-0-1.now) _ _ (c.range.ensures.in_range tt) at.ensures.steps in
    sym (meets_no_file c.args.nodes.now.entries [] c.args.path.now (file_is_last c.args.nodes.now.entries c.args.path.now (at.before.now, at.field-0-1.now) c.requires.tree last
    (λ b r holds is. true≢false (sym (c.is_prefix_of.ensures.1 (r, is)) ∙ c.if-is_prefix_of.false))))

folder_is_no_file : (b : List ℕ) → Folder ≡ Holds b → ⊥
folder_is_no_file b h = cc

pub returns-in-Some-default-Folder : goal.returns-in-Some-default-Folder
returns-in-Some-default-Folder c =
    let at = c.in-Some-default-Folder in
    let last = last_before c.args.nodes.now c.args.path.now (at.field-0-0.now, at.field-0-1.now) _ _ (c.range.ensures.in_range tt) at.ensures.steps in
    sym (meets_no_file c.args.nodes.now.entries [] c.args.path.now (file_is_last c.args.nodes.now.entries c.args.path.now (at.field-0-0.now, at.field-0-1.now) c.requires.tree last
    (λ b r holds is. folder_is_no_file b (sym at.field-0-1-is ∙ holds))))

pub returns-in-None : goal.returns-in-None
returns-in-None c =
    sym (meets_no_file c.args.nodes.now.entries [] c.args.path.now (none_before c.args.nodes.now c.args.path.now _ (c.range.ensures.in_range tt) c.in-None.ensures.steps.0))
