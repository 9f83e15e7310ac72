use Rattle.std.proofs.Common.{ap, sym, ◌∙◌, refl, Err, Some, None}
use Rattle.hv_files.specs.FileMap.{Folder, Holds, names_of}
use Rattle.hv_files.proofs.Way.{found, positive, found_answer, missing_answer, node_at-named}
use Rattle.hv_files.proofs.check.may_list.Goals as goal

pub returns-in-Some-Folder-clause-ok : goal.returns-in-Some-Folder-clause-ok
returns-in-Some-Folder-clause-ok c =
    let m = c.args.nodes.now.entries in
    found_answer m c.args.path.now c.in-Some-Folder.field-0.now Folder (names_of m c.args.path.now) c.requires (positive _ _ c.is_empty.ensures.1 c.if-is_empty.false)
    (found c.args.path.now m (Some c.in-Some-Folder.field-0.now) c.in-Some-Folder.ensures.value) c.in-Some-Folder.field-0-is

pub returns-in-Some-Holds-clause-refused : goal.returns-in-Some-Holds-clause-refused
returns-in-Some-Holds-clause-refused c =
    let m = c.args.nodes.now.entries in
    found_answer m c.args.path.now c.in-Some-Holds.field-0.now (Holds c.in-Some-Holds.field-0-0) (names_of m c.args.path.now) c.requires (positive _ _ c.is_empty.ensures.1 c.if-is_empty.false)
    (found c.args.path.now m (Some c.in-Some-Holds.field-0.now) c.in-Some-Holds.ensures.value) c.in-Some-Holds.field-0-is

pub returns-in-None-clause-refused : goal.returns-in-None-clause-refused
returns-in-None-clause-refused c =
    let m = c.args.nodes.now.entries in
    missing_answer m c.args.path.now (names_of m c.args.path.now) refl (node_at-named m c.args.path.now (positive _ _ c.is_empty.ensures.1 c.if-is_empty.false) ∙ found c.args.path.now m None c.in-None.ensures.value)
    ∙ ap (λ w. Err w) (sym c.why_missing.ensures)
