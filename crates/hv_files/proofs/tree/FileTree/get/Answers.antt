use Rattle.std.proofs.Common.{ap, sym, ◌∙◌, refl, [], Ok, Err, Some, None}
use Rattle.hv_files.specs.FileMap.{Folder, Holds, read_file, bytes_of}
use Rattle.hv_files.proofs.Way.{found, positive, found_answer, missing_answer, node_at-named, same_refusal, way_needs_no_memory}
use Rattle.hv_files.proofs.tree.FileTree.get.Goals as goal

pub returns-in-Some-Folder-clause-refused : goal.returns-in-Some-Folder-clause-refused
returns-in-Some-Folder-clause-refused c =
    let m = c.self.inside.nodes.entries in
    ap (λ t. read_file t c.args.path.now) (sym c.self.view_is)
    ∙ found_answer m c.args.path.now c.in-Some-Folder.field-0.now Folder bytes_of c.self.invariant (positive _ _ c.is_empty.ensures.1 c.if-is_empty.false)
    (found c.args.path.now m (Some c.in-Some-Folder.field-0.now) c.in-Some-Folder.ensures.value) c.in-Some-Folder.field-0-is

pub returns-in-Some-Holds-clause-ok : goal.returns-in-Some-Holds-clause-ok
returns-in-Some-Holds-clause-ok c =
    let m = c.self.inside.nodes.entries in
    ap (λ t. read_file t c.args.path.now) (sym c.self.view_is)
    ∙ found_answer m c.args.path.now c.in-Some-Holds.field-0.now (Holds c.in-Some-Holds.bytes) bytes_of c.self.invariant (positive _ _ c.is_empty.ensures.1 c.if-is_empty.false)
    (found c.args.path.now m (Some c.in-Some-Holds.field-0.now) c.in-Some-Holds.ensures.value) c.in-Some-Holds.field-0-is
    ∙ ap (λ b. Ok b) (sym (c.as_slice.ensures ∙ c.in-Some-Holds.bytes-is))

pub returns-in-None-clause-refused : goal.returns-in-None-clause-refused
returns-in-None-clause-refused c =
    let m = c.self.inside.nodes.entries in
    ap (λ t. read_file t c.args.path.now) (sym c.self.view_is)
    ∙ missing_answer m c.args.path.now bytes_of refl (node_at-named m c.args.path.now (positive _ _ c.is_empty.ensures.1 c.if-is_empty.false) ∙ found c.args.path.now m None c.in-None.ensures.value)
    ∙ ap (λ w. Err w) (sym c.why_missing.ensures)

pub returns-in-None-clause-no_memory : goal.returns-in-None-clause-no_memory
returns-in-None-clause-no_memory c = λ e is. way_needs_no_memory c.self.inside.nodes.entries [] c.args.path.now e (sym c.why_missing.ensures ∙ same_refusal _ _ is)
