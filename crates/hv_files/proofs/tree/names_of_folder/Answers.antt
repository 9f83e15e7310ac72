use Rattle.std.proofs.Common.{◌≡◌, [], ◌∷◌, ◌++◌, ap, sym, ◌∙◌}
use Rattle.hv_files.specs.FileMap.{names_in}
use Rattle.hv_files.specs.Tree.{from_on}
use Rattle.hv_files.proofs.Folder.{names_from_first, cursor_falls, cursor_lists}
use Rattle.hv_files.proofs.tree.names_of_folder.Goals as goal

pub loop-name-init : goal.loop-name-init
loop-name-init c =
    let m = c.args.nodes.now.entries in
    let folder = c.args.folder.now in
    let at : c.push.new.self ≡ folder ++ [] ∷ [] = c.in_ok-push.ensures.ok ∙ (λ i. c.in_ok-cursor.ensures.cases i ++ (c.from_vec.ensures ∙ c.new.ensures.items) i ∷ []) in
    record {
      inside = ([], at);
      listed = sym (ap (λ l. l ++ names_in (from_on c.push.new.self m) folder) c.new-names.ensures.items ∙ ap (λ k. names_in (from_on k m) folder) at ∙ names_from_first folder m);
    }

pub loop-name-smaller : goal.loop-name-smaller
loop-name-smaller c =
    cursor_falls c.args.nodes.now.entries c.args.folder.now c.loop-name.cursor c.in_ok-cursor-2.cursor c.loop-name.invariant.inside.0 c.in-Some.name.now c.in-Some.node.now c.in-Some.ensures.some.0 c.requires c.loop-name.invariant.inside.1 c.in_ok-cursor-2.ensures c.in-Some.ensures.some.1

pub loop-name-preserved : goal.loop-name-preserved
loop-name-preserved c = record {
  inside = (c.in-Some.name.now ++ 0 ∷ [], c.in_ok-cursor-2.ensures);
  listed = cursor_lists c.args.nodes.now.entries c.args.folder.now c.loop-name.cursor c.in_ok-cursor-2.cursor c.loop-name.invariant.inside.0 c.in-Some.name.now c.in-Some.node.now c.in-Some.ensures.some.0 c.loop-name.names.items c.push-in-Some.new.self.items c.in_ok-listed_name.field-0 c.requires c.loop-name.invariant.inside.1 c.in_ok-cursor-2.ensures c.in-Some.ensures.some.1 c.loop-name.invariant.listed c.in_ok-push-2.ensures.items c.in_ok-listed_name.ensures;
}
