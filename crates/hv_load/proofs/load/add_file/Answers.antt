use Rattle.std.proofs.Common.{◌<◌, ◌+◌, ◌∷◌, ◌++◌, [], length, get_or, sym, ap, subst, ◌∙◌, arith, IsTrue}
use Rattle.std.specs.FinMap.{is_sorted}
use Rattle.hv_files.specs.FileMap.{path_cmp}
use Rattle.hv_files.specs.declared.node.Node.TheVariants.{Folder}
use Rattle.std.proofs.lemmas.List.{take_more}
use Rattle.hv_load.proofs.Loading.{last_file, one_folder, sorted_put}
use Rattle.hv_load.proofs.load.add_file.Goals as goal

pub loop-place-preserved : goal.loop-place-preserved
loop-place-preserved c =
    let m = c.loop-place.tree in
    let front = c.loop-place.front in
    let path = c.args.path.now in
    let i = c.loop-place.place in
    let more : i + 1 < length path = omega arith in
    let put_there = c.in_ok-make_folder.ensures in
    let pushed = c.in_ok-push_name.ensures in
    record {
      front = pushed ∙ ap (λ f. f ++ get_or path i [] ∷ []) c.loop-place.invariant.front ∙ sym (take_more path i [] (omega arith));
      left = cc (one_folder m front path i c.args.bytes.now more, put_there, pushed, c.loop-place.invariant.left);
      sorted = subst (λ n. IsTrue (is_sorted path_cmp n)) (sym put_there) (sorted_put c.push_name.new.front Folder m c.loop-place.invariant.sorted);
    }

pub returns : goal.returns
returns c =
    let here = last_file c.loop-place.tree c.loop-place.front c.args.path.now c.loop-place.place c.args.bytes.now (omega arith) c.loop-place.invariant.front in
    cc (c.in_ok-write_file.ensures, here, c.loop-place.invariant.left, c.from_vec-held.ensures, c.in_ok-from_slice.ensures.items)
