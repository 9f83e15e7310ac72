use Rattle.std.proofs.Common.{◌≡◌, ◌∷◌, ◌∙◌, ap, map, subst, sym}
use Rattle.std.specs.Prelude.{IfSome}
use Rattle.hv_event.specs.declared.event.CellId.TheVariants as component
use Rattle.hv_model.specs.Files.{read_file}
use Rattle.hv_parts.specs.Value.{valued}
use Rattle.hv_rules.specs.Footprint.{reached_by}
use Rattle.hv_access_steps.specs.First.{HasBytes, area_for, behind, size_first, size_of, window_for}
use Rattle.hv_access_steps.proofs.Admitted.{behind-is}
use Rattle.hv_access_steps.proofs.Lists.{first-of, others-of}
use Rattle.hv_access_steps.proofs.Loading.{found-size, load-taken, size-first-is}
use Rattle.hv_access_steps.proofs.loads.load_behind.Goals as goal

pub load_found-requires-clause-parts : goal.load_found-requires-clause-parts
load_found-requires-clause-parts g c =
    others-of (valued g.E.Emulator.state) component.Files (component.Space c.args.generation.slot ∷ reached_by c.args.generation c.args.window c.args.place) c.args.parts.now c.split_at_mut-first.result.0.now c.split_at_mut-first.result.1.now
    c.requires.parts c.split_at_mut-first.ensures.value c.split_at_mut-first.ensures.front_len

pub load_found-requires-clause-window : goal.load_found-requires-clause-window
load_found-requires-clause-window g c =
    let state = g.E.Emulator.state in
    let values = map (valued state) c.args.parts.now in
    let front = c.split_at_mut-first.result.0.now in
    let back = c.split_at_mut-first.result.1.now in
    let s = c.args.step.now in
    let size : size_first s values ≡ size_of c.in_ok-found.found =
    size-first-is state s c.args.parts.now front back c.index-first-0.result c.files.result.now c.split_at_mut-first.ensures.value c.split_at_mut-first.ensures.front_len c.files.ensures
    ∙ sym (found-size (read_file c.files.result.now s.path) c.in_ok-found.found c.in_ok-found.ensures) in
    c.requires.window
    ∙ (ap (λ n. window_for s.address n (behind values)) size
    ∙ ap (λ vs. window_for s.address (size_of c.in_ok-found.found) vs) (behind-is (valued state) c.args.parts.now front back c.split_at_mut-first.ensures.value c.split_at_mut-first.ensures.front_len))

pub load_found-requires-clause-place : goal.load_found-requires-clause-place
load_found-requires-clause-place g c =
    let state = g.E.Emulator.state in
    let values = map (valued state) c.args.parts.now in
    let front = c.split_at_mut-first.result.0.now in
    let back = c.split_at_mut-first.result.1.now in
    let s = c.args.step.now in
    let size : size_first s values ≡ size_of c.in_ok-found.found =
    size-first-is state s c.args.parts.now front back c.index-first-0.result c.files.result.now c.split_at_mut-first.ensures.value c.split_at_mut-first.ensures.front_len c.files.ensures
    ∙ sym (found-size (read_file c.files.result.now s.path) c.in_ok-found.found c.in_ok-found.ensures) in
    c.requires.place
    ∙ (ap (λ n. area_for c.args.window s.address n (behind values)) size
    ∙ ap (λ vs. area_for c.args.window s.address (size_of c.in_ok-found.found) vs) (behind-is (valued state) c.args.parts.now front back c.split_at_mut-first.ensures.value c.split_at_mut-first.ensures.front_len))

pub load_found-requires-clause-bytes : goal.load_found-requires-clause-bytes
load_found-requires-clause-bytes g c =
    let state = g.E.Emulator.state in
    let values = map (valued state) c.args.parts.now in
    let front = c.split_at_mut-first.result.0.now in
    let back = c.split_at_mut-first.result.1.now in
    let s = c.args.step.now in
    let size : size_first s values ≡ size_of c.in_ok-found.found =
    size-first-is state s c.args.parts.now front back c.index-first-0.result c.files.result.now c.split_at_mut-first.ensures.value c.split_at_mut-first.ensures.front_len c.files.ensures
    ∙ sym (found-size (read_file c.files.result.now s.path) c.in_ok-found.found c.in_ok-found.ensures) in
    subst (λ vs. IfSome (size_of c.in_ok-found.found) (λ n. HasBytes n c.args.place vs)) (behind-is (valued state) c.args.parts.now front back c.split_at_mut-first.ensures.value c.split_at_mut-first.ensures.front_len)
    (subst (λ n. IfSome n (λ k. HasBytes k c.args.place (behind values))) size c.requires.bytes)

pub returns-clause-taken : goal.returns-clause-taken
returns-clause-taken g c =
    let state = g.E.Emulator.state in
    let xs = component.Space c.args.generation.slot ∷ reached_by c.args.generation c.args.window c.args.place in
    let front = c.split_at_mut-first.result.0.now in
    let back = c.split_at_mut-first.result.1.now in
    load-taken state c.args.step.now c.load_found.result xs c.args.parts.now front back _ c.index-first-0.result c.files.result.now c.in_ok-found.found c.args.window c.args.place
    (first-of (valued state) component.Files xs c.args.parts.now front back c.requires.parts c.split_at_mut-first.ensures.value c.split_at_mut-first.ensures.front_len)
    c.split_at_mut-first.ensures.value c.split_at_mut-first.ensures.front_len c.files.ensures c.in_ok-found.ensures c.load_found.ensures.handed c.load_found.ensures.refused c.load_found.ensures.taken
