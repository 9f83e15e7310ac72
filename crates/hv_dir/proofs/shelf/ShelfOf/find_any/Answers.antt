use Rattle.std.proofs.Common.{rules, ◌≡◌, ◌∙◌, sym, ap, map, None, position}
use Rattle.hv_emu.specs.Device.{has_name}
use Rattle.hv_dir.proofs.PoolLemmas.{place_step}
use Rattle.hv_dir.proofs.shelf.ShelfOf.find_any.Goals as goal

pub loop-name-preserved : goal.loop-name-preserved
loop-name-preserved g c =
    let none : position (λ d. has_name d c.name-item.result) (map g.E.Emulator.state c.args.self.now.parts) ≡ None = ap (λ n. position (λ d. has_name d n) (map g.E.Emulator.state c.args.self.now.parts)) (sym c.as_slice.ensures) ∙ (sym c.find.ensures ∙ c.in_default.is) in
    c.loop-name.invariant ∙ place_step (map g.E.Emulator.state c.args.self.now.parts) _ c.loop-name.name-index c.name-item.result (search rules) c.name-item.is none
