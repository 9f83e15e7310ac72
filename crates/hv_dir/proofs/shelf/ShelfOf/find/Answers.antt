use Rattle.std.proofs.Common.{rules, ◌∙◌, ap, map, tests, position}
use Rattle.std.proofs.lemmas.Iterator.{YieldsList-from_slice}
use Rattle.std.proofs.lemmas.Iterator.Search.{position_from_yields_List}
use Rattle.hv_emu.specs.Device.{has_name}
use Rattle.hv_dir.proofs.PoolLemmas.{position-map}
use Rattle.hv_dir.proofs.shelf.ShelfOf.find.Goals as goal

pub returns : goal.returns
returns g c =
    position_from_yields_List (λ e. has_name (g.E.Emulator.state e) c.args.name.now) _ _ _ c.position.ensures.ran (YieldsList-from_slice c.self.inside.parts.items cc) (λ x b q k. search (rules, tests))
    ∙ (position-map g.E.Emulator.state (λ d. has_name d c.args.name.now) c.self.inside.parts.items ∙ ap (λ v. position (λ d. has_name d c.args.name.now) (map g.E.Emulator.state v.parts)) c.self.view_is)
