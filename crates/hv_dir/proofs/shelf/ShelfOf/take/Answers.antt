use Rattle.std.proofs.Common.{rules, length, ◌∙◌, sym, ap, map}
use Rattle.std.proofs.lemmas.List.{length-map}
use Rattle.hv_dir.proofs.PoolLemmas.{place_within, taken_is}
use Rattle.hv_dir.proofs.shelf.ShelfOf.take.Goals as goal

pub remove-requires : goal.remove-requires
remove-requires g c =
    let within = place_within (map g.E.Emulator.state c.args.self.now.parts) c.args.compatible.now c.in-Some.place (sym c.find_any.ensures ∙ c.in-Some.is) in
    let long = length-map c.self.inside.parts.items g.E.Emulator.state in
    let same = ap (λ v. length (map g.E.Emulator.state v.parts)) c.self.view_is in
    search (rules, within, long, same)

pub returns-in-Some-clause-ok : goal.returns-in-Some-clause-ok
returns-in-Some-clause-ok g c =
    taken_is g.E.Emulator.state c.self.inside.parts.items c.remove.new.self.items (map g.E.Emulator.state c.args.self.now.parts) c.args.compatible.now c.in-Some.place c.remove.result
    (ap (λ v. map g.E.Emulator.state v.parts) c.self.view_is) (sym c.find_any.ensures ∙ c.in-Some.is) c.remove.ensures.value c.remove.ensures.items
