use Rattle.std.proofs.Common.{◌≡◌, drop}
use Rattle.hv_dir.specs.Pool.{devices_of, place_of}
use Rattle.hv_dir.proofs.shelf.ShelfOf.find_any.Given as goal

abbrev pub invariant-loop-name : goal.invariant-loop-name
invariant-loop-name g l = place_of (devices_of g.E.Emulator.state l.fn.self) l.fn.names ≡ place_of (devices_of g.E.Emulator.state l.fn.self) (drop l.name-index l.name-items)
