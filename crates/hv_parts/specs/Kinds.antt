-- Of which kind components are.
use Rattle.std.specs.Prelude.{List, [], ◌∷◌}
use Rattle.hv_event.specs.declared.event.CellId.{CellId}
use Rattle.hv_event.specs.declared.event.CellId.TheVariants as component
use Rattle.hv_parts.specs.Value.{PartValue, Dir, Shelf, Files, Space, Queue, Vcpu, Body, Area}

-- A value is of the kind of a component.
abbrev pub IsPartOf : CellId → PartValue → Type 0
IsPartOf component.Dir (Dir directory) = Unit {0}
IsPartOf component.Shelf (Shelf devices) = Unit {0}
IsPartOf component.Files (Files files) = Unit {0}
IsPartOf (component.Space slot) (Space space) = Unit {0}
IsPartOf (component.Queue hart) (Queue queue) = Unit {0}
IsPartOf (component.Vcpu vcpu) (Vcpu value) = Unit {0}
IsPartOf (component.Body slot row) (Body body) = Unit {0}
IsPartOf (component.Area area) (Area bytes) = Unit {0}
IsPartOf x value = ⊥

-- Values are of the kinds of components, each of the one that stands where it does.
abbrev pub AreOf : List CellId → List PartValue → Type 0
AreOf [] [] = Unit {0}
AreOf (x ∷ xs) (value ∷ values) = IsPartOf x value × AreOf xs values
AreOf xs values = ⊥
