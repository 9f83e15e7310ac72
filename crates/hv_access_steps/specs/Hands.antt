-- What loads hand over.
use Rattle.std.specs.Prelude.{ℕ, List, Option}
use Rattle.hv_region.specs.declared.window.Window.{Window}
use Rattle.hv_rules.specs.Carry.{Carry, nothing}

-- The bytes of a file, if it is there, the window that shows where they go, and the area that takes them.
abbrev pub found_carry : (file : Option (List ℕ)) → (window : Option Window) → (area : Option (ℕ × ℕ)) → Carry
found_carry file window area = record nothing { bytes = file; window = window; area = area }
