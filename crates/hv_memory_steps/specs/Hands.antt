-- What the steps that reach memory hand over.
use Rattle.std.specs.Prelude.{ℕ, List, Option, Some}
use Rattle.hv_region.specs.declared.window.Window.{Window}
use Rattle.hv_rules.specs.Carry.{Carry, Pending, nothing}

-- Of a fetch: its pc, the access that it leaves pending, and the area that gave it.
abbrev pub fetch_carry : (pc : Option ℕ) → (pending : Option Pending) → (area : Option (ℕ × ℕ)) → Carry
fetch_carry pc pending area = record nothing { pc = pc; pending = pending; area = area }

-- Of an access: what was pending, the area that is accessed, and where the region's interrupts go.
abbrev pub access_carry : Pending → (area parent : Option (ℕ × ℕ)) → Carry
access_carry pending area parent = record nothing { pending = Some pending; area = area; parent = parent }

-- Of a file that is loaded: its bytes, the window that shows where, and the area that takes it.
abbrev pub load_carry : (bytes : List ℕ) → (window : Option Window) → (area : Option (ℕ × ℕ)) → Carry
load_carry bytes window area = record nothing { bytes = Some bytes; window = window; area = area }

-- Of a look at memory: the window that shows it, and the area of which it shows a part.
abbrev pub mem_carry : Window → (area : Option (ℕ × ℕ)) → Carry
mem_carry window area = record nothing { window = Some window; area = area }
