-- Where the components of a board stand: in the order in which they are locked.
use Rattle.std.specs.Prelude.{ℕ, ◌+◌, ◌*◌, ◌<◌}
use Rattle.hv_event.specs.declared.event.CellId.{CellId}
use Rattle.hv_event.specs.declared.event.CellId.TheVariants as component
use Rattle.hv_text.specs.declared.limits.TheConstants.{SLOTS, VCPUS, GUEST_REGIONS}
use Rattle.hv_board.specs.declared.layout.Layout.{Layout}

-- A board has a component whose numbers are below its counts.
abbrev pub HasPlace : Layout → CellId → Type 0
HasPlace layout component.Dir = Unit {0}
HasPlace layout component.Shelf = Unit {0}
HasPlace layout component.Files = Unit {0}
HasPlace layout (component.Space slot) = slot < SLOTS
HasPlace layout (component.Queue hart) = hart < layout.harts
HasPlace layout (component.Vcpu vcpu) = vcpu < VCPUS
HasPlace layout (component.Body slot row) = (slot < SLOTS) × (row < GUEST_REGIONS)
HasPlace layout (component.Area area) = area < layout.areas

-- The spaces stand behind the directory, the shelf and the files.
abbrev pub first_space : ℕ
first_space = 3

-- The queues stand behind the spaces.
abbrev pub first_queue : ℕ
first_queue = first_space + SLOTS

-- The VCPUs stand behind the queues.
abbrev pub first_vcpu : Layout → ℕ
first_vcpu layout = first_queue + layout.harts

-- The bodies stand behind the VCPUs.
abbrev pub first_body : Layout → ℕ
first_body layout = first_vcpu layout + VCPUS

-- The areas stand behind the bodies.
abbrev pub first_area : Layout → ℕ
first_area layout = first_body layout + SLOTS * GUEST_REGIONS

-- How many components a board has.
abbrev pub count_of : Layout → ℕ
count_of layout = first_area layout + layout.areas

-- Where a component stands: those of a kind by number, and bodies by guest and row.
abbrev pub place_of : Layout → CellId → ℕ
place_of layout component.Dir = 0
place_of layout component.Shelf = 1
place_of layout component.Files = 2
place_of layout (component.Space slot) = first_space + slot
place_of layout (component.Queue hart) = first_queue + hart
place_of layout (component.Vcpu vcpu) = first_vcpu layout + vcpu
place_of layout (component.Body slot row) = first_body layout + (slot * GUEST_REGIONS + row)
place_of layout (component.Area area) = first_area layout + area
