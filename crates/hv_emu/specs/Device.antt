-- The state of a device, and what each call of an emulator answers and leaves.
use Rattle.std.specs.Prelude.{◌≡◌, ℕ, Bool, true, false, ◌||◌, List, codes, Option, None, slice_get}
use Rattle.std.specs.Str.{bytes_eq}
use Rattle.hv_kinds.specs.declared.pins.Pins.{Pins}
use Rattle.hv_emu.specs.Access.{Access, Outcome}
use Rattle.hv_emu.specs.Uart.{UartState, uart_reset, uart_access, uart_line, uart_fed}
use Rattle.hv_emu.specs.Plic.{PlicState, plic_reset, plic_attached, plic_access, plic_signalled, plic_pin}
use Rattle.hv_emu.specs.Timer.{TimerState, timer_reset, timer_attached, timer_access, timer_ticked, software_pin, timer_pin}

-- A device is a serial port, an interrupt controller or a timer.
pub data DevState : Type 0 where
  uart : UartState → DevState
  plic : PlicState → DevState
  timer : TimerState → DevState

-- The names of the kinds of devices, by which a device tree asks for one.
unfoldable pub has_name : DevState → (name : List ℕ) → Bool
has_name (uart u) name = bytes_eq name (codes "ns16550") || bytes_eq name (codes "ns16550a")
has_name (plic p) name = bytes_eq name (codes "riscv,plic0") || bytes_eq name (codes "sifive,plic-1.0.0")
has_name (timer t) name = bytes_eq name (codes "riscv,clint0") || bytes_eq name (codes "sifive,clint0")

-- A reset keeps the number of contexts alone.
unfoldable pub after_reset : DevState → DevState
after_reset (uart u) = uart (uart_reset u.contexts)
after_reset (plic p) = plic (plic_reset p.contexts)
after_reset (timer t) = timer (timer_reset t.contexts)

-- A device is in its reset state where a reset leaves it as it is.
abbrev pub IsInReset : DevState → Type 0
IsInReset device = device ≡ after_reset device

-- The number of contexts, which are those of VCPUs, is set.
unfoldable pub after_attach : DevState → (contexts : ℕ) → DevState
after_attach (uart u) contexts = uart (record u { contexts = contexts })
after_attach (plic p) contexts = plic (plic_attached p contexts)
after_attach (timer t) contexts = timer (timer_attached t contexts)

-- An outcome for a part is one for the device.
abbrev pub of_part : {State : Type 0} → (State → DevState) → Outcome State → Outcome DevState
of_part device outcome = record { left = device outcome.left; answer = outcome.answer }

-- What an access leaves and answers.
unfoldable pub device_access : DevState → Access → Outcome DevState
device_access (uart u) access = of_part uart (uart_access u access)
device_access (plic p) access = of_part plic (plic_access p access)
device_access (timer t) access = of_part timer (timer_access t access)

-- A signal at a source goes to an interrupt controller.
unfoldable pub after_source : DevState → (source : ℕ) → (level : Bool) → DevState
after_source (uart u) source level = uart u
after_source (plic p) source level = plic (plic_signalled p source level)
after_source (timer t) source level = timer t

-- The interrupt line is that of a serial port.
unfoldable pub line_of : DevState → Bool
line_of (uart u) = uart_line u
line_of (plic p) = false
line_of (timer t) = false

-- The interrupt pins of a VCPU, which interrupt controllers and timers have.
unfoldable pub pins_of : DevState → (vcpu : ℕ) → Pins
pins_of (uart u) vcpu = record { ext = false; soft = false; timer = false }
pins_of (plic p) vcpu = record { ext = plic_pin p vcpu; soft = false; timer = false }
pins_of (timer t) vcpu = record { ext = false; soft = software_pin t vcpu; timer = timer_pin t vcpu }

-- Bytes go to and from a serial port.
unfoldable pub is_serial : DevState → Bool
is_serial (uart u) = true
is_serial (plic p) = false
is_serial (timer t) = false

-- A byte reaches a serial port.
unfoldable pub after_feed : DevState → (byte : ℕ) → DevState
after_feed (uart u) byte = uart (uart_fed u byte)
after_feed (plic p) byte = plic p
after_feed (timer t) byte = timer t

-- The byte at a place among those that a serial port sent last, from the oldest that is kept.
unfoldable pub output_at : DevState → (place : ℕ) → Option ℕ
output_at (uart u) place = slice_get u.output place
output_at (plic p) place = None
output_at (timer t) place = None

-- A tick of the clock goes to a timer.
unfoldable pub after_tick : DevState → DevState
after_tick (uart u) = uart u
after_tick (plic p) = plic p
after_tick (timer t) = timer (timer_ticked t)
