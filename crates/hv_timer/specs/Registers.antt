-- The registers of the code as those of the device. Used by proofs alone.
use Rattle.std.specs.Prelude.{ℕ}
use Rattle.hv_emu.specs.Timer as device
use Rattle.hv_emu.specs.Timer.{TimerRegister, msip_of, mtimecmp_of, mtime_of, unused}
use Rattle.hv_timer.specs.declared.part.Part.{Part}
use Rattle.hv_timer.specs.declared.part.Part.TheVariants.{Whole, LowHalf, HighHalf}
use Rattle.hv_timer.specs.declared.register.Register.{Register}
use Rattle.hv_timer.specs.declared.register.Register.TheVariants.{Msip, Mtimecmp, Mtime, Unused}

-- A part as the device has it.
abbrev pub device_part : Part → device.Part
device_part Whole = device.whole
device_part LowHalf = device.low_half
device_part HighHalf = device.high_half

-- The bytes of a part.
abbrev pub bytes_of : Part → ℕ
bytes_of Whole = 8
bytes_of LowHalf = 4
bytes_of HighHalf = 4

-- A register as the device has it.
abbrev pub device_register : Register → TimerRegister
device_register (Msip context) = msip_of context
device_register (Mtimecmp context part) = mtimecmp_of context (device_part part)
device_register (Mtime part) = mtime_of (device_part part)
device_register Unused = unused

-- The most bytes that an access to a register has.
abbrev pub greatest_size : Register → ℕ
greatest_size (Msip context) = 8
greatest_size (Mtimecmp context part) = bytes_of part
greatest_size (Mtime part) = bytes_of part
greatest_size Unused = 8
