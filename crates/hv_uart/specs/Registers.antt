-- The registers and interrupts of the code, by those of the device. Used by proofs alone.
use Rattle.std.specs.Prelude.{ℕ}
use Rattle.hv_emu.specs.Uart as device
use Rattle.hv_emu.specs.Uart.{UartRegister}
use Rattle.hv_uart.specs.declared.register.Register.{Register}
use Rattle.hv_uart.specs.declared.register.Register.TheVariants.{RbrThr, Ier, IirFcr, Lcr, Mcr, Lsr, Msr, Scr, Dll, Dlm}
use Rattle.hv_uart.specs.declared.interrupt.Interrupt.{Interrupt}
use Rattle.hv_uart.specs.declared.interrupt.Interrupt.TheVariants as interrupt

-- the register of the device
abbrev pub register_of : Register → UartRegister
register_of RbrThr = device.rbr_thr
register_of Ier = device.ier
register_of IirFcr = device.iir_fcr
register_of Lcr = device.lcr
register_of Mcr = device.mcr
register_of Lsr = device.lsr
register_of Msr = device.msr
register_of Scr = device.scr
register_of Dll = device.dll
register_of Dlm = device.dlm

-- the code of an interrupt
abbrev pub code_of : Interrupt → ℕ
code_of interrupt.ReceiverLineStatus = 0x6
code_of interrupt.ReceivedDataAvailable = 0x4
code_of interrupt.CharacterTimeOut = 0xc
code_of interrupt.TransmitterHoldingRegisterEmpty = 0x2
code_of interrupt.None = 0x1
