-- The state that a serial port in memory stands for.
use Rattle.std.specs.Prelude.{◌≡◌}
use Rattle.hv_emu.specs.Uart.{UartState}
use Rattle.hv_uart.specs.declared.uart.Uart.TheInside.{Inside}

-- Each field stands for that of its name, and a register of flags for the number of its bits.
abbrev pub state_of : Inside → UartState
state_of port =
    record {
      contexts = port.contexts;
      ier = port.ier.0;
      fifo = port.fifo;
      trigger = port.trigger;
      lcr = port.lcr.0;
      mcr = port.mcr.0;
      scr = port.scr;
      dll = port.dll;
      dlm = port.dlm;
      input = port.input.items;
      overrun = port.overrun;
      thre = port.thre;
      output = port.output.items;
      sent = port.sent;
    }

-- There is room for 16 received bytes and 4096 sent ones.
pub record HasRoom (port : Inside) : Type 0 where
  pub input : port.input.capacity ≡ 16
  pub output : port.output.capacity ≡ 4096
