-- The serial port NS16550A, by its data sheet: eight registers of a byte, at offsets 0 to 7. Modem lines, loopback, break
-- and parity are left out: what is written to ask for them is kept and does nothing.
-- A byte is sent as soon as it is written, and the time-out of received bytes has no delay.
use Rattle.std.specs.Prelude.{ℕ, ◌+◌, ◌-◌, ◌/◌, ◌%◌, ◌^◌, Bool, true, false, not, ◌&&◌, ◌||◌, ◌==◌, nat_lt, nat_le, if◌then◌else◌, List, [], ◌∷◌, ◌++◌, length, drop, slice_index, Option, Some, None}
use Rattle.hv_emu.specs.Access.{Access, load, store, Outcome, loaded, stored}
use Rattle.hv_emu.specs.Registers.{is_set}

pub record UartState : Type 0 where
  pub contexts : ℕ
  -- interrupt enable register
  pub ier : ℕ
  -- the FIFOs are on, bit 0 of the FIFO control register
  pub fifo : Bool
  -- so many received bytes are an interrupt
  pub trigger : ℕ
  -- line control, modem control and scratch register
  pub lcr : ℕ
  pub mcr : ℕ
  pub scr : ℕ
  -- divisor latch, low and high byte
  pub dll : ℕ
  pub dlm : ℕ
  -- the received bytes, the oldest first
  pub input : List ℕ
  -- a received byte found no room
  pub overrun : Bool
  -- the interrupt of the empty transmitter holding register is pending
  pub thre : Bool
  -- the bytes sent last, the oldest first, and how many were sent in all
  pub output : List ℕ
  pub sent : ℕ

-- After a reset all is 0 or empty, and the trigger is 1.
abbrev pub uart_reset : ℕ → UartState
uart_reset contexts =
    record {
      contexts = contexts;
      ier = 0;
      fifo = false;
      trigger = 1;
      lcr = 0;
      mcr = 0;
      scr = 0;
      dll = 0;
      dlm = 0;
      input = [];
      overrun = false;
      thre = false;
      output = [];
      sent = 0;
    }

-- The registers: two names where a read reaches another register than a write.
pub data UartRegister : Type 0 where
  -- receiver buffer, transmitter holding register
  rbr_thr : UartRegister
  -- interrupt enable
  ier : UartRegister
  -- interrupt identification, FIFO control
  iir_fcr : UartRegister
  -- line control
  lcr : UartRegister
  -- modem control
  mcr : UartRegister
  -- line status
  lsr : UartRegister
  -- modem status
  msr : UartRegister
  -- scratch
  scr : UartRegister
  -- divisor latch, low and high byte
  dll : UartRegister
  dlm : UartRegister

-- DLAB is bit 7 of LCR, the divisor latch access bit.
abbrev pub dlab : UartState → Bool
dlab u = is_set u.lcr 7

-- The register at an offset: where DLAB is set, offsets 0 and 1 have the divisor latch.
abbrev pub uart_register : (dlab : Bool) (offset : ℕ) → Option UartRegister
uart_register dlab offset =
    if offset == 0 then Some (if dlab then dll else rbr_thr)
    else if offset == 1 then Some (if dlab then dlm else ier)
    else if offset == 2 then Some iir_fcr
    else if offset == 3 then Some lcr
    else if offset == 4 then Some mcr
    else if offset == 5 then Some lsr
    else if offset == 6 then Some msr
    else if offset == 7 then Some scr
    else None

-- The register that an access reaches: only single bytes are accessed.
abbrev pub uart_register_of : UartState → (offset size : ℕ) → Option UartRegister
uart_register_of u offset size = if size == 1 then uart_register (dlab u) offset else None

-- A received byte waits.
abbrev pub has_input : UartState → Bool
has_input u = nat_lt 0 (length u.input)

-- The interrupt code, bits 3 to 0 of IIR: that of the interrupt of the highest priority that is enabled in IER.
abbrev pub interrupt_code : UartState → ℕ
interrupt_code u =
    -- receiver line status: an overrun
    if is_set u.ier 2 && u.overrun then 6
    -- received data available: the trigger is reached
    else if is_set u.ier 0 && nat_le u.trigger (length u.input) then 4
    -- character time-out: bytes wait in the FIFO below the trigger
    else if is_set u.ier 0 && u.fifo && has_input u then 0xC
    -- transmitter holding register empty
    else if is_set u.ier 1 && u.thre then 2
    -- none
    else 1

-- IIR is the code, with bits 7 and 6 set where the FIFOs are on.
abbrev pub iir_value : UartState → ℕ
iir_value u = interrupt_code u + (if u.fifo then 0xC0 else 0)

-- LSR: the transmitter is always empty, bit 0 is that a byte waits, bit 1 is an overrun.
abbrev pub lsr_value : UartState → ℕ
lsr_value u = 0x60 + (if has_input u then 1 else 0) + (if u.overrun then 2 else 0)

-- What a read of a register answers.
abbrev pub uart_value : UartState → UartRegister → ℕ
uart_value u rbr_thr = slice_index u.input 0
uart_value u ier = u.ier
uart_value u iir_fcr = iir_value u
uart_value u lcr = u.lcr
uart_value u mcr = u.mcr
uart_value u lsr = lsr_value u
uart_value u msr = 0
uart_value u scr = u.scr
uart_value u dll = u.dll
uart_value u dlm = u.dlm

-- What a read of a register leaves: RBR gives up its byte, IIR ends the interrupt that it shows as that of THR, and
-- LSR ends the overrun.
abbrev pub uart_after_read : UartState → UartRegister → UartState
uart_after_read u rbr_thr = record u { input = drop 1 u.input }
uart_after_read u iir_fcr = if interrupt_code u == 2 then record u { thre = false } else u
uart_after_read u lsr = record u { overrun = false }
uart_after_read u _ = u

-- The newest bytes of a list, at most so many.
abbrev pub newest : ℕ → List ℕ → List ℕ
newest count bytes = drop (length bytes - count) bytes

-- A byte is sent at once, and so THR is empty again. The last 4096 bytes are kept.
abbrev pub uart_sent : UartState → ℕ → UartState
uart_sent u byte =
    record u {
      output = newest 4096 (u.output ++ byte ∷ []);
      sent = (u.sent + 1) % 2 ^ 64;
      thre = true;
    }

-- IER keeps four bits, and bit 1, where it rises, makes the interrupt of THR pending.
abbrev pub uart_with_ier : UartState → ℕ → UartState
uart_with_ier u value =
    record u { ier = value % 16; thre = u.thre || (is_set value 1 && not (is_set u.ier 1)) }

-- The trigger by bits 7 and 6 of FCR.
abbrev pub trigger_of : ℕ → ℕ
trigger_of value =
    if value / 64 % 4 == 0 then 1
    else if value / 64 % 4 == 1 then 4
    else if value / 64 % 4 == 2 then 8
    else 14

-- A change of bit 0 of FCR empties the input, and so does bit 1 where the FIFOs are on.
abbrev pub empties_input : UartState → ℕ → Bool
empties_input u value = if is_set value 0 then not u.fifo || is_set value 1 else u.fifo

-- FCR: bit 0 is whether the FIFOs are on, and without them the trigger is 1.
abbrev pub uart_with_fcr : UartState → ℕ → UartState
uart_with_fcr u value =
    record u {
      fifo = is_set value 0;
      trigger = if is_set value 0 then trigger_of value else 1;
      input = if empties_input u value then [] else u.input;
    }

-- What a write to a register leaves: MCR keeps five bits, and LSR and MSR aren't written.
abbrev pub uart_written : UartState → UartRegister → ℕ → UartState
uart_written u rbr_thr value = uart_sent u value
uart_written u ier value = uart_with_ier u value
uart_written u iir_fcr value = uart_with_fcr u value
uart_written u lcr value = record u { lcr = value }
uart_written u mcr value = record u { mcr = value % 32 }
uart_written u lsr value = u
uart_written u msr value = u
uart_written u scr value = record u { scr = value }
uart_written u dll value = record u { dll = value }
uart_written u dlm value = record u { dlm = value }

-- The interrupt line is high where some interrupt is pending.
abbrev pub uart_line : UartState → Bool
uart_line u = not (interrupt_code u == 1)

-- The input has room for 16 bytes in the FIFO, and for one without.
abbrev pub input_room : UartState → ℕ
input_room u = if u.fifo then 16 else 1

-- A received byte waits behind the others. Where there is no room it is an overrun: with the FIFO it is lost, and
-- without it takes the place of the byte that waits.
abbrev pub uart_fed : UartState → ℕ → UartState
uart_fed u byte =
    if nat_lt (length u.input) (input_room u) then record u { input = u.input ++ byte ∷ [] }
    else if u.fifo then record u { overrun = true }
    else record u { input = byte ∷ []; overrun = true }

-- An access to the serial port.
abbrev pub uart_access : UartState → Access → Outcome UartState
uart_access u (load offset size) =
    loaded u (uart_register_of u offset size) (uart_value u) (uart_after_read u)
uart_access u (store offset size value) =
    stored u (uart_register_of u offset size) (λ register. uart_written u register value)
