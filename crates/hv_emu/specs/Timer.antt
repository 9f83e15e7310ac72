-- The timer and software interrupts, with the registers of the SiFive CLINT. Context i is VCPU i.
use Rattle.std.specs.Prelude.{ℕ, ◌+◌, ◌-◌, ◌*◌, ◌/◌, ◌%◌, ◌^◌, Bool, ◌&&◌, ◌||◌, ◌==◌, nat_lt, nat_le, if◌then◌else◌, List, replicate, slice_index, slice_set, Option, Some, None, option_map, unwrap_or}
use Rattle.hv_emu.specs.Access.{Access, load, store, Outcome, loaded, stored}
use Rattle.hv_emu.specs.Registers.{index_at, resized}

pub record TimerState : Type 0 where
  pub contexts : ℕ
  -- per context, a word of one bit, which is its software pin
  pub msip : List ℕ
  -- per context, the time from which its timer pin is high
  pub mtimecmp : List ℕ
  -- the time, of 64 bits
  pub mtime : ℕ

-- The greatest number of 64 bits.
abbrev pub all_ones : ℕ
all_ones = 2 ^ 64 - 1

-- After a reset all is 0, but mtimecmp is all ones.
abbrev pub timer_reset : ℕ → TimerState
timer_reset contexts =
    record {
      contexts = contexts;
      msip = replicate contexts 0;
      mtimecmp = replicate contexts all_ones;
      mtime = 0;
    }

-- New contexts have what they have after a reset.
abbrev pub timer_attached : TimerState → ℕ → TimerState
timer_attached t contexts =
    record t {
      contexts = contexts;
      msip = resized contexts 0 t.msip;
      mtimecmp = resized contexts all_ones t.mtimecmp;
    }

-- The part of a register of 8 bytes that an access reaches.
pub data Part : Type 0 where
  whole : Part
  low_half : Part
  high_half : Part

-- An access of 8 bytes reaches the whole, and one of 4 bytes either half.
abbrev pub part_of : (offset size : ℕ) → Part
part_of offset size = if size == 8 then whole else if offset % 8 == 0 then low_half else high_half

-- What is read of a word.
abbrev pub part_value : ℕ → Part → ℕ
part_value word whole = word
part_value word low_half = word % 2 ^ 32
part_value word high_half = word / 2 ^ 32

-- The word with a part written, and the other half as it was.
abbrev pub with_part : ℕ → Part → ℕ → ℕ
with_part word whole value = value
with_part word low_half value = word / 2 ^ 32 * 2 ^ 32 + value
with_part word high_half value = value * 2 ^ 32 + word % 2 ^ 32

-- The registers.
pub data TimerRegister : Type 0 where
  msip_of : (context : ℕ) → TimerRegister
  mtimecmp_of : (context : ℕ) → Part → TimerRegister
  mtime_of : Part → TimerRegister
  -- a place with no register, which reads 0 and isn't written
  unused : TimerRegister

-- The register at an offset, among those of so many contexts. Below 0x4000 registers have 4 bytes, and from there on 8.
abbrev pub timer_register : (contexts offset size : ℕ) → TimerRegister
timer_register contexts offset size =
    let part = part_of offset size in
    let start = offset - offset % 8 in
    if nat_lt offset 0x4000 then unwrap_or (option_map msip_of (index_at 0 4 contexts offset)) unused
    else if start == 0xBFF8 then mtime_of part
    else unwrap_or (option_map (λ context. mtimecmp_of context part) (index_at 0x4000 8 contexts start)) unused

-- An access has 4 bytes, or 8 where registers have them, at a multiple of its size. Every other is denied.
abbrev pub timer_answers : (offset size : ℕ) → Bool
timer_answers offset size =
    ((size == 4) && (offset % 4 == 0)) || ((size == 8) && (offset % 8 == 0) && nat_le 0x4000 offset)

-- The register that an access reaches.
abbrev pub timer_register_of : TimerState → (offset size : ℕ) → Option TimerRegister
timer_register_of t offset size =
    if timer_answers offset size then Some (timer_register t.contexts offset size) else None

-- What a read of a register answers. It leaves the timer as it was.
abbrev pub timer_value : TimerState → TimerRegister → ℕ
timer_value t (msip_of context) = slice_index t.msip context
timer_value t (mtimecmp_of context part) = part_value (slice_index t.mtimecmp context) part
timer_value t (mtime_of part) = part_value t.mtime part
timer_value t unused = 0

-- What a write to a register leaves: msip keeps bit 0.
abbrev pub timer_written : TimerState → TimerRegister → ℕ → TimerState
timer_written t (msip_of context) value = record t { msip = slice_set t.msip context (value % 2) }
timer_written t (mtimecmp_of context part) value =
    record t { mtimecmp = slice_set t.mtimecmp context (with_part (slice_index t.mtimecmp context) part value) }
timer_written t (mtime_of part) value = record t { mtime = with_part t.mtime part value }
timer_written t unused value = t

-- An access to the timer.
abbrev pub timer_access : TimerState → Access → Outcome TimerState
timer_access t (load offset size) = loaded t (timer_register_of t offset size) (timer_value t) (λ _. t)
timer_access t (store offset size value) =
    stored t (timer_register_of t offset size) (λ register. timer_written t register value)

-- The time goes on by one, and begins again behind its greatest value.
abbrev pub timer_ticked : TimerState → TimerState
timer_ticked t = record t { mtime = (t.mtime + 1) % 2 ^ 64 }

-- The software pin of a context is its msip.
abbrev pub software_pin : TimerState → (context : ℕ) → Bool
software_pin t context = nat_lt context t.contexts && (slice_index t.msip context == 1)

-- The timer pin of a context is high from the time in its mtimecmp on.
abbrev pub timer_pin : TimerState → (context : ℕ) → Bool
timer_pin t context = nat_lt context t.contexts && nat_le (slice_index t.mtimecmp context) t.mtime
