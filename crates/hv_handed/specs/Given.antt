-- What is handed over in code, as the rules of the components see it.
use Rattle.std.specs.Prelude.{ℕ, Option, None, Some, List, [], map}
use Rattle.std.specs.Option.{option_map, option_map_or}
use Rattle.hv_emu.specs.Device.{DevState}
use Rattle.hv_handed.specs.declared.carry.Carry.{Carry}
use Rattle.hv_handed.specs.declared.pending.Pending.{Pending}
use Rattle.hv_handed.specs.declared.pending.Pending.TheVariants.{Load, Store}
use Rattle.hv_rules.specs.Carry as rules
use Rattle.hv_rules.specs.Carry.{load, store}

-- A pending access, as the rules see it.
abbrev pub pended : Pending → rules.Pending
pended (Load address size is_signed register) = load address size is_signed register
pended (Store address size value) = store address size value

-- What is handed over, where an emulator stands for the state of its device.
abbrev pub given : {E : Type 0} → (E → DevState) → Carry E → rules.Carry
given state c = record {
  lines = c.lines;
  bytes = option_map (λ file. file.value) c.bytes;
  guest = c.guest;
  vcpu = c.vcpu;
  priority = option_map (λ vcpu. vcpu.value.plan.priority) c.priority;
  lengths = option_map_or (λ lengths. lengths.value.items) c.lengths [];
  moved = c.moved;
  pc = c.pc;
  pending = option_map pended c.pending;
  stopped = option_map (λ why. why.value) c.stopped;
  row = c.row;
  plan = option_map (λ plan. (plan.0.value, plan.1)) c.plan;
  device = option_map (λ device. state device.value) c.device;
  window = c.window;
  target = c.target;
  clock = c.clock;
  area = c.area;
  parent = c.parent;
}
