-- A timer that a guest gets from the shelf, and events of it.
use Rattle.std.specs.Prelude.{ℕ, true, false, List, [], ◌∷◌, codes, None, Some, Ok, Err}
use Rattle.hv_answer.specs.declared.reply.Reply.{Reply}
use Rattle.hv_answer.specs.declared.reply.Reply.TheVariants as reply
use Rattle.hv_body.specs.Body.{own_window}
use Rattle.hv_emu.specs.Device.{DevState, uart, timer}
use Rattle.hv_emu.specs.Timer.{timer_reset}
use Rattle.hv_emu.specs.Uart.{uart_reset}
use Rattle.hv_kinds.specs.declared.access.Direction.TheVariants.{Write}
use Rattle.hv_kinds.specs.declared.changes.SignalChanges.{SignalChanges}
use Rattle.hv_kinds.specs.declared.stage.Stage.TheVariants.{Made}
use Rattle.hv_refusal.specs.declared.refusal.Refusal.TheVariants as refusal
use Rattle.hv_region.specs.declared.plan.Form.TheVariants.{Device}
use Rattle.hv_region.specs.declared.plan.RegionPlan.{RegionPlan}
use Rattle.hv_space.specs.Space.{SpaceState, no_windows}
use Rattle.hv_step.specs.declared.step.Step.{Step}
use Rattle.hv_step.specs.declared.step.Step.TheVariants as step
use Rattle.hv_rules.specs.Body.{BodyValue, body_after, no_changes}
use Rattle.hv_rules.specs.Carry.{Carry, nothing}
use Rattle.hv_rules.specs.Example.{ram, first}
use Rattle.hv_rules.specs.Space.{space_after}

-- The shelf has a serial port and a timer.
abbrev pub port : DevState
port = uart (uart_reset 0)

abbrev pub shelf : List DevState
shelf = port ∷ timer (timer_reset 0) ∷ []

-- A guest of two VCPUs gets the first device that has a name; none has another name.
abbrev pub clint : (name : List ℕ) → RegionPlan
clint name = record ram { name = codes "clint"; size = 65536; form = Device (name ∷ []); clock = true }

abbrev pub add : Step
add = step.Add (record { name = codes "g0"; region = codes "clint"; stage = Made; generation = Some first })

abbrev pub added : Reply
added = reply.Add (Ok no_changes)

abbrev pub with_timer : Carry
with_timer = record nothing {
  row = Some 1;
  plan = Some (clint (codes "riscv,clint0"), 2);
  device = Some (timer (timer_reset 0));
}

abbrev pub without_timer : Carry
without_timer = record nothing { row = Some 1; plan = Some (clint (codes "clint"), 2) }

abbrev pub not_added : Reply
not_added = reply.Add (Err refusal.NoEmulator)

abbrev pub space : SpaceState
space = space_after no_windows add added with_timer

abbrev pub body : BodyValue
body = body_after 1 None add added with_timer

-- A VCPU sets the software pin of the other one, whose index is 1.
abbrev pub store : Step
store = step.Access (record {
  vcpu = 1;
  row = 1;
  address = 4100;
  size = 4;
  direction = Write;
  value = 1;
  generation = first;
})

abbrev pub second_pin : SignalChanges
second_pin = record { line = false; pins = 2 }

abbrev pub stored : Reply
stored = reply.Access (Some (record { value = 0; changes = second_pin }))

abbrev pub signalling : BodyValue
signalling = body_after 1 body store stored nothing

abbrev pub pin : (vcpu : ℕ) → Step
pin vcpu = step.Pin (record { row = 1; vcpu = vcpu; generation = first })

abbrev pub software : Reply
software = reply.Pin (Some (record { pins = record { ext = false; soft = true; timer = false }; woke = false }))

-- Bytes are sent to the timer, which takes none, and looked at, where it has none.
abbrev pub feed : Step
feed = step.Feed (record { name = codes "g0"; region = codes "clint"; bytes = 104 ∷ []; generation = Some first })

abbrev pub at_timer : Carry
at_timer = record nothing { window = Some (own_window 0 1 (clint (codes "riscv,clint0"))) }

-- The clock ticks.
abbrev pub tick : Step
tick = step.Tick (record { slot = 0 })

abbrev pub ticked : Reply
ticked = reply.Tick (Some no_changes)

abbrev pub at_clock : Carry
at_clock = record nothing { clock = Some (1, 0) }

-- The timer is dropped, and goes back to the shelf.
abbrev pub drop : Step
drop = step.Drop (record { name = codes "g0"; region = codes "clint"; stage = Made; generation = Some first })

abbrev pub dropped : Reply
dropped = reply.Drop (Ok second_pin)

abbrev pub given_back : DevState → Carry
given_back device = record nothing { row = Some 1; device = Some device }
