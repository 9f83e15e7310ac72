-- A terminal in the midst of lines on a guest of one VCPU with a serial port and an interrupt controller.
use Rattle.std.specs.Prelude.{◌≡◌, ℕ, true, false, Option, None, Some, Ok, List, [], ◌∷◌, codes}
use Rattle.hv_answer.specs.declared.reply.Reply.{Reply}
use Rattle.hv_answer.specs.declared.reply.Reply.TheVariants as reply
use Rattle.hv_event.specs.declared.event.ActorId.TheVariants.{Terminal}
use Rattle.hv_kinds.specs.declared.address.AddressType.TheVariants.{Memory}
use Rattle.hv_kinds.specs.declared.cause.Cause.TheVariants.{Missing}
use Rattle.hv_kinds.specs.declared.changes.SignalChanges.{SignalChanges}
use Rattle.hv_kinds.specs.declared.generation.Generation.{Generation}
use Rattle.hv_kinds.specs.declared.stage.Stage.TheVariants.{Making, Made}
use Rattle.hv_refusal.specs.declared.refusal.Refusal.{Refusal}
use Rattle.hv_refusal.specs.declared.refusal.Refusal.TheVariants as refusal
use Rattle.hv_region.specs.declared.plan.Form.TheVariants.{Device}
use Rattle.hv_region.specs.declared.plan.RegionPlan.{RegionPlan}
use Rattle.hv_region.specs.declared.plan.VcpuPlan.{VcpuPlan}
use Rattle.hv_rules.specs.Carry.{Carry, nothing}
use Rattle.hv_rules.specs.Line.{Asked, create, each_vcpu, kick, LineState, begun}
use Rattle.hv_step.specs.declared.step.Step.{Step}
use Rattle.hv_step.specs.declared.step.Step.TheVariants as step
use Rattle.hv_model.specs.Entry.{Entry}
use Rattle.hv_model.specs.Plans.{Planned, planned, refusal_for, regions_of, vcpus_of}
use Rattle.hv_model.specs.Terminal.{TerminalState, terminal_after}

abbrev pub vcpu : VcpuPlan
vcpu = record { start = 2147483648; priority = 3; slice = 5 }

abbrev pub plic : RegionPlan
plic = record {
  name = codes "plic";
  kind = Memory;
  base = 201326592;
  size = 4194304;
  form = Device (codes "riscv,plic0" ∷ []);
  detached = true;
  clock = false;
  parent = None;
}

-- The serial port's interrupts go to source 10 of the controller, which is in row 1.
abbrev pub uart : RegionPlan
uart = record {
  name = codes "uart";
  kind = Memory;
  base = 268435456;
  size = 8;
  form = Device (codes "ns16550" ∷ []);
  detached = false;
  clock = false;
  parent = Some (1, 10);
}

-- The host tree has this guest, a faulty one, and no other.
pub record HasGuests (plans : List Planned) : Type 0 where
  pub good : refusal_for (planned plans (codes "g0")) ≡ None
  pub faulty : refusal_for (planned plans (codes "g1")) ≡ Some (refusal.BadNode (codes "/guests/g1") Missing)
  pub unknown : refusal_for (planned plans (codes "g9")) ≡ Some refusal.NoGuest
  pub vcpus : vcpus_of plans (codes "g0") ≡ vcpu ∷ []
  pub regions : regions_of plans (codes "g0") ≡ uart ∷ plic ∷ []

-- A line on the guest.
abbrev pub line : Asked → LineState
line asked = begun asked 1 (uart ∷ plic ∷ [])

-- A terminal that is at a line.
abbrev pub at_line : List Planned → Asked → TerminalState
at_line plans asked = record {
  count = 0;
  owed = [];
  session = record { line = Some (line asked); boot = []; own = []; lines = 0 };
  plans = plans;
}

abbrev pub guest : Generation
guest = record { slot = 2; birth = 7 }

-- An event of Terminal 0.
abbrev pub event : (index : ℕ) → Step → Reply → Carry → Entry
event index s r c = record {
  event = record { actor = Terminal 0; index = index; stamp = 1; step = s; reply = r };
  carry = c;
}

abbrev pub name : (guest : List ℕ) → Step
name guest = step.Name (record { name = guest })

abbrev pub claimed : Reply
claimed = reply.Name (Ok guest)

abbrev pub no_guest : Carry
no_guest = record nothing { stopped = Some refusal.NoGuest }

abbrev pub why_faulty : Refusal
why_faulty = refusal.BadNode (codes "/guests/g1") Missing

abbrev pub faulty : Carry
faulty = record nothing { stopped = Some why_faulty }

abbrev pub add : Step
add = step.Add (record { name = codes "g0"; region = codes "uart"; stage = Making; generation = Some guest })

abbrev pub of_row : (row : ℕ) → RegionPlan → Carry
of_row row plan = record nothing { row = Some row; plan = Some (plan, 1); parent = plan.parent }

abbrev pub no_changes : SignalChanges
no_changes = record { line = false; pins = 0 }

abbrev pub added : Reply
added = reply.Add (Ok no_changes)

abbrev pub add_vcpu : Step
add_vcpu = step.Vadd (record { vcpu = 9; birth = 7 })

abbrev pub with_vcpu : Carry
with_vcpu = record nothing { vcpu = Some (0, vcpu) }

abbrev pub done_vcpu : Reply
done_vcpu = reply.Vadd (Ok tt)

abbrev pub turn : Step
turn = step.Stage (record { name = codes "g0"; from = Making; to = Some Made })

-- The terminal as its guest is claimed, has its region, and has its VCPU.
abbrev pub new : List Planned → TerminalState
new plans = at_line plans (create (codes "g0"))

abbrev pub claiming : List Planned → TerminalState
claiming plans = terminal_after (new plans) (event 1 (name (codes "g0")) claimed nothing)

abbrev pub adding : List Planned → TerminalState
adding plans = terminal_after (claiming plans) (event 2 add added (of_row 0 uart))

abbrev pub whole : List Planned → TerminalState
whole plans = terminal_after (adding plans) (event 3 add_vcpu done_vcpu with_vcpu)

-- Its line before its last step.
abbrev pub line_in : Option LineState → LineState
line_in None = line (create (codes "g0"))
line_in (Some l) = l

abbrev pub last : List Planned → LineState
last plans = line_in (whole plans).session.line

abbrev pub made : Reply
made = reply.Stage (Ok tt)

abbrev pub with_guest : Carry
with_guest = record nothing { guest = Some (2, 7) }

-- A kick of its VCPU.
abbrev pub kicking : List Planned → TerminalState
kicking plans = at_line plans (each_vcpu kick (codes "g0"))

abbrev pub kick_step : Step
kick_step = step.Kick (record { vcpu = 9; guest = Some (record { name = codes "g0"; generation = Some guest }) })

abbrev pub other_vcpu : Step
other_vcpu = step.Kick (record { vcpu = 10; guest = Some (record { name = codes "g0"; generation = Some guest }) })

abbrev pub kicked : Reply
kicked = reply.Kick (Ok tt)

abbrev pub with_priority : Carry
with_priority = record nothing { priority = Some 3 }

-- The controller is added to the guest once that is made, and a pin changes.
abbrev pub add_plic : Step
add_plic = step.Add (record { name = codes "g0"; region = codes "plic"; stage = Made; generation = Some guest })

abbrev pub pin_changed : Reply
pin_changed = reply.Add (Ok (record { line = false; pins = 1 }))

abbrev pub pin : Step
pin = step.Pin (record { row = 1; vcpu = 9; generation = guest })

abbrev pub sample : Step
sample = step.Sample (record { row = 0; parent = 1; source = 10; generation = guest })

-- A terminal that owes a pin in the midst of its line.
abbrev pub owing : List Planned → TerminalState
owing plans = record (kicking plans) { owed = pin ∷ [] }
