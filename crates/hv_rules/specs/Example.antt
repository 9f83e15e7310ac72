-- Components of a small board, and events of them.
use Rattle.std.specs.Prelude.{ℕ, false, List, [], ◌∷◌, codes, Option, None, Some, Ok, Err}
use Rattle.hv_answer.specs.declared.reply.Reply.{Reply}
use Rattle.hv_answer.specs.declared.reply.Reply.TheVariants as reply
use Rattle.hv_dir.specs.Directory.{DirState, no_guests}
use Rattle.hv_dir.specs.declared.entry.Entry.{Entry}
use Rattle.hv_kinds.specs.declared.access.AccessKind.TheVariants.{Read}
use Rattle.hv_kinds.specs.declared.access.Direction.TheVariants.{Write}
use Rattle.hv_kinds.specs.declared.address.AddressType.TheVariants.{Memory}
use Rattle.hv_kinds.specs.declared.generation.Generation.{Generation}
use Rattle.hv_kinds.specs.declared.stage.Stage.TheVariants.{Making}
use Rattle.hv_queue.specs.declared.entry.QueueEntry.{QueueEntry}
use Rattle.hv_refusal.specs.declared.refusal.Refusal.TheVariants as refusal
use Rattle.hv_region.specs.declared.plan.Form.TheVariants.{Ram, Alias}
use Rattle.hv_region.specs.declared.plan.RegionPlan.{RegionPlan}
use Rattle.hv_region.specs.declared.window.Window.{Window}
use Rattle.hv_space.specs.Space.{SpaceState, no_windows}
use Rattle.hv_step.specs.declared.step.Step.{Step}
use Rattle.hv_step.specs.declared.step.Step.TheVariants as step
use Rattle.hv_vcpu.specs.Vcpu.{VcpuValue, unknown, stepped}
use Rattle.hv_vcpu.specs.declared.moves.Move.TheVariants as move
use Rattle.hv_rules.specs.Body.{BodyValue, body_after, no_changes}
use Rattle.hv_rules.specs.Carry.{Carry, nothing}
use Rattle.hv_rules.specs.Dir.{dir_after}
use Rattle.hv_rules.specs.Space.{space_after}
use Rattle.hv_rules.specs.Windows.{Region}

-- A name is claimed where no guest is, and gets slot 0 and birth 0.
abbrev pub claim : Step
claim = step.Name (record { name = codes "g0" })

abbrev pub first : Generation
first = record { slot = 0; birth = 0 }

abbrev pub granted : (slot : ℕ) → Reply
granted slot = reply.Name (Ok (record { slot = slot; birth = 0 }))

abbrev pub claimed : DirState
claimed = dir_after no_guests claim (granted 0) nothing

abbrev pub entry : Entry
entry = record { name = codes "g0"; slot = 0; birth = 0; stage = Making }

-- The guest gets memory of 16 bytes.
abbrev pub ram : RegionPlan
ram = record {
  name = codes "ram";
  kind = Memory;
  base = 4096;
  size = 16;
  form = Ram;
  detached = false;
  clock = false;
  parent = None;
}

abbrev pub add_by : Option Generation → Step
add_by generation =
    step.Add (record { name = codes "g0"; region = codes "ram"; stage = Making; generation = generation })

abbrev pub add : Step
add = add_by (Some first)

abbrev pub added : Reply
added = reply.Add (Ok no_changes)

abbrev pub with_ram : Carry
with_ram = record nothing { row = Some 3; plan = Some (ram, 1) }

abbrev pub space : SpaceState
space = space_after no_windows add added with_ram

abbrev pub body : BodyValue
body = body_after 3 None add added with_ram

abbrev pub window : Window
window = record { owner = 3; target = 3; birth = 0; kind = Memory; base = 4096; size = 16; offset = 0 }

-- Bytes of the memory are looked at.
abbrev pub mem_at : (address count : ℕ) → Option Generation → Step
mem_at address count generation =
    step.Mem (record { name = codes "g0"; address = address; count = count; generation = generation })

abbrev pub mem : Step
mem = mem_at 4100 2 (Some first)

abbrev pub at_window : Carry
at_window = record nothing { window = Some window }

-- The terminal finds no guest of a name in the host tree.
abbrev pub unnamed : Carry
unnamed = record nothing { stopped = Some refusal.NoGuest }

-- A VCPU of the guest, in reset, is kicked.
abbrev pub vcpu : VcpuValue
vcpu = stepped (move.Add 0 0 (record { start = 4096; priority = 3; slice = 8 })) unknown

abbrev pub kick : Step
kick = step.Kick (record { vcpu = 1; guest = None })

abbrev pub kicked : Reply
kicked = reply.Kick (Ok tt)

abbrev pub with_priority : Carry
with_priority = record nothing { priority = Some 3 }

-- A hart runs the VCPU.
abbrev pub running : VcpuValue
running = stepped (move.Dispatch 0) (stepped move.Kick vcpu)

abbrev pub pause : Step
pause = step.Pause (record { vcpu = 1; guest = None })

abbrev pub paused : Reply
paused = reply.Pause (Ok tt)

-- A queue of two VCPUs, of which the second has the greater priority.
abbrev pub early : QueueEntry
early = record { vcpu = 1; priority = 3 }

abbrev pub urgent : QueueEntry
urgent = record { vcpu = 5; priority = 7 }

abbrev pub queue : List QueueEntry
queue = early ∷ urgent ∷ []

abbrev pub dispatch : (vcpu : ℕ) → Step
dispatch vcpu = step.Dispatch (record { vcpu = vcpu })

-- It is balanced with an empty one.
abbrev pub balance : Step
balance = step.Balance (record {})

abbrev pub moved : Reply
moved = reply.Balance (Some (record { vcpu = 5; from = 0; to = 1 }))

abbrev pub uneven : Carry
uneven = record nothing { lengths = 2 ∷ 0 ∷ []; moved = Some urgent }

-- The guest gets an alias of the bytes 4 to 7 of its memory, and asks for one that would pass the memory's end.
abbrev pub alias : (size : ℕ) → RegionPlan
alias size = record ram { name = codes "view"; base = 8192; size = size; form = Alias 4100 }

abbrev pub add_alias : Step
add_alias = step.Add (record { name = codes "g0"; region = codes "view"; stage = Making; generation = Some first })

abbrev pub with_alias : Carry
with_alias = record nothing { row = Some 5; plan = Some (alias 4, 1); target = Some (3, 4) }

abbrev pub past_the_end : Carry
past_the_end = record nothing { row = Some 5; plan = Some (alias 13, 1); stopped = Some refusal.AliasTarget }

abbrev pub not_added : Reply
not_added = reply.Add (Err refusal.AliasTarget)

abbrev pub shared_space : SpaceState
shared_space = space_after space add_alias added with_alias

abbrev pub shared_body : BodyValue
shared_body = body_after 3 body add_alias added with_alias

-- The memory can't be added again.
abbrev pub again : Region
again = record { birth = 0; row = 3; plan = ram; vcpus = 1 }

-- An instruction stores two bytes through the alias.
abbrev pub store : Step
store = step.Access (record {
  vcpu = 1;
  row = 3;
  address = 8193;
  size = 2;
  direction = Write;
  value = 513;
  generation = first;
})

abbrev pub stored : Reply
stored = reply.Access (Some (record { value = 0; changes = no_changes }))

abbrev pub written_body : BodyValue
written_body = body_after 3 shared_body store stored nothing

-- One reaches past the alias's end, where no window holds all of it.
abbrev pub fault : (address : ℕ) → Step
fault address = step.Fault (record { vcpu = 1; address = address; size = 2; access = Read; generation = first })

-- The memory is dropped, and with it the alias.
abbrev pub drop : Step
drop = step.Drop (record { name = codes "g0"; region = codes "ram"; stage = Making; generation = Some first })

abbrev pub dropped : Reply
dropped = reply.Drop (Ok no_changes)

abbrev pub row_of_ram : Carry
row_of_ram = record nothing { row = Some 3 }
