-- Which components a step touches beside its actor, in the order in which they are locked.
use Rattle.std.specs.Prelude.{ℕ, ◌%◌, nat_lt, if◌then◌else◌, Option, None, Some, Ok, List, [], ◌∷◌, ◌++◌, map}
use Rattle.std.specs.List.{range_with_len}
use Rattle.hv_answer.specs.declared.reply.Reply.{Reply}
use Rattle.hv_answer.specs.declared.reply.Reply.TheVariants as reply
use Rattle.hv_event.specs.declared.event.ActorId.{ActorId}
use Rattle.hv_event.specs.declared.event.ActorId.TheVariants.{Hart, Terminal}
use Rattle.hv_event.specs.declared.event.CellId.{CellId}
use Rattle.hv_event.specs.declared.event.CellId.TheVariants.{Dir, Shelf, Files, Space, Queue, Vcpu, Body, Area}
use Rattle.hv_kinds.specs.declared.generation.Generation.{Generation}
use Rattle.hv_region.specs.declared.window.Window.{Window}
use Rattle.hv_step.specs.declared.step.ByGuest.{ByGuest}
use Rattle.hv_step.specs.declared.step.Step.{Step}
use Rattle.hv_step.specs.declared.step.Step.TheVariants as step
use Rattle.hv_rules.specs.Carry.{Carry}

-- The queues of all harts.
abbrev pub all_queues : (harts : ℕ) → List CellId
all_queues harts = map Queue (range_with_len 0 harts)

-- The queue to which a VCPU goes that becomes ready.
abbrev pub home_queue : (harts vcpu : ℕ) → CellId
home_queue harts vcpu = Queue (vcpu % harts)

-- The queue of a hart; a terminal has none.
abbrev pub own_queue : ActorId → List CellId
own_queue (Hart h) = Queue h ∷ []
own_queue (Terminal t) = []

-- The area that a real region shares, where an access reaches it.
abbrev pub shared_area : Option (ℕ × ℕ) → List CellId
shared_area None = []
shared_area (Some area) = Area area.0 ∷ []

-- The body of a region's row and the area that it shares.
abbrev pub reached : Generation → (row : ℕ) → (area : Option (ℕ × ℕ)) → List CellId
reached generation row area = Body generation.slot row ∷ shared_area area

-- The body that a window leads to, with the area that it shares; without a window none is reached.
abbrev pub reached_by : Generation → Option Window → (area : Option (ℕ × ℕ)) → List CellId
reached_by generation None area = []
reached_by generation (Some window) area = reached generation window.target area

-- The body of a row that is added or dropped: an alias has that of its target.
abbrev pub changed_body : Generation → (row : Option ℕ) → (target : Option (ℕ × ℕ)) → List CellId
changed_body generation None target = []
changed_body generation (Some row) None = Body generation.slot row ∷ []
changed_body generation (Some row) (Some target) = Body generation.slot target.0 ∷ []

-- A body is changed only where the addition, or the drop, is made.
abbrev pub if_made : Reply → List CellId → List CellId
if_made (reply.Add (Ok changes)) bodies = bodies
if_made (reply.Drop (Ok changes)) bodies = bodies
if_made r bodies = []

-- The body of a row that the guest's plan has.
abbrev pub row_body : Generation → (row : Option ℕ) → List CellId
row_body generation None = []
row_body generation (Some row) = Body generation.slot row ∷ []

-- A step on a guest begins at the directory, and where that refuses it nothing more is touched.
abbrev pub past_dir : Option Generation → (Generation → List CellId) → List CellId
past_dir None later = Dir ∷ []
past_dir (Some generation) later = Dir ∷ later generation

-- The same of a step that asks the directory only where it is by guest.
abbrev pub past_dir_if : Option ByGuest → List CellId → List CellId
past_dir_if None later = later
past_dir_if (Some guest) later = past_dir guest.generation (λ generation. later)

-- Two bodies of a guest, by row.
abbrev pub two_bodies : Generation → (row other : ℕ) → List CellId
two_bodies generation row other =
    if nat_lt row other
    then Body generation.slot row ∷ Body generation.slot other ∷ []
    else Body generation.slot other ∷ Body generation.slot row ∷ []

-- The body of the guest's clock while it is live.
abbrev pub clock_body : (slot : ℕ) → (clock : Option (ℕ × ℕ)) → List CellId
clock_body slot None = []
clock_body slot (Some clock) = Body slot clock.0 ∷ []

-- What a step touches, by its actor, its reply, what is handed over and the number of harts.
abbrev pub components : (harts : ℕ) → (by : ActorId) → Step → Reply → Carry → List CellId
components harts by (step.Bad s) r c = []
components harts by (step.Rest s) r c = []
components harts by (step.Ls s) r c = Files ∷ []
components harts by (step.Cat s) r c = Files ∷ []
components harts by (step.Dts s) r c = Files ∷ []
components harts by (step.Run s) r c = Files ∷ []
components harts by (step.Mkdir s) r c = Files ∷ []
components harts by (step.Rm s) r c = Files ∷ []
components harts by (step.Write s) r c = Files ∷ []
components harts by (step.Asm s) r c = Files ∷ []
components harts by (step.Guests s) r c = Dir ∷ []
components harts by (step.Name s) r c = Dir ∷ []
components harts by (step.Stage s) r c = Dir ∷ []
components harts by (step.Add s) r c =
    past_dir s.generation (λ g. Shelf ∷ Space g.slot ∷ if_made r (changed_body g c.row c.target))
components harts by (step.Drop s) r c =
    past_dir s.generation (λ g. Shelf ∷ Space g.slot ∷ if_made r (changed_body g c.row c.target))
components harts by (step.Regions s) r c = past_dir s.generation (λ g. Space g.slot ∷ [])
components harts by (step.Load s) r c = past_dir s.generation (λ g. Files ∷ Space g.slot ∷ reached_by g c.window c.area)
components harts by (step.Mem s) r c = past_dir s.generation (λ g. Space g.slot ∷ reached_by g c.window c.area)
components harts by (step.Devreset s) r c = past_dir s.generation (λ g. row_body g c.row)
components harts by (step.Feed s) r c = past_dir s.generation (λ g. row_body g c.row)
components harts by (step.Output s) r c = past_dir s.generation (λ g. row_body g c.row)
components harts by (step.Vadd s) r c = Vcpu s.vcpu ∷ []
components harts by (step.Vdrop s) r c = all_queues harts ++ Vcpu s.vcpu ∷ []
components harts by (step.Kick s) r c = past_dir_if s.guest (home_queue harts s.vcpu ∷ Vcpu s.vcpu ∷ [])
components harts by (step.Resume s) r c = past_dir_if s.guest (home_queue harts s.vcpu ∷ Vcpu s.vcpu ∷ [])
components harts by (step.Pause s) r c = past_dir_if s.guest (all_queues harts ++ Vcpu s.vcpu ∷ [])
components harts by (step.Halt s) r c = past_dir_if s.guest (all_queues harts ++ Vcpu s.vcpu ∷ [])
components harts by (step.Reset s) r c = past_dir_if s.guest (all_queues harts ++ Vcpu s.vcpu ∷ [])
components harts by (step.Look s) r c = Vcpu s.vcpu ∷ []
components harts by (step.Tick s) r c = Space s.slot ∷ clock_body s.slot c.clock
components harts by (step.Idle s) r c = own_queue by
components harts by (step.Dispatch s) r c = own_queue by ++ Vcpu s.vcpu ∷ []
components harts by (step.Preempt s) r c = own_queue by ++ Vcpu s.vcpu ∷ []
components harts by (step.Leave s) r c = Vcpu s.vcpu ∷ []
components harts by (step.Take s) r c = Vcpu s.vcpu ∷ []
components harts by (step.Fetch s) r c = Vcpu s.vcpu ∷ reached s.generation s.row c.area
components harts by (step.Access s) r c = Vcpu s.vcpu ∷ reached s.generation s.row c.area
components harts by (step.Fault s) r c = Space s.generation.slot ∷ Vcpu s.vcpu ∷ []
components harts by (step.Balance s) r c = all_queues harts ++ Vcpu 0 ∷ []
components harts by (step.Sample s) r c = two_bodies s.generation s.row s.parent
components harts by (step.Pin s) r c = home_queue harts s.vcpu ∷ Vcpu s.vcpu ∷ Body s.generation.slot s.row ∷ []
