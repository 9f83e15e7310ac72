-- The rules of the hypervisor: what each cell has, to which events it agrees, and what an event leaves in it.
use Rattle.std.specs.Prelude.{ℕ, List, ◌∷◌, map}
use Rattle.hv_machine.specs.Machine.{Rules, Machine}
use Rattle.hv_event.specs.declared.event.CellId.{CellId}
use Rattle.hv_event.specs.declared.event.CellId.TheVariants as component
use Rattle.hv_event.specs.declared.event.ActorId.TheVariants.{Hart, Terminal}
use Rattle.hv_dir.specs.Directory.{DirState}
use Rattle.hv_emu.specs.Device.{DevState}
use Rattle.hv_queue.specs.declared.entry.QueueEntry.{QueueEntry}
use Rattle.hv_rules.specs.Area.{AreaAgrees, area_after}
use Rattle.hv_rules.specs.Body.{BodyValue, BodyAgrees, body_after}
use Rattle.hv_rules.specs.Dir.{DirAgrees, dir_after}
use Rattle.hv_rules.specs.Footprint.{components}
use Rattle.hv_rules.specs.Queue.{QueueAgrees, queue_after}
use Rattle.hv_rules.specs.Shelf.{ShelfAgrees, shelf_after}
use Rattle.hv_rules.specs.Space.{SpaceAgrees, space_after}
use Rattle.hv_rules.specs.Vcpu.{VcpuAgrees, vcpu_after}
use Rattle.hv_space.specs.Space.{SpaceState}
use Rattle.hv_vcpu.specs.Vcpu.{VcpuValue}
use Rattle.hv_model.specs.Origin.{Origin}
use Rattle.hv_model.specs.Cell.{Cell, Component, Actor, same_cell}
use Rattle.hv_model.specs.CellLaws.{same_cell-self, same_cell-only}
use Rattle.hv_model.specs.Entry.{Entry}
use Rattle.hv_model.specs.Files.{FileMap, FilesAgree, files_after}
use Rattle.hv_model.specs.Hart.{HartState, HartAgrees, hart_after}
use Rattle.hv_model.specs.Terminal.{TerminalState, TerminalAgrees, terminal_after}

-- Each kind of cell has its kind of value.
abbrev pub Value : Cell → Type 0
Value (Component component.Dir) = DirState
Value (Component component.Shelf) = List DevState
Value (Component component.Files) = FileMap
Value (Component (component.Space slot)) = SpaceState
Value (Component (component.Queue hart)) = List QueueEntry
Value (Component (component.Vcpu vcpu)) = VcpuValue
Value (Component (component.Body slot row)) = BodyValue
Value (Component (component.Area area)) = List ℕ
Value (Actor (Hart h)) = HartState
Value (Actor (Terminal t)) = TerminalState

-- The components that an event touches, given the number of harts.
abbrev pub components_of : (harts : ℕ) → Entry → List CellId
components_of harts e = components harts e.event.actor e.event.step e.event.reply e.carry

-- An event touches its actor and its components.
abbrev pub footprint_of : (harts : ℕ) → Entry → List Cell
footprint_of harts e = Actor e.event.actor ∷ map Component (components_of harts e)

-- Each cell agrees by the rule of its kind.
abbrev pub IsAllowedAt : (x : Cell) → Value x → Entry → Type 0
IsAllowedAt (Component component.Dir) d e = DirAgrees d e.event.step e.event.reply e.carry
IsAllowedAt (Component component.Shelf) devices e = ShelfAgrees devices e.event.step e.event.reply e.carry
IsAllowedAt (Component component.Files) m e = FilesAgree m e.event.step e.event.reply e.carry
IsAllowedAt (Component (component.Space slot)) space e = SpaceAgrees space e.event.step e.event.reply e.carry
IsAllowedAt (Component (component.Queue hart)) queue e = QueueAgrees hart queue e.event.step e.event.reply e.carry
IsAllowedAt (Component (component.Vcpu vcpu)) v e = VcpuAgrees e.event.actor v e.event.step e.event.reply e.carry
IsAllowedAt (Component (component.Body slot row)) body e = BodyAgrees row body e.event.step e.event.reply e.carry
IsAllowedAt (Component (component.Area area)) bytes e = AreaAgrees bytes e.event.step e.event.reply e.carry
IsAllowedAt (Actor (Hart h)) hart e = HartAgrees h hart e
IsAllowedAt (Actor (Terminal t)) s e = TerminalAgrees s e

-- Each cell changes by the rule of its kind.
abbrev pub apply_at : (x : Cell) → Value x → Entry → Value x
apply_at (Component component.Dir) d e = dir_after d e.event.step e.event.reply e.carry
apply_at (Component component.Shelf) devices e = shelf_after devices e.event.step e.event.reply e.carry
apply_at (Component component.Files) m e = files_after m e.event.step e.event.reply
apply_at (Component (component.Space slot)) space e = space_after space e.event.step e.event.reply e.carry
apply_at (Component (component.Queue hart)) queue e = queue_after hart queue e.event.step e.event.reply e.carry
apply_at (Component (component.Vcpu vcpu)) v e = vcpu_after e.event.actor v e.event.step e.event.reply e.carry
apply_at (Component (component.Body slot row)) body e = body_after row body e.event.step e.event.reply e.carry
apply_at (Component (component.Area area)) bytes e = area_after bytes e.event.step e.event.reply e.carry
apply_at (Actor (Hart h)) hart e = hart_after hart e
apply_at (Actor (Terminal t)) s e = terminal_after s e

-- The rules don't depend on what a run begins with.
abbrev pub rules : Rules
rules = record {
  Cell = Cell;
  Event = Entry;
  stamp = λ e. e.event.stamp;
  Value = Value;
  IsAllowedAt = IsAllowedAt;
  apply_at = apply_at;
}

-- The machine of an origin takes its number of harts from it.
abbrev pub machine : Origin → Machine
machine O = record {
  rules = rules;
  actor = λ e. Actor e.event.actor;
  footprint = footprint_of O.opening.harts;
  same = same_cell;
  same_self = same_cell-self;
  same_only = same_cell-only;
}
