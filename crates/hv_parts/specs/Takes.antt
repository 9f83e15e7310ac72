-- When components of any kind take a step.
use Rattle.std.specs.Prelude.{◌≡◌, ℕ, List, [], ◌∷◌, map}
use Rattle.hv_answer.specs.declared.reply.Reply.{Reply}
use Rattle.hv_event.specs.declared.event.ActorId.{ActorId}
use Rattle.hv_event.specs.declared.event.CellId.{CellId}
use Rattle.hv_event.specs.declared.event.CellId.TheVariants as component
use Rattle.hv_emu.specs.Device.{DevState}
use Rattle.hv_handed.specs.Given.{given}
use Rattle.hv_handed.specs.Takes.{DirTakes, ShelfTakes, SpaceTakes, QueueTakes, VcpuTakes, BodyTakes, AreaTakes}
use Rattle.hv_handed.specs.Told.{IsTold}
use Rattle.hv_handed.specs.declared.told.Made.{Made}
use Rattle.hv_model.specs.Files.{FileMap, FilesAgree, files_after}
use Rattle.hv_rules.specs.Carry.{Carry}
use Rattle.hv_rules.specs.Footprint.{components}
use Rattle.hv_rules.specs.Handed.{handed_over}
use Rattle.hv_step.specs.declared.step.Step.{Step}
use Rattle.hv_parts.specs.declared.part.Part.{Part}
use Rattle.hv_parts.specs.Value.{PartValue, valued, Dir, Shelf, Files, Space, Queue, Vcpu, Body, Area}

-- The files take a step.
pub record FilesTake (s : Step) (r : Reply) (c : Carry) (old new : FileMap) : Type 0 where
  pub agrees : FilesAgree old s r c
  pub after : new ≡ files_after old s r

-- A component takes a step of an actor as its kind does.
abbrev pub PartTakes : (by : ActorId) → CellId → Step → Reply → Carry → (old new : PartValue) → Type 0
PartTakes by component.Dir s r c (Dir old) (Dir new) = DirTakes s r c old new
PartTakes by component.Shelf s r c (Shelf old) (Shelf new) = ShelfTakes s r c old new
PartTakes by component.Files s r c (Files old) (Files new) = FilesTake s r c old new
PartTakes by (component.Space slot) s r c (Space old) (Space new) = SpaceTakes s r c old new
PartTakes by (component.Queue hart) s r c (Queue old) (Queue new) = QueueTakes hart s r c old new
PartTakes by (component.Vcpu vcpu) s r c (Vcpu old) (Vcpu new) = VcpuTakes by s r c old new
PartTakes by (component.Body slot row) s r c (Body old) (Body new) = BodyTakes row s r c old new
PartTakes by (component.Area area) s r c (Area old) (Area new) = AreaTakes s r c old new
PartTakes by x s r c old new = ⊥

-- Each of some components takes a step of an actor.
abbrev pub AllTake : (by : ActorId) → List CellId → Step → Reply → Carry → (old new : List PartValue) → Type 0
AllTake by [] s r c [] [] = Unit {0}
AllTake by (x ∷ xs) s r c (old ∷ olds) (new ∷ news) = PartTakes by x s r c old new × AllTake by xs s r c olds news
AllTake by xs s r c olds news = ⊥

-- A step of an actor was made at these components: they are those that it touches, each takes it, it hands over what its
-- row names alone, and its actor learns of that what it has to.
pub record IsMadeAt {E : Type 0} (state : E → DevState) (harts : ℕ) (by : ActorId) (xs : List CellId) (s : Step) (made : Made E) (old new : List (Part E)) : Type 0 where
  pub touched : components harts by s made.reply (given state made.handed.value) ≡ xs
  pub taken :
      AllTake by xs s made.reply (given state made.handed.value) (map (valued state) old) (map (valued state) new)
  pub alone : handed_over s (given state made.handed.value) ≡ given state made.handed.value
  pub told : IsTold (given state made.handed.value) made.told

-- A step of any actor was made at these components, which are some of those that it touches.
pub record IsTakenAt {E : Type 0} (state : E → DevState) (xs : List CellId) (s : Step) (made : Made E) (old new : List (Part E)) : Type 0 where
  pub taken :
      (by : ActorId)
      → AllTake by xs s made.reply (given state made.handed.value) (map (valued state) old) (map (valued state) new)
  pub alone : handed_over s (given state made.handed.value) ≡ given state made.handed.value
  pub told : IsTold (given state made.handed.value) made.told
