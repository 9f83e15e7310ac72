-- Kinds of parts, and the values that they have in the abstract machine.
use Rattle.std.proofs.Common.{◌≡◌, ℕ, refl, ap}
use Rattle.hv_event.specs.declared.event.CellId.{CellId}
use Rattle.hv_event.specs.declared.event.CellId.TheVariants as component
use Rattle.hv_model.specs.Cell.{Component}
use Rattle.hv_model.specs.declared.entry.Entry.{Entry}
use Rattle.hv_model.specs.Rules.{Value, IsAllowedAt, apply_at}
use Rattle.hv_parts.specs.Kinds.{IsPartOf}
use Rattle.hv_parts.specs.Takes.{PartTakes}
use Rattle.hv_parts.specs.Value.{PartValue, Dir, Shelf, Files, Space, Queue, Vcpu, Body, Area}
use Rattle.hv_board.specs.Holds.{part_value}

-- A value of the abstract machine is of the kind of its component.
pub value-kind : (x : CellId) (v : Value (Component x)) → IsPartOf x (part_value x v)
value-kind component.Dir v = tt
value-kind component.Shelf v = tt
value-kind component.Files v = tt
value-kind (component.Space slot) v = tt
value-kind (component.Queue hart) v = tt
value-kind (component.Vcpu vcpu) v = tt
value-kind (component.Body slot row) v = tt
value-kind (component.Area area) v = tt

-- What is of the kind of a component is one of its values there.
pub kind-value : (x : CellId) (q : PartValue) → IsPartOf x q → (v : Value (Component x)) × (q ≡ part_value x v)
kind-value component.Dir (Dir v) is = (v, refl)
kind-value component.Shelf (Shelf v) is = (v, refl)
kind-value component.Files (Files v) is = (v, refl)
kind-value (component.Space slot) (Space v) is = (v, refl)
kind-value (component.Queue hart) (Queue v) is = (v, refl)
kind-value (component.Vcpu vcpu) (Vcpu v) is = (v, refl)
kind-value (component.Body slot row) (Body v) is = (v, refl)
kind-value (component.Area area) (Area v) is = (v, refl)
kind-value x q is = absurd is

-- A component that takes a step agrees to its event, and is left as the event leaves it.
pub part-agrees : (x : CellId) (v : Value (Component x)) (e : Entry) (q : PartValue) → PartTakes e.event.actor x e.event.step e.event.reply e.carry (part_value x v) q
    → IsAllowedAt (Component x) v e × (q ≡ part_value x (apply_at (Component x) v e))
part-agrees component.Dir v e (Dir q) t = (t.agrees, ap Dir t.after)
part-agrees component.Shelf v e (Shelf q) t = (t.agrees, ap Shelf t.after)
part-agrees component.Files v e (Files q) t = (t.agrees, ap Files t.after)
part-agrees (component.Space slot) v e (Space q) t = (t.agrees, ap Space t.after)
part-agrees (component.Queue hart) v e (Queue q) t = (t.agrees, ap Queue t.after)
part-agrees (component.Vcpu vcpu) v e (Vcpu q) t = (t.agrees, ap Vcpu t.after)
part-agrees (component.Body slot row) v e (Body q) t = (t.agrees, ap Body t.after)
part-agrees (component.Area area) v e (Area q) t = (t.agrees, ap Area t.after)
part-agrees x v e q t = absurd t

-- Components of one kind have parts of one kind.
pub any-space : (slot : ℕ) (q : PartValue) → IsPartOf (component.Space slot) q → IsPartOf (component.Space 0) q
any-space slot (Space v) is = tt
any-space slot q is = absurd is

pub any-queue : (hart : ℕ) (q : PartValue) → IsPartOf (component.Queue hart) q → IsPartOf (component.Queue 0) q
any-queue hart (Queue v) is = tt
any-queue hart q is = absurd is

pub any-vcpu : (vcpu : ℕ) (q : PartValue) → IsPartOf (component.Vcpu vcpu) q → IsPartOf (component.Vcpu 0) q
any-vcpu vcpu (Vcpu v) is = tt
any-vcpu vcpu q is = absurd is

pub any-body : (slot row : ℕ) (q : PartValue) → IsPartOf (component.Body slot row) q → IsPartOf (component.Body 0 0) q
any-body slot row (Body v) is = tt
any-body slot row q is = absurd is

pub any-area : (area : ℕ) (q : PartValue) → IsPartOf (component.Area area) q → IsPartOf (component.Area 0) q
any-area area (Area v) is = tt
any-area area q is = absurd is
