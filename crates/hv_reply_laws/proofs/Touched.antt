-- What the components say that an entry touches.
use Rattle.std.proofs.Common.{◌≡◌, ℕ, ◌⊎◌, inl, inr, refl, sym, ap, subst, ◌∙◌, List, [], ◌∷◌, map, Option, None, Some, Result, Ok, Err}
use Rattle.std.specs.List.{AllByRecursion}
use Rattle.hv_answer.specs.declared.reply.Reply.{Reply}
use Rattle.hv_event.specs.declared.event.ActorId.{ActorId}
use Rattle.hv_event.specs.declared.event.CellId.{CellId}
use Rattle.hv_event.specs.declared.event.CellId.TheVariants as component
use Rattle.hv_kinds.specs.declared.generation.Generation.{Generation}
use Rattle.hv_machine.specs.Machine.{MayHappen, State}
use Rattle.hv_model.specs.Cell.{Cell, Component}
use Rattle.hv_model.specs.declared.entry.Entry.{Entry}
use Rattle.hv_model.specs.Files.{FilesAgree}
use Rattle.hv_model.specs.Origin.{Origin}
use Rattle.hv_model.specs.Rules.{IsAllowedAt, components_of, machine}
use Rattle.hv_refusal.specs.declared.refusal.Refusal.{Refusal}
use Rattle.hv_rules.specs.Area.{AreaAgrees}
use Rattle.hv_rules.specs.Body.{BodyAgrees}
use Rattle.hv_rules.specs.Carry.{Carry}
use Rattle.hv_rules.specs.Dir.{Admits, DirAgrees, region_alone}
use Rattle.hv_rules.specs.Footprint.{components, past_dir}
use Rattle.hv_rules.specs.Queue.{QueueAgrees}
use Rattle.hv_rules.specs.Shelf.{ShelfAgrees}
use Rattle.hv_rules.specs.Space.{SpaceAgrees}
use Rattle.hv_rules.specs.Vcpu.{VcpuAgrees}
use Rattle.hv_step.specs.declared.step.Step.{Step}

-- A step that the directory admits, with what later components say, or one that it refuses.
pub record IsAdmitted (P : CellId → Type 0) (given : Result Generation Refusal) (shown : Option Generation) (later : Generation → List CellId) : Type 0 where
  pub guest : Generation
  pub is : given ≡ Ok guest
  pub shows : shown ≡ Some guest
  pub agree : AllByRecursion P (later guest)

pub record IsRefused (given : Result Generation Refusal) (shown : Option Generation) (refused : Refusal → Reply) (r : Reply) (c : Carry) : Type 0 where
  pub why : Refusal
  pub is : given ≡ Err why
  pub none : shown ≡ None
  pub reply : r ≡ refused why
  pub carry : c ≡ region_alone c

first-of : (P : CellId → Type 0) (shown : Option Generation) (later : Generation → List CellId) → AllByRecursion P (past_dir shown later) → P component.Dir
first-of P None later all = all.0
first-of P (Some guest) later all = all.0

pub past : (P : CellId → Type 0) (given : Result Generation Refusal) (shown : Option Generation) (later : Generation → List CellId) (refused : Refusal → Reply) (r : Reply) (c : Carry)
    → AllByRecursion P (past_dir shown later) → (P component.Dir → Admits given shown refused r c)
    → IsAdmitted P given shown later ⊎ IsRefused given shown refused r c
past P (Ok guest) shown later refused r c all says =
    let shows = says (first-of P shown later all) in
    let agree = subst (λ (o : Option Generation). AllByRecursion P (past_dir o later)) shows all in
    inl (record { guest = guest; is = refl; shows = shows; agree = agree.1 })
past P (Err why) shown later refused r c all says =
    let admits = says (first-of P shown later all) in
    inr (record { why = why; is = refl; none = admits.0; reply = admits.1; carry = admits.2 })

module _ (O : Origin) (s : State (machine O)) where
  -- a component agrees to a step
  abbrev pub Agrees : (by : ActorId) → Step → Reply → Carry → CellId → Type 0
  Agrees by st r c component.Dir = DirAgrees (s (Component component.Dir)).value st r c
  Agrees by st r c component.Shelf = ShelfAgrees (s (Component component.Shelf)).value st r c
  Agrees by st r c component.Files = FilesAgree (s (Component component.Files)).value st r c
  Agrees by st r c (component.Space slot) = SpaceAgrees (s (Component (component.Space slot))).value st r c
  Agrees by st r c (component.Queue hart) = QueueAgrees hart (s (Component (component.Queue hart))).value st r c
  Agrees by st r c (component.Vcpu vcpu) = VcpuAgrees by (s (Component (component.Vcpu vcpu))).value st r c
  Agrees by st r c (component.Body slot row) = BodyAgrees row (s (Component (component.Body slot row))).value st r c
  Agrees by st r c (component.Area area) = AreaAgrees (s (Component (component.Area area))).value st r c

  agrees-at : (e : Entry) (x : CellId) → IsAllowedAt (Component x) (s (Component x)).value e → Agrees e.event.actor e.event.step e.event.reply e.carry x
  agrees-at e component.Dir is = is
  agrees-at e component.Shelf is = is
  agrees-at e component.Files is = is
  agrees-at e (component.Space slot) is = is
  agrees-at e (component.Queue hart) is = is
  agrees-at e (component.Vcpu vcpu) is = is
  agrees-at e (component.Body slot row) is = is
  agrees-at e (component.Area area) is = is

  all-agree : (e : Entry) (xs : List CellId) → AllByRecursion (λ (x : Cell). IsAllowedAt x (s x).value e) (map Component xs)
      → AllByRecursion (Agrees e.event.actor e.event.step e.event.reply e.carry) xs
  all-agree e [] all = tt
  all-agree e (x ∷ xs) all = (agrees-at e x all.0, all-agree e xs all.1)

  -- each component that an entry touches agrees to it, where the entry may happen
  pub touched-agree : (e : Entry) → MayHappen (machine O) s e
      → AllByRecursion (Agrees e.event.actor e.event.step e.event.reply e.carry) (components_of O.opening.harts e)
  touched-agree e may = all-agree e (components_of O.opening.harts e) may.agreed.1
