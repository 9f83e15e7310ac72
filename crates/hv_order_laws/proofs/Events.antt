-- An event is a step of what lines see.
use Rattle.std.proofs.Common.{◌≡◌, ℕ, suc, ◌==◌, eq-eqb, eqb-true, ◌⊎◌, inl, inr, Bool, true, false, ◌||◌, refl, sym, ap, subst, ◌∙◌, List, [], ◌∷◌, ◌++◌, map, find, Option, None, Some, Ok, Err, is_some, Result}
use Rattle.std.specs.List.{AllByRecursion, list_any}
use Rattle.std.specs.Option.{option_map_or}
use Rattle.std.specs.Prelude.{IsSomeAnd}
use Rattle.std.proofs.lemmas.Option.{same_Some}
use Rattle.hv_answer.specs.declared.reply.Reply.{Reply}
use Rattle.hv_answer.specs.declared.reply.Reply.TheVariants as reply
use Rattle.hv_dir.specs.Directory.{DirState, entry_of}
use Rattle.hv_dir.specs.declared.entry.Entry.{Entry}
use Rattle.hv_emu.specs.Device.{DevState}
use Rattle.hv_event.specs.declared.event.ActorId.{ActorId}
use Rattle.hv_event.specs.declared.event.CellId.{CellId}
use Rattle.hv_event.specs.declared.event.CellId.TheVariants as component
use Rattle.hv_kinds.specs.declared.generation.Generation.{Generation}
use Rattle.hv_kinds.specs.declared.stage.Stage.{Stage}
use Rattle.hv_laws.specs.Board.{Becomes}
use Rattle.hv_laws.proofs.Frame.{after-step, or-false, or-true, touched as touched-by}
use Rattle.hv_laws.proofs.Legal.{cell-becomes}
use Rattle.hv_machine.specs.Machine.{MayHappen, State, next_state, touches}
use Rattle.hv_model.specs.Cell.{Actor, Component, same_cell}
use Rattle.hv_model.specs.declared.entry.Entry.{Entry as EventEntry}
use Rattle.hv_model.specs.Origin.{Origin}
use Rattle.hv_model.specs.Rules.{machine}
use Rattle.hv_refusal.specs.declared.refusal.Refusal.{Refusal}
use Rattle.hv_region.specs.declared.plan.RegionPlan.{RegionPlan}
use Rattle.hv_region.specs.declared.plan.VcpuPlan.{VcpuPlan}
use Rattle.hv_region.specs.declared.window.Window.{Window}
use Rattle.hv_rules.specs.Carry.{Carry}
use Rattle.hv_dir.specs.Directory.{guest_at}
use Rattle.hv_dir.specs.declared.refusal.DirRefusal.{DirRefusal}
use Rattle.hv_rules.specs.Dir.{admitted as dir_admitted}
use Rattle.hv_rules.specs.Dir.{Admits, DirAgrees, dir_after, generation_of, guest_in, with_region}
use Rattle.hv_rules.specs.Footprint.{all_queues, changed_body, components, if_made}
use Rattle.hv_rules.specs.Line.{learnt}
use Rattle.hv_rules.specs.Shelf.{Gives, ShelfAgrees, device_for, is_added, shelf_after, unless_stopped}
use Rattle.hv_rules.specs.Space.{AgreesToAdd, AgreesToDrop, SpaceAgrees, is_dropped, is_of, space_after, with_region as space_with, without_region}
use Rattle.hv_rules.specs.Vcpu.{AgreesToAdd as AgreesToAddVcpu, VcpuAgrees, vcpu_after}
use Rattle.hv_rules.specs.Windows.{region_of}
use Rattle.hv_space.specs.Space.{SpaceState}
use Rattle.hv_step.specs.declared.step.Step.{Step}
use Rattle.hv_step.specs.declared.step.Step.TheVariants as step
use Rattle.hv_vcpu.specs.Vcpu.{VcpuValue, birth_of}
use Rattle.hv_order_laws.specs.Orders.{scene_of}
use Rattle.hv_order_laws.proofs.Births.{Adds, drops-birth, vcpu-birth}
use Rattle.hv_order_laws.proofs.Directory.{Claims, Stays, Turns as StageTurns, admits, is-given, name-cases, stage-cases}
use Rattle.hv_order_laws.proofs.Steps.{Added, DirBecomes, Dropped, HadNone, IsNewVcpu, IsQuiet, SceneStep, VcpusBecome, WindowsBecome}
use Rattle.hv_order_laws.proofs.Windows.{all-map, none-found}

-- the directory

claims-as : (d after : DirState) (name : List ℕ) (r : Reply) (c : Carry) → after ≡ dir_after d (step.Name (record { name = name })) r c
    → Claims d name r (dir_after d (step.Name (record { name = name })) r c) ⊎ ((why : Refusal) × (r ≡ reply.Name (Err why)))
    → Claims d name r after ⊎ ((why : Refusal) × (r ≡ reply.Name (Err why)) × (after ≡ d))
claims-as d after name r c is (inl claims) = inl (subst (Claims d name r) (sym is) claims)
claims-as d after name r c is (inr refused) = inr (refused.0, refused.1, is ∙ ap (λ (x : Reply). dir_after d (step.Name (record { name = name })) x c) refused.1)

turns-as : (d after now : DirState) (name : List ℕ) (from : Stage) (to : Option Stage) (r : Reply) (c : Carry) → after ≡ now
    → StageTurns d name from to r c now ⊎ Stays d name from r now → StageTurns d name from to r c after ⊎ Stays d name from r after
turns-as d after now name from to r c is (inl turns) = inl (subst (StageTurns d name from to r c) (sym is) turns)
turns-as d after now name from to r c is (inr stays) = inr (subst (Stays d name from r) (sym is) stays)

module _ (harts : ℕ) (by : ActorId) where
  abbrev touched : CellId → Step → Reply → Carry → Bool
  touched k x r c = list_any (same_cell (Component k)) (Actor by ∷ map Component (components harts by x r c))

  dir-becomes : (d after : DirState) (x : Step) (r : Reply) (c : Carry) → Becomes (touched component.Dir x r c) (DirAgrees d x r c) (dir_after d x r c) d after → DirBecomes d after x r c
  dir-becomes d after (step.Name x) r c becomes = claims-as d after x.name r c becomes.1 (name-cases d x.name r c becomes.0)
  dir-becomes d after (step.Stage x) r c becomes = turns-as d after _ x.name x.from x.to r c becomes.1 (stage-cases d x.name x.from x.to r c becomes.0)
  dir-becomes d after x r c becomes = after-step (λ (y : DirState). y ≡ d) (touched component.Dir x r c) (DirAgrees d x r c) (dir_after d x r c) d after becomes (λ t ok. refl) (λ t. refl)

  -- the space of a slot, among what an addition or a removal touches

  no-body : (slot : ℕ) (g : Generation) (row : Option ℕ) (target : Option (ℕ × ℕ)) → list_any (same_cell (Component (component.Space slot))) (map Component (changed_body g row target)) ≡ false
  no-body slot g None target = refl
  no-body slot g (Some row) None = refl
  no-body slot g (Some row) (Some target) = refl

  no-made : (slot : ℕ) (g : Generation) (r : Reply) (row : Option ℕ) (target : Option (ℕ × ℕ)) → list_any (same_cell (Component (component.Space slot))) (map Component (if_made r (changed_body g row target))) ≡ false
  no-made slot g (reply.Add (Ok changes)) row target = no-body slot g row target
  no-made slot g (reply.Drop (Ok changes)) row target = no-body slot g row target
  no-made slot g _ row target = refl

  own-slot : (slot : ℕ) (g : Generation) (b : Bool) → b ≡ false → ((slot == g.slot) || b) ≡ true → slot ≡ g.slot
  own-slot slot g b none is = eqb-true slot g.slot (sym (or-false (slot == g.slot)) ∙ ap (λ (y : Bool). (slot == g.slot) || y) (sym none) ∙ is)

  other-slot : (slot : ℕ) (g : Generation) (b : Bool) → b ≡ false → ((slot == g.slot) || b) ≡ false → slot ≡ g.slot → ⊥
  other-slot slot g b none is same =
      let never : true ≡ false = sym (eq-eqb slot g.slot same) ∙ sym (or-false (slot == g.slot)) ∙ ap (λ (y : Bool). (slot == g.slot) || y) (sym none) ∙ is in cc

  -- an addition

  module _ (d : DirState) (name region : List ℕ) (stage : Stage) (r : Reply) (c : Carry) where
    abbrev adds : Option Generation → Step
    adds given = step.Add (record { name = name; region = region; stage = stage; generation = given })

    abbrev AddedIn : (slot : ℕ) → List Window → List Window → Type 0
    AddedIn slot ws after = (after ≡ ws) ⊎ Added d slot ws after name stage r c

    abbrev AdmitsAdd : Option Generation → Type 0
    AdmitsAdd given = Admits (with_region c.row (guest_in d name stage)) given (λ why. reply.Add (Err why)) r c

    -- what isn't refused has no reason to be
    not-stopped : (stopped : Option Refusal) (devices : List DevState) (plan : RegionPlan × ℕ) → is_added r ≡ true → Gives (unless_stopped stopped (device_for devices plan.0.form)) r c → stopped ≡ None
    not-stopped None devices plan added gives = refl
    not-stopped (Some why) devices plan added gives = absurd (let never : true ≡ false = sym added ∙ ap is_added gives.0 in cc)

    made-at : (slot : ℕ) (g : Generation) (devices : List DevState) (space : SpaceState) (row : Option ℕ) (plan : Option (RegionPlan × ℕ)) → slot ≡ g.slot → c.row ≡ row → c.plan ≡ plan → is_added r ≡ true
        → IsSomeAnd (region_of (Some g) row plan) (λ region. AgreesToAdd space.windows region c)
        → Admits (with_region row (guest_in d name stage)) (Some g) (λ why. reply.Add (Err why)) r c
        → IsSomeAnd plan (λ plan. Gives (unless_stopped c.stopped (device_for devices plan.0.form)) r c)
        → AddedIn slot space.windows (option_map_or (space_with space c.target) (region_of (Some g) row plan) space).windows
    made-at slot g devices space None plan here row-is plan-is added agreed admitted shelf = absurd agreed
    made-at slot g devices space (Some row) None here row-is plan-is added agreed admitted shelf = absurd agreed
    made-at slot g devices space (Some row) (Some plan) here row-is plan-is added agreed admitted shelf = inr (record {
      guest = g;
      in_slot = sym here;
      admitted = admits d name stage row g (λ why. reply.Add (Err why)) r c admitted;
      region = record { birth = g.birth; row = row; plan = plan.0; vcpus = plan.1 };
      count = plan.1;
      row = row-is;
      plan = plan-is;
      free = sym agreed.0 ∙ not-stopped c.stopped devices plan added shelf;
      target = agreed.1;
      after_is = refl;
      added = added;
    })

  add-at : (d : DirState) (name region : List ℕ) (stage : Stage) (r : Reply) (c : Carry) (slot : ℕ) (g : Generation) (devices : List DevState) (space : SpaceState) → slot ≡ g.slot
      → SpaceAgrees space (adds d name region stage r c (Some g)) r c → AdmitsAdd d name region stage r c (Some g) → ShelfAgrees devices (adds d name region stage r c (Some g)) r c
      → AddedIn d name region stage r c slot space.windows (space_after space (adds d name region stage r c (Some g)) r c).windows
  add-at d name region stage (reply.Add (Ok changes)) c slot g devices space here agreed admitted shelf =
      made-at d name region stage (reply.Add (Ok changes)) c slot g devices space c.row c.plan here refl refl refl agreed admitted shelf
  add-at d name region stage _ c slot g devices space here agreed admitted shelf = inl refl

  windows-add : (d after-dir : DirState) (devices after-devices : List DevState) (space after : SpaceState) (slot : ℕ) (name region : List ℕ) (stage : Stage) (given : Option Generation) (r : Reply) (c : Carry)
      → Becomes (touched component.Dir (adds d name region stage r c given) r c) (DirAgrees d (adds d name region stage r c given) r c) (dir_after d (adds d name region stage r c given) r c) d after-dir
      → Becomes (touched component.Shelf (adds d name region stage r c given) r c) (ShelfAgrees devices (adds d name region stage r c given) r c) (shelf_after devices (adds d name region stage r c given) r c) devices after-devices
      → Becomes (touched (component.Space slot) (adds d name region stage r c given) r c) (SpaceAgrees space (adds d name region stage r c given) r c) (space_after space (adds d name region stage r c given) r c) space after
      → AddedIn d name region stage r c slot space.windows after.windows
  windows-add d after-dir devices after-devices space after slot name region stage None r c dir shelf becomes = inl (ap (λ (y : SpaceState). y.windows) becomes)
  windows-add d after-dir devices after-devices space after slot name region stage (Some g) r c dir shelf becomes =
      let x = adds d name region stage r c (Some g) in
      after-step (λ (y : SpaceState). AddedIn d name region stage r c slot space.windows y.windows) (touched (component.Space slot) x r c) (SpaceAgrees space x r c) (space_after space x r c) space after becomes
      (λ t ok. add-at d name region stage r c slot g devices space (own-slot slot g _ (no-made slot g r c.row c.target) t) ok dir.0 shelf.0)
      (λ t. inl refl)

  -- a removal

  module _ (d : DirState) (name region : List ℕ) (stage : Stage) (c : Carry) where
    abbrev drops : Option Generation → Step
    drops given = step.Drop (record { name = name; region = region; stage = stage; generation = given })

    abbrev DroppedIn : (slot : ℕ) → List Window → List Window → Type 0
    DroppedIn slot ws after = Dropped d slot ws after name stage c ⊎ HadNone d slot ws after name stage c

    abbrev AdmitsDrop : Option ℕ → Option Generation → Reply → Type 0
    AdmitsDrop row given r = Admits (with_region row (guest_in d name stage)) given (λ why. reply.Drop (Err why)) r c

    -- the guest that is admitted is shown
    shown-is : (row : ℕ) (e : Entry) (given : Option Generation) (r : Reply) → entry_of d name ≡ Some e → e.stage ≡ stage → AdmitsDrop (Some row) given r → given ≡ Some (generation_of (e.slot, e.birth))
    shown-is row e given r of staged admitted =
        let found = subst (λ (x : Stage). guest_at d name x ≡ Ok (e.slot, e.birth)) staged (is-given d name e of) in
        subst (λ (g : Result (ℕ × ℕ) DirRefusal). Admits (with_region (Some row) (dir_admitted g)) given (λ why. reply.Drop (Err why)) r c) found admitted

    elsewhere : (slot : ℕ) (given : Option Generation) (r : Reply) (space : SpaceState) → AdmitsDrop c.row given r → ((g : Generation) → given ≡ Some g → slot ≡ g.slot → ⊥)
        → HadNone d slot space.windows space.windows name stage c
    elsewhere slot given r space admitted other = record {
      after_is = refl;
      none = λ row e row-is of staged here.
          let shown = shown-is row e given r of staged (subst (λ (o : Option ℕ). AdmitsDrop o given r) row-is admitted) in
          absurd (other (generation_of (e.slot, e.birth)) shown (sym here));
    }

    owner-else : (row k : ℕ) (ws : List Window) → Some row ≡ Some k → find (is_of row) ws ≡ None → AllByRecursion (λ w. w.owner ≡ k → ⊥) ws
    owner-else row k ws same none =
        all-map (λ (w : Window). is_of row w ≡ false) (λ (w : Window). w.owner ≡ k → ⊥) ws
        (λ w isnt is. let never : true ≡ false = sym (eq-eqb w.owner row (is ∙ sym (same_Some row k same))) ∙ isnt in cc) (none-found (is_of row) ws none)

    at-row : (slot : ℕ) (g : Generation) (space : SpaceState) (row : Option ℕ) (found : Option Window) (r : Reply) → slot ≡ g.slot → c.row ≡ row
        → IsSomeAnd row (λ row. (find (is_of row) space.windows ≡ found) × AgreesToDrop found r c.target) → AdmitsDrop row (Some g) r
        → DroppedIn slot space.windows (space_after space (drops (Some g)) r c).windows
    at-row slot g space None found r here row-is agreed admitted = absurd agreed
    at-row slot g space (Some row) None r here row-is agreed admitted =
        inr (record {
          after_is = ap (λ (x : Reply). (space_after space (drops (Some g)) x c).windows) agreed.1.0;
          none = λ k e is of staged there. owner-else row k space.windows (sym row-is ∙ is) agreed.0;
        })
    at-row slot g space (Some row) (Some w) (reply.Drop (Ok changes)) here row-is agreed admitted =
        inl (record {
          guest = g;
          in_slot = sym here;
          admitted = admits d name stage row g (λ why. reply.Drop (Err why)) (reply.Drop (Ok changes)) c admitted;
          row = row;
          row_is = row-is;
          after_is = ap (λ (o : Option ℕ). (option_map_or (without_region space) o space).windows) row-is;
        })
    at-row slot g space (Some row) (Some w) _ here row-is agreed admitted = absurd (let never = agreed.1.0 in cc never)

    row-found : (ws : List Window) (row : Option ℕ) (r : Reply) (target : Option (ℕ × ℕ)) → IsSomeAnd row (λ row. AgreesToDrop (find (is_of row) ws) r target) → (k : ℕ) × (row ≡ Some k)
    row-found ws None r target agreed = absurd agreed
    row-found ws (Some k) r target agreed = (k, refl)

  drop-at : (d : DirState) (name region : List ℕ) (stage : Stage) (c : Carry) (slot : ℕ) (g : Generation) (space : SpaceState) (r : Reply) → slot ≡ g.slot
      → SpaceAgrees space (drops d name region stage c (Some g)) r c → AdmitsDrop d name region stage c c.row (Some g) r
      → DroppedIn d name region stage c slot space.windows (space_after space (drops d name region stage c (Some g)) r c).windows
  drop-at d name region stage c slot g space r here agreed admitted =
      let found = row-found d name region stage c space.windows c.row r c.target agreed in
      let at : AgreesToDrop (find (is_of found.0) space.windows) r c.target = subst (λ (o : Option ℕ). IsSomeAnd o (λ row. AgreesToDrop (find (is_of row) space.windows) r c.target)) found.1 agreed in
      at-row d name region stage c slot g space (Some found.0) (find (is_of found.0) space.windows) r here found.1 (refl, at) (subst (λ (o : Option ℕ). AdmitsDrop d name region stage c o (Some g) r) found.1 admitted)

  windows-drop : (d after-dir : DirState) (space after : SpaceState) (slot : ℕ) (name region : List ℕ) (stage : Stage) (given : Option Generation) (r : Reply) (c : Carry)
      → Becomes (touched component.Dir (drops d name region stage c given) r c) (DirAgrees d (drops d name region stage c given) r c) (dir_after d (drops d name region stage c given) r c) d after-dir
      → Becomes (touched (component.Space slot) (drops d name region stage c given) r c) (SpaceAgrees space (drops d name region stage c given) r c) (space_after space (drops d name region stage c given) r c) space after
      → DroppedIn d name region stage c slot space.windows after.windows
  windows-drop d after-dir space after slot name region stage None r c dir becomes =
      inr (subst (λ (y : SpaceState). HadNone d slot space.windows y.windows name stage c) (sym becomes)
      (elsewhere d name region stage c slot None r space dir.0 (λ g is here. let never : None ≡ Some g = is in cc)))
  windows-drop d after-dir space after slot name region stage (Some g) r c dir becomes =
      let x = drops d name region stage c (Some g) in
      after-step (λ (y : SpaceState). DroppedIn d name region stage c slot space.windows y.windows) (touched (component.Space slot) x r c) (SpaceAgrees space x r c) (space_after space x r c) space after becomes
      (λ t ok. drop-at d name region stage c slot g space r (own-slot slot g _ (no-made slot g r c.row c.target) t) ok dir.0)
      (λ t. inr (elsewhere d name region stage c slot (Some g) r space dir.0
      (λ h is here. other-slot slot g _ (no-made slot g r c.row c.target) t (here ∙ ap (λ (y : Generation). y.slot) (sym (same_Some g h is))))))

  -- the windows of a slot

  windows-become : (d after-dir : DirState) (devices after-devices : List DevState) (space after : SpaceState) (slot : ℕ) (x : Step) (r : Reply) (c : Carry)
      → Becomes (touched component.Dir x r c) (DirAgrees d x r c) (dir_after d x r c) d after-dir
      → Becomes (touched component.Shelf x r c) (ShelfAgrees devices x r c) (shelf_after devices x r c) devices after-devices
      → Becomes (touched (component.Space slot) x r c) (SpaceAgrees space x r c) (space_after space x r c) space after
      → WindowsBecome d slot space.windows after.windows x r c
  windows-become d after-dir devices after-devices space after slot (step.Add x) r c dir shelf becomes =
      windows-add d after-dir devices after-devices space after slot x.name x.region x.stage x.generation r c dir shelf becomes
  windows-become d after-dir devices after-devices space after slot (step.Drop x) r c dir shelf becomes =
      windows-drop d after-dir space after slot x.name x.region x.stage x.generation r c dir becomes
  windows-become d after-dir devices after-devices space after slot x r c dir shelf becomes =
      after-step (λ (y : SpaceState). y.windows ≡ space.windows) (touched (component.Space slot) x r c) (SpaceAgrees space x r c) (space_after space x r c) space after becomes (λ t ok. refl) (λ t. refl)

  -- which VCPUs are there

  abbrev is_here : VcpuValue → Bool
  is_here v = is_some (birth_of v)

  some-none : (o : Option ℕ) → o ≡ None → is_some o ≡ true → ⊥
  some-none o none is = let never : false ≡ true = sym (ap is_some none) ∙ is in cc

  any-last : (k : CellId) (xs : List CellId) (y : CellId) → same_cell (Component k) (Component y) ≡ true → list_any (same_cell (Component k)) (map Component (xs ++ y ∷ [])) ≡ true
  any-last k [] y same = or-true (same_cell (Component k) (Component y)) false same
  any-last k (x ∷ xs) y same = right-true (same_cell (Component k) (Component x)) (any-last k xs y same)
    where
      right-true : (a : Bool) {b : Bool} → b ≡ true → (a || b) ≡ true
      right-true true is = refl
      right-true false is = is

  abbrev VcpuBecomes : (n : ℕ) (before after : VcpuValue) → Step → Reply → Carry → Type 0
  VcpuBecomes n before after x r c = Becomes (touched (component.Vcpu n) x r c) (VcpuAgrees by before x r c) (vcpu_after by before x r c) before after

  given-vcpu : (y : VcpuValue) (birth vcpu v : ℕ) (given : Option (ℕ × VcpuPlan)) (r : Reply) → vcpu ≡ suc v → AgreesToAddVcpu y birth given r → IsNewVcpu vcpu v given
  given-vcpu y birth vcpu v None r is agreed = absurd agreed
  given-vcpu y birth vcpu v (Some plan) r is agreed = record { is = is; plan = plan; given_is = refl }

  still-here : (before : VcpuValue) (x : Step) (r : Reply) (c : Carry) → ((birth : Option ℕ) → Adds x birth → ⊥) → VcpuAgrees by before x r c → is_here (vcpu_after by before x r c) ≡ true → is_here before ≡ true
  still-here before x r c never agreed is = elim (vcpu-birth by before x r c agreed) [
    | inl same ↦ sym (ap is_some same) ∙ is
    | inr more ↦ elim more [
      | inl none ↦ absurd (some-none (birth_of (vcpu_after by before x r c)) none is)
      | inr adds ↦ absurd (never (birth_of (vcpu_after by before x r c)) adds)
    ]
  ]

  vcpus-become : (before after : ℕ → VcpuValue) (x : Step) (r : Reply) (c : Carry) → ((n : ℕ) → VcpuBecomes n (before n) (after n) x r c)
      → VcpusBecome (λ v. is_here (before (suc v))) (λ v. is_here (after (suc v))) x c
  vcpus-become before after (step.Vadd x) r c becomes = λ v.
      after-step (λ (y : VcpuValue). is_here y ≡ true → (is_here (before (suc v)) ≡ true) ⊎ IsNewVcpu x.vcpu v c.vcpu)
      (touched (component.Vcpu (suc v)) (step.Vadd x) r c) (VcpuAgrees by (before (suc v)) (step.Vadd x) r c) (vcpu_after by (before (suc v)) (step.Vadd x) r c) (before (suc v)) (after (suc v)) (becomes (suc v))
      (λ t ok is. inr (given-vcpu (before (suc v)) x.birth x.vcpu v c.vcpu r (sym (eqb-true (suc v) x.vcpu (sym (or-false (suc v == x.vcpu)) ∙ t))) ok))
      (λ t is. inl is)
  vcpus-become before after (step.Vdrop x) r c becomes = λ v.
      after-step (λ (y : VcpuValue). is_here y ≡ true → (is_here (before (suc v)) ≡ true) × (x.vcpu ≡ suc v → ⊥))
      (touched (component.Vcpu (suc v)) (step.Vdrop x) r c) (VcpuAgrees by (before (suc v)) (step.Vdrop x) r c) (vcpu_after by (before (suc v)) (step.Vdrop x) r c) (before (suc v)) (after (suc v)) (becomes (suc v))
      (λ t ok is. absurd (some-none (birth_of (vcpu_after by (before (suc v)) (step.Vdrop x) r c)) (drops-birth (before (suc v))) is))
      (λ t is. (
        is,
        λ same.
            let hit : touched (component.Vcpu (suc v)) (step.Vdrop x) r c ≡ true = any-last (component.Vcpu (suc v)) (all_queues harts) (component.Vcpu x.vcpu) (eq-eqb (suc v) x.vcpu (sym same)) in
            let never : true ≡ false = sym hit ∙ t in cc,
      ))
  vcpus-become before after x r c becomes = λ v.
      after-step (λ (y : VcpuValue). is_here y ≡ true → is_here (before (suc v)) ≡ true)
      (touched (component.Vcpu (suc v)) x r c) (VcpuAgrees by (before (suc v)) x r c) (vcpu_after by (before (suc v)) x r c) (before (suc v)) (after (suc v)) (becomes (suc v))
      (λ t ok is. still-here (before (suc v)) x r c (λ birth adds. adds) ok is)
      (λ t is. is)

  -- from these replies a line learns no guest

  abbrev Quiet : Reply → Carry → Type 0
  Quiet r c = (guest : Option (ℕ × ℕ)) → learnt guest r c ≡ guest

  quiet-refused : (found : Result Generation Refusal) (refused : Refusal → Reply) (r : Reply) (c : Carry) → ((why : Refusal) → Quiet (refused why) c) → Admits found None refused r c → Quiet r c
  quiet-refused (Ok g) refused r c quiet admitted = absurd (let never : None ≡ Some g = admitted in cc)
  quiet-refused (Err why) refused r c quiet admitted = subst (λ (x : Reply). Quiet x c) (sym admitted.1) (quiet why)

  added-quiet : (r : Reply) (c : Carry) → is_added r ≡ true → Quiet r c
  added-quiet (reply.Add (Ok changes)) c added = λ guest. refl
  added-quiet (reply.Add (Err why)) c added = absurd (cc added)
  added-quiet _ c added = absurd (cc added)

  dropped-quiet : (r : Reply) (c : Carry) → is_dropped r ≡ true → Quiet r c
  dropped-quiet (reply.Drop (Ok changes)) c dropped = λ guest. refl
  dropped-quiet (reply.Drop (Err why)) c dropped = absurd (cc dropped)
  dropped-quiet _ c dropped = absurd (cc dropped)

  gives-quiet : (given : Result (Option DevState) Refusal) (r : Reply) (c : Carry) → Gives given r c → Quiet r c
  gives-quiet (Ok device) r c gives = added-quiet r c gives.0
  gives-quiet (Err why) r c gives = subst (λ (x : Reply). Quiet x c) (sym gives.0) (λ guest. refl)

  plan-quiet : (plan : Option (RegionPlan × ℕ)) (devices : List DevState) (stopped : Option Refusal) (r : Reply) (c : Carry) → IsSomeAnd plan (λ plan. Gives (unless_stopped stopped (device_for devices plan.0.form)) r c) → Quiet r c
  plan-quiet None devices stopped r c gives = absurd gives
  plan-quiet (Some plan) devices stopped r c gives = gives-quiet (unless_stopped stopped (device_for devices plan.0.form)) r c gives

  add-quiet : (d after-dir : DirState) (devices after-devices : List DevState) (name region : List ℕ) (stage : Stage) (given : Option Generation) (r : Reply) (c : Carry)
      → Becomes (touched component.Dir (adds d name region stage r c given) r c) (DirAgrees d (adds d name region stage r c given) r c) (dir_after d (adds d name region stage r c given) r c) d after-dir
      → Becomes (touched component.Shelf (adds d name region stage r c given) r c) (ShelfAgrees devices (adds d name region stage r c given) r c) (shelf_after devices (adds d name region stage r c given) r c) devices after-devices
      → Quiet r c
  add-quiet d after-dir devices after-devices name region stage None r c dir shelf = quiet-refused (with_region c.row (guest_in d name stage)) (λ why. reply.Add (Err why)) r c (λ why guest. refl) dir.0
  add-quiet d after-dir devices after-devices name region stage (Some g) r c dir shelf = plan-quiet c.plan devices c.stopped r c shelf.0

  window-quiet : (found : Option Window) (r : Reply) (c : Carry) → AgreesToDrop found r c.target → Quiet r c
  window-quiet None r c agreed = subst (λ (x : Reply). Quiet x c) (sym agreed.0) (λ guest. refl)
  window-quiet (Some w) r c agreed = dropped-quiet r c agreed.0

  row-quiet : (row : Option ℕ) (space : SpaceState) (r : Reply) (c : Carry) → IsSomeAnd row (λ row. AgreesToDrop (find (is_of row) space.windows) r c.target) → Quiet r c
  row-quiet None space r c agreed = absurd agreed
  row-quiet (Some row) space r c agreed = window-quiet (find (is_of row) space.windows) r c agreed

  drop-quiet : (d after-dir : DirState) (spaces after : ℕ → SpaceState) (name region : List ℕ) (stage : Stage) (given : Option Generation) (r : Reply) (c : Carry)
      → Becomes (touched component.Dir (drops d name region stage c given) r c) (DirAgrees d (drops d name region stage c given) r c) (dir_after d (drops d name region stage c given) r c) d after-dir
      → ((slot : ℕ) → Becomes (touched (component.Space slot) (drops d name region stage c given) r c) (SpaceAgrees (spaces slot) (drops d name region stage c given) r c) (space_after (spaces slot) (drops d name region stage c given) r c) (spaces slot) (after slot))
      → Quiet r c
  drop-quiet d after-dir spaces after name region stage None r c dir becomes = quiet-refused (with_region c.row (guest_in d name stage)) (λ why. reply.Drop (Err why)) r c (λ why guest. refl) dir.0
  drop-quiet d after-dir spaces after name region stage (Some g) r c dir becomes =
      let x = drops d name region stage c (Some g) in
      let hit : touched (component.Space g.slot) x r c ≡ true = or-true (g.slot == g.slot) _ (eq-eqb g.slot g.slot refl) in
      row-quiet c.row (spaces g.slot) r c (touched-by (touched (component.Space g.slot) x r c) (SpaceAgrees (spaces g.slot) x r c) (space_after (spaces g.slot) x r c) (spaces g.slot) (after g.slot) hit (becomes g.slot)).0

  vadd-quiet : (y : VcpuValue) (birth : ℕ) (given : Option (ℕ × VcpuPlan)) (r : Reply) (c : Carry) → AgreesToAddVcpu y birth given r → Quiet r c
  vadd-quiet y birth None r c agreed = absurd agreed
  vadd-quiet y birth (Some plan) r c agreed = subst (λ (x : Reply). Quiet x c) (sym agreed) (λ guest. refl)

  quiet-becomes : (d after-dir : DirState) (devices after-devices : List DevState) (spaces after : ℕ → SpaceState) (vcpus next : ℕ → VcpuValue) (x : Step) (r : Reply) (c : Carry)
      → Becomes (touched component.Dir x r c) (DirAgrees d x r c) (dir_after d x r c) d after-dir
      → Becomes (touched component.Shelf x r c) (ShelfAgrees devices x r c) (shelf_after devices x r c) devices after-devices
      → ((slot : ℕ) → Becomes (touched (component.Space slot) x r c) (SpaceAgrees (spaces slot) x r c) (space_after (spaces slot) x r c) (spaces slot) (after slot))
      → ((n : ℕ) → VcpuBecomes n (vcpus n) (next n) x r c)
      → IsQuiet x r c
  quiet-becomes d after-dir devices after-devices spaces after vcpus next (step.Add x) r c dir shelf space vcpu = add-quiet d after-dir devices after-devices x.name x.region x.stage x.generation r c dir shelf
  quiet-becomes d after-dir devices after-devices spaces after vcpus next (step.Drop x) r c dir shelf space vcpu = drop-quiet d after-dir spaces after x.name x.region x.stage x.generation r c dir space
  quiet-becomes d after-dir devices after-devices spaces after vcpus next (step.Vadd x) r c dir shelf space vcpu =
      let s = step.Vadd x in
      let hit : touched (component.Vcpu x.vcpu) s r c ≡ true = or-true (x.vcpu == x.vcpu) false (eq-eqb x.vcpu x.vcpu refl) in
      vadd-quiet (vcpus x.vcpu) x.birth c.vcpu r c (touched-by (touched (component.Vcpu x.vcpu) s r c) (VcpuAgrees by (vcpus x.vcpu) s r c) (vcpu_after by (vcpus x.vcpu) s r c) (vcpus x.vcpu) (next x.vcpu) hit (vcpu x.vcpu)).0
  quiet-becomes d after-dir devices after-devices spaces after vcpus next (step.Vdrop x) r c dir shelf space vcpu =
      let s = step.Vdrop x in
      let hit : touched (component.Vcpu x.vcpu) s r c ≡ true = any-last (component.Vcpu x.vcpu) (all_queues harts) (component.Vcpu x.vcpu) (eq-eqb x.vcpu x.vcpu refl) in
      let agreed = (touched-by (touched (component.Vcpu x.vcpu) s r c) (VcpuAgrees by (vcpus x.vcpu) s r c) (vcpu_after by (vcpus x.vcpu) s r c) (vcpus x.vcpu) (next x.vcpu) hit (vcpu x.vcpu)).0 in
      subst (λ (y : Reply). Quiet y c) (sym agreed) (λ guest. refl)
  quiet-becomes d after-dir devices after-devices spaces after vcpus next _ r c dir shelf space vcpu = tt

-- an event

module _ (O : Origin) (s : State (machine O)) (e : EventEntry) (may : MayHappen (machine O) s e) where
  abbrev next : State (machine O)
  next = next_state (machine O) s e

  at-cell : (k : CellId) → Becomes (touches (machine O) (Component k) e) ((machine O).IsAllowedAt (Component k) (s (Component k)).value e) ((machine O).apply_at (Component k) (s (Component k)).value e) (s (Component k)).value (next (Component k)).value
  at-cell k = cell-becomes (machine O) s e may (Component k)

  pub scene-step : SceneStep (scene_of O s) (scene_of O next) e.event.step e.event.reply e.carry
  scene-step =
      let harts = O.opening.harts in
      let by = e.event.actor in
      let x = e.event.step in
      let r = e.event.reply in
      let c = e.carry in
      let d = (s (Component component.Dir)).value in
      let after-dir = (next (Component component.Dir)).value in
      let devices = (s (Component component.Shelf)).value in
      let after-devices = (next (Component component.Shelf)).value in
      record {
        dir = dir-becomes harts by d after-dir x r c (at-cell component.Dir);
        windows = λ slot.
            windows-become harts by d after-dir devices after-devices (s (Component (component.Space slot))).value (next (Component (component.Space slot))).value slot x r c
            (at-cell component.Dir) (at-cell component.Shelf) (at-cell (component.Space slot));
        vcpus = vcpus-become harts by (λ n. (s (Component (component.Vcpu n))).value) (λ n. (next (Component (component.Vcpu n))).value) x r c (λ n. at-cell (component.Vcpu n));
        quiet = quiet-becomes harts by d after-dir devices after-devices (λ slot. (s (Component (component.Space slot))).value) (λ slot. (next (Component (component.Space slot))).value)
            (λ n. (s (Component (component.Vcpu n))).value) (λ n. (next (Component (component.Vcpu n))).value) x r c
            (at-cell component.Dir) (at-cell component.Shelf) (λ slot. at-cell (component.Space slot)) (λ n. at-cell (component.Vcpu n));
      }
