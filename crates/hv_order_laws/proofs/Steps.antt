-- What a step does to a scene, and of which slots it leaves all as it was.
use Rattle.std.proofs.Common.{◌≡◌, ℕ, suc, ◌<◌, ◌⊎◌, inl, inr, Bool, true, false, not, refl, sym, ap, subst, ◌∙◌, List, [], length, get_or, arith, Option, None, Some, Result, Ok, Err, option_map, slice_get, position}
use Rattle.std.specs.List.{AllByRecursion}
use Rattle.std.specs.Option.{option_flatten}
use Rattle.std.specs.Str.{bytes_eq}
use Rattle.std.proofs.lemmas.List.Quantifiers.{position-Some}
use Rattle.std.proofs.lemmas.Option.{get_or_from_slice_get, same_Some, slice_get_within}
use Rattle.std.proofs.lemmas.Slice.Eq.{bytes_eq-Decides}
use Rattle.hv_answer.specs.declared.reply.Reply.{Reply}
use Rattle.hv_answer.specs.declared.reply.Reply.TheVariants as reply
use Rattle.hv_dir.specs.Directory.{DirState, at_next, entry_at, entry_of, guest_at}
use Rattle.hv_dir.specs.declared.entry.Entry.{Entry}
use Rattle.hv_dir.specs.declared.refusal.DirRefusal.{DirRefusal}
use Rattle.hv_kinds.specs.declared.generation.Generation.{Generation}
use Rattle.hv_kinds.specs.declared.stage.Stage.{Stage}
use Rattle.hv_kinds.specs.declared.stage.Stage.TheVariants.{Made}
use Rattle.hv_body.specs.Windows.{put_in_order}
use Rattle.hv_model.specs.Plans.{Planned, region_at, region_of, regions_of, row_of, vcpus_of}
use Rattle.hv_model.specs.Terminal.{vcpu_given}
use Rattle.hv_refusal.specs.declared.refusal.Refusal.{Refusal}
use Rattle.hv_region.specs.Windows.{without_owner, without_target}
use Rattle.hv_region.specs.declared.plan.RegionPlan.{RegionPlan}
use Rattle.hv_region.specs.declared.plan.VcpuPlan.{VcpuPlan}
use Rattle.hv_region.specs.declared.window.Window.{Window}
use Rattle.hv_rules.specs.Body.{index_of}
use Rattle.hv_rules.specs.Carry.{Carry}
use Rattle.hv_rules.specs.Hart.{slot_of}
use Rattle.hv_rules.specs.Line.{is_alias, learnt}
use Rattle.hv_rules.specs.Shelf.{is_added}
use Rattle.hv_rules.specs.Space.{refusal_in, target_of, unless_refused}
use Rattle.hv_rules.specs.Windows.{Region, window_of}
use Rattle.hv_step.specs.declared.step.Step.{Step}
use Rattle.hv_step.specs.declared.step.Step.TheVariants as step
use Rattle.hv_order_laws.specs.Owners.{HasNoVcpu, IsDirectory, IsOwnedRow, IsRowOf, Scene, SlotFits, name_at, vcpus_by}
use Rattle.hv_order_laws.proofs.Directory.{Claims, IsAdmitted, Stays, Turns, at-else, at-put, claims-keep, equal-or, named-stands, stands, turns-keep}
use Rattle.hv_order_laws.proofs.Windows.{dropped-all, IsElse, all-map, none-left, targets-added}

-- the directory

abbrev pub DirBecomes : DirState → (after : DirState) → Step → Reply → Carry → Type 0
DirBecomes d after (step.Name x) r c = Claims d x.name r after ⊎ ((why : Refusal) × (r ≡ reply.Name (Err why)) × (after ≡ d))
DirBecomes d after (step.Stage x) r c = Turns d x.name x.from x.to r c after ⊎ Stays d x.name x.from r after
DirBecomes d after _ r c = after ≡ d

-- the windows of a slot

pub record Added (d : DirState) (slot : ℕ) (ws after : List Window) (name : List ℕ) (stage : Stage) (r : Reply) (c : Carry) : Type 0 where
  pub guest : Generation
  pub in_slot : guest.slot ≡ slot
  pub admitted : IsAdmitted d name stage guest
  pub region : Region
  pub count : ℕ
  pub row : c.row ≡ Some region.row
  pub plan : c.plan ≡ Some (region.plan, count)
  pub free : refusal_in ws region ≡ None
  pub target : c.target ≡ unless_refused (refusal_in ws region) (target_of ws region.plan region.plan.form)
  pub after_is : after ≡ put_in_order (window_of region c.target) ws
  pub added : is_added r ≡ true

pub record Dropped (d : DirState) (slot : ℕ) (ws after : List Window) (name : List ℕ) (stage : Stage) (c : Carry) : Type 0 where
  pub guest : Generation
  pub in_slot : guest.slot ≡ slot
  pub admitted : IsAdmitted d name stage guest
  pub row : ℕ
  pub row_is : c.row ≡ Some row
  pub after_is : after ≡ without_target row (without_owner row ws)

-- a row has no window where there was none to drop
pub record HadNone (d : DirState) (slot : ℕ) (ws after : List Window) (name : List ℕ) (stage : Stage) (c : Carry) : Type 0 where
  pub after_is : after ≡ ws
  pub none : (row : ℕ) (e : Entry) → c.row ≡ Some row → entry_of d name ≡ Some e → e.stage ≡ stage → e.slot ≡ slot
      → AllByRecursion (λ w. w.owner ≡ row → ⊥) ws

abbrev pub WindowsBecome : DirState → (slot : ℕ) → List Window → (after : List Window) → Step → Reply → Carry → Type 0
WindowsBecome d slot ws after (step.Add x) r c = (after ≡ ws) ⊎ Added d slot ws after x.name x.stage r c
WindowsBecome d slot ws after (step.Drop x) r c = Dropped d slot ws after x.name x.stage c ⊎ HadNone d slot ws after x.name x.stage c
WindowsBecome d slot ws after _ r c = after ≡ ws

-- which VCPUs are there

pub record IsNewVcpu (vcpu v : ℕ) (given : Option (ℕ × VcpuPlan)) : Type 0 where
  pub is : vcpu ≡ suc v
  pub plan : ℕ × VcpuPlan
  pub given_is : given ≡ Some plan

abbrev pub VcpusBecome : (there after : ℕ → Bool) → Step → Carry → Type 0
VcpusBecome there after (step.Vadd x) c = (v : ℕ) → after v ≡ true → (there v ≡ true) ⊎ IsNewVcpu x.vcpu v c.vcpu
VcpusBecome there after (step.Vdrop x) c = (v : ℕ) → after v ≡ true → (there v ≡ true) × (x.vcpu ≡ suc v → ⊥)
VcpusBecome there after _ c = (v : ℕ) → after v ≡ true → there v ≡ true

-- from these replies a line learns no guest
abbrev pub IsQuiet : Step → Reply → Carry → Type 0
IsQuiet (step.Add x) r c = (guest : Option (ℕ × ℕ)) → learnt guest r c ≡ guest
IsQuiet (step.Drop x) r c = (guest : Option (ℕ × ℕ)) → learnt guest r c ≡ guest
IsQuiet (step.Vadd x) r c = (guest : Option (ℕ × ℕ)) → learnt guest r c ≡ guest
IsQuiet (step.Vdrop x) r c = (guest : Option (ℕ × ℕ)) → learnt guest r c ≡ guest
IsQuiet _ r c = Unit {0}

pub record SceneStep (before after : Scene) (s : Step) (r : Reply) (c : Carry) : Type 0 where
  pub dir : DirBecomes before.dir after.dir s r c
  pub windows : (slot : ℕ) → WindowsBecome before.dir slot (before.windows slot) (after.windows slot) s r c
  pub vcpus : VcpusBecome before.is_there after.is_there s c
  pub quiet : IsQuiet s r c

-- the directory stays one

pub directory-kept : (d after : DirState) (s : Step) (r : Reply) (c : Carry) → DirBecomes d after s r c → IsDirectory d → IsDirectory after
directory-kept d after (step.Name x) r c (inl claims) ok = claims-keep d x.name r after ok claims
directory-kept d after (step.Name x) r c (inr refused) ok = subst IsDirectory (sym refused.2) ok
directory-kept d after (step.Stage x) r c (inl turns) ok = turns-keep d x.name x.from x.to r c after ok turns
directory-kept d after (step.Stage x) r c (inr refused) ok = subst IsDirectory (sym refused.after_is) ok
directory-kept d after _ r c same ok = subst IsDirectory (sym same) ok

-- a step spares a slot whose guest is being made or ended: it is on guests that are made, or on one of another name

abbrev pub SparesName : (name : List ℕ) → (stage : Stage) → (other : List ℕ) → Type 0
SparesName name stage other = (stage ≡ Made) ⊎ (other ≡ name → ⊥)

abbrev pub Spares : (name : List ℕ) → (slot : ℕ) → Step → Type 0
Spares name slot (step.Stage x) = SparesName name x.from x.name
Spares name slot (step.Add x) = SparesName name x.stage x.name
Spares name slot (step.Drop x) = SparesName name x.stage x.name
Spares name slot (step.Vadd x) = slot_of x.vcpu ≡ slot → ⊥
Spares name slot _ = Unit {0}

pub record StaysAt (before after : Scene) (slot : ℕ) : Type 0 where
  pub entry : entry_at after.dir slot ≡ entry_at before.dir slot
  pub windows : after.windows slot ≡ before.windows slot
  pub vcpus : (v : ℕ) → slot_of (suc v) ≡ slot → after.is_there v ≡ true → before.is_there v ≡ true

pub same-entry : (d : DirState) (slot : ℕ) (e f : Entry) → entry_at d slot ≡ Some e → entry_at d slot ≡ Some f → e ≡ f
same-entry d slot e f one two = same_Some e f (sym one ∙ two)

-- the guest with a name that is at a stage isn't this one
is-other : (d : DirState) (slot : ℕ) (e a : Entry) (name : List ℕ) (stage : Stage) → IsDirectory d → entry_at d slot ≡ Some e → (e.stage ≡ Made → ⊥)
    → entry_of d name ≡ Some a → a.stage ≡ stage → SparesName e.name stage name → a.slot ≡ slot → ⊥
is-other d slot e a name stage ok at unmade of staged spares here =
    let it = named-stands d name a ok of in
    let same : a ≡ e = same-entry d slot a e (subst (λ (n : ℕ). entry_at d n ≡ Some a) here it.at) at in
    elim spares [
      | inl made ↦ unmade (sym (ap (λ (x : Entry). x.stage) same) ∙ staged ∙ made)
      | inr other ↦ other (sym it.called ∙ ap (λ (x : Entry). x.name) same)
    ]

taken-slot : (d : DirState) (slot k : ℕ) (e : Entry) → entry_at d slot ≡ Some e → slice_get d.entries k ≡ Some None → k ≡ slot → ⊥
taken-slot d slot k e at free same =
    never (same_Some None (Some e) (sym free ∙ ap (slice_get d.entries) same ∙ stands d slot e at))
  where
    never : None ≡ Some e → ⊥
    never is = cc

entry-spared : (d after : DirState) (slot : ℕ) (e : Entry) (s : Step) (r : Reply) (c : Carry) → IsDirectory d → entry_at d slot ≡ Some e → (e.stage ≡ Made → ⊥)
    → DirBecomes d after s r c → Spares e.name slot s → entry_at after slot ≡ entry_at d slot
entry-spared d after slot e (step.Name x) r c ok at unmade (inl claims) spares =
    ap (λ (y : DirState). entry_at y slot) claims.after_is ∙ at-else d claims.slot slot _ 0 (taken-slot d slot claims.slot e at claims.free)
entry-spared d after slot e (step.Name x) r c ok at unmade (inr refused) spares = ap (λ (y : DirState). entry_at y slot) refused.2
entry-spared d after slot e (step.Stage x) r c ok at unmade (inl turns) spares =
    ap (λ (y : DirState). entry_at y slot) turns.after_is
    ∙ at-else d turns.entry.slot slot _ 0 (is-other d slot e turns.entry x.name x.from ok at unmade turns.of turns.stage spares)
entry-spared d after slot e (step.Stage x) r c ok at unmade (inr refused) spares = ap (λ (y : DirState). entry_at y slot) refused.after_is
entry-spared d after slot e _ r c ok at unmade same spares = ap (λ (y : DirState). entry_at y slot) same

slot-shown : (d : DirState) (slot : ℕ) (name : List ℕ) (stage : Stage) (guest : Generation) (is : IsAdmitted d name stage guest) → guest.slot ≡ slot → is.entry.slot ≡ slot
slot-shown d slot name stage guest is here = sym (ap (λ (g : Generation). g.slot) is.is) ∙ here

windows-spared : (d : DirState) (slot : ℕ) (e : Entry) (ws after : List Window) (s : Step) (r : Reply) (c : Carry) → IsDirectory d → entry_at d slot ≡ Some e
    → (e.stage ≡ Made → ⊥) → WindowsBecome d slot ws after s r c → Spares e.name slot s → after ≡ ws
windows-spared d slot e ws after (step.Add x) r c ok at unmade (inl same) spares = same
windows-spared d slot e ws after (step.Add x) r c ok at unmade (inr added) spares =
    absurd (is-other d slot e added.admitted.entry x.name x.stage ok at unmade added.admitted.of added.admitted.at_stage spares
    (slot-shown d slot x.name x.stage added.guest added.admitted added.in_slot))
windows-spared d slot e ws after (step.Drop x) r c ok at unmade (inl dropped) spares =
    absurd (is-other d slot e dropped.admitted.entry x.name x.stage ok at unmade dropped.admitted.of dropped.admitted.at_stage spares
    (slot-shown d slot x.name x.stage dropped.guest dropped.admitted dropped.in_slot))
windows-spared d slot e ws after (step.Drop x) r c ok at unmade (inr none) spares = none.after_is
windows-spared d slot e ws after _ r c ok at unmade same spares = same

vcpus-spared : (there after : ℕ → Bool) (name : List ℕ) (slot : ℕ) (s : Step) (c : Carry) → VcpusBecome there after s c → Spares name slot s
    → (v : ℕ) → slot_of (suc v) ≡ slot → after v ≡ true → there v ≡ true
vcpus-spared there after name slot (step.Vadd x) c become spares v here is =
    elim (become v is) [
      | inl was ↦ was
      | inr new ↦ absurd (spares (ap slot_of new.is ∙ here))
    ]
vcpus-spared there after name slot (step.Vdrop x) c become spares v here is = (become v is).0
vcpus-spared there after name slot _ c become spares v here is = become v is

pub spared : (before after : Scene) (s : Step) (r : Reply) (c : Carry) (slot : ℕ) (e : Entry) → IsDirectory before.dir → SceneStep before after s r c
    → entry_at before.dir slot ≡ Some e → (e.stage ≡ Made → ⊥) → Spares e.name slot s → StaysAt before after slot
spared before after s r c slot e ok made at unmade spares = record {
  entry = entry-spared before.dir after.dir slot e s r c ok at unmade made.dir spares;
  windows = windows-spared before.dir slot e (before.windows slot) (after.windows slot) s r c ok at unmade (made.windows slot) spares;
  vcpus = vcpus-spared before.is_there after.is_there e.name slot s c made.vcpus spares;
}

-- what is asked of a step: it adds a region by the plan of its guest, and a VCPU to the guest in its slot by the plan of
-- that, and lets a slot go that has no window and no VCPU

abbrev pub LeavesNothing : Scene → Result (ℕ × ℕ) DirRefusal → (to : Option Stage) → Type 0
LeavesNothing scene (Ok guest) None = (scene.windows guest.0 ≡ []) × HasNoVcpu scene guest.0
LeavesNothing scene guest to = Unit {0}

pub record IsOwnVcpu (plans : List Planned) (d : DirState) (vcpu birth : ℕ) (given : Option (ℕ × VcpuPlan)) : Type 0 where
  pub entry : Entry
  pub at : entry_at d (slot_of vcpu) ≡ Some entry
  pub born : entry.birth ≡ birth
  pub planned : given ≡ vcpu_given (vcpus_of plans entry.name) vcpu

abbrev pub IsProper : List Planned → Scene → Step → Carry → Type 0
IsProper plans scene (step.Add x) c = (c.row ≡ row_of plans x.name x.region) × (c.plan ≡ region_of plans x.name x.region)
IsProper plans scene (step.Stage x) c = LeavesNothing scene (guest_at scene.dir x.name x.from) x.to
IsProper plans scene (step.Vadd x) c = IsOwnVcpu plans scene.dir x.vcpu x.birth c.vcpu
IsProper plans scene _ c = Unit {0}

-- such a step keeps what is known of each slot

-- a row of a plan is that of a region of the plan
named-row : (regions : List RegionPlan) (name : List ℕ) (row : ℕ) (region : RegionPlan) → position (λ (x : RegionPlan). bytes_eq x.name name) regions ≡ Some row
    → slice_get regions row ≡ Some region → region.name ≡ name
named-row regions name row region is at =
    let found = (position-Some (λ (x : RegionPlan). bytes_eq x.name name) regions row region is).1 in
    let here : get_or regions row region ≡ region = get_or_from_slice_get regions row region region at in
    (bytes_eq-Decides region.name name).0 (sym (ap (λ (x : RegionPlan). bytes_eq x.name name) here) ∙ found)

mapped : (vcpus : ℕ) (found : Option RegionPlan) (plan : RegionPlan × ℕ) → Some plan ≡ option_map (λ (region : RegionPlan). (region, vcpus)) found → found ≡ Some plan.0
mapped vcpus None plan is = absurd (cc is)
mapped vcpus (Some region) plan is = ap (λ (x : RegionPlan × ℕ). Some x.0) (sym (same_Some plan (region, vcpus) is))

owned-row : (plans : List Planned) (name region : List ℕ) (row count : ℕ) (plan : RegionPlan) (c : Carry) → c.row ≡ Some row → c.plan ≡ Some (plan, count)
    → c.row ≡ row_of plans name region → c.plan ≡ region_of plans name region → is_alias plan.form ≡ false → IsOwnedRow plans name row
owned-row plans name region row count plan c row-is plan-is by-row by-plan own =
    let found : row_of plans name region ≡ Some row = sym by-row ∙ row-is in
    let there : region_at plans name (row_of plans name region) ≡ Some plan = mapped (length (vcpus_of plans name)) (region_at plans name (row_of plans name region)) (plan, count) (sym plan-is ∙ by-plan) in
    let at : slice_get (regions_of plans name) row ≡ Some plan = sym (ap (region_at plans name) found) ∙ there in
    let called : plan.name ≡ region = named-row (regions_of plans name) region row plan found at in
    record {
      region = plan;
      at = at;
      is_own = ap not own;
      row_is = ap (row_of plans name) called ∙ found;
    }

-- a slot without a guest has nothing

pub none-true : (b : Bool) → (b ≡ true → ⊥) → b ≡ false
none-true true never = absurd (never refl)
none-true false never = refl

pub bare-slot : (plans : List Planned) (scene : Scene) (slot : ℕ) → SlotFits plans scene slot → name_at scene.dir slot ≡ None → (scene.windows slot ≡ []) × HasNoVcpu scene slot
bare-slot plans scene slot fits none =
    let name = name_at scene.dir slot in (
      none-left (λ (w : Window). IsRowOf plans name w.target) (scene.windows slot) (λ w is. subst (λ (n : Option (List ℕ)). IsRowOf plans n w.target) none is) fits.windows,
      λ v here. none-true (scene.is_there v) (λ is.
          let below : index_of (suc v) < vcpus_by plans None = subst (λ (n : Option (List ℕ)). index_of (suc v) < vcpus_by plans n) none (fits.vcpus v here is) in omega (arith, below)),
    )

module _ (plans : List Planned) (before after : Scene) (s : Step) (r : Reply) (c : Carry) (ok : IsDirectory before.dir) (slot : ℕ) (fits : SlotFits plans before slot) where
  abbrev d : DirState
  d = before.dir

  abbrev name : Option (List ℕ)
  name = name_at d slot

  abbrev Fits : Option (List ℕ) → List Window → Type 0
  Fits it ws = AllByRecursion (λ window. IsRowOf plans it window.target) ws

  -- the windows, by the guest that was there
  windows-fit : (x : Step) → WindowsBecome d slot (before.windows slot) (after.windows slot) x r c → IsProper plans before x c → Fits name (after.windows slot)
  windows-fit (step.Add x) (inl same) proper = subst (Fits name) (sym same) fits.windows
  windows-fit (step.Add x) (inr added) proper =
      let entry = added.admitted.entry in
      let it = named-stands d x.name entry ok added.admitted.of in
      let here : entry_at d slot ≡ Some entry = subst (λ (n : ℕ). entry_at d n ≡ Some entry) (slot-shown d slot x.name x.stage added.guest added.admitted added.in_slot) it.at in
      let called : name ≡ Some x.name = ap (option_map (λ (e : Entry). e.name)) here ∙ ap (λ (n : List ℕ). Some n) it.called in
      subst (Fits name) (sym added.after_is)
      (targets-added (IsRowOf plans name) (before.windows slot) added.region c.target fits.windows added.free added.target
      (λ own. subst (λ (n : Option (List ℕ)). IsRowOf plans n added.region.row) (sym called)
      (owned-row plans x.name x.region added.region.row added.count added.region.plan c added.row added.plan proper.0 proper.1 own)))
  windows-fit (step.Drop x) (inl dropped) proper =
      subst (Fits name) (sym dropped.after_is)
      (all-map (λ (w : Window). IsRowOf plans name w.target × IsElse dropped.row w) (λ (w : Window). IsRowOf plans name w.target) _ (λ w is. is.0)
      (dropped-all (λ (w : Window). IsRowOf plans name w.target) dropped.row (before.windows slot) fits.windows))
  windows-fit (step.Drop x) (inr none) proper = subst (Fits name) (sym none.after_is) fits.windows
  windows-fit _ same proper = subst (Fits name) (sym same) fits.windows

  given-some : (vcpus : List VcpuPlan) (vcpu : ℕ) (plan : ℕ × VcpuPlan) (found : Option VcpuPlan) → slice_get vcpus (index_of vcpu) ≡ found
      → Some plan ≡ option_map (λ plan. (index_of vcpu, plan)) found → index_of vcpu < length vcpus
  given-some vcpus vcpu plan None at is = absurd (cc is)
  given-some vcpus vcpu plan (Some x) at is = slice_get_within vcpus (index_of vcpu) x at

  -- the VCPUs, by the guest that was there
  vcpus-fit : (x : Step) → VcpusBecome before.is_there after.is_there x c → IsProper plans before x c → (v : ℕ) → slot_of (suc v) ≡ slot → after.is_there v ≡ true
      → index_of (suc v) < vcpus_by plans name
  vcpus-fit (step.Vadd x) become proper v here is =
      elim (become v is) [
        | inl was ↦ fits.vcpus v here was
        | inr new ↦
            let at : entry_at d slot ≡ Some proper.entry = subst (λ (n : ℕ). entry_at d n ≡ Some proper.entry) (ap slot_of new.is ∙ here) proper.at in
            let called : name ≡ Some proper.entry.name = ap (option_map (λ (e : Entry). e.name)) at in
            let vcpus = vcpus_of plans proper.entry.name in
            let below : index_of x.vcpu < length vcpus = given-some vcpus x.vcpu new.plan (slice_get vcpus (index_of x.vcpu)) refl (sym new.given_is ∙ proper.planned) in
            subst (λ (n : Option (List ℕ)). index_of (suc v) < vcpus_by plans n) (sym called) (subst (λ (n : ℕ). index_of n < length vcpus) new.is below)
      ]
  vcpus-fit (step.Vdrop x) become proper v here is = fits.vcpus v here (become v is).0
  vcpus-fit _ become proper v here is = fits.vcpus v here (become v is)

  -- the guest stays, or there is nothing in the slot

  pub record IsBare (scene : Scene) : Type 0 where
    pub windows : scene.windows slot ≡ []
    pub vcpus : HasNoVcpu scene slot

  bare : name ≡ None → IsBare before
  bare none = let both = bare-slot plans before slot fits none in record { windows = both.0; vcpus = both.1 }

  still-bare : after.windows slot ≡ before.windows slot → ((v : ℕ) → after.is_there v ≡ true → before.is_there v ≡ true) → IsBare before → IsBare after
  still-bare same was is = record {
    windows = same ∙ is.windows;
    vcpus = λ v here. none-true (after.is_there v) (λ there. absurd (never (sym (was v there) ∙ is.vcpus v here)));
  }
    where
      never : true ≡ false → ⊥
      never e = cc

  next-name : (to : Option Stage) (e : Entry) → ((to ≡ None) ⊎ (option_map (λ (x : Entry). x.name) (at_next to e) ≡ Some e.name))
  next-name None e = inl refl
  next-name (Some stage) e = inr refl

  nothing-left : (guest : Result (ℕ × ℕ) DirRefusal) (to : Option Stage) (e : Entry) → guest ≡ Ok (e.slot, e.birth) → to ≡ None → LeavesNothing before guest to
      → (before.windows e.slot ≡ []) × HasNoVcpu before e.slot
  nothing-left guest to e given none leaves =
      subst (λ (g : Result (ℕ × ℕ) DirRefusal). LeavesNothing before g None) given (subst (λ (o : Option Stage). LeavesNothing before guest o) none leaves)

  name-or : (x : Step) → DirBecomes d after.dir x r c → WindowsBecome d slot (before.windows slot) (after.windows slot) x r c → VcpusBecome before.is_there after.is_there x c
      → IsProper plans before x c → (name_at after.dir slot ≡ name) ⊎ IsBare after
  name-or (step.Name x) (inl claims) windows vcpus proper =
      elim (equal-or claims.slot slot) [
        | inl same ↦ inr (still-bare windows vcpus (bare
            (subst (λ (n : ℕ). name_at d n ≡ None) same (ap (λ (o : Option (Option Entry)). option_map (λ (e : Entry). e.name) (option_flatten o)) claims.free))))
        | inr other ↦ inl (ap (λ (y : DirState). name_at y slot) claims.after_is ∙ ap (option_map (λ (e : Entry). e.name)) (at-else d claims.slot slot _ 0 other))
      ]
  name-or (step.Name x) (inr refused) windows vcpus proper = inl (ap (λ (y : DirState). name_at y slot) refused.2)
  name-or (step.Stage x) (inl turns) windows vcpus proper =
      let e = turns.entry in
      let it = named-stands d x.name e ok turns.of in
      elim (equal-or e.slot slot) [
        | inl same ↦ elim (next-name x.to e) [
          | inl none ↦
              let left = nothing-left (guest_at d x.name x.from) x.to e turns.given none proper in
              let here : (before.windows slot ≡ []) × HasNoVcpu before slot = subst (λ (n : ℕ). (before.windows n ≡ []) × HasNoVcpu before n) same left in
              inr (still-bare windows vcpus (record { windows = here.0; vcpus = here.1 }))
          | inr called ↦
              inl (subst (λ (n : ℕ). name_at after.dir n ≡ name_at d n) same
              (ap (λ (y : DirState). name_at y e.slot) turns.after_is
              ∙ ap (option_map (λ (y : Entry). y.name)) (at-put d e.slot (Some e) (at_next x.to e) 0 (stands d e.slot e it.at))
              ∙ called ∙ sym (ap (option_map (λ (y : Entry). y.name)) it.at)))
        ]
        | inr other ↦ inl (ap (λ (y : DirState). name_at y slot) turns.after_is ∙ ap (option_map (λ (y : Entry). y.name)) (at-else d e.slot slot _ 0 other))
      ]
  name-or (step.Stage x) (inr refused) windows vcpus proper = inl (ap (λ (y : DirState). name_at y slot) refused.after_is)
  name-or _ same windows vcpus proper = inl (ap (λ (y : DirState). name_at y slot) same)

  pub slot-kept : SceneStep before after s r c → IsProper plans before s c → SlotFits plans after slot
  slot-kept made proper =
      elim (name-or s made.dir (made.windows slot) made.vcpus proper) [
        | inl same ↦ record {
          windows = subst (λ (n : Option (List ℕ)). Fits n (after.windows slot)) (sym same) (windows-fit s (made.windows slot) proper);
          vcpus = λ v here is. subst (λ (n : Option (List ℕ)). index_of (suc v) < vcpus_by plans n) (sym same) (vcpus-fit s made.vcpus proper v here is);
        }
        | inr none ↦ record {
          windows = subst (Fits (name_at after.dir slot)) (sym none.windows) tt;
          vcpus = λ v here is. absurd (let never : true ≡ false = sym is ∙ none.vcpus v here in cc);
        }
      ]
