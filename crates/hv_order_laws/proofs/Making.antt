-- A line that makes a guest: each of its steps is proper, and leaves it where it fits.
use Rattle.std.proofs.Common.{◌≡◌, ℕ, suc, ◌<◌, ◌⊎◌, inl, inr, true, false, refl, sym, ap, subst, ◌∙◌, List, [], ◌∷◌, map, Option, None, Some, option_map, Result, Ok, Err, slice_get, arith}
use Rattle.std.specs.Option.{option_flatten}
use Rattle.std.specs.List.{AllByRecursion}
use Rattle.std.proofs.lemmas.Option.{same_Some}
use Rattle.std.proofs.lemmas.Nat.{div-add-mod'}
use Rattle.hv_answer.specs.declared.reply.Reply.{Reply}
use Rattle.hv_answer.specs.declared.reply.Reply.TheVariants as reply
use Rattle.hv_dir.specs.Directory.{DirState, entry_at, entry_of, guest_at, new_guest}
use Rattle.hv_dir.specs.declared.entry.Entry.{Entry}
use Rattle.hv_dir.specs.declared.refusal.DirRefusal.{DirRefusal}
use Rattle.hv_kinds.specs.declared.generation.Generation.{Generation}
use Rattle.hv_kinds.specs.declared.stage.Stage.{Stage}
use Rattle.hv_kinds.specs.declared.stage.Stage.TheVariants.{Making, Made}
use Rattle.hv_model.specs.Plans.{Planned, vcpus_of}
use Rattle.hv_model.specs.Session.{kept, kept_for}
use Rattle.hv_model.specs.Terminal.{Goes, vcpu_given}
use Rattle.hv_refusal.specs.declared.refusal.Refusal.{Refusal}
use Rattle.hv_region.specs.declared.plan.RegionPlan.{RegionPlan}
use Rattle.hv_region.specs.declared.window.Window.{Window}
use Rattle.hv_rules.specs.Body.{index_of}
use Rattle.hv_rules.specs.Carry.{Carry}
use Rattle.hv_rules.specs.Hart.{slot_of}
use Rattle.hv_rules.specs.Line.{Ask, LineState, Place, add, add_vcpu, back, claim, create, learnt, left, line_after, moved, name_in, on, own_birth, own_vcpu, place_after, step_of, turn, turns_for, undoing, verdict}
use Rattle.hv_rules.specs.Owed.{vcpu_of}
use Rattle.hv_rules.specs.Refused.{refusal_of}
use Rattle.hv_rules.specs.Shelf.{is_added}
use Rattle.hv_step.specs.declared.step.Step.{Step}
use Rattle.hv_step.specs.declared.step.Step.TheVariants as step
use Rattle.hv_text.specs.declared.limits.TheConstants.{GUEST_VCPUS}
use Rattle.hv_order_laws.specs.Lines.{AddsRegions, AddsVcpus, AreAdditions, HasMade, IsAdded}
use Rattle.hv_order_laws.specs.Owners.{CanTurnBack, FitsAs, HasNoVcpu, IsDirectory, IsGuest, LineFits, MakesAt, Scene, SlotFits, rows_of}
use Rattle.hv_order_laws.proofs.Directory.{Claims, at-put, is-given, stands-named}
use Rattle.hv_order_laws.proofs.Steps.{Added, Dropped, HadNone, IsProper, LeavesNothing, SceneStep, bare-slot, none-true}
use Rattle.hv_order_laws.proofs.Windows.{IsElse, all-both, all-map, dropped-all, none-left, owners-added}

-- the numbers of VCPUs

pub slot-of-vcpu : (slot index : ℕ) → index < GUEST_VCPUS → slot_of (vcpu_of slot index) ≡ slot
slot-of-vcpu slot index below = omega arith

pub vcpu-is : (slot index v : ℕ) → slot_of (suc v) ≡ slot → index_of (suc v) ≡ index → vcpu_of slot index ≡ suc v
vcpu-is slot index v here is = let whole = div-add-mod' v GUEST_VCPUS in omega arith

-- a line is kept, or it is done

pub kept-fits : (scene : Scene) (plans : List Planned) (line : LineState) → FitsAs scene plans line.asked line.regions line.guest line.place → LineFits scene plans (kept line)
kept-fits scene plans line fits =
    let Goal : List Ask → Type 0 = λ asks. LineFits scene plans (kept_for line asks) in
    elim (left line.place) as Goal [ [] ↦ tt | ask ∷ more ↦ fits ]

pub done-fits : (scene : Scene) (plans : List Planned) (line : LineState) → left line.place ≡ [] → LineFits scene plans (kept line)
done-fits scene plans line done = subst (λ (asks : List Ask). LineFits scene plans (kept_for line asks)) (sym done) tt

-- a slot without a VCPU stays so

pub still-none : (before after : Scene) (slot : ℕ) → ((v : ℕ) → after.is_there v ≡ true → before.is_there v ≡ true) → HasNoVcpu before slot → HasNoVcpu after slot
still-none before after slot was none v here = none-true (after.is_there v) (λ is. let never : true ≡ false = sym (was v is) ∙ none v here in cc)

-- a guest whose slot stays is the same one

pub guest-kept : (d after : DirState) (name : List ℕ) (slot birth : ℕ) (stage : Stage) → after ≡ d → IsGuest d name slot birth stage → IsGuest after name slot birth stage
guest-kept d after name slot birth stage same is = subst (λ (x : DirState). IsGuest x name slot birth stage) (sym same) is

pub guest-of : (d : DirState) (name : List ℕ) (slot birth : ℕ) (stage : Stage) → IsDirectory d → (is : IsGuest d name slot birth stage)
    → (entry_of d name ≡ Some is.entry) × (is.entry.slot ≡ slot)
guest-of d name slot birth stage ok is = (stands-named d name is.entry slot ok is.at is.called, ok.placed slot is.entry is.at)

-- a step that turns to a further stage leaves something
pub leaves-some : (scene : Scene) (guest : Result (ℕ × ℕ) DirRefusal) (stage : Stage) → LeavesNothing scene guest (Some stage)
leaves-some scene (Ok guest) stage = tt
leaves-some scene (Err why) stage = tt

pub leaves-none : (scene : Scene) (name : List ℕ) (slot birth : ℕ) (stage : Stage) → IsDirectory scene.dir → IsGuest scene.dir name slot birth stage
    → scene.windows slot ≡ [] → HasNoVcpu scene slot → LeavesNothing scene (guest_at scene.dir name stage) None
leaves-none scene name slot birth stage ok is windows vcpus =
    let it = guest-of scene.dir name slot birth stage ok is in
    let given : guest_at scene.dir name stage ≡ Ok (is.entry.slot, is.entry.birth) =
    subst (λ (x : Stage). guest_at scene.dir name x ≡ Ok (is.entry.slot, is.entry.birth)) is.at_stage (is-given scene.dir name is.entry it.0) in
    subst (λ (g : Result (ℕ × ℕ) DirRefusal). LeavesNothing scene g None) (sym given)
    (subst (λ (n : ℕ). (scene.windows n ≡ []) × HasNoVcpu scene n) (sym it.1) (windows, vcpus))

-- a line that has turned back
added-refused : (r : Reply) (why : Refusal) → is_added r ≡ true → refusal_of r ≡ Some why → ⊥
added-refused (reply.Add (Ok changes)) why added refused = cc
added-refused (reply.Add (Err e)) why added refused = cc
added-refused _ why added refused = cc

module _ (plans : List Planned) (before after : Scene) (ok : IsDirectory before.dir) (name : List ℕ) (regions : List RegionPlan) (slot birth : ℕ) (guest : Option (ℕ × ℕ)) (is-learnt : guest ≡ Some (slot, birth)) (r : Reply) (c : Carry) where
  abbrev rows : ℕ → Option ℕ
  rows = rows_of plans name regions

  abbrev line_at : Place → LineState
  line_at place = record { asked = create name; regions = regions; guest = guest; place = place }

  abbrev Fits : Option (ℕ × ℕ) → Place → Type 0
  Fits known place = FitsAs after plans (create name) regions known place

  abbrev region_of_row : ℕ → List ℕ
  region_of_row row = name_in (slice_get regions row)

  module _ (is : IsGuest before.dir name slot birth Making) where
    own : (known : Option (ℕ × ℕ)) (place : Place) → known ≡ guest → after.dir ≡ before.dir → MakesAt after rows slot place → Fits known place
    own known place same dir at = record {
      slot = slot;
      birth = birth;
      learnt = same ∙ is-learnt;
      is = guest-kept before.dir after.dir name slot birth Making dir is;
      at = at;
    }

    -- a region is added, or the line turns back

    abbrev adds : ℕ → Option Generation → Step
    adds row g = step.Add (record { name = name; region = region_of_row row; stage = Making; generation = g })

    more-added : (made : List Ask) (row : ℕ) (ws : List Window) → AllByRecursion (λ w. IsAdded rows made w.owner) ws → AllByRecursion (λ w. IsAdded rows (add row ∷ made) w.owner) ws
    more-added made row ws all =
        all-map (λ (w : Window). IsAdded rows made w.owner) (λ (w : Window). IsAdded rows (add row ∷ made) w.owner) ws
        (λ w was. record { planned = was.planned; is = was.is; among = inr was.among }) all

    added-windows : (made : List Ask) (row : ℕ) → c.row ≡ rows row → AllByRecursion (λ w. IsAdded rows made w.owner) (before.windows slot)
        → (after.windows slot ≡ before.windows slot) ⊎ Added before.dir slot (before.windows slot) (after.windows slot) name Making r c
        → AllByRecursion (λ w. IsAdded rows (add row ∷ made) w.owner) (after.windows slot)
    added-windows made row by-row all (inl same) = subst (AllByRecursion (λ w. IsAdded rows (add row ∷ made) w.owner)) (sym same) (more-added made row (before.windows slot) all)
    added-windows made row by-row all (inr new) =
        subst (AllByRecursion (λ w. IsAdded rows (add row ∷ made) w.owner)) (sym new.after_is)
        (owners-added (IsAdded rows (add row ∷ made)) (before.windows slot) new.region c.target (more-added made row (before.windows slot) all)
        (record { planned = row; is = sym by-row ∙ new.row; among = inl refl }))

    same-windows : (made : List Ask) (why : Refusal) → refusal_of r ≡ Some why → AllByRecursion (λ w. IsAdded rows made w.owner) (before.windows slot)
        → (after.windows slot ≡ before.windows slot) ⊎ Added before.dir slot (before.windows slot) (after.windows slot) name Making r c
        → AllByRecursion (λ w. IsAdded rows made w.owner) (after.windows slot)
    same-windows made why refused all (inl same) = subst (AllByRecursion (λ w. IsAdded rows made w.owner)) (sym same) all
    same-windows made why refused all (inr new) = absurd (added-refused r why new.added refused)

    place-added : (made todo : List Ask) (row : ℕ) (g : Option Generation) → SceneStep before after (adds row g) r c → c.row ≡ rows row
        → CanTurnBack before rows slot made → AddsRegions todo → (o : Option Refusal) → refusal_of r ≡ o → MakesAt after rows slot (moved made (add row) todo (turns_for o))
    place-added made todo row g happened by-row can more None refused = inl (
      record {
        asks = can.asks;
        windows = added-windows made row by-row can.windows (happened.windows slot);
        vcpus = still-none before after slot happened.vcpus can.vcpus;
      },
      more,
    )
    place-added made todo row g happened by-row can more (Some why) refused = record {
      asks = can.asks;
      windows = same-windows made why refused can.windows (happened.windows slot);
      vcpus = still-none before after slot happened.vcpus can.vcpus;
    }

    later : (made : List Ask) (row : ℕ) → AreAdditions made → verdict made (add row) r ≡ turns_for (refusal_of r)
    later [] row are = absurd are
    later (a ∷ made) row are = refl

    pub fits-added : (made todo : List Ask) (row : ℕ) (g : Option Generation) → SceneStep before after (adds row g) r c → Goes plans (line_at (on made (add row ∷ todo))) (adds row g) r c
        → CanTurnBack before rows slot made → AddsRegions todo
        → IsProper plans before (adds row g) c × LineFits after plans (kept (line_after (line_at (on made (add row ∷ todo))) r c))
    fits-added made todo row g happened goes can more = (
      goes,
      kept-fits after plans (line_after (line_at (on made (add row ∷ todo))) r c)
          (own (learnt guest r c) (moved made (add row) todo (verdict made (add row) r)) (happened.quiet guest) happened.dir
          (subst (λ v. MakesAt after rows slot (moved made (add row) todo v)) (sym (later made row can.asks))
          (place-added made todo row g happened goes.0 can more (refusal_of r) refl))),
    )

    -- a VCPU is added

    abbrev adds_vcpu : ℕ → Step
    adds_vcpu index = step_of (line_at (on [] [])) None (add_vcpu index)

    vcpu-number : (index : ℕ) → own_vcpu guest index ≡ vcpu_of slot index
    vcpu-number index = ap (λ (g : Option (ℕ × ℕ)). own_vcpu g index) is-learnt

    vcpu-later : (made todo : List Ask) (index : ℕ) → HasMade made → place_after (on made (add_vcpu index ∷ todo)) r ≡ on (add_vcpu index ∷ made) todo
    vcpu-later [] todo index has = absurd has
    vcpu-later (a ∷ made) todo index has = refl

    pub fits-vcpu : (made todo : List Ask) (index : ℕ) → SceneStep before after (adds_vcpu index) r c → Goes plans (line_at (on made (add_vcpu index ∷ todo))) (adds_vcpu index) r c
        → HasMade made → index < GUEST_VCPUS → AddsVcpus todo
        → IsProper plans before (adds_vcpu index) c × LineFits after plans (kept (line_after (line_at (on made (add_vcpu index ∷ todo))) r c))
    fits-vcpu made todo index happened goes has below more =
        let vcpu = own_vcpu guest index in
        let in-slot : slot_of vcpu ≡ slot = ap slot_of (vcpu-number index) ∙ slot-of-vcpu slot index below in (
          record {
            entry = is.entry;
            at = subst (λ (n : ℕ). entry_at before.dir n ≡ Some is.entry) (sym in-slot) is.at;
            born = is.born ∙ sym (ap own_birth is-learnt);
            planned = goes ∙ sym (ap (λ (n : List ℕ). vcpu_given (vcpus_of plans n) vcpu) is.called);
          },
          kept-fits after plans (line_after (line_at (on made (add_vcpu index ∷ todo))) r c)
              (own (learnt guest r c) (place_after (on made (add_vcpu index ∷ todo)) r) (happened.quiet guest) happened.dir
              (subst (MakesAt after rows slot) (sym (vcpu-later made todo index has)) (inr (tt, more)))),
        )

    -- the guest is made, and the line is done

    turn-later : (made : List Ask) (from : Stage) (to : Option Stage) → HasMade made → left (place_after (on made (turn from to ∷ [])) r) ≡ []
    turn-later [] from to has = absurd has
    turn-later (a ∷ made) from to has = refl

    pub fits-made : (made todo : List Ask) (from : Stage) (to : Option Stage) → HasMade made → to ≡ Some Made → todo ≡ []
        → IsProper plans before (step.Stage (record { name = name; from = from; to = to })) c × LineFits after plans (kept (line_after (line_at (on made (turn from to ∷ todo))) r c))
    fits-made made todo from to has made-is last = (
      subst (λ (o : Option Stage). LeavesNothing before (guest_at before.dir name from) o) (sym made-is) (leaves-some before (guest_at before.dir name from) Made),
      done-fits after plans (line_after (line_at (on made (turn from to ∷ todo))) r c)
          (subst (λ (asks : List Ask). left (place_after (on made (turn from to ∷ asks)) r) ≡ []) (sym last) (turn-later made from to has)),
    )

    -- on its way back the line drops a region

    abbrev drops : ℕ → Option Generation → Step
    drops row g = step.Drop (record { name = name; region = region_of_row row; stage = Making; generation = g })

    same-row : (p row : ℕ) → add p ≡ add row → p ≡ row
    same-row p row same = cc

    less-added : (made : List Ask) (row k : ℕ) (owner : ℕ) → rows row ≡ Some k → IsAdded rows (add row ∷ made) owner → (owner ≡ k → ⊥) → IsAdded rows made owner
    less-added made row k owner by-row was else = elim was.among [
      | inl same ↦ absurd (else (same_Some owner k (sym was.is ∙ ap rows (same-row was.planned row same) ∙ by-row)))
      | inr more ↦ record { planned = was.planned; is = was.is; among = more }
    ]

    none-added : (made : List Ask) (row : ℕ) (owner : ℕ) → rows row ≡ None → IsAdded rows (add row ∷ made) owner → IsAdded rows made owner
    none-added made row owner by-row was = elim was.among [
      | inl same ↦ absurd (let never : Some owner ≡ None = sym was.is ∙ ap rows (same-row was.planned row same) ∙ by-row in cc)
      | inr more ↦ record { planned = was.planned; is = was.is; among = more }
    ]

    dropped-windows : (made : List Ask) (row : ℕ) → c.row ≡ rows row → AllByRecursion (λ w. IsAdded rows (add row ∷ made) w.owner) (before.windows slot)
        → Dropped before.dir slot (before.windows slot) (after.windows slot) name Making c ⊎ HadNone before.dir slot (before.windows slot) (after.windows slot) name Making c
        → AllByRecursion (λ w. IsAdded rows made w.owner) (after.windows slot)
    dropped-windows made row by-row all (inl dropped) =
        subst (AllByRecursion (λ w. IsAdded rows made w.owner)) (sym dropped.after_is)
        (all-map (λ (w : Window). IsAdded rows (add row ∷ made) w.owner × IsElse dropped.row w) (λ (w : Window). IsAdded rows made w.owner) _
        (λ w was. less-added made row dropped.row w.owner (sym by-row ∙ dropped.row_is) was.0 was.1.owner)
        (dropped-all (λ (w : Window). IsAdded rows (add row ∷ made) w.owner) dropped.row (before.windows slot) all))
    dropped-windows made row by-row all (inr none) =
        subst (AllByRecursion (λ w. IsAdded rows made w.owner)) (sym none.after_is) (by-found (rows row) refl)
      where
        by-found : (o : Option ℕ) → rows row ≡ o → AllByRecursion (λ w. IsAdded rows made w.owner) (before.windows slot)
        by-found None found =
            all-map (λ (w : Window). IsAdded rows (add row ∷ made) w.owner) (λ (w : Window). IsAdded rows made w.owner) (before.windows slot) (λ w was. none-added made row w.owner found was) all
        by-found (Some k) found =
            let it = guest-of before.dir name slot birth Making ok is in
            all-both (λ (w : Window). IsAdded rows (add row ∷ made) w.owner) (λ (w : Window). w.owner ≡ k → ⊥) (λ (w : Window). IsAdded rows made w.owner) (before.windows slot)
            (λ w was else. less-added made row k w.owner found was else) all
            (none.none k is.entry (by-row ∙ found) it.0 is.at_stage it.1)

    pub fits-dropped : (why : Refusal) (made : List Ask) (row : ℕ) (g : Option Generation) → SceneStep before after (drops row g) r c → c.row ≡ rows row
        → CanTurnBack before rows slot (add row ∷ made)
        → IsProper plans before (drops row g) c × LineFits after plans (kept (line_after (line_at (back why (add row ∷ made))) r c))
    fits-dropped why made row g happened by-row can = (
      tt,
      kept-fits after plans (line_after (line_at (back why (add row ∷ made))) r c)
          (own (learnt guest r c) (back why made) (happened.quiet guest) happened.dir
          (record {
            asks = can.asks;
            windows = dropped-windows made row by-row can.windows (happened.windows slot);
            vcpus = still-none before after slot happened.vcpus can.vcpus;
          })),
    )

    -- at last it gives up its claim

    no-row : (w : ℕ) → IsAdded rows (claim ∷ []) w → ⊥
    no-row w was = elim was.among [
      | inl same ↦ (let never : add was.planned ≡ claim = same in cc)
      | inr more ↦ more
    ]

    pub fits-given-up : (why : Refusal) (made : List Ask) → CanTurnBack before rows slot (claim ∷ made)
        → IsProper plans before (step.Stage (record { name = name; from = Making; to = None })) c × LineFits after plans (kept (line_after (line_at (back why (claim ∷ made))) r c))
    fits-given-up why made can =
        let last : made ≡ [] = can.asks in (
          leaves-none before name slot birth Making ok is
              (none-left (λ (w : Window). IsAdded rows (claim ∷ []) w.owner) (before.windows slot) (λ w was. no-row w.owner was)
              (subst (λ (asks : List Ask). AllByRecursion (λ (w : Window). IsAdded rows (claim ∷ asks) w.owner) (before.windows slot)) last can.windows))
              can.vcpus,
          done-fits after plans (line_after (line_at (back why (claim ∷ made))) r c) (ap (λ (asks : List Ask). map undoing asks) last),
        )

-- a line that is begun claims the name

module _ (plans : List Planned) (before after : Scene) (name : List ℕ) (regions : List RegionPlan) (todo : List Ask) (more : AddsRegions todo) (r : Reply) (c : Carry) (slots : (slot : ℕ) → SlotFits plans before slot) where
  abbrev claims : Step
  claims = step.Name (record { name = name })

  abbrev begun_line : LineState
  begun_line = record { asked = create name; regions = regions; guest = None; place = on [] (claim ∷ todo) }

  abbrev FitsLine : Reply → Type 0
  FitsLine x = LineFits after plans (kept (line_after begun_line x c))

  claimed-fits : SceneStep before after claims r c → (is : Claims before.dir name r after.dir) → FitsLine (reply.Name (Ok (record { slot = is.slot; birth = before.dir.granted })))
  claimed-fits happened is =
      let slot = is.slot in
      let new = new_guest before.dir name slot in
      let at : entry_at after.dir slot ≡ Some new = ap (λ (d : DirState). entry_at d slot) is.after_is ∙ at-put before.dir slot None (Some new) 0 is.free in
      let none = bare-slot plans before slot (slots slot) (ap (λ (o : Option (Option Entry)). option_map (λ (e : Entry). e.name) (option_flatten o)) is.free) in
      kept-fits after plans (line_after begun_line (reply.Name (Ok (record { slot = slot; birth = before.dir.granted }))) c)
      (record {
        slot = slot;
        birth = before.dir.granted;
        learnt = refl;
        is = record { entry = new; at = at; called = refl; born = refl; at_stage = refl };
        at = inl (
          record {
            asks = refl;
            windows = subst (AllByRecursion (λ (w : Window). IsAdded (rows_of plans name regions) (claim ∷ []) w.owner)) (sym (happened.windows slot ∙ none.0)) tt;
            vcpus = still-none before after slot happened.vcpus none.1;
          },
          more,
        );
      })

  pub fits-claimed : SceneStep before after claims r c → FitsLine r
  fits-claimed happened =
      elim happened.dir [
        | inl is ↦ subst FitsLine (sym is.reply) (claimed-fits happened is)
        | inr refused ↦ subst FitsLine (sym refused.1) (done-fits after plans (line_after begun_line (reply.Name (Err refused.0)) c) refl)
      ]
