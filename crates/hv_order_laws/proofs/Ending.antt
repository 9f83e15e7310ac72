-- A line that ends a guest: each of its steps is proper, and leaves it where it fits.
use Rattle.std.proofs.Common.{◌≡◌, ℕ, suc, ◌<◌, ◌≤◌, ◌⊎◌, inl, inr, refl, sym, ap, subst, ◌∙◌, List, [], ◌∷◌, length, Option, None, Some, option_map, Ok, Err, slice_get, arith}
use Rattle.std.specs.List.{AllByRecursion}
use Rattle.std.proofs.lemmas.Option.{same_Some}
use Rattle.hv_answer.specs.declared.reply.Reply.{Reply}
use Rattle.hv_answer.specs.declared.reply.Reply.TheVariants as reply
use Rattle.hv_dir.specs.Directory.{DirState, entry_at, guest_at}
use Rattle.hv_dir.specs.declared.entry.Entry.{Entry}
use Rattle.hv_kinds.specs.declared.generation.Generation.{Generation}
use Rattle.hv_kinds.specs.declared.stage.Stage.{Stage}
use Rattle.hv_kinds.specs.declared.stage.Stage.TheVariants.{Made, Ending}
use Rattle.hv_model.specs.Plans.{Planned, regions_of, row_of, vcpus_of}
use Rattle.hv_model.specs.Session.{kept}
use Rattle.hv_region.specs.declared.plan.RegionPlan.{RegionPlan}
use Rattle.hv_region.specs.declared.window.Window.{Window}
use Rattle.hv_rules.specs.Body.{index_of}
use Rattle.hv_rules.specs.Carry.{Carry}
use Rattle.hv_rules.specs.Hart.{slot_of}
use Rattle.hv_rules.specs.Line.{Ask, LineState, Place, destroy, drop, drop_vcpu, learnt, later_verdict, left, line_after, moved, name_in, on, own_vcpu, place_after, step_of, turn}
use Rattle.hv_rules.specs.Owed.{vcpu_of}
use Rattle.hv_step.specs.declared.step.Step.{Step}
use Rattle.hv_step.specs.declared.step.Step.TheVariants as step
use Rattle.hv_text.specs.declared.limits.TheConstants.{GUEST_VCPUS}
use Rattle.hv_order_laws.specs.Lines.{HasMade, IsAmong, IsToDrop}
use Rattle.hv_order_laws.specs.Owners.{EndsAt, FitsAs, HasNoVcpu, HasToDrop, IsDirectory, IsGuest, IsOwnedRow, IsRowOf, LineFits, Scene, SlotFits, name_at, rows_of, vcpus_by}
use Rattle.hv_order_laws.proofs.Asks.{drops-row, drops-vcpu, ends-first, to_end}
use Rattle.hv_order_laws.proofs.Directory.{Turns, at-put, named-stands, stands}
use Rattle.hv_order_laws.proofs.Making.{done-fits, guest-kept, guest-of, kept-fits, leaves-none, leaves-some, vcpu-is}
use Rattle.hv_order_laws.proofs.Steps.{Dropped, HadNone, IsProper, LeavesNothing, SceneStep, none-true}
use Rattle.hv_order_laws.proofs.Windows.{IsElse, all-both, all-map, dropped-all, none-left}

-- a row to which no window of its own leads is led to by none
abbrev pub AreLed : List Window → Type 0
AreLed ws = (row : ℕ) → AllByRecursion (λ w. w.owner ≡ row → ⊥) ws → AllByRecursion (λ w. w.target ≡ row → ⊥) ws

same-drop : (p row : ℕ) (one other : Stage) → drop one p ≡ drop other row → p ≡ row
same-drop p row one other same = cc

same-vcpu : (i j : ℕ) → drop_vcpu i ≡ drop_vcpu j → i ≡ j
same-vcpu i j same = cc

module _ (plans : List Planned) (before after : Scene) (ok : IsDirectory before.dir) (name : List ℕ) (regions : List RegionPlan) (slot birth : ℕ) (guest : Option (ℕ × ℕ)) (is-learnt : guest ≡ Some (slot, birth)) (r : Reply) (c : Carry) where
  abbrev rows : ℕ → Option ℕ
  rows = rows_of plans name regions

  abbrev line_at : Place → LineState
  line_at place = record { asked = destroy name; regions = regions; guest = guest; place = place }

  module _ (is : IsGuest before.dir name slot birth Ending) where
    own : (known : Option (ℕ × ℕ)) (place : Place) → known ≡ guest → after.dir ≡ before.dir → EndsAt after rows slot place → FitsAs after plans (destroy name) regions known place
    own known place same dir at = record {
      slot = slot;
      birth = birth;
      learnt = same ∙ is-learnt;
      is = guest-kept before.dir after.dir name slot birth Ending dir is;
      at = at;
    }

    later : (made todo : List Ask) (ask : Ask) → HasMade made → place_after (on made (ask ∷ todo)) r ≡ moved made ask todo (later_verdict ask r)
    later [] todo ask has = absurd has
    later (a ∷ made) todo ask has = refl

    -- a VCPU is dropped

    abbrev drops_vcpu : ℕ → Step
    drops_vcpu index = step_of (line_at (on [] [])) None (drop_vcpu index)

    vcpu-number : (index : ℕ) → own_vcpu guest index ≡ vcpu_of slot index
    vcpu-number index = ap (λ (g : Option (ℕ × ℕ)). own_vcpu g index) is-learnt

    row-later : (todo : List Ask) (index : ℕ) (row : ℕ) → IsToDrop rows (drop_vcpu index ∷ todo) row → IsToDrop rows todo row
    row-later todo index row was = elim was.among [
      | inl same ↦ absurd (let never : drop Ending was.planned ≡ drop_vcpu index = same in cc)
      | inr more ↦ record { planned = was.planned; is = was.is; among = more }
    ]

    vcpu-left : (todo : List Ask) (index v : ℕ) → slot_of (suc v) ≡ slot → (own_vcpu guest index ≡ suc v → ⊥) → IsAmong (drop_vcpu (index_of (suc v))) (drop_vcpu index ∷ todo)
        → IsAmong (drop_vcpu (index_of (suc v))) todo
    vcpu-left todo index v here else (inl same) = absurd (else (vcpu-number index ∙ vcpu-is slot index v here (same-vcpu (index_of (suc v)) index same)))
    vcpu-left todo index v here else (inr more) = more

    pub fits-vcpu : (made todo : List Ask) (index : ℕ) → SceneStep before after (drops_vcpu index) r c → HasMade made → HasToDrop before rows slot (drop_vcpu index ∷ todo)
        → IsProper plans before (drops_vcpu index) c × LineFits after plans (kept (line_after (line_at (on made (drop_vcpu index ∷ todo))) r c))
    fits-vcpu made todo index happened has drops = (
      tt,
      kept-fits after plans (line_after (line_at (on made (drop_vcpu index ∷ todo))) r c)
          (own (learnt guest r c) (place_after (on made (drop_vcpu index ∷ todo)) r) (happened.quiet guest) happened.dir
          (subst (EndsAt after rows slot) (sym (later made todo (drop_vcpu index) has)) (
            tt,
            record {
              asks = drops.asks.1;
              windows = subst (AllByRecursion (λ (w : Window). IsToDrop rows todo w.target)) (sym (happened.windows slot))
                  (all-map (λ (w : Window). IsToDrop rows (drop_vcpu index ∷ todo) w.target) (λ (w : Window). IsToDrop rows todo w.target) (before.windows slot) (λ w was. row-later todo index w.target was) drops.windows);
              vcpus = λ v here there. let was = happened.vcpus v there in vcpu-left todo index v here was.1 (drops.vcpus v here was.0);
            },
          ))),
    )

    -- a region is dropped

    abbrev drops_row : Stage → ℕ → Option Generation → Step
    drops_row stage row g = step.Drop (record { name = name; region = name_in (slice_get regions row); stage = stage; generation = g })

    less-left : (todo : List Ask) (stage : Stage) (row k : ℕ) (target : ℕ) → rows row ≡ Some k → IsToDrop rows (drop stage row ∷ todo) target → (target ≡ k → ⊥) → IsToDrop rows todo target
    less-left todo stage row k target by-row was else = elim was.among [
      | inl same ↦ absurd (else (same_Some target k (sym was.is ∙ ap rows (same-drop was.planned row Ending stage same) ∙ by-row)))
      | inr more ↦ record { planned = was.planned; is = was.is; among = more }
    ]

    none-left-there : (todo : List Ask) (stage : Stage) (row : ℕ) (target : ℕ) → rows row ≡ None → IsToDrop rows (drop stage row ∷ todo) target → IsToDrop rows todo target
    none-left-there todo stage row target by-row was = elim was.among [
      | inl same ↦ absurd (let never : Some target ≡ None = sym was.is ∙ ap rows (same-drop was.planned row Ending stage same) ∙ by-row in cc)
      | inr more ↦ record { planned = was.planned; is = was.is; among = more }
    ]

    dropped-windows : (todo : List Ask) (stage : Stage) (row : ℕ) → stage ≡ Ending → c.row ≡ rows row → AreLed (before.windows slot)
        → AllByRecursion (λ w. IsToDrop rows (drop stage row ∷ todo) w.target) (before.windows slot)
        → Dropped before.dir slot (before.windows slot) (after.windows slot) name stage c ⊎ HadNone before.dir slot (before.windows slot) (after.windows slot) name stage c
        → AllByRecursion (λ w. IsToDrop rows todo w.target) (after.windows slot)
    dropped-windows todo stage row staged by-row led all (inl dropped) =
        subst (AllByRecursion (λ w. IsToDrop rows todo w.target)) (sym dropped.after_is)
        (all-map (λ (w : Window). IsToDrop rows (drop stage row ∷ todo) w.target × IsElse dropped.row w) (λ (w : Window). IsToDrop rows todo w.target) _
        (λ w was. less-left todo stage row dropped.row w.target (sym by-row ∙ dropped.row_is) was.0 was.1.target)
        (dropped-all (λ (w : Window). IsToDrop rows (drop stage row ∷ todo) w.target) dropped.row (before.windows slot) all))
    dropped-windows todo stage row staged by-row led all (inr none) =
        subst (AllByRecursion (λ w. IsToDrop rows todo w.target)) (sym none.after_is) (by-found (rows row) refl)
      where
        by-found : (o : Option ℕ) → rows row ≡ o → AllByRecursion (λ w. IsToDrop rows todo w.target) (before.windows slot)
        by-found None found =
            all-map (λ (w : Window). IsToDrop rows (drop stage row ∷ todo) w.target) (λ (w : Window). IsToDrop rows todo w.target) (before.windows slot)
            (λ w was. none-left-there todo stage row w.target found was) all
        by-found (Some k) found =
            let it = guest-of before.dir name slot birth Ending ok is in
            all-both (λ (w : Window). IsToDrop rows (drop stage row ∷ todo) w.target) (λ (w : Window). w.target ≡ k → ⊥) (λ (w : Window). IsToDrop rows todo w.target) (before.windows slot)
            (λ w was else. less-left todo stage row k w.target found was else) all
            (led k (none.none k is.entry (by-row ∙ found) it.0 (is.at_stage ∙ sym staged) it.1))

    vcpu-later : (todo : List Ask) (stage : Stage) (row i : ℕ) → IsAmong (drop_vcpu i) (drop stage row ∷ todo) → IsAmong (drop_vcpu i) todo
    vcpu-later todo stage row i (inl same) = absurd (let never : drop_vcpu i ≡ drop stage row = same in cc)
    vcpu-later todo stage row i (inr more) = more

    pub fits-dropped : (made todo : List Ask) (stage : Stage) (row : ℕ) (g : Option Generation) → SceneStep before after (drops_row stage row g) r c → c.row ≡ rows row
        → HasMade made → AreLed (before.windows slot) → HasToDrop before rows slot (drop stage row ∷ todo)
        → IsProper plans before (drops_row stage row g) c × LineFits after plans (kept (line_after (line_at (on made (drop stage row ∷ todo))) r c))
    fits-dropped made todo stage row g happened by-row has led drops = (
      tt,
      kept-fits after plans (line_after (line_at (on made (drop stage row ∷ todo))) r c)
          (own (learnt guest r c) (place_after (on made (drop stage row ∷ todo)) r) (happened.quiet guest) happened.dir
          (subst (EndsAt after rows slot) (sym (later made todo (drop stage row) has)) (
            tt,
            record {
              asks = drops.asks.1;
              windows = dropped-windows todo stage row drops.asks.0 by-row led drops.windows (happened.windows slot);
              vcpus = λ v here there. vcpu-later todo stage row (index_of (suc v)) (drops.vcpus v here (happened.vcpus v there));
            },
          ))),
    )

    -- at last the slot is let go

    no-row : (from : Stage) (to : Option Stage) (w : ℕ) → IsToDrop rows (turn from to ∷ []) w → ⊥
    no-row from to w was = elim was.among [
      | inl same ↦ (let never : drop Ending was.planned ≡ turn from to = same in cc)
      | inr more ↦ more
    ]

    no-vcpu : (from : Stage) (to : Option Stage) (i : ℕ) → IsAmong (drop_vcpu i) (turn from to ∷ []) → ⊥
    no-vcpu from to i (inl same) = (let never : drop_vcpu i ≡ turn from to = same in cc)
    no-vcpu from to i (inr more) = more

    nothing : (from : Stage) (to : Option Stage) (todo : List Ask) → HasToDrop before rows slot (turn from to ∷ todo) → todo ≡ [] → (before.windows slot ≡ []) × HasNoVcpu before slot
    nothing from to todo drops last =
        let Now : List Ask → Type 0 = λ asks. HasToDrop before rows slot (turn from to ∷ asks) in
        let now : Now [] = subst Now last drops in (
          none-left (λ (w : Window). IsToDrop rows (turn from to ∷ []) w.target) (before.windows slot) (λ w was. no-row from to w.target was) now.windows,
          λ v here. none-true (before.is_there v) (λ there. no-vcpu from to (index_of (suc v)) (now.vcpus v here there)),
        )

    pub fits-ended : (made todo : List Ask) (from : Stage) (to : Option Stage) → HasMade made → HasToDrop before rows slot (turn from to ∷ todo)
        → IsProper plans before (step.Stage (record { name = name; from = from; to = to })) c × LineFits after plans (kept (line_after (line_at (on made (turn from to ∷ todo))) r c))
    fits-ended made todo from to has drops =
        let left-none = nothing from to todo drops drops.asks.2 in
        let Leaves : Stage → Option Stage → Type 0 = λ x o. LeavesNothing before (guest_at before.dir name x) o in (
          subst (λ (x : Stage). Leaves x to) (sym drops.asks.0) (subst (Leaves Ending) (sym drops.asks.1) (leaves-none before name slot birth Ending ok is left-none.0 left-none.1)),
          done-fits after plans (line_after (line_at (on made (turn from to ∷ todo))) r c)
              (ap left (later made todo (turn from to) has) ∙ drops.asks.2),
        )

-- a line that is begun turns the stage

module _ (plans : List Planned) (before after : Scene) (ok : IsDirectory before.dir) (name : List ℕ) (count : ℕ) (regions : List RegionPlan) (few : count ≤ GUEST_VCPUS) (by-plan : regions ≡ regions_of plans name) (enough : length (vcpus_of plans name) ≤ count) (r : Reply) (c : Carry) (slots : (slot : ℕ) → SlotFits plans before slot) where
  abbrev turns_stage : Step
  turns_stage = step.Stage (record { name = name; from = Made; to = Some Ending })

  abbrev begun_line : LineState
  begun_line = record { asked = destroy name; regions = regions; guest = None; place = on [] (turn Made (Some Ending) ∷ to_end count regions) }

  abbrev FitsLine : Reply → Type 0
  FitsLine x = LineFits after plans (kept (line_after begun_line x c))

  abbrev begun_rows : ℕ → Option ℕ
  begun_rows = rows_of plans name regions

  to-drop : (row : ℕ) → IsOwnedRow plans name row → IsToDrop begun_rows (to_end count regions) row
  to-drop row is =
      let at : slice_get regions row ≡ Some is.region = ap (λ (x : List RegionPlan). slice_get x row) by-plan ∙ is.at in
      record {
        planned = row;
        is = ap (λ (o : Option RegionPlan). row_of plans name (name_in o)) at ∙ is.row_is;
        among = drops-row count regions row is.region at is.is_own;
      }

  turned-fits : SceneStep before after turns_stage r c → (is : Turns before.dir name Made (Some Ending) r c after.dir) → FitsLine (reply.Stage (Ok tt))
  turned-fits happened is =
      let e = is.entry in
      let slot = e.slot in
      let it = named-stands before.dir name e ok is.of in
      let new : Entry = record e { stage = Ending } in
      let at : entry_at after.dir slot ≡ Some new = ap (λ (d : DirState). entry_at d slot) is.after_is ∙ at-put before.dir slot (Some e) (Some new) 0 (stands before.dir slot e it.at) in
      let called : name_at before.dir slot ≡ Some name = ap (option_map (λ (x : Entry). x.name)) it.at ∙ ap (λ (n : List ℕ). Some n) it.called in
      let fits = slots slot in
      kept-fits after plans (line_after begun_line (reply.Stage (Ok tt)) c)
      (record {
        slot = slot;
        birth = e.birth;
        learnt = is.guest;
        is = record { entry = new; at = at; called = it.called; born = refl; at_stage = refl };
        at = (
          tt,
          record {
            asks = ends-first count regions few;
            windows =
                subst (AllByRecursion (λ (w : Window). IsToDrop begun_rows (to_end count regions) w.target)) (sym (happened.windows slot))
                (all-map (λ (w : Window). IsRowOf plans (name_at before.dir slot) w.target) (λ (w : Window). IsToDrop begun_rows (to_end count regions) w.target) (before.windows slot)
                (λ w was. to-drop w.target (subst (λ (n : Option (List ℕ)). IsRowOf plans n w.target) called was)) fits.windows);
            vcpus = λ v here there.
                let below : index_of (suc v) < length (vcpus_of plans name) = subst (λ (n : Option (List ℕ)). index_of (suc v) < vcpus_by plans n) called (fits.vcpus v here (happened.vcpus v there)) in
                drops-vcpu count regions (index_of (suc v)) (omega (arith, below, enough));
          },
        );
      })

  pub fits-turned : SceneStep before after turns_stage r c → IsProper plans before turns_stage c × FitsLine r
  fits-turned happened = (
    leaves-some before (guest_at before.dir name Made) Ending,
    elim happened.dir [
      | inl is ↦ subst FitsLine (sym is.reply) (turned-fits happened is)
      | inr refused ↦ subst FitsLine (sym refused.reply) (done-fits after plans (line_after begun_line (reply.Stage (Err refused.why)) c) refl)
    ],
  )
