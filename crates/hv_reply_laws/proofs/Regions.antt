-- What steps on regions bring to their terminals.
use Rattle.std.proofs.Common.{◌≡◌, ℕ, zero, suc, ◌<◌, ◌≤◌, ◌+◌, ◌⊎◌, inl, inr, Bool, true, false, refl, sym, ap, subst, ◌∙◌, List, [], ◌∷◌, length, Option, None, Some, Result, Ok, Err, option_map, slice_get, position, arith}
use Rattle.std.specs.Prelude.{IsSomeAnd, find}
use Rattle.std.specs.List.{AllByRecursion}
use Rattle.std.specs.Option.{IfSome}
use Rattle.std.specs.Str.{bytes_eq}
use Rattle.std.proofs.lemmas.List.Quantifiers.{position-Some}
use Rattle.std.proofs.lemmas.Option.{same_Some}
use Rattle.hv_answer.specs.declared.reply.Reply.{Reply}
use Rattle.hv_answer.specs.declared.reply.Reply.TheVariants as reply
use Rattle.hv_body.specs.declared.live.Live.{Live}
use Rattle.hv_dir.specs.Directory.{AreEntries}
use Rattle.hv_emu.specs.Device.{DevState}
use Rattle.hv_event.specs.declared.event.ActorId.{ActorId}
use Rattle.hv_event.specs.declared.event.CellId.{CellId}
use Rattle.hv_event.specs.declared.event.CellId.TheVariants as component
use Rattle.hv_kinds.specs.declared.generation.Generation.{Generation}
use Rattle.hv_kinds.specs.declared.stage.Stage.{Stage}
use Rattle.hv_kinds.specs.declared.stage.Stage.TheVariants.{Made}
use Rattle.hv_machine.specs.Machine.{MayHappen, State}
use Rattle.hv_model.specs.Cell.{Component}
use Rattle.hv_model.specs.declared.entry.Entry.{Entry}
use Rattle.hv_model.specs.Origin.{Origin}
use Rattle.hv_model.specs.Plans.{Planned, region_at, region_of, regions_of, row_of}
use Rattle.hv_model.specs.Rules.{machine}
use Rattle.hv_model.specs.Session.{Present, Task, goes, makes, present, tells}
use Rattle.hv_model.specs.Shown.{shown_in}
use Rattle.hv_model.specs.Terminal.{FitsPresent, FitsTask, IsNextStep, TerminalAgrees, TerminalState, is_interrupt}
use Rattle.hv_programs.specs.Line.{IsGiven}
use Rattle.hv_programs.specs.Owed.{IsParent}
use Rattle.hv_refusal.specs.declared.refusal.Refusal.{Refusal}
use Rattle.hv_region.specs.declared.plan.RegionPlan.{RegionPlan}
use Rattle.hv_region.specs.declared.window.Window.{Window}
use Rattle.hv_body.specs.Body.{device_of}
use Rattle.hv_rules.specs.Body.{BodyValue, built, changes, dropped, parent_of, unless_alias}
use Rattle.hv_rules.specs.Carry.{Carry}
use Rattle.hv_rules.specs.Dir.{Admits, guest_in, with_region}
use Rattle.hv_rules.specs.Footprint.{changed_body, components, if_made, past_dir, row_body}
use Rattle.hv_rules.specs.Line.{Ask, Change, LineState, first, left, step_for}
use Rattle.hv_rules.specs.Line as line
use Rattle.hv_rules.specs.Shelf as shelf
use Rattle.hv_rules.specs.Shelf.{Gives, device_for, is_added, unless_stopped}
use Rattle.hv_rules.specs.Space.{AgreesToDrop, is_dropped, is_of}
use Rattle.hv_rules.specs.Windows.{Region}
use Rattle.hv_rules.specs.Windows as windows
use Rattle.hv_step.specs.declared.step.Add.{Add}
use Rattle.hv_step.specs.declared.step.Devreset.{Devreset}
use Rattle.hv_step.specs.declared.step.Drop.{Drop}
use Rattle.hv_step.specs.declared.step.Feed.{Feed}
use Rattle.hv_step.specs.declared.step.Step.{Step}
use Rattle.hv_step.specs.declared.step.Step.TheVariants as step
use Rattle.hv_terminals.specs.Terminal.{Brings, HasGoodRegions, HaveOtherParents}
use Rattle.hv_text.specs.declared.limits.TheConstants.{GUEST_REGIONS, SLOTS}
use Rattle.hv_reply_laws.proofs.Slots.{given-below}
use Rattle.hv_reply_laws.proofs.Touched.{Agrees, past, touched-agree}
use Rattle.hv_reply_laws.specs.Replied.{HaveParents}

-- what is handed over for a step on a region is of the plans
abbrev IsPlanned : List Planned → Step → Carry → Type 0
IsPlanned plans (step.Add s) c = (c.row ≡ row_of plans s.name s.region) × (c.plan ≡ region_of plans s.name s.region)
IsPlanned plans (step.Drop s) c = c.row ≡ row_of plans s.name s.region
IsPlanned plans (step.Devreset s) c = c.row ≡ row_of plans s.name s.region
IsPlanned plans (step.Feed s) c = c.row ≡ row_of plans s.name s.region
IsPlanned plans _ c = Unit {0}

change-feeds : (l : LineState) (given : Option Generation) (what : Change) (index : ℕ) (s : Feed) → line.step_of l given (line.change what index) ≡ step.Feed s → ⊥
change-feeds l given line.kick index s is = cc is
change-feeds l given line.resume index s is = cc is
change-feeds l given line.pause index s is = cc is
change-feeds l given line.halt index s is = cc is
change-feeds l given line.reset index s is = cc is

ask-feeds : (l : LineState) (given : Option Generation) (a : Ask) (s : Feed) → line.step_of l given a ≡ step.Feed s → ⊥
ask-feeds l given (line.change what index) s is = change-feeds l given what index s is
ask-feeds l given line.rest s is = cc is
ask-feeds l given (line.look vcpu) s is = cc is
ask-feeds l given line.claim s is = cc is
ask-feeds l given (line.turn from to) s is = cc is
ask-feeds l given (line.add row) s is = cc is
ask-feeds l given (line.drop at row) s is = cc is
ask-feeds l given (line.add_vcpu index) s is = cc is
ask-feeds l given (line.drop_vcpu index) s is = cc is
ask-feeds l given (line.reset_device row) s is = cc is

line-feeds : (l : LineState) (given : Option Generation) (next : Option Ask) (s : Feed) → step_for l given next ≡ Some (step.Feed s) → ⊥
line-feeds l given None s is = cc is
line-feeds l given (Some a) s is = ask-feeds l given a s (cc is)

task-planned : (plans : List Planned) (p : Present) (lines : ℕ) (task : Task) (s : Step) (r : Reply) (c : Carry) → FitsTask plans p lines task s r c → IsPlanned plans s c
task-planned plans p lines (makes asked) (step.Add s) r c fits = fits.1
task-planned plans p lines (makes asked) (step.Drop s) r c fits = fits.1
task-planned plans p lines (makes asked) (step.Devreset s) r c fits = fits.1
task-planned plans p lines (makes asked) (step.Feed s) r c fits = fits.1
task-planned plans p lines (makes asked) _ r c fits = tt
task-planned plans p lines (goes l) (step.Add s) r c fits = fits.1
task-planned plans p lines (goes l) (step.Drop s) r c fits = fits.1
task-planned plans p lines (goes l) (step.Devreset s) r c fits = fits.1
task-planned plans p lines (goes l) (step.Feed s) r c fits =
    absurd (line-feeds l (shown_in (step.Feed s)) (first (left l.place)) s fits.0)
task-planned plans p lines (goes l) _ r c fits = tt
task-planned plans p lines (tells text why) (step.Add s) r c fits = absurd (cc fits.0)
task-planned plans p lines (tells text why) (step.Drop s) r c fits = absurd (cc fits.0)
task-planned plans p lines (tells text why) (step.Devreset s) r c fits = absurd (cc fits.0)
task-planned plans p lines (tells text why) (step.Feed s) r c fits = absurd (cc fits.0)
task-planned plans p lines (tells text why) _ r c fits = tt

present-planned : (plans : List Planned) (lines : ℕ) (p : Option Present) (s : Step) (r : Reply) (c : Carry) → FitsPresent plans lines p s r c → IsPlanned plans s c
present-planned plans lines None s r c fits = absurd fits
present-planned plans lines (Some p) s r c fits = task-planned plans p lines p.task s r c fits

owed-planned : (plans : List Planned) (s : Step) (c : Carry) → is_interrupt s ≡ true → IsPlanned plans s c
owed-planned plans (step.Add s) c is = absurd (cc is)
owed-planned plans (step.Drop s) c is = absurd (cc is)
owed-planned plans (step.Devreset s) c is = absurd (cc is)
owed-planned plans (step.Feed s) c is = absurd (cc is)
owed-planned plans _ c is = tt

next-planned : (t : TerminalState) (owed : List Step) (s : Step) (r : Reply) (c : Carry) → IsNextStep t owed s r c → IsPlanned t.plans s c
next-planned t [] s r c next = present-planned t.plans t.session.lines (present t.plans t.session) s r c next
next-planned t (due ∷ owed) s r c next = owed-planned t.plans s c next.1

-- a row of a guest's plan is one that a guest can have
row-within : {X : Type 0} (p : X → Bool) (xs : List X) (i : ℕ) → position p xs ≡ Some i → i < length xs
row-within p [] i is = absurd (cc is)
row-within p (x ∷ xs) i is = (position-Some p (x ∷ xs) i x is).0

row-below : (plans : List Planned) (guest region : List ℕ) (row : ℕ) → HasGoodRegions (regions_of plans guest) → row_of plans guest region ≡ Some row → row < GUEST_REGIONS
row-below plans guest region row good is =
    let within = row-within (λ (r : RegionPlan). bytes_eq r.name region) (regions_of plans guest) row is in
    omega (arith, within, good.few)

-- the interrupts of a planned region go to another
other-parent : (from : ℕ) (regions : List RegionPlan) (i j : ℕ) (region : RegionPlan) → j ≡ from + i → HaveOtherParents from regions → slice_get regions i ≡ Some region → IsParent j region.parent
other-parent from [] i j region is others there = absurd (cc there)
other-parent from (r ∷ regions) zero j region is others there =
    let same : r ≡ region = same_Some r region there in
    let at : from ≡ j = omega (arith, is) in
    subst (λ n. IsParent n region.parent) at (subst (λ (x : RegionPlan). IsParent from x.parent) same others.0)
other-parent from (r ∷ regions) (suc i) j region is others there =
    other-parent (from + 1) regions i j region (omega (arith, is)) others.1 there

found-in : (found : Option RegionPlan) (n : ℕ) (plan : RegionPlan × ℕ) → option_map (λ region. (region, n)) found ≡ Some plan → found ≡ Some plan.0
found-in None n plan is = absurd (cc is)
found-in (Some r) n plan is = let same : (r, n) ≡ plan = cc is in ap (λ (x : RegionPlan × ℕ). Some x.0) same

planned-parent :
    (plans : List Planned) (guest region : List ℕ) (row : ℕ) (plan : RegionPlan × ℕ)
    → HasGoodRegions (regions_of plans guest) → row_of plans guest region ≡ Some row → region_of plans guest region ≡ Some plan → IsParent row plan.0.parent
planned-parent plans guest region row plan good row_is is =
    let found = found-in (region_at plans guest (row_of plans guest region)) _ plan is in
    let at : slice_get (regions_of plans guest) row ≡ Some plan.0 = sym (ap (region_at plans guest) row_is) ∙ found in
    other-parent 0 (regions_of plans guest) row row plan.0 (omega arith) good.parents at

-- what a step on a region brings, by its row
row-brought : (row : Option ℕ) (parent : Option (ℕ × ℕ)) (found : Option ℕ) → row ≡ found → ((k : ℕ) → found ≡ Some k → (k < GUEST_REGIONS) × IsParent k parent)
    → IfSome row (λ row. (row < GUEST_REGIONS) × IsParent row parent)
row-brought row parent None is all = subst (λ (o : Option ℕ). IfSome o (λ row. (row < GUEST_REGIONS) × IsParent row parent)) (sym is) tt
row-brought row parent (Some k) is all = subst (λ (o : Option ℕ). IfSome o (λ row. (row < GUEST_REGIONS) × IsParent row parent)) (sym is) (all k refl)

no-parent : (row : ℕ) (parent : Option (ℕ × ℕ)) → parent ≡ None → IsParent row parent
no-parent row parent is = subst (IsParent row) (sym is) tt

-- what a body says of an addition
some-region : (g : Option Generation) (row : Option ℕ) (plan : Option (RegionPlan × ℕ)) (parent : Option (ℕ × ℕ)) (X : Region → Type 0)
    → IsSomeAnd (windows.region_of g row plan) (λ region. X region × (parent ≡ region.plan.parent)) → (p : RegionPlan × ℕ) × (plan ≡ Some p) × (parent ≡ p.0.parent)
some-region None row plan parent X is = absurd is
some-region (Some g) None plan parent X is = absurd is
some-region (Some g) (Some row) None parent X is = absurd is
some-region (Some g) (Some row) (Some p) parent X is = (p, refl, is.1)

region-given : (row : Option ℕ) (given : Result Generation Refusal) (g : Generation) → with_region row given ≡ Ok g → given ≡ Ok g
region-given (Some row) given g is = is
region-given None (Ok guest) g is = absurd (cc is)
region-given None (Err why) g is = absurd (cc is)

module _ (O : Origin) (s : State (machine O)) (by : ActorId) (are : AreEntries (s (Component component.Dir)).value.entries) (parents : HaveParents O s) (plans : List Planned) (good : (name : List ℕ) → HasGoodRegions (regions_of plans name)) where
  given-slot : (name : List ℕ) (stage : Stage) (row : Option ℕ) (shown : Option Generation) (g : Generation)
      → with_region row (guest_in (s (Component component.Dir)).value name stage) ≡ Ok g → g.slot < SLOTS
  given-slot name stage row shown g is =
      given-below (s (Component component.Dir)).value name stage g are (region-given row (guest_in (s (Component component.Dir)).value name stage) g is)

  -- the parent of what is live in a row
  live-parent : (g : Generation) (row : ℕ) (body : BodyValue) → g.slot < SLOTS → row < GUEST_REGIONS → (s (Component (component.Body g.slot row))).value ≡ body → IsParent row (parent_of body)
  live-parent g row None slot below is = tt
  live-parent g row (Some live) slot below is = parents g.slot row live slot below is

  -- an addition
  add-body :
      (st : Add) (r : Reply) (c : Carry) (g : Generation) (k j : ℕ) → row_of plans st.name st.region ≡ Some k → c.plan ≡ region_of plans st.name st.region
      → Agrees O s by (step.Add st) r c (component.Body g.slot j) → IsParent k c.parent
  add-body st r c g k j row_is plan_is at =
      let body = (s (Component (component.Body g.slot j))).value in
      let found =
      some-region st.generation c.row c.plan c.parent (λ region. r ≡ reply.Add (Ok (changes body (built region c.device c.target body)))) at in
      let plan = found.0 in
      subst (IsParent k) (sym found.2)
      (planned-parent plans st.name st.region k plan (good st.name) row_is (sym plan_is ∙ found.1))

  add-bodies :
      (st : Add) (r : Reply) (c : Carry) (g : Generation) (k : ℕ) (target : Option (ℕ × ℕ)) → row_of plans st.name st.region ≡ Some k → c.plan ≡ region_of plans st.name st.region
      → AllByRecursion (Agrees O s by (step.Add st) r c) (changed_body g (Some k) target) → IsParent k c.parent
  add-bodies st r c g k None row_is plan_is all = add-body st r c g k k row_is plan_is all.0
  add-bodies st r c g k (Some target) row_is plan_is all = add-body st r c g k target.0 row_is plan_is all.0

  add-made :
      (st : Add) (r given : Reply) (c : Carry) (g : Generation) (k : ℕ) → is_added given ≡ true → row_of plans st.name st.region ≡ Some k → c.row ≡ Some k
      → c.plan ≡ region_of plans st.name st.region → AllByRecursion (Agrees O s by (step.Add st) r c) (if_made given (changed_body g c.row c.target)) → IsParent k c.parent
  add-made st r (reply.Add (Ok changes)) c g k is row_is here plan_is all =
      add-bodies st r c g k c.target row_is plan_is
      (subst (λ (o : Option ℕ). AllByRecursion (Agrees O s by (step.Add st) r c) (changed_body g o c.target)) here all)
  add-made st r _ c g k is row_is here plan_is all = absurd (cc is)

  add-parent :
      (st : Add) (r : Reply) (c : Carry) (g : Generation) (k : ℕ) (got : Result (Option DevState) Refusal) → Gives got r c → row_of plans st.name st.region ≡ Some k → c.row ≡ Some k
      → c.plan ≡ region_of plans st.name st.region → AllByRecursion (Agrees O s by (step.Add st) r c) (if_made r (changed_body g c.row c.target)) → IsParent k c.parent
  add-parent st r c g k (Ok device) is row_is here plan_is all = add-made st r r c g k is.0 row_is here plan_is all
  add-parent st r c g k (Err why) is row_is here plan_is all = no-parent k c.parent is.2

  add-shelf :
      (st : Add) (r : Reply) (c : Carry) (plan : Option (RegionPlan × ℕ)) (devices : List DevState)
      → IsSomeAnd plan (λ plan. Gives (unless_stopped c.stopped (device_for devices plan.0.form)) r c) → (got : Result (Option DevState) Refusal) × Gives got r c
  add-shelf st r c None devices is = absurd is
  add-shelf st r c (Some plan) devices is = (unless_stopped c.stopped (device_for devices plan.0.form), is)

  add-brings : (st : Add) (r : Reply) (c : Carry) → IsPlanned plans (step.Add st) c
      → AllByRecursion (Agrees O s by (step.Add st) r c) (components O.opening.harts by (step.Add st) r c) → Brings (step.Add st) c
  add-brings st r c planned all =
      elim (past (Agrees O s by (step.Add st) r c) (with_region c.row (guest_in (s (Component component.Dir)).value st.name st.stage)) st.generation
      (λ g. component.Shelf ∷ component.Space g.slot ∷ if_made r (changed_body g c.row c.target)) (λ why. reply.Add (Err why)) r c all (λ at. at)) [
        | inl admitted ↦
            let g = admitted.guest in
            let got = add-shelf st r c c.plan (s (Component component.Shelf)).value admitted.agree.0 in (
              subst IsGiven (sym admitted.shows) (given-slot st.name st.stage c.row st.generation g admitted.is),
              row-brought c.row c.parent (row_of plans st.name st.region) planned.0
                  (λ k is. (row-below plans st.name st.region k (good st.name) is, add-parent st r c g k got.0 got.1 is (planned.0 ∙ is) planned.1 admitted.agree.1.1)),
            )
        | inr refused ↦ (
          subst IsGiven (sym refused.none) tt,
          row-brought c.row c.parent (row_of plans st.name st.region) planned.0
              (λ k is. (row-below plans st.name st.region k (good st.name) is, no-parent k c.parent (ap (λ (x : Carry). x.parent) refused.carry))),
        )
      ]

  -- a removal
  some-gone : (row : Option ℕ) (parent wanted : Option (ℕ × ℕ)) (X Y : ℕ → Type 0) → IsSomeAnd row (λ gone. X gone × Y gone × (parent ≡ wanted)) → parent ≡ wanted
  some-gone None parent wanted X Y is = absurd is
  some-gone (Some gone) parent wanted X Y is = is.2

  drop-bodies :
      (st : Drop) (r : Reply) (c : Carry) (g : Generation) (k : ℕ) (target : Option (ℕ × ℕ)) → c.target ≡ target → g.slot < SLOTS → k < GUEST_REGIONS
      → AllByRecursion (Agrees O s by (step.Drop st) r c) (changed_body g (Some k) target) → IsParent k c.parent
  drop-bodies st r c g k None target_is slot below all =
      let body = (s (Component (component.Body g.slot k))).value in
      let is =
      some-gone c.row c.parent (unless_alias c.target (parent_of body)) (λ gone. r ≡ reply.Drop (Ok (changes body (dropped gone c.target body)))) (λ gone. c.device ≡ unless_alias c.target (device_of body)) all.0 in
      subst (IsParent k) (sym (is ∙ ap (λ (t : Option (ℕ × ℕ)). unless_alias t (parent_of body)) target_is)) (live-parent g k body slot below refl)
  drop-bodies st r c g k (Some target) target_is slot below all =
      let body = (s (Component (component.Body g.slot target.0))).value in
      let is =
      some-gone c.row c.parent (unless_alias c.target (parent_of body)) (λ gone. r ≡ reply.Drop (Ok (changes body (dropped gone c.target body)))) (λ gone. c.device ≡ unless_alias c.target (device_of body)) all.0 in
      no-parent k c.parent (is ∙ ap (λ (t : Option (ℕ × ℕ)). unless_alias t (parent_of body)) target_is)

  drop-made :
      (st : Drop) (r given : Reply) (c : Carry) (g : Generation) (k : ℕ) → is_dropped given ≡ true → c.row ≡ Some k → g.slot < SLOTS → k < GUEST_REGIONS
      → AllByRecursion (Agrees O s by (step.Drop st) r c) (if_made given (changed_body g c.row c.target)) → IsParent k c.parent
  drop-made st r (reply.Drop (Ok changes)) c g k is here slot below all =
      drop-bodies st r c g k c.target refl slot below
      (subst (λ (o : Option ℕ). AllByRecursion (Agrees O s by (step.Drop st) r c) (changed_body g o c.target)) here all)
  drop-made st r _ c g k is here slot below all = absurd (cc is)

  drop-parent :
      (st : Drop) (r : Reply) (c : Carry) (g : Generation) (k : ℕ) (window : Option Window) → AgreesToDrop window r c.target → shelf.AgreesToDrop r c → c.row ≡ Some k → g.slot < SLOTS → k < GUEST_REGIONS
      → AllByRecursion (Agrees O s by (step.Drop st) r c) (if_made r (changed_body g c.row c.target)) → IsParent k c.parent
  drop-parent st r c g k None is gives here slot below all =
      no-parent k c.parent (subst (λ (x : Reply). shelf.AgreesToDrop x c) is.0 gives).1
  drop-parent st r c g k (Some window) is gives here slot below all = drop-made st r r c g k is.0 here slot below all

  drop-brings : (st : Drop) (r : Reply) (c : Carry) → IsPlanned plans (step.Drop st) c
      → AllByRecursion (Agrees O s by (step.Drop st) r c) (components O.opening.harts by (step.Drop st) r c) → Brings (step.Drop st) c
  drop-brings st r c planned all =
      elim (past (Agrees O s by (step.Drop st) r c) (with_region c.row (guest_in (s (Component component.Dir)).value st.name st.stage)) st.generation
      (λ g. component.Shelf ∷ component.Space g.slot ∷ if_made r (changed_body g c.row c.target)) (λ why. reply.Drop (Err why)) r c all (λ at. at)) [
        | inl admitted ↦
            let g = admitted.guest in
            let slot = given-slot st.name st.stage c.row st.generation g admitted.is in (
              subst IsGiven (sym admitted.shows) slot,
              row-brought c.row c.parent (row_of plans st.name st.region) planned
                  (λ k is.
                  let below = row-below plans st.name st.region k (good st.name) is in
                  let windows = (s (Component (component.Space g.slot))).value.windows in
                  let space = subst (λ (o : Option ℕ). IsSomeAnd o (λ row. AgreesToDrop (find (is_of row) windows) r c.target)) (planned ∙ is) admitted.agree.1.0 in
                  (below, drop-parent st r c g k (find (is_of k) windows) space admitted.agree.0 (planned ∙ is) slot below admitted.agree.1.1)),
            )
        | inr refused ↦ (
          subst IsGiven (sym refused.none) tt,
          row-brought c.row c.parent (row_of plans st.name st.region) planned
              (λ k is. (row-below plans st.name st.region k (good st.name) is, no-parent k c.parent (ap (λ (x : Carry). x.parent) refused.carry))),
        )
      ]

  -- a reset and a feed of a device
  device-brings :
      (name region : List ℕ) (shown : Option Generation) (st : Step) (r : Reply) (c : Carry) (refused : Refusal → Reply)
      → c.row ≡ row_of plans name region
      → (Agrees O s by st r c component.Dir → Admits (with_region c.row (guest_in (s (Component component.Dir)).value name Made)) shown refused r c)
      → ((slot row : ℕ) → Agrees O s by st r c (component.Body slot row) → c.parent ≡ parent_of (s (Component (component.Body slot row))).value)
      → AllByRecursion (Agrees O s by st r c) (past_dir shown (λ g. row_body g c.row))
      → IsGiven shown × IfSome c.row (λ row. (row < GUEST_REGIONS) × IsParent row c.parent)
  device-brings name region shown st r c refused planned admits parent all =
      elim (past (Agrees O s by st r c) (with_region c.row (guest_in (s (Component component.Dir)).value name Made)) shown (λ g. row_body g c.row) refused r c all admits) [
        | inl admitted ↦
            let g = admitted.guest in
            let slot = given-slot name Made c.row shown g admitted.is in (
              subst IsGiven (sym admitted.shows) slot,
              row-brought c.row c.parent (row_of plans name region) planned
                  (λ k is.
                  let below = row-below plans name region k (good name) is in
                  let here = subst (λ (o : Option ℕ). AllByRecursion (Agrees O s by st r c) (row_body g o)) (planned ∙ is) admitted.agree in
                  let body = (s (Component (component.Body g.slot k))).value in
                  (below, subst (IsParent k) (sym (parent g.slot k here.0)) (live-parent g k body slot below refl))),
            )
        | inr refused ↦ (
          subst IsGiven (sym refused.none) tt,
          row-brought c.row c.parent (row_of plans name region) planned
              (λ k is. (row-below plans name region k (good name) is, no-parent k c.parent (ap (λ (x : Carry). x.parent) refused.carry))),
        )
      ]

  -- what a step brings
  pub brings-of : (st : Step) (r : Reply) (c : Carry) → IsPlanned plans st c
      → AllByRecursion (Agrees O s by st r c) (components O.opening.harts by st r c) → Brings st c
  brings-of (step.Add st) r c planned all = add-brings st r c planned all
  brings-of (step.Drop st) r c planned all = drop-brings st r c planned all
  brings-of (step.Devreset st) r c planned all =
      device-brings st.name st.region st.generation (step.Devreset st) r c (λ why. reply.Devreset (Err why)) planned (λ at. at) (λ slot row at. at.1) all
  brings-of (step.Feed st) r c planned all =
      device-brings st.name st.region st.generation (step.Feed st) r c (λ why. reply.Feed (Err why)) planned (λ at. at) (λ slot row at. at.1) all
  brings-of _ r c planned all = tt

-- what a step of a terminal brings
pub step-brings :
    (O : Origin) (s : State (machine O)) (e : Entry) (t : TerminalState) → AreEntries (s (Component component.Dir)).value.entries → HaveParents O s
    → MayHappen (machine O) s e → TerminalAgrees t e → ((name : List ℕ) → HasGoodRegions (regions_of t.plans name)) → Brings e.event.step e.carry
step-brings O s e t are parents may agrees good =
    brings-of O s e.event.actor are parents t.plans good e.event.step e.event.reply e.carry
    (next-planned t t.owed e.event.step e.event.reply e.carry agrees.step) (touched-agree O s e may)
