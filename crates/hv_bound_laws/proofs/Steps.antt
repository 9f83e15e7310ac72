-- What is known of the components of a board beside their order: it holds at the start, and each event keeps it.
use Rattle.std.proofs.Common.{◌≡◌, ℕ, Bool, true, false, cond, ◌||◌, refl, sym, ap, ◌∙◌, List, [], ◌∷◌, length, map, set, Option, None, Some, Ok, Err}
use Rattle.std.specs.List.{list_any}
use Rattle.std.proofs.lemmas.List.{length-set}
use Rattle.std.proofs.lemmas.List.Elements.{All-nil}
use Rattle.hv_answer.specs.declared.reply.Reply.{Reply}
use Rattle.hv_answer.specs.declared.reply.Reply.TheVariants as reply
use Rattle.hv_dir.specs.Directory.{DirState, at_next, entry_of, if_at, is_stage, with_entry}
use Rattle.hv_dir.specs.declared.entry.Entry.{Entry as Guest}
use Rattle.hv_dir.specs.declared.refusal.DirRefusal.TheVariants.{GuestState}
use Rattle.hv_event.specs.declared.event.ActorId.{ActorId}
use Rattle.hv_event.specs.declared.event.CellId.{CellId}
use Rattle.hv_event.specs.declared.event.CellId.TheVariants as component
use Rattle.hv_guest_steps.specs.Additions.{CanBe}
use Rattle.hv_kinds.specs.declared.generation.Generation.{Generation}
use Rattle.hv_kinds.specs.declared.stage.Stage.{Stage}
use Rattle.hv_laws.proofs.Frame.{after-step, touched}
use Rattle.hv_laws.proofs.Legal.{becomes-by, cell-becomes}
use Rattle.hv_laws.specs.Board.{Becomes}
use Rattle.hv_machine.specs.Machine.{MayHappen, State, next_state, touches}
use Rattle.hv_model.specs.Cell.{Component, same_cell, same_component}
use Rattle.hv_model.specs.declared.entry.Entry.{Entry}
use Rattle.hv_model.specs.Legal.{area_at_start, start}
use Rattle.hv_model.specs.Origin.{Origin}
use Rattle.hv_model.specs.Plans.{Planned, region_of, row_of}
use Rattle.hv_model.specs.Rules.{components_of, machine}
use Rattle.hv_region.specs.declared.plan.RegionPlan.{RegionPlan}
use Rattle.hv_rules.specs.Area.{AreaAgrees, area_after}
use Rattle.hv_rules.specs.Body.{BodyAgrees, BodyValue, body_after}
use Rattle.hv_rules.specs.Carry.{Carry}
use Rattle.hv_rules.specs.Dir.{DirAgrees, changed, dir_after}
use Rattle.hv_rules.specs.Footprint.{components}
use Rattle.hv_rules.specs.Space.{SpaceAgrees, space_after}
use Rattle.hv_space.specs.Space.{SpaceState}
use Rattle.hv_step.specs.declared.step.Step.{Step}
use Rattle.hv_step.specs.declared.step.Step.TheVariants as step
use Rattle.hv_text.specs.declared.limits.TheConstants.{SLOTS}
use Rattle.hv_window_laws.specs.Guests.{Changes}
use Rattle.hv_window_laws.specs.Legal.{guests_of}
use Rattle.hv_order_laws.proofs.Legal.{IsKnown, guest-step, guests-order}
use Rattle.hv_laws.proofs.Legal.{made_of}
use Rattle.hv_bound_laws.specs.Bounds.{IsPlanAt}
use Rattle.hv_bound_laws.specs.Openings.{IsOpeningGood}
use Rattle.hv_bound_laws.proofs.Areas.{area-long}
use Rattle.hv_bound_laws.proofs.Asked.{IsAsked, asked}
use Rattle.hv_bound_laws.proofs.Bodies.{BodyFits, add-fits, drop-fits, same-fits}
use Rattle.hv_bound_laws.proofs.Plans.{can-be, named-at, plans-good}
use Rattle.hv_bound_laws.proofs.Spaces.{SpaceFits, add-space, drop-space}

-- the directory has a place for each slot

put-long : (d : DirState) (slot : ℕ) (guest : Option Guest) → length d.entries ≡ SLOTS → length (set d.entries slot guest) ≡ SLOTS
put-long d slot guest long = length-set d.entries slot guest ∙ long

turned-by : (d : DirState) (stage : Stage) (next : Option Stage) (found : Option Guest) → length d.entries ≡ SLOTS
    → length (changed d (if_at stage (λ guest. with_entry d guest.slot (at_next next guest)) found)).entries ≡ SLOTS
turned-by d stage next None long = long
turned-by d stage next (Some guest) long = by (is_stage guest.stage stage)
  where
    by : (b : Bool) → length (changed d (cond b (Ok (with_entry d guest.slot (at_next next guest))) (Err (GuestState guest.stage)))).entries ≡ SLOTS
    by true = put-long d guest.slot (at_next next guest) long
    by false = long

dir-long : (d : DirState) (x : Step) (r : Reply) (c : Carry) → length d.entries ≡ SLOTS → length (dir_after d x r c).entries ≡ SLOTS
dir-long d (step.Name x) (reply.Name (Ok guest)) c long = put-long d guest.slot _ long
dir-long d (step.Name x) r c long = long
dir-long d (step.Stage x) r c long = turned-by d x.from x.to (entry_of d x.name) long
dir-long d x r c long = long

-- a step at a space and at a body

module _ (O : Origin) (good : IsOpeningGood O) where
  abbrev plans : List Planned
  plans = O.opening.plans

  can-add : (name region : List ℕ) (row : Option ℕ) (plan : Option (RegionPlan × ℕ)) → row ≡ row_of plans name region → plan ≡ region_of plans name region
      → (guest : Generation) (n : ℕ) (p : RegionPlan × ℕ) → row ≡ Some n → plan ≡ Some p → CanBe (record { birth = guest.birth; row = n; plan = p.0; vcpus = p.1 })
  can-add name region row plan by-row by-plan guest n p row-is plan-is =
      can-be O.opening.harts O.opening.areas plans good name region guest n p.1 p.0 (sym by-row ∙ row-is) (sym by-plan ∙ plan-is)

  plan-at : (name region : List ℕ) (row : Option ℕ) (plan : Option (RegionPlan × ℕ)) → row ≡ row_of plans name region → plan ≡ region_of plans name region
      → (n : ℕ) (p : RegionPlan × ℕ) → row ≡ Some n → plan ≡ Some p → IsPlanAt plans n p.0
  plan-at name region row plan by-row by-plan n p row-is plan-is = record {
    guest = name;
    at = (named-at O.opening.harts O.opening.areas plans good name region n p.1 p.0 (sym by-row ∙ row-is) (sym by-plan ∙ plan-is)).at;
  }

  space-fits : (space : SpaceState) (x : Step) (r : Reply) (c : Carry) → IsAsked plans x c → SpaceAgrees space x r c → SpaceFits space → SpaceFits (space_after space x r c)
  space-fits space (step.Add x) (reply.Add (Ok ch)) c asks agrees fits =
      add-space space c.target c.stopped x.generation c.row c.plan (can-add x.name x.region c.row c.plan asks.0 asks.1) agrees fits
  space-fits space (step.Add x) r c asks agrees fits = fits
  space-fits space (step.Drop x) (reply.Drop (Ok ch)) c asks agrees fits = drop-space space c.row fits
  space-fits space (step.Drop x) r c asks agrees fits = fits
  space-fits space x r c asks agrees fits = fits

  body-fits : (harts : ℕ) (by : ActorId) (g j : ℕ) (body : BodyValue) (x : Step) (r : Reply) (c : Carry) → list_any (same_component (component.Body g j)) (components harts by x r c) ≡ true
      → IsAsked plans x c → BodyFits plans j body → BodyFits plans j (body_after j body x r c)
  body-fits harts by g j body (step.Add x) (reply.Add (Ok ch)) c touched asks fits =
      add-fits plans g j x.generation c.row c.plan c.device c.target body touched (plan-at x.name x.region c.row c.plan asks.0 asks.1) fits
  body-fits harts by g j body (step.Add x) r c touched asks fits = fits
  body-fits harts by g j body (step.Drop x) (reply.Drop (Ok ch)) c touched asks fits = drop-fits plans j c.row c.target body fits
  body-fits harts by g j body (step.Drop x) r c touched asks fits = fits
  body-fits harts by g j body x r c touched asks fits = same-fits plans j body x r c refl fits

  -- what is kept

  pub record IsKept (s : State (machine O)) : Type 0 where
    pub spaces : (slot : ℕ) → SpaceFits (s (Component (component.Space slot))).value
    pub bodies : (slot row : ℕ) → BodyFits plans row (s (Component (component.Body slot row))).value
    pub lengths : (area : ℕ) → length (s (Component (component.Area area))).value ≡ length (area_at_start O area)
    pub places : length (s (Component component.Dir)).value.entries ≡ SLOTS

  pub starts-kept : IsKept (start O)
  starts-kept = record {
    spaces = λ slot. record { within = All-nil _; clock = tt };
    bodies = λ slot row. tt;
    lengths = λ area. refl;
    places = refl;
  }

  among : (x : CellId) (cs : List CellId) → list_any (same_cell (Component x)) (map Component cs) ≡ list_any (same_component x) cs
  among x [] = refl
  among x (c ∷ cs) = ap (λ (b : Bool). same_component x c || b) (among x cs)

  module _ (s : State (machine O)) (e : Entry) (may : MayHappen (machine O) s e) (k : IsKnown O s) (kept : IsKept s) where
    abbrev next : State (machine O)
    next = next_state (machine O) s e

    abbrev x : Step
    x = e.event.step

    abbrev r : Reply
    r = e.event.reply

    abbrev c : Carry
    c = e.carry

    abbrev cs : List CellId
    cs = components_of O.opening.harts e

    asks : IsAsked plans x c
    asks = asked O s e may k

    changes : Changes cs (guests_of O s) (guests_of O next) (made_of e)
    changes = (guest-step O s e may (guests-order O (plans-good O good) s e may k)).components

    body-agrees : (g j : ℕ) → list_any (same_component (component.Body g j)) cs ≡ true → BodyAgrees j (s (Component (component.Body g j))).value x r c
    body-agrees g j t =
        let y = Component (component.Body g j) in
        (touched (list_any (same_component (component.Body g j)) cs) (BodyAgrees j (s y).value x r c) (body_after j (s y).value x r c) (s y).value (next y).value t (changes.bodies g j)).0

    areas-become : (a : ℕ)
        → Becomes (list_any (same_component (component.Area a)) cs) (AreaAgrees (s (Component (component.Area a))).value x r c)
        (area_after (s (Component (component.Area a))).value x r c) (s (Component (component.Area a))).value (next (Component (component.Area a))).value
    areas-become a =
        let m = machine O in
        let y = Component (component.Area a) in
        becomes-by (touches m y e) (list_any (same_component (component.Area a)) cs) (m.IsAllowedAt y (s y).value e) (m.apply_at y (s y).value e) (s y).value (next y).value
        (among (component.Area a) cs) (cell-becomes m s e may y)

    pub kept-next : IsKept next
    kept-next = record {
      spaces = λ g.
          let y = Component (component.Space g) in
          after-step SpaceFits (list_any (same_component (component.Space g)) cs) (SpaceAgrees (s y).value x r c) (space_after (s y).value x r c) (s y).value (next y).value (changes.spaces g)
          (λ t agreed. space-fits (s y).value x r c asks agreed (kept.spaces g)) (λ t. kept.spaces g);
      bodies = λ g j.
          let y = Component (component.Body g j) in
          after-step (BodyFits plans j) (list_any (same_component (component.Body g j)) cs) (BodyAgrees j (s y).value x r c) (body_after j (s y).value x r c) (s y).value (next y).value (changes.bodies g j)
          (λ t agreed. body-fits O.opening.harts e.event.actor g j (s y).value x r c t asks (kept.bodies g j)) (λ t. kept.bodies g j);
      lengths = λ a.
          let y = Component (component.Area a) in
          after-step (λ (bytes : List ℕ). length bytes ≡ length (area_at_start O a)) (list_any (same_component (component.Area a)) cs) (AreaAgrees (s y).value x r c)
          (area_after (s y).value x r c) (s y).value (next y).value (areas-become a)
          (λ t agreed. area-long O good (λ g j. (s (Component (component.Body g j))).value) kept.bodies a (s y).value (kept.lengths a) O.opening.harts e.event.actor x r c t body-agrees)
          (λ t. kept.lengths a);
      places =
          let y = Component component.Dir in
          after-step (λ (d : DirState). length d.entries ≡ SLOTS) (list_any (same_component component.Dir) cs) (DirAgrees (s y).value x r c) (dir_after (s y).value x r c) (s y).value (next y).value changes.dir
          (λ t agreed. dir-long (s y).value x r c kept.places) (λ t. kept.places);
    }
