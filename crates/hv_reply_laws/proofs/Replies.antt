-- The replies to terminals' steps.
use Rattle.std.proofs.Common.{◌≡◌, ℕ, ◌<◌, ◌==◌, ◌&&◌, ◌+◌, ◌⊎◌, inl, inr, Bool, true, false, refl, sym, ap, subst, ◌∙◌, List, [], ◌∷◌, ◌++◌, length, map, Option, None, Some, Result, Ok, Err, eq-eqb, nat_lt}
use Rattle.std.specs.Prelude.{IsSomeAnd, MatchBool, find, if◌then◌else◌, slice_range}
use Rattle.std.specs.List.{AllByRecursion, range_with_len}
use Rattle.hv_answer.specs.declared.reply.Reply.{Reply}
use Rattle.hv_answer.specs.declared.reply.Reply.TheVariants as reply
use Rattle.hv_body.specs.Windows.{offset_in}
use Rattle.hv_dir.specs.Directory.{AreEntries}
use Rattle.hv_emu.specs.Device.{DevState}
use Rattle.hv_event.specs.declared.event.ActorId.{ActorId}
use Rattle.hv_event.specs.declared.event.CellId.{CellId}
use Rattle.hv_event.specs.declared.event.CellId.TheVariants as component
use Rattle.hv_files.specs.declared.refusal.FileRefusal.{FileRefusal}
use Rattle.hv_kinds.specs.declared.address.AddressType.TheVariants.{Memory}
use Rattle.hv_kinds.specs.declared.generation.Generation.{Generation}
use Rattle.hv_kinds.specs.declared.stage.Stage.TheVariants.{Made}
use Rattle.hv_machine.specs.Machine.{State}
use Rattle.hv_model.specs.Cell.{Component}
use Rattle.hv_dts.specs.Reading.{IsSourceOf}
use Rattle.hv_model.specs.Files.{AnswersSource, FindsScript, FileMap, FilesAgree, GivesFile, read_file}
use Rattle.hv_model.specs.Origin.{Origin}
use Rattle.hv_model.specs.Rules.{machine}
use Rattle.hv_programs.specs.Line.{GivesSlot, IsGiven, IsGuest}
use Rattle.hv_refusal.specs.declared.refusal.Refusal.{Refusal}
use Rattle.hv_refusal.specs.declared.refusal.Refusal.TheVariants as refusal
use Rattle.hv_region.specs.declared.plan.RegionPlan.{RegionPlan}
use Rattle.hv_region.specs.declared.plan.VcpuPlan.{VcpuPlan}
use Rattle.hv_region.specs.declared.window.Window.{Window}
use Rattle.hv_rules.specs.Body.{Range, memory, area, no_memory, ShowsLevel, ShowsMemory, is_born, line_in, loaded_result, range_of, shared_in}
use Rattle.hv_rules.specs.Carry.{Carry}
use Rattle.hv_rules.specs.Dir.{Admits, AdmitsBy, guest_in, with_region}
use Rattle.hv_rules.specs.Footprint.{all_queues, changed_body, components, home_queue, if_made, past_dir, past_dir_if, reached_by, row_body, shared_area, two_bodies}
use Rattle.hv_rules.specs.Handed.{handed_over}
use Rattle.hv_rules.specs.Shelf.{Gives, device_for, is_added, unless_stopped}
use Rattle.hv_rules.specs.Space.{AgreesToDrop, AgreesToLoad, HandsWindow, is_dropped, is_of}
use Rattle.hv_rules.specs.Vcpu.{AgreesToAdd, AgreesToPin}
use Rattle.hv_rules.specs.Windows.{window_at}
use Rattle.hv_shown.specs.Appends.{IsShown}
use Rattle.hv_step.specs.declared.step.Add.{Add}
use Rattle.hv_step.specs.declared.step.ByGuest.{ByGuest}
use Rattle.hv_step.specs.declared.step.Drop.{Drop}
use Rattle.hv_step.specs.declared.step.Load.{Load}
use Rattle.hv_step.specs.declared.step.Mem.{Mem}
use Rattle.hv_step.specs.declared.step.Pin.{Pin}
use Rattle.hv_step.specs.declared.step.Run.{Run}
use Rattle.hv_step.specs.declared.step.Sample.{Sample}
use Rattle.hv_step.specs.declared.step.Step.{Step}
use Rattle.hv_step.specs.declared.step.Step.TheVariants as step
use Rattle.hv_terminals.specs.Terminal.{IsCounted, IsInSlot}
use Rattle.hv_vcpu.specs.Vcpu.{VcpuValue}
use Rattle.hv_text.specs.Lines.{script_lines}
use Rattle.hv_text.specs.declared.limits.TheConstants.{SLOTS}
use Rattle.hv_reply_laws.proofs.Slots.{claim-below, given-below, turned-below}
use Rattle.hv_reply_laws.proofs.Touched.{Agrees, past}
use Rattle.hv_reply_laws.specs.Replied.{IsAnswered, IsReplied, IsShownFor}

-- a reply that is this one is replied as this one is
said : (st : Step) (r given : Reply) (c : Carry) → r ≡ given → IsCounted st given c → GivesSlot given → IsInSlot st → IsGuest c.guest → IsShownFor st given → IsReplied st r c
said st r given c is counted slot in_slot guest shown = record {
  counted = subst (λ (x : Reply). IsCounted st x c) (sym is) counted;
  slot = subst GivesSlot (sym is) slot;
  in_slot = in_slot;
  guest = guest;
  shown = subst (IsShownFor st) (sym is) shown;
}

-- no guest is handed over
no-guest : (c kept : Carry) → kept ≡ c → kept.guest ≡ None → IsGuest c.guest
no-guest c kept is none = subst IsGuest (sym none ∙ ap (λ (k : Carry). k.guest) is) tt

-- a generation that is shown is a slot of the board
shown-given : (shown : Option Generation) (g : Generation) → shown ≡ Some g → g.slot < SLOTS → IsGiven shown
shown-given shown g is below = subst IsGiven (sym is) below

none-given : (shown : Option Generation) → shown ≡ None → IsGiven shown
none-given shown is = subst IsGiven (sym is) tt

region-given : (row : Option ℕ) (given : Result Generation Refusal) (g : Generation) → with_region row given ≡ Ok g → given ≡ Ok g
region-given (Some row) given g is = is
region-given None (Ok guest) g is = absurd (cc is)
region-given None (Err why) g is = absurd (cc is)

-- a source that is answered stands for a tree
source-shown : (found : Result (List ℕ) FileRefusal) (answer : Result (List ℕ) Refusal) → AnswersSource found answer → IsShown (reply.Dts answer)
source-shown (Ok bytes) (Ok given) is = (is.1, subst (λ (b : List ℕ). IsSourceOf b is.1) (sym is.0) is.2)
source-shown (Ok bytes) (Err why) is = tt
source-shown (Err why) (Ok given) is = absurd (cc is)
source-shown (Err why) (Err given) is = tt

no-row : (given : Result Generation Refusal) (g : Generation) → with_region None given ≡ Ok g → ⊥
no-row (Ok guest) g is = cc is
no-row (Err why) g is = cc is

-- a run
run-replied : (m : FileMap) (s : Run) (r : Reply) (c : Carry) → FilesAgree m (step.Run s) r c → IsGuest c.guest → IsReplied (step.Run s) r c
run-replied m s (reply.Run (Ok script)) c agrees guest = record {
  counted = counted-of (read_file m s.path) agrees;
  slot = tt;
  in_slot = tt;
  guest = guest;
  shown = tt;
}
  where
    same-script : (bytes : List ℕ) → ◌≡◌ {A = Result (List ℕ) Refusal} (Ok script) (Ok bytes) → bytes ≡ script
    same-script bytes is = cc is

    counted-of : (found : Result (List ℕ) FileRefusal) → FindsScript found (Ok script) c.lines → IsCounted (step.Run s) (reply.Run (Ok script)) c
    counted-of (Ok bytes) (lines, inl is) = lines ∙ ap (λ (b : List ℕ). Some (length (script_lines b))) (same-script bytes is)
    counted-of (Ok bytes) (lines, inr (inl is)) = absurd (cc is)
    counted-of (Ok bytes) (lines, inr (inr is)) = absurd (cc is)
    counted-of (Err why) (lines, inl is) = absurd (cc is)
    counted-of (Err why) (lines, inr is) = absurd (cc is)
run-replied m s (reply.Run (Err why)) c agrees guest = record { counted = tt; slot = tt; in_slot = tt; guest = guest; shown = tt }
run-replied m s _ c agrees guest = absurd agrees

module _ (O : Origin) (s : State (machine O)) (by : ActorId) (are : AreEntries (s (Component component.Dir)).value.entries) where
  -- the VCPU of a change agrees, which stands last
  last-agrees : (P : CellId → Type 0) (xs : List CellId) (x : CellId) → AllByRecursion P (xs ++ x ∷ []) → P x
  last-agrees P [] x all = all.0
  last-agrees P (y ∷ xs) x all = last-agrees P xs x all.1

  -- a change of a VCPU, by number or by guest
  by-guest :
      (st : Step) (r : Reply) (c : Carry) (guest : Option ByGuest) (later : List CellId) (refused : Refusal → Reply)
      → (Agrees O s by st r c component.Dir → AdmitsBy (s (Component component.Dir)).value guest refused r c)
      → (AllByRecursion (Agrees O s by st r c) later → IsReplied st r c)
      → ((why : Refusal) → r ≡ refused why → IsReplied st r c)
      → AllByRecursion (Agrees O s by st r c) (past_dir_if guest later) → IsReplied st r c
  by-guest st r c None later refused admits made not all = made all
  by-guest st r c (Some g) later refused admits made not all =
      elim (past (Agrees O s by st r c) (guest_in (s (Component component.Dir)).value g.name Made) g.generation (λ generation. later) refused r c all admits) [
        | inl admitted ↦ made admitted.agree
        | inr is ↦ not is.why is.reply
      ]

  -- a step by guest whose reply others decide, once it is admitted
  on-guest :
      (st : Step) (r : Reply) (c : Carry) (given : Result Generation Refusal) (shown : Option Generation) (later : Generation → List CellId) (refused : Refusal → Reply)
      → (Agrees O s by st r c component.Dir → Admits given shown refused r c)
      → ((g : Generation) → given ≡ Ok g → shown ≡ Some g → AllByRecursion (Agrees O s by st r c) (later g) → IsReplied st r c)
      → ((why : Refusal) → shown ≡ None → r ≡ refused why → IsReplied st r c)
      → AllByRecursion (Agrees O s by st r c) (past_dir shown later) → IsReplied st r c
  on-guest st r c given shown later refused admits made not all =
      elim (past (Agrees O s by st r c) given shown later refused r c all admits) [
        | inl admitted ↦ made admitted.guest admitted.is admitted.shows admitted.agree
        | inr is ↦ not is.why is.none is.reply
      ]

  added-replied : (v : VcpuValue) (vcpu birth : ℕ) (plan : Option (ℕ × VcpuPlan)) (r : Reply) (c : Carry) → AgreesToAdd v birth plan r → IsGuest c.guest
      → IsReplied (step.Vadd (record { vcpu = vcpu; birth = birth })) r c
  added-replied v vcpu birth None r c agrees guest = absurd agrees
  added-replied v vcpu birth (Some plan) r c agrees guest = said (step.Vadd _) r _ c agrees tt tt tt guest tt

  -- a reply of a kind that neither opens a script nor gives a slot
  add-kind : (st : Add) (r : Reply) (c : Carry) → is_added r ≡ true → IsInSlot (step.Add st) → IsGuest c.guest → IsReplied (step.Add st) r c
  add-kind st (reply.Add (Ok changes)) c is in_slot guest = record { counted = tt; slot = tt; in_slot = in_slot; guest = guest; shown = tt }
  add-kind st _ c is in_slot guest = absurd (cc is)

  drop-kind : (st : Drop) (r : Reply) (c : Carry) → is_dropped r ≡ true → IsInSlot (step.Drop st) → IsGuest c.guest → IsReplied (step.Drop st) r c
  drop-kind st (reply.Drop (Ok changes)) c is in_slot guest = record { counted = tt; slot = tt; in_slot = in_slot; guest = guest; shown = tt }
  drop-kind st _ c is in_slot guest = absurd (cc is)

  -- what a body says of a load and of a look
  some-load : (w : Option Window) (b : Option (List ℕ)) (r : Reply) (F : Window → List ℕ → Result ℕ Refusal) (Q : Window → List ℕ → Type 0)
      → IsSomeAnd w (λ x. IsSomeAnd b (λ y. (r ≡ reply.Load (F x y)) × Q x y)) → (answer : Result ℕ Refusal) × (r ≡ reply.Load answer)
  some-load None b r F Q is = absurd is
  some-load (Some x) None r F Q is = absurd is
  some-load (Some x) (Some y) r F Q is = (F x y, is.0)

  -- a file that is loaded
  load-kind :
      (st : Load) (r : Reply) (c : Carry) (g : Generation) → IsGuest c.guest
      → GivesFile (read_file (s (Component component.Files)).value st.path) r c
      → AgreesToLoad (s (Component (component.Space g.slot))).value.windows st.address c.bytes r c
      → AllByRecursion (Agrees O s by (step.Load st) r c) (reached_by g c.window c.area) → IsReplied (step.Load st) r c
  load-kind st r c g guest gives agrees all = file-kind (read_file (s (Component component.Files)).value st.path) gives
    where
      body-kind : (window : Window) → Agrees O s by (step.Load st) r c (component.Body g.slot window.target) → IsReplied (step.Load st) r c
      body-kind window at =
          let body = (s (Component (component.Body g.slot window.target))).value in
          let found =
          some-load c.window c.bytes r
          (λ w b. loaded_result (range_of body (offset_in w st.address) (length b)) (length b))
          (λ w b. c.area ≡ shared_in (range_of body (offset_in w st.address) (length b)))
          at in
          said (step.Load st) r (reply.Load found.0) c found.1 tt tt tt guest tt

      hands : (found : Option Window) → HandsWindow found (reply.Load (Err refusal.NoWindow)) r c → IsReplied (step.Load st) r c
      hands None is = said (step.Load st) r (reply.Load (Err refusal.NoWindow)) c is.0 tt tt tt guest tt
      hands (Some window) is =
          body-kind window (subst (λ (w : Option Window). AllByRecursion (Agrees O s by (step.Load st) r c) (reached_by g w c.area)) is all).0

      file-kind : (found : Result (List ℕ) FileRefusal) → GivesFile found r c → IsReplied (step.Load st) r c
      file-kind (Ok bytes) gives =
          hands (window_at (s (Component (component.Space g.slot))).value.windows Memory st.address (length bytes)) (subst (λ (b : Option (List ℕ)). AgreesToLoad (s (Component (component.Space g.slot))).value.windows st.address b r c) gives agrees)
      file-kind (Err why) gives = said (step.Load st) r _ c gives.0 tt tt tt guest tt

  -- memory that is looked at
  some-mem : (w : Option Window) (F : Window → Range) (Q : Window → Type 0) (r : Reply) → IsSomeAnd w (λ x. ShowsMemory (F x) r × Q x) → (x : Window) × ShowsMemory (F x) r × Q x
  some-mem None F Q r is = absurd is
  some-mem (Some x) F Q r is = (x, is.0, is.1)

  some-area : (place : Option (ℕ × ℕ)) (F : ℕ × ℕ → List ℕ) (r : Reply) → IsSomeAnd place (λ p. r ≡ reply.Mem (Ok (F p))) → (answer : Result (List ℕ) Refusal) × (r ≡ reply.Mem answer)
  some-area None F r is = absurd is
  some-area (Some place) F r is = (Ok (F place), is)

  mem-kind :
      (st : Mem) (r : Reply) (c : Carry) (g : Generation) → IsGuest c.guest
      → HandsWindow (window_at (s (Component (component.Space g.slot))).value.windows Memory st.address st.count) (reply.Mem (Err refusal.NoWindow)) r c
      → AllByRecursion (Agrees O s by (step.Mem st) r c) (reached_by g c.window c.area) → IsReplied (step.Mem st) r c
  mem-kind st r c g guest agrees all =
      hands (window_at (s (Component (component.Space g.slot))).value.windows Memory st.address st.count) agrees
    where
      mem-said : (answer : Result (List ℕ) Refusal) → r ≡ reply.Mem answer → IsReplied (step.Mem st) r c
      mem-said answer is = said (step.Mem st) r (reply.Mem answer) c is tt tt tt guest tt

      area-kind : (number offset : ℕ) → c.area ≡ Some (number, offset) → AllByRecursion (Agrees O s by (step.Mem st) r c) (shared_area c.area) → IsReplied (step.Mem st) r c
      area-kind number offset is all =
          let at = subst (λ (a : Option (ℕ × ℕ)). AllByRecursion (Agrees O s by (step.Mem st) r c) (shared_area a)) is all in
          let bytes = (s (Component (component.Area number))).value in
          let found = some-area c.area (λ place. slice_range bytes place.1 (place.1 + st.count)) r at.0 in
          mem-said found.0 found.1

      range-kind : (range : Range) → ShowsMemory range r → c.area ≡ shared_in range → AllByRecursion (Agrees O s by (step.Mem st) r c) (shared_area c.area) → IsReplied (step.Mem st) r c
      range-kind (memory bytes) is area_is all = mem-said (Ok bytes) is
      range-kind (area number offset) is area_is all = area-kind number offset area_is all
      range-kind no_memory is area_is all = mem-said (Err refusal.NotMemory) is

      body-kind : (window : Window) → AllByRecursion (Agrees O s by (step.Mem st) r c) (component.Body g.slot window.target ∷ shared_area c.area) → IsReplied (step.Mem st) r c
      body-kind window all =
          let body = (s (Component (component.Body g.slot window.target))).value in
          let range : Window → Range = λ w. range_of body (offset_in w st.address) st.count in
          let found = some-mem c.window range (λ w. c.area ≡ shared_in (range w)) r all.0 in
          range-kind (range found.0) found.1 found.2 all.1

      hands : (found : Option Window) → HandsWindow found (reply.Mem (Err refusal.NoWindow)) r c → IsReplied (step.Mem st) r c
      hands None is = mem-said (Err refusal.NoWindow) is.0
      hands (Some window) is = body-kind window (subst (λ (w : Option Window). AllByRecursion (Agrees O s by (step.Mem st) r c) (reached_by g w c.area)) is all)

  -- a sample's reply is shown by the body of its row
  level-kind : (st : Sample) (level : Bool) (r : Reply) (c : Carry) → ShowsLevel level r → st.generation.slot < SLOTS → IsGuest c.guest → IsReplied (step.Sample st) r c
  level-kind st level (reply.Sample (Some sampled)) c is in_slot guest = record { counted = tt; slot = tt; in_slot = in_slot; guest = guest; shown = tt }
  level-kind st level (reply.Sample None) c is in_slot guest = record { counted = tt; slot = tt; in_slot = in_slot; guest = guest; shown = tt }
  level-kind st level _ c is in_slot guest = absurd is

  pin-kind : (st : Pin) (v : VcpuValue) (r : Reply) (c : Carry) → AgreesToPin v st.row st.generation.birth r c → IsGuest c.guest → IsReplied (step.Pin st) r c
  pin-kind st v (reply.Pin (Some pinned)) c is guest = record { counted = tt; slot = tt; in_slot = tt; guest = guest; shown = tt }
  pin-kind st v (reply.Pin None) c is guest = record { counted = tt; slot = tt; in_slot = tt; guest = guest; shown = tt }
  pin-kind st v _ c is guest = absurd is

  sample-replied : (st : Sample) (r : Reply) (c : Carry) → st.generation.slot < SLOTS → IsGuest c.guest
      → AllByRecursion (Agrees O s by (step.Sample st) r c) (two_bodies st.generation st.row st.parent) → IsReplied (step.Sample st) r c
  sample-replied st r c below guest all = bodies (nat_lt st.row st.parent) all
    where
      own-kind : Agrees O s by (step.Sample st) r c (component.Body st.generation.slot st.row) → IsReplied (step.Sample st) r c
      own-kind at =
          level-kind st (is_born st.generation.birth (s (Component (component.Body st.generation.slot st.row))).value && line_in (s (Component (component.Body st.generation.slot st.row))).value) r c (subst (λ (b : Bool). MatchBool b (ShowsLevel (is_born st.generation.birth (s (Component (component.Body st.generation.slot st.row))).value && line_in (s (Component (component.Body st.generation.slot st.row))).value) r) (Unit {0})) (eq-eqb st.row st.row refl) at.0) below guest

      bodies : (first : Bool) → AllByRecursion (Agrees O s by (step.Sample st) r c) (if first then (component.Body st.generation.slot st.row) ∷ (component.Body st.generation.slot st.parent) ∷ [] else (component.Body st.generation.slot st.parent) ∷ (component.Body st.generation.slot st.row) ∷ []) → IsReplied (step.Sample st) r c
      bodies true all = own-kind all.0
      bodies false all = own-kind all.1.0

  -- the reply to a step, by what all that it touches say
  pub replied-of :
      (st : Step) (r : Reply) (c : Carry)
      → IsAnswered st → handed_over st c ≡ c → ((sample : Sample) → st ≡ step.Sample sample → sample.generation.slot < SLOTS)
      → AllByRecursion (Agrees O s by st r c) (components O.opening.harts by st r c) → IsReplied st r c
  replied-of (step.Ls st) r c answered alone sampled all = said (step.Ls st) r _ c all.0 tt tt tt (no-guest c _ alone refl) tt
  replied-of (step.Cat st) r c answered alone sampled all = said (step.Cat st) r _ c all.0 tt tt tt (no-guest c _ alone refl) tt
  replied-of (step.Dts st) r c answered alone sampled all =
      said (step.Dts st) r (reply.Dts all.0.0) c all.0.1 tt tt tt (no-guest c _ alone refl)
      (source-shown (read_file (s (Component component.Files)).value st.path) all.0.0 all.0.2)
  replied-of (step.Run st) r c answered alone sampled all =
      run-replied (s (Component component.Files)).value st r c all.0 (no-guest c _ alone refl)
  replied-of (step.Mkdir st) r c answered alone sampled all = said (step.Mkdir st) r _ c all.0 tt tt tt (no-guest c _ alone refl) tt
  replied-of (step.Rm st) r c answered alone sampled all = said (step.Rm st) r _ c all.0 tt tt tt (no-guest c _ alone refl) tt
  replied-of (step.Write st) r c answered alone sampled all = said (step.Write st) r _ c all.0 tt tt tt (no-guest c _ alone refl) tt
  replied-of (step.Asm st) r c answered alone sampled all =
      said (step.Asm st) r (reply.Asm all.0.0) c all.0.1 tt tt tt (no-guest c _ alone refl) tt
  replied-of (step.Guests st) r c answered alone sampled all = said (step.Guests st) r _ c all.0 tt tt tt (no-guest c _ alone refl) tt
  replied-of (step.Name st) r c answered alone sampled all =
      said (step.Name st) r _ c all.0 tt (claim-below (s (Component component.Dir)).value st.name c.stopped are) tt (no-guest c _ alone refl) tt
  replied-of (step.Stage st) r c answered alone sampled all =
      said (step.Stage st) r _ c all.0.0 tt tt tt (subst IsGuest (sym all.0.1) (turned-below (s (Component component.Dir)).value st.name st.from are)) tt
  replied-of (step.Add st) r c answered alone sampled all =
      on-guest (step.Add st) r c (with_region c.row (guest_in (s (Component component.Dir)).value st.name st.stage)) st.generation
      (λ g. component.Shelf ∷ component.Space g.slot ∷ if_made r (changed_body g c.row c.target)) (λ why. reply.Add (Err why)) (λ at. at)
      (λ g is shows later. add-plan c.plan later.0 (shown-given st.generation g shows (given-below (s (Component component.Dir)).value st.name st.stage g are (region-given c.row _ g is))))
      (λ why none is. said (step.Add st) r _ c is tt tt (none-given st.generation none) guest tt)
      all
    where
      guest : IsGuest c.guest
      guest = no-guest c _ alone refl

      add-plan : (plan : Option (RegionPlan × ℕ))
          → IsSomeAnd plan (λ plan. Gives (unless_stopped c.stopped (device_for (s (Component component.Shelf)).value plan.0.form)) r c) → IsGiven st.generation → IsReplied (step.Add st) r c
      add-plan None is given = absurd is
      add-plan (Some plan) is given = gives (unless_stopped c.stopped (device_for (s (Component component.Shelf)).value plan.0.form)) is
        where
          gives : (got : Result (Option DevState) Refusal) → Gives got r c → IsReplied (step.Add st) r c
          gives (Ok device) is = add-kind st r c is.0 given guest
          gives (Err why) is = said (step.Add st) r _ c is.0 tt tt given guest tt
  replied-of (step.Drop st) r c answered alone sampled all =
      on-guest (step.Drop st) r c (with_region c.row (guest_in (s (Component component.Dir)).value st.name st.stage)) st.generation
      (λ g. component.Shelf ∷ component.Space g.slot ∷ if_made r (changed_body g c.row c.target)) (λ why. reply.Drop (Err why)) (λ at. at)
      (λ g is shows later. drop-row g c.row later.1.0 (shown-given st.generation g shows (given-below (s (Component component.Dir)).value st.name st.stage g are (region-given c.row _ g is))))
      (λ why none is. said (step.Drop st) r _ c is tt tt (none-given st.generation none) guest tt)
      all
    where
      guest : IsGuest c.guest
      guest = no-guest c _ alone refl

      drop-row : (g : Generation) (row : Option ℕ)
          → IsSomeAnd row (λ row. AgreesToDrop (find (is_of row) (s (Component (component.Space g.slot))).value.windows) r c.target) → IsGiven st.generation → IsReplied (step.Drop st) r c
      drop-row g None is given = absurd is
      drop-row g (Some row) is given = window (find (is_of row) (s (Component (component.Space g.slot))).value.windows) is
        where
          window : (found : Option Window) → AgreesToDrop found r c.target → IsReplied (step.Drop st) r c
          window None is = said (step.Drop st) r _ c is.0 tt tt given guest tt
          window (Some w) is = drop-kind st r c is.0 given guest
  replied-of (step.Regions st) r c answered alone sampled all =
      on-guest (step.Regions st) r c (guest_in (s (Component component.Dir)).value st.name Made) st.generation (λ g. component.Space g.slot ∷ []) (λ why. reply.Regions (Err why)) (λ at. at)
      (λ g is shows later. said (step.Regions st) r _ c later.0 tt tt tt guest tt)
      (λ why none is. said (step.Regions st) r _ c is tt tt tt guest tt)
      all
    where
      guest : IsGuest c.guest
      guest = no-guest c _ alone refl
  replied-of (step.Load st) r c answered alone sampled all =
      on-guest (step.Load st) r c (guest_in (s (Component component.Dir)).value st.name Made) st.generation (λ g. component.Files ∷ component.Space g.slot ∷ reached_by g c.window c.area)
      (λ why. reply.Load (Err why)) (λ at. at)
      (λ g is shows later. load-kind st r c g guest later.0 later.1.0 later.1.1)
      (λ why none is. said (step.Load st) r _ c is tt tt tt guest tt)
      all
    where
      guest : IsGuest c.guest
      guest = no-guest c _ alone refl
  replied-of (step.Mem st) r c answered alone sampled all =
      on-guest (step.Mem st) r c (guest_in (s (Component component.Dir)).value st.name Made) st.generation (λ g. component.Space g.slot ∷ reached_by g c.window c.area)
      (λ why. reply.Mem (Err why)) (λ at. at)
      (λ g is shows later. mem-kind st r c g guest later.0 later.1)
      (λ why none is. said (step.Mem st) r _ c is tt tt tt guest tt)
      all
    where
      guest : IsGuest c.guest
      guest = no-guest c _ alone refl
  replied-of (step.Devreset st) r c answered alone sampled all =
      on-guest (step.Devreset st) r c (with_region c.row (guest_in (s (Component component.Dir)).value st.name Made)) st.generation (λ g. row_body g c.row) (λ why. reply.Devreset (Err why)) (λ at. at)
      (λ g is shows later. at-row g c.row is later (shown-given st.generation g shows (given-below (s (Component component.Dir)).value st.name Made g are (region-given c.row _ g is))))
      (λ why none is. said (step.Devreset st) r _ c is tt tt (none-given st.generation none) guest tt)
      all
    where
      guest : IsGuest c.guest
      guest = no-guest c _ alone refl

      at-row : (g : Generation) (row : Option ℕ) → with_region row (guest_in (s (Component component.Dir)).value st.name Made) ≡ Ok g
          → AllByRecursion (Agrees O s by (step.Devreset st) r c) (row_body g row) → IsGiven st.generation → IsReplied (step.Devreset st) r c
      at-row g None is later given = absurd (no-row (guest_in (s (Component component.Dir)).value st.name Made) g is)
      at-row g (Some row) is later given = said (step.Devreset st) r _ c later.0.0 tt tt given guest tt
  replied-of (step.Feed st) r c answered alone sampled all =
      on-guest (step.Feed st) r c (with_region c.row (guest_in (s (Component component.Dir)).value st.name Made)) st.generation (λ g. row_body g c.row) (λ why. reply.Feed (Err why)) (λ at. at)
      (λ g is shows later. at-row g c.row is later (shown-given st.generation g shows (given-below (s (Component component.Dir)).value st.name Made g are (region-given c.row _ g is))))
      (λ why none is. said (step.Feed st) r _ c is tt tt (none-given st.generation none) guest tt)
      all
    where
      guest : IsGuest c.guest
      guest = no-guest c _ alone refl

      at-row : (g : Generation) (row : Option ℕ) → with_region row (guest_in (s (Component component.Dir)).value st.name Made) ≡ Ok g
          → AllByRecursion (Agrees O s by (step.Feed st) r c) (row_body g row) → IsGiven st.generation → IsReplied (step.Feed st) r c
      at-row g None is later given = absurd (no-row (guest_in (s (Component component.Dir)).value st.name Made) g is)
      at-row g (Some row) is later given = said (step.Feed st) r _ c later.0.0 tt tt given guest tt
  replied-of (step.Output st) r c answered alone sampled all =
      on-guest (step.Output st) r c (with_region c.row (guest_in (s (Component component.Dir)).value st.name Made)) st.generation (λ g. row_body g c.row) (λ why. reply.Output (Err why)) (λ at. at)
      (λ g is shows later. at-row g c.row is later)
      (λ why none is. said (step.Output st) r _ c is tt tt tt guest tt)
      all
    where
      guest : IsGuest c.guest
      guest = no-guest c _ alone refl

      at-row : (g : Generation) (row : Option ℕ) → with_region row (guest_in (s (Component component.Dir)).value st.name Made) ≡ Ok g
          → AllByRecursion (Agrees O s by (step.Output st) r c) (row_body g row) → IsReplied (step.Output st) r c
      at-row g None is later = absurd (no-row (guest_in (s (Component component.Dir)).value st.name Made) g is)
      at-row g (Some row) is later = said (step.Output st) r _ c later.0 tt tt tt guest tt
  replied-of (step.Vadd st) r c answered alone sampled all =
      added-replied (s (Component (component.Vcpu st.vcpu))).value st.vcpu st.birth c.vcpu r c all.0 (no-guest c _ alone refl)
  replied-of (step.Vdrop st) r c answered alone sampled all =
      said (step.Vdrop st) r _ c (last-agrees (Agrees O s by (step.Vdrop st) r c) (all_queues O.opening.harts) (component.Vcpu st.vcpu) all) tt tt tt (no-guest c _ alone refl) tt
  replied-of (step.Kick st) r c answered alone sampled all =
      by-guest (step.Kick st) r c st.guest (home_queue O.opening.harts st.vcpu ∷ component.Vcpu st.vcpu ∷ []) (λ why. reply.Kick (Err why)) (λ at. at)
      (λ later. said (step.Kick st) r _ c later.1.0.0 tt tt tt guest tt) (λ why is. said (step.Kick st) r _ c is tt tt tt guest tt) all
    where
      guest : IsGuest c.guest
      guest = no-guest c _ alone refl
  replied-of (step.Resume st) r c answered alone sampled all =
      by-guest (step.Resume st) r c st.guest (home_queue O.opening.harts st.vcpu ∷ component.Vcpu st.vcpu ∷ []) (λ why. reply.Resume (Err why)) (λ at. at)
      (λ later. said (step.Resume st) r _ c later.1.0.0 tt tt tt guest tt) (λ why is. said (step.Resume st) r _ c is tt tt tt guest tt) all
    where
      guest : IsGuest c.guest
      guest = no-guest c _ alone refl
  replied-of (step.Pause st) r c answered alone sampled all =
      by-guest (step.Pause st) r c st.guest (all_queues O.opening.harts ++ component.Vcpu st.vcpu ∷ []) (λ why. reply.Pause (Err why)) (λ at. at)
      (λ later. said (step.Pause st) r _ c (last-agrees (Agrees O s by (step.Pause st) r c) (all_queues O.opening.harts) (component.Vcpu st.vcpu) later) tt tt tt guest tt)
      (λ why is. said (step.Pause st) r _ c is tt tt tt guest tt) all
    where
      guest : IsGuest c.guest
      guest = no-guest c _ alone refl
  replied-of (step.Halt st) r c answered alone sampled all =
      by-guest (step.Halt st) r c st.guest (all_queues O.opening.harts ++ component.Vcpu st.vcpu ∷ []) (λ why. reply.Halt (Err why)) (λ at. at)
      (λ later. said (step.Halt st) r _ c (last-agrees (Agrees O s by (step.Halt st) r c) (all_queues O.opening.harts) (component.Vcpu st.vcpu) later) tt tt tt guest tt)
      (λ why is. said (step.Halt st) r _ c is tt tt tt guest tt) all
    where
      guest : IsGuest c.guest
      guest = no-guest c _ alone refl
  replied-of (step.Reset st) r c answered alone sampled all =
      by-guest (step.Reset st) r c st.guest (all_queues O.opening.harts ++ component.Vcpu st.vcpu ∷ []) (λ why. reply.Reset (Err why)) (λ at. at)
      (λ later. said (step.Reset st) r _ c (last-agrees (Agrees O s by (step.Reset st) r c) (all_queues O.opening.harts) (component.Vcpu st.vcpu) later) tt tt tt guest tt)
      (λ why is. said (step.Reset st) r _ c is tt tt tt guest tt) all
    where
      guest : IsGuest c.guest
      guest = no-guest c _ alone refl
  replied-of (step.Look st) r c answered alone sampled all = said (step.Look st) r _ c all.0 tt tt tt (no-guest c _ alone refl) tt
  replied-of (step.Sample st) r c answered alone sampled all = sample-replied st r c (sampled st refl) (no-guest c _ alone refl) all
  replied-of (step.Pin st) r c answered alone sampled all =
      pin-kind st (s (Component (component.Vcpu st.vcpu))).value r c all.1.0 (no-guest c _ alone refl)
  replied-of _ r c answered alone sampled all = absurd answered
