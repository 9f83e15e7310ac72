-- What is due of a terminal is ready for a board.
use Rattle.std.proofs.Common.{◌≡◌, ℕ, zero, suc, ◌+◌, ◌-◌, ◌*◌, ◌%◌, ◌<◌, ◌≤◌, Bool, List, [], ◌∷◌, Some, None, Ok, Err, length, refl, ap, ◌∙◌, sym, subst, arith}
use Rattle.std.specs.Prelude.{Option, Result, position, slice_get}
use Rattle.std.specs.List.{All}
use Rattle.std.specs.Option.{IfSome, IsSome, is_some, option_and_then, option_map}
use Rattle.std.specs.Str.{bytes_eq}
use Rattle.std.proofs.lemmas.List.Elements.{All-head, All-tail}
use Rattle.std.proofs.lemmas.List.Quantifiers.{position-Some}
use Rattle.std.proofs.lemmas.Nat.{mod-mul-add, mod_below}
use Rattle.hv_answer.specs.declared.reply.Reply.{Reply}
use Rattle.hv_kinds.specs.declared.generation.Generation.{Generation}
use Rattle.hv_region.specs.Plans.{IsVcpuPlan}
use Rattle.hv_region.specs.declared.plan.GuestPlan.{GuestPlan}
use Rattle.hv_region.specs.declared.plan.RegionPlan.{RegionPlan}
use Rattle.hv_region.specs.declared.plan.VcpuPlan.{VcpuPlan}
use Rattle.hv_step.specs.declared.step.Step.{Step}
use Rattle.hv_step.specs.declared.step.Step.TheVariants as step
use Rattle.hv_text.specs.declared.limits.TheConstants.{GUEST_REGIONS, GUEST_VCPUS, SLOTS, VCPUS}
use Rattle.hv_words.specs.Commands.{AnyPath, Argument, FitAll, Gives, Kind, NamedPath, PathGiven, SomeText, TextGiven}
use Rattle.hv_words.specs.Said.{said}
use Rattle.hv_words.specs.declared.command.Command.{Command}
use Rattle.hv_words.specs.declared.command.Command.TheVariants as command
use Rattle.hv_words.specs.declared.refusal.WordsRefusal.{WordsRefusal}
use Rattle.hv_rules.specs.Body.{index_of}
use Rattle.hv_rules.specs.Line as line
use Rattle.hv_rules.specs.Line.{Ask, Asked, Change, LineState, begun_for, given_vcpu, guest_name, left, own_vcpu, step_for}
use Rattle.hv_model.specs.Plans.{Planned, plan_of, region_at, region_of, regions_in, regions_of, row_of, vcpus_of}
use Rattle.hv_model.specs.Session.{Begun, Session, begun, first_of, makes, present_with, task_for, task_of, tells}
use Rattle.hv_model.specs.Shown.{showing}
use Rattle.hv_model.specs.Terminal.{TerminalState, vcpu_given}
use Rattle.hv_model.specs.Work.{Work, line_of, once, plan_for, several, work_of}
use Rattle.hv_programs.specs.Line.{IsAsk, IsGiven, IsGuest}
use Rattle.hv_programs.specs.Owed.{IsOwed}
use Rattle.hv_terminals.specs.Adding.{AddsItsVcpusIf, GivesItsVcpu, IsAskWithin, IsVcpuGiven, LineAddsItsVcpus}
use Rattle.hv_terminals.specs.Due.{Handing, handing, handing_for, own_reply, shown_at}
use Rattle.hv_terminals.specs.Plans.{AreSized, IsSizedPlan, KeepRules}
use Rattle.hv_terminals.specs.Ready.{CanBeMade, GivesItsPlan, IsPlanGiven, IsReady, RepliesItself}
use Rattle.hv_terminals.specs.Session.{IsDuePresent, room_at}
use Rattle.hv_terminals.specs.Task.{IsDueOf, handing_in}
use Rattle.hv_terminals.specs.Terminal.{IsDue, IsDueFrom, IsDueOwed}
use Rattle.hv_terminals.specs.declared.due.Due.{Due}
use Rattle.hv_terminals.proofs.Adding.{next_of_line, next_within, sized_plan}

-- the numbers of guests' VCPUs are of the board
given-within : (given : Option Generation) (index : ℕ) → IsGiven given → index < GUEST_VCPUS → given_vcpu given index < VCPUS
given-within None index is below = omega arith
given-within (Some generation) index is below = omega arith

own-within : (guest : Option (ℕ × ℕ)) (index : ℕ) → IsGuest guest → index < GUEST_VCPUS → own_vcpu guest index < VCPUS
own-within None index is below = omega arith
own-within (Some guest) index is below = omega arith

-- each step that a line asks for can be made
change-can : (l : LineState) (given : Option Generation) (what : Change) (index : ℕ) → IsGiven given → index < GUEST_VCPUS → CanBeMade (line.step_of l given (line.change what index))
change-can l given line.kick index is below = given-within given index is below
change-can l given line.resume index is below = given-within given index is below
change-can l given line.pause index is below = given-within given index is below
change-can l given line.halt index is below = given-within given index is below
change-can l given line.reset index is below = given-within given index is below

pub ask_can : (l : LineState) (given : Option Generation) (a : Ask) → IsGiven given → IsGuest l.guest → IsAsk a → CanBeMade (line.step_of l given a)
ask_can l given line.rest is guest asks = tt
ask_can l given (line.look vcpu) is guest asks = asks
ask_can l given line.claim is guest asks = tt
ask_can l given (line.turn from to) is guest asks = tt
ask_can l given (line.add row) is guest asks = is
ask_can l given (line.drop stage row) is guest asks = is
ask_can l given (line.add_vcpu index) is guest asks = own-within l.guest index guest asks
ask_can l given (line.drop_vcpu index) is guest asks = own-within l.guest index guest asks
ask_can l given (line.change what index) is guest asks = change-can l given what index is asks
ask_can l given (line.reset_device row) is guest asks = is

-- the terminal replies itself to a rest of a line alone
pub ask_own : (l : LineState) (given : Option Generation) (a : Ask) → RepliesItself (line.step_of l given a) (own_reply (line.step_of l None a))
ask_own l given line.rest = refl
ask_own l given (line.change line.kick index) = refl
ask_own l given (line.change line.resume index) = refl
ask_own l given (line.change line.pause index) = refl
ask_own l given (line.change line.halt index) = refl
ask_own l given (line.change line.reset index) = refl
ask_own l given _ = refl

-- the index in its guest of a VCPU that a line adds
index-own : (guest : Option (ℕ × ℕ)) (index vcpus : ℕ) → index < GUEST_VCPUS → index < vcpus → index_of (own_vcpu guest index) < vcpus
index-own None index vcpus below within = omega (arith, within)
index-own (Some guest) index vcpus below within =
    let plain : own_vcpu (Some guest) index - 1 ≡ guest.0 * GUEST_VCPUS + index = omega arith in
    let same : index_of (own_vcpu (Some guest) index) ≡ index =
    ap (λ (n : ℕ). n % GUEST_VCPUS) plain ∙ mod-mul-add guest.0 GUEST_VCPUS index below
    in
    omega (arith, same, within)

-- the VCPU of a plan that keeps the rules is given
vcpu-given : (vcpus : List VcpuPlan) (number : ℕ) → All IsVcpuPlan vcpus → index_of number < length vcpus → IsVcpuGiven (vcpu_given vcpus number)
vcpu-given vcpus number all within =
    vcpu-in (slice_get vcpus (index_of number)) (λ plan is. All-at IsVcpuPlan vcpus (index_of number) plan all is)
    (λ none. past vcpus (index_of number) within none)
  where
    past : (xs : List VcpuPlan) (i : ℕ) → i < length xs → slice_get xs i ≡ None → ⊥
    past [] i within none = absurd (omega (arith, within))
    past (x ∷ xs) zero within none = cc none
    past (x ∷ xs) (suc i) within none = past xs i (omega (arith, within)) none

    All-at : (P : VcpuPlan → Type 0) (xs : List VcpuPlan) (i : ℕ) (x : VcpuPlan) → All P xs → slice_get xs i ≡ Some x → P x
    All-at P [] i x all is = absurd (cc is)
    All-at P (y ∷ xs) zero x all is = subst P (cc is) (All-head P y xs all)
    All-at P (y ∷ xs) (suc i) x all is = All-at P xs i x (All-tail P y xs all) is

    vcpu-in : (plan : Option VcpuPlan) → ((p : VcpuPlan) → plan ≡ Some p → IsVcpuPlan p) → (plan ≡ None → ⊥) → IsVcpuGiven (option_map (λ p. (index_of number, p)) plan)
    vcpu-in None good some = some refl
    vcpu-in (Some p) good some = (mod_below (number - 1) GUEST_VCPUS (omega arith), good p refl)

pub ask_adds :
    (plans : List Planned) (l : LineState) (a : Ask)
    → KeepRules plans → IsGuest l.guest → IsAskWithin (length (vcpus_of plans (guest_name l.asked))) a
    → GivesItsVcpu (line.step_of l None a) (handing_for plans (guest_name l.asked) None (line.step_of l None a))
ask_adds plans l (line.add_vcpu index) rules guest within =
    vcpu-given (vcpus_of plans (guest_name l.asked)) (own_vcpu l.guest index) (rules.vcpus (guest_name l.asked))
    (index-own l.guest index (length (vcpus_of plans (guest_name l.asked))) within.0 within.1)
ask_adds plans l (line.change line.kick index) rules guest within = tt
ask_adds plans l (line.change line.resume index) rules guest within = tt
ask_adds plans l (line.change line.pause index) rules guest within = tt
ask_adds plans l (line.change line.halt index) rules guest within = tt
ask_adds plans l (line.change line.reset index) rules guest within = tt
ask_adds plans l _ rules guest within = tt

-- a step by guest is of the same kind, names the same and hands over the same, whatever generation it shows
pub own_back : (index : ℕ) (given : Option Generation) (s : Step) (own : Option Reply) → RepliesItself (shown_at index given s) own → RepliesItself s own
own_back index given (step.Bad s) own is = is
own_back index given _ own is = is

pub hands_back : (plans : List Planned) (guest : List ℕ) (room : Option ℕ) (index : ℕ) (given : Option Generation) (s : Step) → handing_for plans guest room (shown_at index given s) ≡ handing_for plans guest room s
hands_back plans guest room index given (step.Bad s) = refl
hands_back plans guest room index given _ = refl

pub vcpu_back : (h : Handing) (index : ℕ) (given : Option Generation) (s : Step) → GivesItsVcpu (shown_at index given s) h → GivesItsVcpu s h
vcpu_back h index given (step.Bad s) is = is
vcpu_back h index given _ is = is

-- the row of a region is one of a guest, and the plan is given with it
row-below : (named : RegionPlan → Bool) (regions : List RegionPlan) (row : ℕ) → position named regions ≡ Some row → row < length regions
row-below named [] row is = absurd (cc is)
row-below named (region ∷ regions) row is = (position-Some named (region ∷ regions) row region is).0

few-in : (plan : Option GuestPlan) → IfSome plan IsSizedPlan → length (regions_in plan) ≤ GUEST_REGIONS
few-in None sized = omega arith
few-in (Some plan) sized = sized.few_regions

some-in : {B : Type 0} (f : RegionPlan → B) (regions : List RegionPlan) (row : ℕ) → row < length regions → IsSome (option_map f (slice_get regions row))
some-in f [] row below = absurd (omega (arith, below))
some-in f (region ∷ regions) zero below = refl
some-in f (region ∷ regions) (suc row) below = some-in f regions row (omega (arith, below))

module _ (plans : List Planned) (sized : AreSized plans) (guest region : List ℕ) where
  abbrev named : RegionPlan → Bool
  named plan = bytes_eq plan.name region

  row-in : (row : Option ℕ) → position named (regions_of plans guest) ≡ row → IfSome row (λ r. r < GUEST_REGIONS)
  row-in None is = tt
  row-in (Some r) is =
      let below : r < length (regions_of plans guest) = row-below named (regions_of plans guest) r is in
      let few : length (regions_of plans guest) ≤ GUEST_REGIONS = few-in (plan_of plans guest) (sized_plan plans guest sized) in
      omega (arith, below, few)

  row-of-guest : IfSome (row_of plans guest region) (λ r. r < GUEST_REGIONS)
  row-of-guest = row-in (row_of plans guest region) refl

  plan-in : {B : Type 0} (f : RegionPlan → B) (row : Option ℕ) → position named (regions_of plans guest) ≡ row → IsPlanGiven row (option_map f (region_at plans guest row))
  plan-in f None is = tt
  plan-in f (Some r) is = some-in f (regions_of plans guest) r (row-below named (regions_of plans guest) r is)

  plan-of-row : IsPlanGiven (row_of plans guest region) (region_of plans guest region)
  plan-of-row = plan-in (λ plan. (plan, length (vcpus_of plans guest))) (row_of plans guest region) refl

row-within : (plans : List Planned) (guest : List ℕ) (room : Option ℕ) (s : Step) → AreSized plans → IfSome (handing_for plans guest room s).row (λ r. r < GUEST_REGIONS)
row-within plans guest room (step.Add s) sized = row-of-guest plans sized s.name s.region
row-within plans guest room (step.Drop s) sized = row-of-guest plans sized s.name s.region
row-within plans guest room (step.Devreset s) sized = row-of-guest plans sized s.name s.region
row-within plans guest room (step.Feed s) sized = row-of-guest plans sized s.name s.region
row-within plans guest room (step.Output s) sized = row-of-guest plans sized s.name s.region
row-within plans guest room _ sized = tt

plan-within : (plans : List Planned) (guest : List ℕ) (room : Option ℕ) (s : Step) → AreSized plans → GivesItsPlan s (handing_for plans guest room s)
plan-within plans guest room (step.Add s) sized = plan-of-row plans sized s.name s.region
plan-within plans guest room _ sized = tt

module _ (plans : List Planned) (rules : KeepRules plans) (due : Due) (below : due.index < GUEST_VCPUS) where
  -- what is due is ready, by the step that it is where the directory gives no guest
  ready-for :
      (asked : Step) (guest : List ℕ) (room : Option ℕ)
      → ((given : Option Generation) → IsGiven given → CanBeMade (shown_at due.index given due.step))
      → asked ≡ shown_at due.index None due.step → RepliesItself asked due.reply
      → handing due.hands ≡ handing_for plans guest room asked → GivesItsVcpu asked (handing_for plans guest room asked)
      → IsReady plans due
  ready-for asked guest room can is own hands adds =
      let same : handing due.hands ≡ handing_for plans guest room due.step =
      hands ∙ ap (handing_for plans guest room) is ∙ hands_back plans guest room due.index None due.step
      in
      record {
        made = can;
        index = below;
        own = own_back due.index None due.step due.reply (subst (λ (s : Step). RepliesItself s due.reply) is own);
        guest = guest;
        room = room;
        hands = same;
        row = subst (λ (h : Handing). IfSome h.row (λ r. r < GUEST_REGIONS)) (sym same) (row-within plans guest room due.step rules.sized);
        plan = subst (GivesItsPlan due.step) (sym same) (plan-within plans guest room due.step rules.sized);
        vcpu =
            vcpu_back (handing due.hands) due.index None due.step
            (subst (λ (s : Step). GivesItsVcpu s (handing due.hands)) is (subst (GivesItsVcpu asked) (sym hands) adds));
      }

  -- the step of a line
  goes-ready :
      (l : LineState) (next : Option Ask)
      → IsGuest l.guest → IfSome next (IsAskWithin (length (vcpus_of plans (guest_name l.asked))))
      → ((given : Option Generation) → step_for l given next ≡ Some (shown_at due.index given due.step))
      → due.reply ≡ option_and_then own_reply (step_for l None next) → handing due.hands ≡ handing_in plans l (step_for l None next)
      → IsReady plans due
  goes-ready l None guest within shown own hands = absurd (cc (shown None))
  goes-ready l (Some a) guest within shown own hands =
      let same : (given : Option Generation) → line.step_of l given a ≡ shown_at due.index given due.step = λ given. cc (shown given) in
      ready-for (line.step_of l None a) (guest_name l.asked) None
      (λ given is. subst CanBeMade (same given) (ask_can l given a is guest within.0))
      (same None)
      (subst (RepliesItself (line.step_of l None a)) (sym own) (ask_own l None a))
      hands (ask_adds plans l a rules guest within)

  -- a line of a script that is no command
  tells-ready : (text : List ℕ) (why : WordsRefusal) (room : Option ℕ) → IsDueOf plans room (tells text why) due → IsReady plans due
  tells-ready text why room is =
      let same : (given : Option Generation) → step.Bad (record { line = text }) ≡ shown_at due.index given due.step = λ given. cc (is.shown given) in
      ready-for (step.Bad (record { line = text })) [] None
      (λ given gives. subst CanBeMade (same given) tt)
      (same None)
      (ap is_some is.own)
      is.hands tt

  -- a step that is owed
  owed-ready : (next : Step) → IsOwed next → IsDueOwed next due → IsReady plans due
  owed-ready (step.Sample s) owed is =
      ready-for (step.Sample s) [] None
      (λ given gives. subst (λ (k : Step). CanBeMade (shown_at due.index given k)) (sym is.step) owed)
      (ap (shown_at due.index None) (sym is.step)) is.own is.hands tt
  owed-ready (step.Pin s) owed is =
      ready-for (step.Pin s) [] None
      (λ given gives. subst (λ (k : Step). CanBeMade (shown_at due.index given k)) (sym is.step) owed)
      (ap (shown_at due.index None) (sym is.step)) is.own is.hands tt
  owed-ready _ owed is = absurd owed

-- the one step of a command that is read can be made, and adds no VCPU
record IsReadyOnce (s : Step) : Type 0 where
  made : (given : Option Generation) → IsGiven given → CanBeMade (showing given s)
  own : RepliesItself (showing None s) (own_reply s)
  adds : (h : Handing) → GivesItsVcpu (showing None s) h

abbrev IsReadyWork : Work → Type 0
IsReadyWork (once s) = IsReadyOnce s
IsReadyWork (several asked) = Unit {0}

named-path : (kinds : List Kind) (words : List (List ℕ)) (path : List (List ℕ)) (others : List Argument) → FitAll (NamedPath ∷ kinds) words (PathGiven path ∷ others) → 0 < length path
named-path kinds [] path others fit = absurd fit
named-path kinds (word ∷ words) path others fit = fit.0.1

second-path : (words : List (List ℕ)) (first path : List (List ℕ)) → FitAll (AnyPath ∷ NamedPath ∷ []) words (PathGiven first ∷ PathGiven path ∷ []) → 0 < length path
second-path [] first path fit = absurd fit
second-path (word ∷ words) first path fit = named-path [] words path [] fit.1

read-ready : (text : List ℕ) (c : Command) → Gives text c → IsReadyWork (work_of c)
read-ready text (command.VfsMkdir path) gives =
    let some : 0 < length path = named-path [] gives.arguments path [] gives.fit in record { made = λ given is. some; own = refl; adds = λ h. tt }
read-ready text (command.VfsRm path) gives =
    let some : 0 < length path = named-path [] gives.arguments path [] gives.fit in record { made = λ given is. some; own = refl; adds = λ h. tt }
read-ready text (command.VfsWrite path bytes) gives =
    let some : 0 < length path = named-path (SomeText ∷ []) gives.arguments path (TextGiven bytes ∷ []) gives.fit in
    record { made = λ given is. some; own = refl; adds = λ h. tt }
read-ready text (command.VfsAsm source target) gives =
    let some : 0 < length target = second-path gives.arguments source target gives.fit in record { made = λ given is. some; own = refl; adds = λ h. tt }
read-ready text (command.TermRest count) gives = tt
read-ready text (command.VfsLs path) gives = record { made = λ given is. tt; own = refl; adds = λ h. tt }
read-ready text (command.VfsCat path) gives = record { made = λ given is. tt; own = refl; adds = λ h. tt }
read-ready text (command.VfsDts path) gives = record { made = λ given is. tt; own = refl; adds = λ h. tt }
read-ready text (command.VfsRun path) gives = record { made = λ given is. tt; own = refl; adds = λ h. tt }

hands-shown : (plans : List Planned) (guest : List ℕ) (room : Option ℕ) (s : Step) → handing_for plans guest room s ≡ handing_for plans guest room (showing None s)
hands-shown plans guest room (step.Bad s) = refl
hands-shown plans guest room _ = refl

module _ (plans : List Planned) (rules : KeepRules plans) (due : Due) (room : Option ℕ) where
  once-ready : (s : Step) → IsReadyOnce s → IsDueOf plans room (makes s) due → IsReady plans due
  once-ready s ready is =
      let same : (given : Option Generation) → showing given s ≡ shown_at due.index given due.step = λ given. cc (is.shown given) in
      ready-for plans rules due is.index (showing None s) [] room
      (λ given gives. subst CanBeMade (same given) (ready.made given gives))
      (same None)
      (subst (RepliesItself (showing None s)) (sym is.own) ready.own)
      (is.hands ∙ hands-shown plans [] room s)
      (ready.adds (handing_for plans [] room (showing None s)))

  work-ready : (w : Work) → IsReadyWork w → IsDueOf plans room (task_for plans w) due → IsReady plans due
  work-ready (once s) ready is = once-ready s ready is
  work-ready (several asked) ready is =
      goes-ready plans rules due is.index (line_of plans asked) (line.first (left (line_of plans asked).place)) (new-line asked (plan_for plans asked))
      (line-next asked (plan_for plans asked) (next_of_line plans asked rules.sized)) is.shown is.own is.hands
    where
      new-line : (asked : Asked) (plan : Option GuestPlan) → IsGuest (begun_for asked plan).guest
      new-line asked None = tt
      new-line asked (Some plan) = tt

      line-next :
          (asked : Asked) (plan : Option GuestPlan)
          → IfSome (line.first (left (begun_for asked plan).place)) (IsAskWithin (length (vcpus_of plans (guest_name asked))))
          → IfSome (line.first (left (begun_for asked plan).place)) (IsAskWithin (length (vcpus_of plans (guest_name (begun_for asked plan).asked))))
      line-next asked None within = within
      line-next asked (Some plan) within = within

  text-ready :
      (text : List ℕ) (read : Result Command WordsRefusal) → ((c : Command) → read ≡ Ok c → Gives text c)
      → IsDueOf plans room (task_of plans text read) due → IsReady plans due
  text-ready text (Ok c) gives is = work-ready (work_of c) (read-ready text c (gives c refl)) is
  text-ready text (Err why) gives is = tells-ready plans rules due is.index text why room is

module _ (told : (text : List ℕ) (c : Command) → said text ≡ Ok c → Gives text c) (plans : List Planned) (rules : KeepRules plans) (due : Due) where
  first-ready : (lines : ℕ) (next : Option Begun) → IsDuePresent plans lines (first_of plans next) (Some due) → IsReady plans due
  first-ready lines None is = absurd is
  first-ready lines (Some b) is =
      text-ready plans rules due (room_at (record { task = task_of plans b.line (said b.line); boot = b.boot; own = b.own }) lines) b.line (said b.line) (told b.line) is

  session-ready : (lines : ℕ) (s : Session) (l : Option LineState) → AddsItsVcpusIf plans l → IsDuePresent plans lines (present_with plans l s) (Some due) → IsReady plans due
  session-ready lines s None adds is = first-ready lines (begun s) is
  session-ready lines s (Some l) adds is =
      goes-ready plans rules due is.index l (line.first (left l.place)) adds.guest
      (next_within (length (vcpus_of plans (guest_name l.asked))) (left l.place) adds.asks) is.shown is.own is.hands

  from-ready : (owed : List Step) (s : Session) → All IsOwed owed → AddsItsVcpusIf plans s.line → IsDueFrom owed plans s (Some due) → IsReady plans due
  from-ready [] s all adds is = session-ready s.lines s s.line adds is
  from-ready (next ∷ owed) s all adds is = owed-ready plans rules due is.index next (All-head IsOwed next owed all) is

-- what is due of a terminal is ready for a board
pub terminal-ready :
    ((text : List ℕ) (c : Command) → said text ≡ Ok c → Gives text c) → (t : TerminalState) (due : Due)
    → IsDue t (Some due) → KeepRules t.plans → All IsOwed t.owed → LineAddsItsVcpus t → IsReady t.plans due
terminal-ready told t due is rules all adds = from-ready told t.plans rules due t.owed t.session all adds is
